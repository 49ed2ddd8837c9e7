-- The constraints on statements, in words (ISO/IEC 9899:1999, 6.8).
use Rattle.std.specs.Prelude.{ℕ, ◌≡◌, ◌≢◌, Bool, false, Option, Some, None}
use Rattle.ec_grammar.specs.Trees as t
use Rattle.ec_core.specs.Plain.{PlainType, void}
use Rattle.ec_check_operands.specs.declared.faults.Fault.{Fault}
use Rattle.ec_check_operands.specs.Operands.{Operand, value_type}
use Rattle.ec_check_forms.specs.Constraints.{IsScalar, IsStruct}
use Rattle.ec_check_names.specs.Firsts.{first_expression}
use Rattle.ec_check_expressions.specs.Known.{Known}
use Rattle.ec_check_meanings.specs.Means.{Means, Uses}
use Rattle.ec_check_meanings.specs.Terms.{term_of_expression}
use Rattle.ec_check_parts.specs.Expressions.{BreakTerm, BreakUsed, BreakPassing}

-- the condition of `if`, `while`, `do` or `for`, a word that stands at a token
pub data BreakCondition (k : Known) (x : t.Expression) (word : ℕ) (f : Fault) : Type 0 where
  condition_used : BreakUsed k (term_of_expression x) (first_expression x) f → BreakCondition k x word f
  -- it is not scalar
  no_condition : f.rule ≡ 25 → f.at ≡ word → (o : Operand) → Uses k (term_of_expression x) o → ¬ IsScalar (value_type o)
      → BreakCondition k x word f

-- an expression whose value is not used: a statement, or the first or last part of a `for`
pub data BreakEvaluation (k : Known) (x : t.Expression) (f : Fault) : Type 0 where
  in_evaluation : BreakTerm k (term_of_expression x) f → BreakEvaluation k x f
  struct_evaluated : f.rule ≡ 40 → f.at ≡ first_expression x → (o : Operand) → Means k (term_of_expression x) o
      → IsStruct (value_type o) → BreakEvaluation k x f

-- a value that `return` gives in a function with this result, where its declaration breaks no constraint on it
pub data BreakReturned (k : Known) (result : Option PlainType) (x : t.Expression) (at : ℕ) (f : Fault) : Type 0 where
  in_returned : BreakTerm k (term_of_expression x) f → BreakReturned k result x at f
  -- the function is void
  value_of_void : f.rule ≡ 39 → f.at ≡ at → result ≡ Some void → BreakReturned k result x at f
  returned_passed : (o : Operand) → Means k (term_of_expression x) o → (ty : PlainType) → result ≡ Some ty → ty ≢ void
      → BreakPassing o ty at f → BreakReturned k result x at f

-- a `return` at a token; one without a value stands in a function that is not void
abbrev pub BreakReturn : Known → (result : Option PlainType) → Option t.Expression → (at : ℕ) → Fault → Type 0
BreakReturn k result None at f = (f.rule ≡ 39) × (f.at ≡ at) × ((ty : PlainType) × (result ≡ Some ty) × (ty ≢ void))
BreakReturn k result (Some x) at f = BreakReturned k result x at f

-- `break` or `continue` at a token stands in no loop
abbrev pub BreakLeaving : (in_loop : Bool) → (at : ℕ) → Fault → Type 0
BreakLeaving in_loop at f = (f.rule ≡ 38) × (f.at ≡ at) × (in_loop ≡ false)
