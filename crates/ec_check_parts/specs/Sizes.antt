-- Sizes of arrays, and the constraint on them, in words (ISO/IEC 9899:1999, 6.7.5.2; the greatest size is this project's
-- profile).
use Rattle.std.specs.Prelude.{ℕ, ◌+◌, ◌<◌, ◌≡◌, ⊤, Option, Some, None}
use Rattle.ec_grammar.specs.Trees as t
use Rattle.ec_check_operands.specs.declared.faults.Fault.{Fault}
use Rattle.ec_check_operands.specs.Operands.{Operand}
use Rattle.ec_check_names.specs.Firsts.{first_conditional}
use Rattle.ec_check_expressions.specs.Known.{Known}
use Rattle.ec_check_initialisers.specs.Locals.{items_count}
use Rattle.ec_check_meanings.specs.Means.{Uses}
use Rattle.ec_check_meanings.specs.Terms.{term_of_conditional}
use Rattle.ec_check_parts.specs.ConstantForms.{IsConstantTerm}
use Rattle.ec_check_parts.specs.Declared.{IsSize}
use Rattle.ec_check_parts.specs.Expressions.{BreakUsed}

-- a size, whose `[` is at a token; what is not built as a constant expression is not looked into further
pub data BreakSize (k : Known) (c : t.Conditional) (at : ℕ) (f : Fault) : Type 0 where
  no_form : f.rule ≡ 8 → f.at ≡ at → ¬ IsConstantTerm k (term_of_conditional c) → BreakSize k c at f
  -- it is built so, and what it means is no integer from 1 to 32,767
  no_size : f.rule ≡ 8 → f.at ≡ at → IsConstantTerm k (term_of_conditional c) → (x : Operand) → Uses k (term_of_conditional c) x
      → ((n : ℕ) → ¬ IsSize x n) → BreakSize k c at f
  in_size : IsConstantTerm k (term_of_conditional c) → BreakUsed k (term_of_conditional c) (first_conditional c) f → BreakSize k c at f

-- the initialiser does not give the size that is left out: it has no braces, or too many items in them
abbrev pub GivesNoSize : Option t.Start → Type 0
GivesNoSize None = ⊤
GivesNoSize (Some (t.start equals (t.initial_value a))) = ⊤
GivesNoSize (Some (t.start equals (t.braces l first more c r))) = 32_767 < items_count more + 1

-- what follows a name, where the initialiser is this or there is none
abbrev pub BreakShape : Known → t.Shape → Option t.Start → Fault → Type 0
BreakShape k t.object start f = ⊥
BreakShape k (t.array l None r) start f = (f.rule ≡ 8) × (f.at ≡ l.index) × GivesNoSize start
BreakShape k (t.array l (Some c) r) start f = BreakSize k c l.index f
BreakShape k (t.function_shape l ps r) start f = ⊥
