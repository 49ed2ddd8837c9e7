-- What expressions break (ISO/IEC 9899:1999, 6.5), and what their values break where they are used outside expressions (6.3,
-- 6.7.8 and 6.8).
use Rattle.std.specs.Prelude.{ℕ, ◌≡◌, ◌⊎◌, false}
use Rattle.ec_grammar.specs.Trees as t
use Rattle.ec_core.specs.Plain.{PlainType, void}
use Rattle.ec_check_operands.specs.declared.faults.Fault.{Fault}
use Rattle.ec_check_operands.specs.Operands.{Operand, value_type}
use Rattle.ec_check_forms.specs.Constraints.{Passes, PointToOneType, LeavesSpace, LosesConst}
use Rattle.ec_check_names.specs.Tags.{Tags}
use Rattle.ec_check_expressions.specs.Known.{Known}
use Rattle.ec_check_expressions.specs.Sites.{a_type_name}
use Rattle.ec_check_meanings.specs.Means.{Means}
use Rattle.ec_check_meanings.specs.Rules.{IsBroken}
use Rattle.ec_check_meanings.specs.Sites.{SiteIn}
use Rattle.ec_check_meanings.specs.Terms.{Term}
use Rattle.ec_check_parts.specs.Specifiers.{BreakSpecifiers}
use Rattle.ec_check_parts.specs.Heads.{type_name, BreakHead}

abbrev pub BreakTypeName : Tags → t.TypeName → Fault → Type 0
BreakTypeName tags (t.type_name ss stars) f = BreakSpecifiers tags false ss f ⊎ BreakHead tags type_name ss stars f

-- an expression breaks a constraint on its operators, names, calls and values, or one of its type names does
pub data BreakTerm (k : Known) (x : Term) (f : Fault) : Type 0 where
  constraint : IsBroken k x f.at f.rule → BreakTerm k x f
  in_type_name : (tags : Tags) (n : t.TypeName) → SiteIn k x (a_type_name tags n) → BreakTypeName tags n f → BreakTerm k x f

-- so where its value is used, whose first token is this: it is not void
pub data BreakUsed (k : Known) (x : Term) (at : ℕ) (f : Fault) : Type 0 where
  in_term : BreakTerm k x f → BreakUsed k x at f
  void_used : f.rule ≡ 40 → f.at ≡ at → (o : Operand) → Means k x o → value_type o ≡ void → BreakUsed k x at f

-- an operand is brought to a type implicitly, which is told at a token
pub data BreakPassing (o : Operand) (to : PlainType) (at : ℕ) (f : Fault) : Type 0 where
  between_kinds : f.rule ≡ 28 → f.at ≡ at → ¬ Passes o to → BreakPassing o to at f
  out_of_space : f.rule ≡ 29 → f.at ≡ at → PointToOneType (value_type o) to → LeavesSpace (value_type o) to
      → BreakPassing o to at f
  out_of_const : f.rule ≡ 30 → f.at ≡ at → PointToOneType (value_type o) to → LosesConst (value_type o) to
      → BreakPassing o to at f
