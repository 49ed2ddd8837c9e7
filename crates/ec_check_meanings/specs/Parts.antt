-- The parts of an expression whose meanings it asks for: all that stand directly in it, but for names, as of what is
-- called or of what `iogroup_map` binds (ISO/IEC 9899:1999, 6.5).
use Rattle.std.specs.Prelude.{ℕ, Bool, List}
use Rattle.ec_grammar.specs.declared.Operation.{Operation}
use Rattle.ec_grammar.specs.Trees.{TypeName}
use Rattle.ec_core.specs.declared.expressions.BinOp.{BinOp}
use Rattle.ec_check_forms.specs.declared.prefixes.PrefixOp.{PrefixOp}
use Rattle.ec_check_meanings.specs.Terms as term
use Rattle.ec_check_meanings.specs.Terms.{Term, Terms, TakesValues}

pub data IsAmong (x : Term) : Terms → Type 0 where
  here : {ys : Terms} → IsAmong x (term.terms x ys)
  later : {y : Term} {ys : Terms} → IsAmong x ys → IsAmong x (term.terms y ys)

pub data IsPart (x : Term) : Term → Type 0 where
  in_parentheses : {at : ℕ} → IsPart x (term.parenthesised at x)
  operand : {at : ℕ} {op : Operation} {n : List ℕ} {ys : Terms} → TakesValues op → IsAmong x ys
      → IsPart x (term.operation at op n ys)
  before_index : {at : ℕ} {y : Term} → IsPart x (term.index x at y)
  in_index : {at : ℕ} {y : Term} → IsPart x (term.index y at x)
  argument : {at : ℕ} {y : Term} {ys : Terms} → IsAmong x ys → IsPart x (term.call y at ys)
  before_member : {at name_at : ℕ} {arrow : Bool} {n : List ℕ} → IsPart x (term.member x at arrow name_at n)
  before_step : {at : ℕ} {up : Bool} → IsPart x (term.stepped x at up)
  behind_step : {at : ℕ} {up : Bool} → IsPart x (term.step at up x)
  behind_prefix : {at : ℕ} {op : PrefixOp} → IsPart x (term.prefixed at op x)
  behind_cast : {at : ℕ} {n : TypeName} → IsPart x (term.cast at n x)
  left_operand : {at : ℕ} {op : BinOp} {y : Term} → IsPart x (term.binary x at op y)
  right_operand : {at : ℕ} {op : BinOp} {y : Term} → IsPart x (term.binary y at op x)
  left_condition : {at : ℕ} {both : Bool} {y : Term} → IsPart x (term.logical x at both y)
  right_condition : {at : ℕ} {both : Bool} {y : Term} → IsPart x (term.logical y at both x)
  condition : {at : ℕ} {y z : Term} → IsPart x (term.choice x at y z)
  first_branch : {at : ℕ} {y z : Term} → IsPart x (term.choice y at x z)
  second_branch : {at : ℕ} {y z : Term} → IsPart x (term.choice y at z x)
  assigned_place : {at : ℕ} {y : Term} → IsPart x (term.assign x at y)
  assigned_value : {at : ℕ} {y : Term} → IsPart x (term.assign y at x)
  changed_place : {at : ℕ} {op : BinOp} {y : Term} → IsPart x (term.compound x at op y)
  changing_value : {at : ℕ} {op : BinOp} {y : Term} → IsPart x (term.compound y at op x)
  before_comma : {at : ℕ} {y : Term} → IsPart x (term.comma x at y)
  behind_comma : {at : ℕ} {y : Term} → IsPart x (term.comma y at x)
