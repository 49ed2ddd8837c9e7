-- Sums and differences that are in the one fixed-point format of their operands, and saturate.
use Rattle.std.proofs.Common.{◌≡◌, ◌⊎◌, Bool, true, ◌&&◌, ap, ◌∙◌, subst}
use Rattle.std.proofs.lemmas.Bool.{and_parts}
use Rattle.ec_fx.specs.declared.formats.FxKind.{FxKind}
use Rattle.ec_fx.specs.declared.numbers.Mode.{Mode}
use Rattle.ec_core.specs.declared.expressions.BinOp.{BinOp}
use Rattle.ec_core.specs.declared.expressions.BinOp.TheVariants.{Add, Sub}
use Rattle.ec_core.specs.Plain.{PlainType, fixed}
use Rattle.ec_select_operations.specs.Code.{has_one_format}
use Rattle.ec_select_operations.proofs.OneFormat.{one_format}

-- what is known where such a sum or difference is meant
pub record IsLimited (op : BinOp) (mode : Mode) (ty aty bty : PlainType) : Type 0 where
  pub kind : FxKind
  pub result_saturates : Bool
  pub left_saturates : Bool
  pub right_saturates : Bool
  pub result_is : ty ≡ fixed kind result_saturates
  pub left_is : aty ≡ fixed kind left_saturates
  pub right_is : bty ≡ fixed kind right_saturates
  pub adds : (op ≡ Add) ⊎ (op ≡ Sub)
  pub saturates : mode.saturate ≡ true

pub limited : (op : BinOp) (mode : Mode) (ty aty bty : PlainType) → (op ≡ Add) ⊎ (op ≡ Sub) → has_one_format ty aty ≡ true
    → (has_one_format aty bty && mode.saturate) ≡ true → IsLimited op mode ty aty bty
limited op mode ty aty bty adds first both =
    let p = and_parts (has_one_format aty bty) mode.saturate both in
    let one = one_format aty bty p.0 in
    let known : has_one_format ty (fixed one.kind one.first_saturates) ≡ true =
    subst (λ (x : PlainType). has_one_format ty x ≡ true) one.first first in
    let two = one_format ty (fixed one.kind one.first_saturates) known in
    let second : fixed one.kind one.first_saturates ≡ fixed two.kind two.second_saturates = two.second in
    let same : two.kind ≡ one.kind = cc in
    record {
      kind = one.kind;
      result_saturates = two.first_saturates;
      left_saturates = one.first_saturates;
      right_saturates = one.second_saturates;
      result_is = two.first ∙ ap (λ (k : FxKind). fixed k two.first_saturates) same;
      left_is = one.first;
      right_is = one.second;
      adds = adds;
      saturates = p.1;
    }
