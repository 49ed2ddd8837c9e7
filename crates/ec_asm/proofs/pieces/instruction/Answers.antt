use Rattle.std.proofs.Common.{◌≡◌, ◌∙◌, ℕ, zero, suc, refl}
use Rattle.ec_asm.specs.Bytes.{sums}
use Rattle.ec_asm.specs.declared.pieces.Operator.TheVariants.{Sum}
use Rattle.ec_asm.specs.Pieces.{instruction}
use Rattle.ec_asm.proofs.pieces.instruction.Goals as goal

sum_is : (i d r : ℕ) → sums i d r ≡ instruction Sum i d r
sum_is zero d r = refl
sum_is (suc i) d r = refl

pub returns-in-Sum : goal.returns-in-Sum
returns-in-Sum c = rw c.in-Sum.is (c.sums.ensures ∙ sum_is c.args.i c.args.d c.args.r)
