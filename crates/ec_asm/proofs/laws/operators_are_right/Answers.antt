use Rattle.ec_asm.proofs.Operators.{bitwise_holds}
use Rattle.ec_asm.proofs.Results.{sums_are_right, differences_are_right}
use Rattle.ec_asm.proofs.laws.operators_are_right.Goals as goal

pub returns : goal.returns
returns c = record {
  sum = sums_are_right;
  difference = differences_are_right;
  bitwise = λ op e p q n a b v is sa sb far. bitwise_holds op is e p q n a b v sa sb far;
}
