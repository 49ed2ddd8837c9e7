use Rattle.ec_select_numbers.proofs.Added.{numbers_are_added}
use Rattle.ec_select_numbers.proofs.Compared.{numbers_are_compared}
use Rattle.ec_select_numbers.proofs.Form.{numbers_are_straight, puts_are_straight}
use Rattle.ec_select_numbers.proofs.Paired.{numbers_are_subtracted, numbers_change_bits}
use Rattle.ec_select_numbers.proofs.Put.{numbers_are_put}
use Rattle.ec_select_numbers.proofs.laws.numbers_are_operands.Goals as goal

pub returns : goal.returns
returns c = record {
  subtracted = numbers_are_subtracted;
  added = numbers_are_added;
  bits = numbers_change_bits;
  compared = numbers_are_compared;
  straight = numbers_are_straight;
  put = numbers_are_put;
  put_straight = puts_are_straight;
}
