use Rattle.ec_avr.proofs.Bits.{bit_at-with_bit}
use Rattle.ec_avr.proofs.laws.one_bit_is_set.Goals as goal

pub returns : goal.returns
returns c = bit_at-with_bit
