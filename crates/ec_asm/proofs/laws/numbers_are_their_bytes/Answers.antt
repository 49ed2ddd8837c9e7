use Rattle.ec_asm.proofs.Numbers.{value_below, value_mod, value_digit, value_front}
use Rattle.ec_asm.proofs.Sum.{value-same}
use Rattle.ec_asm.proofs.laws.numbers_are_their_bytes.Goals as goal

pub returns : goal.returns
returns c = record { below = value_below; low = value_mod; byte = value_digit; same = value-same; front = value_front }
