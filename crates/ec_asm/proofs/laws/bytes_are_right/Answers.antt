use Rattle.ec_asm.proofs.Bytes.{copy_byte_copies, binary_operates}
use Rattle.ec_asm.proofs.Compared.{compare_operates}
use Rattle.ec_asm.proofs.laws.bytes_are_right.Goals as goal

pub returns : goal.returns
returns c = record { copied = copy_byte_copies; combined = binary_operates; compared = compare_operates }
