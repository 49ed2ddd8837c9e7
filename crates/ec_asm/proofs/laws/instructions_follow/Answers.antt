use Rattle.ec_asm.proofs.Machine.{based_follows}
use Rattle.ec_asm.proofs.laws.instructions_follow.Goals as goal

pub returns : goal.returns
returns c = λ e size s v i fit h t keeps safe. based_follows c.one_bit_is_set.ensures e size fit s v h i t keeps safe
