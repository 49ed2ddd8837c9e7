use Rattle.ec_asm.proofs.Placed.{near_jump, near_call, near_branch}
use Rattle.ec_asm.proofs.laws.near_jumps_stand.Goals as goal

pub returns : goal.returns
returns c = record { jump = near_jump; call = near_call; branch = near_branch }
