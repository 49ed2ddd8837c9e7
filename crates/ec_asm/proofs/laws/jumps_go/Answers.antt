use Rattle.ec_asm.proofs.Takes.{jump_goes, branch_taken, branch_passed, clear_bit_skips, set_bit_skips}
use Rattle.ec_asm.proofs.laws.jumps_go.Goals as goal

pub returns : goal.returns
returns c = record { jump = jump_goes; taken = branch_taken; passed = branch_passed; clear = clear_bit_skips; set = set_bit_skips }
