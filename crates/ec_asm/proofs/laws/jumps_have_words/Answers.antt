use Rattle.ec_asm.proofs.Takes.{jump_has_word, call_has_word, branch_has_word}
use Rattle.ec_asm.proofs.laws.jumps_have_words.Goals as goal

pub returns : goal.returns
returns c = record { jump = jump_has_word; call = call_has_word; branch = branch_has_word }
