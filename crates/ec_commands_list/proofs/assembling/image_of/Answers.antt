use Rattle.ec_commands_list.proofs.assembling.image_of.Goals as goal

pub returns-in-Err-Line-clause-complete : goal.returns-in-Err-Line-clause-complete
returns-in-Err-Line-clause-complete c = λ bytes written lists. let no = (c.in-Err-Line.ensures.image bytes written lists).0 in cc
