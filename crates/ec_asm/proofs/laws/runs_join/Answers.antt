use Rattle.ec_asm.proofs.Hoare.{goes_on_to}
use Rattle.ec_asm.proofs.Takes.{takes_then, takes_goes, takes_within}
use Rattle.ec_asm.proofs.laws.runs_join.Goals as goal

pub returns : goal.returns
returns c = record { goes = goes_on_to; takes = takes_then; known = takes_goes; within = takes_within }
