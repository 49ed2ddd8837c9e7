use Rattle.ec_asm.proofs.Hoare.{block_goes, block-append}
use Rattle.ec_asm.proofs.laws.straight_code_goes.Goals as goal

pub returns : goal.returns
returns c = record { goes = block_goes; joins = block-append }
