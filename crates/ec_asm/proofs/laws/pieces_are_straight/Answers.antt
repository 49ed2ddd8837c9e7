use Rattle.ec_asm.proofs.Results.{pieces_are_straight, pieces_take}
use Rattle.ec_asm.proofs.laws.pieces_are_straight.Goals as goal

pub returns : goal.returns
returns c = record { straight = pieces_are_straight; steps = pieces_take }
