use Rattle.ec_avr.proofs.Placed.{jumps_inside, relative_forward, relative_back}
use Rattle.ec_avr.proofs.laws.jumps_arrive.Goals as goal

pub returns : goal.returns
returns c = record { inside = jumps_inside; forward = relative_forward; back = relative_back }
