use Rattle.ec_map.proofs.Made.{ascending-nil}
use Rattle.ec_map.proofs.map.places_from.Goals as goal

pub returns-in-None-clause-ascending : goal.returns-in-None-clause-ascending
returns-in-None-clause-ascending c = rw c.new.ensures ascending-nil
