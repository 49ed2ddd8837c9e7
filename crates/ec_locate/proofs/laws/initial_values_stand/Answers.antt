use Rattle.ec_locate.proofs.Initial.{initial-values-stand}
use Rattle.ec_locate.proofs.laws.initial_values_stand.Goals as goal

pub returns : goal.returns
returns c = initial-values-stand c.leaves_fill_their_types.ensures
