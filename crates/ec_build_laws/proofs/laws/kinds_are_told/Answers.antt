use Rattle.ec_build_laws.proofs.ByAddress.{kinds_are_told, kinds_fit}
use Rattle.ec_build_laws.proofs.laws.kinds_are_told.Goals as goal

pub returns-clause-told : goal.returns-clause-told
returns-clause-told c = kinds_are_told c.data_stands_apart.ensures

pub returns-clause-fit : goal.returns-clause-fit
returns-clause-fit c = kinds_fit
