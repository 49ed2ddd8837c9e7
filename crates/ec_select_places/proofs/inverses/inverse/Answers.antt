use Rattle.ec_select_places.proofs.Inverted.{inverted}
use Rattle.ec_select_places.proofs.inverses.inverse.Goals as goal

pub returns-clause-product : goal.returns-clause-product
returns-clause-product c =
    rw (c.refine-3.ensures, c.refine-2.ensures, c.refine.ensures, c.from-odd.ensures) (inverted c.args.odd c.requires)
