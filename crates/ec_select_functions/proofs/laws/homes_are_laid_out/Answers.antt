use Rattle.ec_select_functions.proofs.Standing.{homes_are_laid_out}
use Rattle.ec_select_functions.proofs.laws.homes_are_laid_out.Goals as goal

pub returns : goal.returns
returns c =
    λ cells p e slots h scratch place valid s o.
    homes_are_laid_out c.leaves_fill_their_types.ensures cells p valid e slots h scratch place s o
