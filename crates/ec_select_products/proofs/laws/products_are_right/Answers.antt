use Rattle.ec_select_products.proofs.Multiplied.{products_are_right}
use Rattle.ec_select_products.proofs.laws.products_are_right.Goals as goal

pub returns : goal.returns
returns c = products_are_right
