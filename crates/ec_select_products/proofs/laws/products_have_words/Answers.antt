use Rattle.ec_select_products.proofs.Words.{products_have_words}
use Rattle.ec_select_products.proofs.laws.products_have_words.Goals as goal

pub returns : goal.returns
returns c = products_have_words
