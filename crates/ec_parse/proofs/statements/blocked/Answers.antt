use Rattle.std.proofs.Common.{rules}
use Rattle.ec_grammar.specs.declared.Item.TheViews.{the_lemmas}
use Rattle.ec_grammar.proofs.Backwards.{items_row}
use Rattle.ec_parse.proofs.statements.blocked.Goals as goal

pub returns : goal.returns
returns c = search (rules, the_lemmas, items_row)
