use Rattle.std.proofs.Common.{rules}
use Rattle.ec_grammar.specs.declared.Item.TheViews.{the_lemmas}
use Rattle.ec_grammar.proofs.Backwards.{items_row}
use Rattle.ec_check_trees.proofs.counts.+counts.Goals as goal

pub less_statement-returns-in-Compound : goal.less_statement-returns-in-Compound
less_statement-returns-in-Compound t c = search (rules, the_lemmas, items_row)
