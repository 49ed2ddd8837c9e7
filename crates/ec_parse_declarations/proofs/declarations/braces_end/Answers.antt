use Rattle.std.proofs.Common.{rules}
use Rattle.ec_grammar.specs.declared.Initialiser.TheViews.{the_lemmas}
use Rattle.ec_grammar.proofs.Backwards.{initialisers_row}
use Rattle.ec_parse_declarations.proofs.Lists.{initialisers_map}
use Rattle.ec_parse_declarations.proofs.declarations.braces_end.Goals as goal

pub returns : goal.returns
returns c = search (rules, the_lemmas, initialisers_row, initialisers_map)
