use Rattle.std.proofs.Common.{rules}
use Rattle.ec_grammar.specs.declared.Initialiser.TheViews.{the_lemmas}
use Rattle.ec_grammar.proofs.Backwards.{initialisers_row}
use Rattle.ec_check_declarations.proofs.objects.given_size.Goals as goal

pub returns-in-Braces : goal.returns-in-Braces
returns-in-Braces c = search (rules, the_lemmas, initialisers_row)
