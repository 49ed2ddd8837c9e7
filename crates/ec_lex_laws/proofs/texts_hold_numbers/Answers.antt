use Rattle.ec_lex_laws.proofs.Texts.{texts_hold_numbers}
use Rattle.ec_lex_laws.proofs.texts_hold_numbers.Goals as goal

pub returns : goal.returns
returns c = texts_hold_numbers
