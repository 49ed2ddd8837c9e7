use Rattle.std.proofs.Common.{sym}
use Rattle.ec_lex.proofs.Tables.{punctuator-shorter}
use Rattle.ec_lex.proofs.pieces.piece.Goals as goal

pub returns-in-Some-punctuator-clause-shorter : goal.returns-in-Some-punctuator-clause-shorter
returns-in-Some-punctuator-clause-shorter c =
    punctuator-shorter c.args.bytes.now c.in-Some-punctuator.kind c.in-Some-punctuator.rest.now (sym c.in-Some-punctuator.ensures.value)
