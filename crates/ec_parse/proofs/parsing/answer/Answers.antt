use Rattle.ec_parse.proofs.Parses.{is_read, is_refused}
use Rattle.ec_parse.proofs.parsing.answer.Goals as goal

pub returns-in-Ok : goal.returns-in-Ok
returns-in-Ok c = is_read c.args.tokens.now c.in-Ok.tree c.in-Ok.ensures

pub returns-in-Err : goal.returns-in-Err
returns-in-Err c = is_refused c.args.tokens.now c.in-Err.stop c.told.result c.requires.ended c.in-Err.ensures c.told.ensures
