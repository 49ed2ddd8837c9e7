use Rattle.ec_commands.proofs.Rows.{rows_are_commands}
use Rattle.ec_commands.proofs.laws.rows_are_commands.Goals as goal

pub returns : goal.returns
returns c = rows_are_commands
