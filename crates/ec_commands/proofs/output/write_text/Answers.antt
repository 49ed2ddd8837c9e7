use Rattle.std.proofs.Common.{rules}
use Rattle.ec_commands.proofs.output.write_text.Goals as goal

pub returns-clause-calm : goal.returns-clause-calm
returns-clause-calm g c = λ names made room calm writing fits.
    let same = (c.write_hex.ensures.calm room (writing, (names, (made, calm))) fits).0.same in search rules
