use Rattle.std.proofs.Common.{◌+◌, sym}
use Rattle.ec_avr.specs.Decoded.{flash_word}
use Rattle.ec_avr.proofs.Decoded.{decoded_in_table}
use Rattle.ec_avr.proofs.machine.Machine.instruction_at.Goals as goal

pub returns-in-Some-clause-in_table : goal.returns-in-Some-clause-in_table
returns-in-Some-clause-in_table c =
    let flash = c.self.inside.memory.flash in
    decoded_in_table c.in-Some.found.now (flash_word flash c.args.at) (flash_word flash (c.args.at + 1))
    (c.self.invariant.decoded c.args.at c.in-Some.found.now (sym c.in-Some.ensures))
