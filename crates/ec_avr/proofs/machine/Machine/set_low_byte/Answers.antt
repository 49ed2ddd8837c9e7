use Rattle.std.proofs.Common.{refl, arith}
use Rattle.ec_avr.proofs.Window.{overwrite-window}
use Rattle.ec_avr.proofs.machine.Machine.set_low_byte.Goals as goal

pub returns : goal.returns
returns c =
    let xs = c.self.inside.memory.data in
    let written = overwrite-window xs c.args.at c.args.byte (omega (arith, c.self.invariant.ports, c.ranges.at)) in
    rw (← c.self.view_is, c.window_mut.ensures.value, written) refl
