use Rattle.std.proofs.Common.{length, ap, refl, arith}
use Rattle.ec_avr.specs.State.{State}
use Rattle.ec_avr.proofs.Window.{overwrite-window}
use Rattle.ec_avr.proofs.machine.Machine.set_byte.Goals as goal

pub returns : goal.returns
returns c =
    let xs = c.self.inside.memory.data in
    let same = ap (λ (s : State). length s.mem.data) c.self.view_is in
    let written = overwrite-window xs c.args.at c.args.byte (omega (arith, same, c.requires)) in
    rw (← c.self.view_is, c.window_mut.ensures.value, written) refl
