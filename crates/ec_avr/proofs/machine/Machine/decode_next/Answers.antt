use Rattle.ec_avr.specs.Decoded.{IsMade}
use Rattle.ec_avr.proofs.Decoded.{decoded_on}
use Rattle.ec_avr.proofs.machine.Machine.decode_next.Goals as goal

pub invariant_of-self : goal.invariant_of-self
invariant_of-self c = record {
  flash = c.self.invariant.flash;
  sram = c.self.invariant.sram;
  ports = c.self.invariant.ports;
  decoded = decoded_on c.self.inside.memory.flash c.self.inside.decoded.items
      c.push.new.self.items c.decode_at-found.result c.push.result c.self.invariant.decoded
      (rw (← c.self.view_is, c.len-at.ensures) at c.decode_at-found.ensures.value) c.push.ensures.ok c.push.ensures.err;
}
