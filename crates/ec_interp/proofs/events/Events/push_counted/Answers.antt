use Rattle.std.proofs.Common.{refl, arith}
use Rattle.ec_interp.specs.declared.behaviour.Event.TheVariants.{In}
use Rattle.ec_interp.proofs.Counts.{counted_with}
use Rattle.ec_interp.proofs.events.Events.push_counted.Goals as goal

pub invariant_of-self-2 : goal.invariant_of-self-2
invariant_of-self-2 c =
    counted_with c.self.inside.reads c.self.inside.all.items c.push.new.items.items (In c.args.port c.args.byte) c.args.port c.args.byte
    c.in-Some.count c.self.invariant c.in_ok-push.ensures.ok refl c.requires (omega (arith, c.self.told, c.requires)) c.in-Some.ensures.1
