use Rattle.ec_interp.proofs.Counts.{counted_without}
use Rattle.ec_interp.proofs.events.Events.push_uncounted.Goals as goal

pub invariant_of-self-2 : goal.invariant_of-self-2
invariant_of-self-2 c =
    counted_without c.self.inside.reads c.self.inside.all.items c.push.new.items.items c.args.event c.self.invariant
    c.in_ok-push.ensures.ok c.requires
