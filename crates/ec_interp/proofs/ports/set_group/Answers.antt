use Rattle.std.proofs.Common.{arith, ap, map}
use Rattle.ec_interp.specs.Views.{seen_object}
use Rattle.ec_interp.proofs.Changes.{changed_past_to, changed_set_to}
use Rattle.ec_interp.proofs.ports.set_group.Goals as goal

pub returns-then-g-len : goal.returns-then-g-len
returns-then-g-len c =
    let s = c.args.s.now in
    ap (λ acquired. record {
      objects = map seen_object s.objects.items;
      groups = record { acquired = acquired; choices = s.choices.items };
      events = s.events;
      work = s.work;
    }) (changed_set_to s.acquired.items c.args.g c.args.acquired (omega (arith, s.acquired.ok.0, c.len.ensures, c.if-g-len.true)))

pub returns-else-g-len : goal.returns-else-g-len
returns-else-g-len c =
    let s = c.args.s.now in
    ap (λ acquired. record {
      objects = map seen_object s.objects.items;
      groups = record { acquired = acquired; choices = s.choices.items };
      events = s.events;
      work = s.work;
    }) (changed_past_to s.acquired.items c.args.g c.args.acquired (omega (arith, s.acquired.ok.0, c.len.ensures, c.if-g-len.false)))
