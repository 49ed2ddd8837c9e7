use Rattle.std.proofs.Common.{arith, ap, map, Some}
use Rattle.ec_interp.specs.Views.{seen_object}
use Rattle.ec_interp.proofs.Changes.{changed_past_to, changed_set_to}
use Rattle.ec_interp.proofs.ports.set_choice.Goals as goal

pub returns-then-d-len : goal.returns-then-d-len
returns-then-d-len c =
    let s = c.args.s.now in
    ap (λ choices. record {
      objects = map seen_object s.objects.items;
      groups = record { acquired = s.acquired.items; choices = choices };
      events = s.events;
      work = s.work;
    }) (changed_set_to s.choices.items c.args.d (Some c.args.choice) (omega (arith, s.choices.ok.0, c.len.ensures, c.if-d-len.true)))

pub returns-else-d-len : goal.returns-else-d-len
returns-else-d-len c =
    let s = c.args.s.now in
    ap (λ choices. record {
      objects = map seen_object s.objects.items;
      groups = record { acquired = s.acquired.items; choices = choices };
      events = s.events;
      work = s.work;
    }) (changed_past_to s.choices.items c.args.d (Some c.args.choice) (omega (arith, s.choices.ok.0, c.len.ensures, c.if-d-len.false)))
