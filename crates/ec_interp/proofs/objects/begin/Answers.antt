use Rattle.std.proofs.Common.{arith, ap, map}
use Rattle.ec_core.specs.Accesses.{renewed}
use Rattle.ec_interp.specs.Views.{seen_object, seen_groups}
use Rattle.ec_interp.proofs.Changes.{changed_past_map, changed_set}
use Rattle.ec_interp.proofs.objects.begin.Goals as goal

pub returns-in_ok-renew-clause-begun : goal.returns-in_ok-renew-clause-begun
returns-in_ok-renew-clause-begun c =
    let s = c.args.s.now in
    let x = c.index_mut.result.now in
    rw (← c.in_ok-count.ensures.count) (ap (λ objects. record {
      objects = objects;
      groups = seen_groups s;
      events = s.events;
      work = s.work;
    }) (changed_set seen_object (renewed c.in_ok-count.count) s.objects.items c.args.o x c.renew.new.x
    (omega (arith, s.objects.ok.0, c.len.ensures, c.if-o-len.true)) c.index_mut.ensures.value c.in_ok-renew.ensures))

pub returns-else-o-len-clause-begun : goal.returns-else-o-len-clause-begun
returns-else-o-len-clause-begun c =
    let s = c.args.s.now in
    rw (← c.in_ok-count.ensures.count) (ap (λ objects. record {
      objects = objects;
      groups = seen_groups s;
      events = s.events;
      work = s.work;
    }) (changed_past_map seen_object (renewed c.in_ok-count.count) s.objects.items c.args.o
    (omega (arith, s.objects.ok.0, c.len.ensures, c.if-o-len.false))))
