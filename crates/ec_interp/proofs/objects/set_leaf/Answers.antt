use Rattle.std.proofs.Common.{arith, ap, map}
use Rattle.ec_core.specs.Accesses.{with_leaf}
use Rattle.ec_interp.specs.Views.{seen_object, seen_groups}
use Rattle.ec_interp.proofs.Changes.{changed_past_map, changed_set}
use Rattle.ec_interp.proofs.objects.set_leaf.Goals as goal

pub returns-then-o-len : goal.returns-then-o-len
returns-then-o-len c =
    let s = c.args.s.now in
    let x = c.index_mut.result.now in
    ap (λ objects. record { objects = objects; groups = seen_groups s; events = s.events; work = s.work })
    (changed_set seen_object (with_leaf c.args.k c.args.v) s.objects.items c.args.o x c.set_leaf_of.new.x
    (omega (arith, s.objects.ok.0, c.len.ensures, c.if-o-len.true)) c.index_mut.ensures.value c.set_leaf_of.ensures)

pub returns-else-o-len : goal.returns-else-o-len
returns-else-o-len c =
    let s = c.args.s.now in
    ap (λ objects. record { objects = objects; groups = seen_groups s; events = s.events; work = s.work })
    (changed_past_map seen_object (with_leaf c.args.k c.args.v) s.objects.items c.args.o
    (omega (arith, s.objects.ok.0, c.len.ensures, c.if-o-len.false)))
