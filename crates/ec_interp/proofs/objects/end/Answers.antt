use Rattle.std.proofs.Common.{false, arith, ap, map, refl}
use Rattle.ec_core.specs.Accesses.{ended}
use Rattle.ec_interp.specs.Views.{seen_object, seen_groups}
use Rattle.ec_interp.proofs.Changes.{changed_past_map, changed_set}
use Rattle.ec_interp.proofs.objects.end.Goals as goal

pub returns-then-o-len : goal.returns-then-o-len
returns-then-o-len c =
    let s = c.args.s.now in
    let x = c.index_mut.result.now in
    ap (λ objects. record { objects = objects; groups = seen_groups s; events = s.events; work = s.work })
    (changed_set seen_object ended s.objects.items c.args.o x (record { serial = x.serial; live = false; leaves = x.leaves })
    (omega (arith, s.objects.ok.0, c.len.ensures, c.if-o-len.true)) c.index_mut.ensures.value refl)

pub returns-else-o-len : goal.returns-else-o-len
returns-else-o-len c =
    let s = c.args.s.now in
    ap (λ objects. record { objects = objects; groups = seen_groups s; events = s.events; work = s.work })
    (changed_past_map seen_object ended s.objects.items c.args.o (omega (arith, s.objects.ok.0, c.len.ensures, c.if-o-len.false)))
