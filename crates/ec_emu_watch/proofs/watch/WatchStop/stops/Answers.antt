use Rattle.std.proofs.Common.{◌∙◌, ℤ, sym, ap, subst, rules}
use Rattle.std.proofs.lemmas.Int.{to_z-of_z}
use Rattle.std.specs.Int.{w128}
use mir.Val.{SFits}
use Rattle.ec_emu_watch.specs.Points.{value_at, writes_last}
use Rattle.ec_emu_watch.specs.Sound.{point_of, rule_of}
use Rattle.ec_emu_watch.proofs.Hits.{hit_is}
use Rattle.ec_emu_watch.proofs.watch.WatchStop.stops.Goals as goal

pub returns-in-Some : goal.returns-in-Some
returns-in-Some g c =
    let point = point_of c.args.self.now in
    let fits : SFits w128 c.in-Some.value = search rules in
    let answer = (c.requires.0 c.in-Some.value c.in-Some.ensures.fits).1 c.f.result
    (subst (λ (z : ℤ). g.F.Fn.post c.args.self.now.f (z, tt) c.f.result) (to_z-of_z w128 c.in-Some.value fits) c.f.ensures) in
    answer
    ∙ sym (hit_is (g.R.ValueRule.holds (rule_of c.args.self.now)) (writes_last point c.args.access)
    (value_at point c.args.machine.now.mem) c.in-Some.value
    (sym c.is_written_by.ensures ∙ c.if-not-is_written_by.false)
    (ap (value_at point) (sym c.memory.ensures) ∙ sym c.in-Some.ensures.value))
