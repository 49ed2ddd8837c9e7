use Rattle.std.proofs.Common.{◌∙◌, map, refl, sym}
use Rattle.toml.specs.View.{view}
use Rattle.ec_map.proofs.Names.{once_from}
use Rattle.ec_map.proofs.dynamics.stand_once.Goals as goal

pub returns-then-meets_one : goal.returns-then-meets_one
returns-then-meets_one c =
    let split = once_from (map view c.args.groups.now) c.choices.rest.now c.first-item.result c.in-len1-up.len_at_least c.first-item.is in
    sym (c.choices.invariant ∙ split ∙ rw (← c.meets_one.ensures, c.if-meets_one.true) refl)

pub choices-preserved : goal.choices-preserved
choices-preserved c =
    let split = once_from (map view c.args.groups.now) c.choices.rest.now c.first-item.result c.in-len1-up.len_at_least c.first-item.is in
    c.choices.invariant ∙ split ∙ rw (← c.meets_one.ensures, c.if-meets_one.false) refl
