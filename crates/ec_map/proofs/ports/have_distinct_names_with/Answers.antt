use Rattle.std.proofs.Common.{map, refl, sym, ◌∙◌}
use Rattle.toml.specs.View.{view}
use Rattle.ec_map.specs.Rules.{name_of}
use Rattle.ec_map.proofs.Names.{distinct-append, share_none-viewed}
use Rattle.ec_map.proofs.ports.have_distinct_names_with.Goals as goal

pub returns-then-have_distinct_names_each : goal.returns-then-have_distinct_names_each
returns-then-have_distinct_names_each c =
    let names = map name_of (map view c.args.values.now) in
    let others = map name_of (map view c.args.others.now) in
    rw (distinct-append names others, ← c.have_distinct_names_each.ensures, c.if-have_distinct_names_each.true)
    (c.share_no_name.ensures ∙ sym (share_none-viewed c.args.values.now c.args.others.now))

pub returns-else-have_distinct_names_each : goal.returns-else-have_distinct_names_each
returns-else-have_distinct_names_each c =
    let names = map name_of (map view c.args.values.now) in
    let others = map name_of (map view c.args.others.now) in
    rw (distinct-append names others, ← c.have_distinct_names_each.ensures, c.if-have_distinct_names_each.false) refl
