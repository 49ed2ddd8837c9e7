use Rattle.std.proofs.Common.{◌≡◌, ◌∙◌, ◌-◌, length, take, drop, true, false, refl, sym}
use Rattle.std.specs.List.{list_any}
use Rattle.std.specs.Str.{bytes_eq}
use Rattle.toml.specs.View.{view}
use Rattle.ec_map.specs.Rules.{name_of}
use Rattle.ec_map.proofs.Names.{names_from}
use Rattle.ec_map.proofs.ports.have_distinct_names.Goals as goal

pub returns-then-have_name : goal.returns-then-have_name
returns-then-have_name c =
    let rest = c.names.rest.now in
    let split = names_from rest c.first-item.result c.in-len1-up.len_at_least c.first-item.is in
    let found : list_any (λ v. bytes_eq (name_of (view c.first-item.result)) (name_of (view v))) (take (length rest - 1) (drop 1 rest))
    ≡ true = rw (← c.name_of.ensures) (sym c.have_name.ensures ∙ c.if-have_name.true) in
    sym (c.names.invariant ∙ split ∙ rw found refl)

pub names-preserved : goal.names-preserved
names-preserved c =
    let rest = c.names.rest.now in
    let split = names_from rest c.first-item.result c.in-len1-up.len_at_least c.first-item.is in
    let new : list_any (λ v. bytes_eq (name_of (view c.first-item.result)) (name_of (view v))) (take (length rest - 1) (drop 1 rest))
    ≡ false = rw (← c.name_of.ensures) (sym c.have_name.ensures ∙ c.if-have_name.false) in
    c.names.invariant ∙ split ∙ rw new refl
