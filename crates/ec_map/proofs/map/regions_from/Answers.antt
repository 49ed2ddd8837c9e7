use Rattle.std.proofs.Common.{◌≡◌, true}
use Rattle.std.proofs.lemmas.Bool.{false≢true}
use Rattle.std.specs.Prelude.{is_some}
use Rattle.toml.specs.View.{view}
use Rattle.ec_map.specs.Cores.{core_of}
use Rattle.ec_map.specs.Regions.{regions_of}
use Rattle.ec_map.specs.Rules.{kept}
use Rattle.ec_map.proofs.Kept.{rules_kept, kept_at}
use Rattle.ec_map.proofs.map.regions_from.Goals as goal

pub unreachable-requires : goal.unreachable-requires
unreachable-requires c =
    let d = view c.args.root.now in
    let there : is_some (regions_of (core_of d) d) ≡ true = kept_at (kept d) 3 (rules_kept d c.requires) in
    let none = c.in-None.ensures in
    false≢true (rw (← c.core_of.ensures, ← none) at there)
