use Rattle.toml.specs.View.{view}
use Rattle.std.proofs.Common.{sym}
use Rattle.ec_map.proofs.Valid.{map_valid}
use Rattle.ec_map.proofs.read.judge.Goals as goal

pub returns-in_ok-map-in-None-clause-valid : goal.returns-in_ok-map-in-None-clause-valid
returns-in_ok-map-in-None-clause-valid c =
    map_valid (view c.args.root.now) c.in_ok-map-in-None.map
    (sym c.in-None.ensures) c.in_ok-map-in-None.ensures.told c.in_ok-map-in-None.ensures.ascending
