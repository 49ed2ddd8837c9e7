use Rattle.std.proofs.Common.{◌≤◌, length, arith}
use Rattle.toml.specs.View.{view}
use Rattle.ec_map.specs.Rules.{groups_of, dynamics_of}
use Rattle.ec_map.proofs.Counts.{few_groups, few_dynamics}
use Rattle.ec_map.proofs.map.map_from.Goals as goal

pub io_from-requires-clause-groups : goal.io_from-requires-clause-groups
io_from-requires-clause-groups c =
    let d = view c.args.root.now in
    let few : length (groups_of d) ≤ 16 = few_groups d c.requires in
    omega (arith, few)

pub io_from-requires-clause-dynamics : goal.io_from-requires-clause-dynamics
io_from-requires-clause-dynamics c =
    let d = view c.args.root.now in
    let few : length (dynamics_of d) ≤ 8 = few_dynamics d c.requires in
    omega (arith, few)
