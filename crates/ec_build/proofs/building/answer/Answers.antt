use Rattle.std.proofs.Common.{map, arith}
use Rattle.ec_core.specs.Plain.{plain_program}
use Rattle.ec_grammar.specs.Views.{view_tree}
use Rattle.ec_build.specs.Builds.{IsRead}
use Rattle.ec_build.proofs.Composed.{placing_stops}
use Rattle.ec_build.proofs.Held.{as_many_units, units_hold, units_are_short}
use Rattle.ec_build.proofs.building.answer.Goals as goal

pub program_of-checked-requires-clause-some : goal.program_of-checked-requires-clause-some
program_of-checked-requires-clause-some c =
    let same = as_many_units c.args.sources.now.items c.in-Ok.units.items c.in-Ok.ensures.units in
    omega (arith, same, c.requires.some)

pub program_of-checked-requires-clause-most : goal.program_of-checked-requires-clause-most
program_of-checked-requires-clause-most c =
    let same = as_many_units c.args.sources.now.items c.in-Ok.units.items c.in-Ok.ensures.units in
    omega (arith, same, c.requires.most)

pub located_by-requires-clause-valid : goal.located_by-requires-clause-valid
located_by-requires-clause-valid c =
    let texts = map (λ s. s.items) c.args.sources.now.items in
    let units = map view_tree c.in-Ok.units.items in
    let are = c.in-Ok.ensures.units in
    c.in-Ok-checked.ensures.valid (units_hold c.texts_hold_numbers.ensures texts units are) (units_are_short texts units are)

pub returns-in-Err-located_by-clause-stopped : goal.returns-in-Err-located_by-clause-stopped
returns-in-Err-located_by-clause-stopped c =
    let texts = map (λ s. s.items) c.args.sources.now.items in
    let units = map view_tree c.in-Ok.units.items in
    let text = c.args.map.now.items in
    let are = c.in-Ok.ensures in
    let were : IsRead texts text c.in_ok-map.map units = record {
      map = c.in_ok-map.ensures.read;
      trees = are.units;
      only = are.only;
    } in
    placing_stops texts text c.in_ok-map.map (plain_program c.in-Ok-checked.program) c.in-Err-located_by.stop
    (record { units = units; read = were; program = c.in-Ok-checked.ensures.program }) c.in-Err-located_by.ensures.stopped
