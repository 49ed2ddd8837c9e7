use Rattle.std.proofs.Common.{◌≡◌, drop, map}
use Rattle.ec_grammar.specs.Views.{view_tree}
use Rattle.ec_check_names.specs.Definitions.{plain_definitions}
use Rattle.ec_check_file_scope.specs.States.{plain_state, IsSoundState}
use Rattle.ec_check.specs.Units.{after_units, first_fault}
use Rattle.ec_check.proofs.checking.walk_units.Given as goal

abbrev pub invariant-loop-i : goal.invariant-loop-i
invariant-loop-i l =
    let ds = plain_definitions l.definitions in
    let all = map view_tree l.units in
    let rest = map view_tree (drop l.i l.units) in
    let here = plain_state l.state in
    let first = plain_state l.fn.state in
    record {
      sound : IsSoundState here;
      state : after_units ds l.ports l.i rest here ≡ after_units ds l.ports 0 all first;
      fault : first_fault ds l.ports l.i rest here ≡ first_fault ds l.ports 0 all first;
    }
