use Rattle.std.proofs.Common.{◌≡◌, List, drop, map}
use Rattle.ec_grammar.specs.Views.{view_external}
use Rattle.ec_check_declarations.specs.Sites.{Site, told}
use Rattle.ec_check_file_scope.specs.States.{plain_setting, plain_state, IsSoundState}
use Rattle.ec_check.specs.Units.{after_externals, externals_sites}
use Rattle.ec_check.proofs.units.externals.Given as goal

abbrev pub invariant-loop-x : goal.invariant-loop-x
invariant-loop-x l =
    let r = plain_setting l.setting in
    let all = map view_external l.all in
    let rest = map view_external (drop l.x-index l.all) in
    let here = plain_state l.state in
    let first = plain_state l.fn.state in
    record {
      sound : IsSoundState here;
      state : after_externals r rest here ≡ after_externals r all first;
      noted : (others : List Site)
          → told l.faults.least (externals_sites r rest here others) ≡ told l.fn.faults.least (externals_sites r all first others);
    }
