use Rattle.std.proofs.Common.{◌≡◌, List, drop, map}
use Rattle.ec_grammar.specs.Views.{view_next_init_declarator}
use Rattle.ec_check_declarations.specs.Sites.{Site, told}
use Rattle.ec_check_file_scope.specs.FileScope.{after_more, more_sites}
use Rattle.ec_check_file_scope.specs.States.{plain_setting, plain_state, IsSoundState}
use Rattle.ec_check_file_scope.proofs.file_scope.more_declarators.Given as goal

abbrev pub invariant-loop-d : goal.invariant-loop-d
invariant-loop-d l =
    let r = plain_setting l.setting in
    let all = map view_next_init_declarator l.more in
    let rest = map view_next_init_declarator (drop l.d-index l.more) in
    let here = plain_state l.state in
    let first = plain_state l.fn.state in
    record {
      sound : IsSoundState here;
      state : after_more r l.said l.storage rest here ≡ after_more r l.said l.storage all first;
      noted : (others : List Site) → told l.faults.least (more_sites r l.said l.storage rest here others)
          ≡ told l.fn.faults.least (more_sites r l.said l.storage all first others);
    }
