use Rattle.std.proofs.Common.{◌≡◌, List, drop, map}
use Rattle.ec_grammar.specs.Views.{view_next_declarator}
use Rattle.ec_check_expressions.specs.Known.{plain_known}
use Rattle.ec_check_declarations.specs.Structures.{plain_member_declared, with_more_members, more_member_sites}
use Rattle.ec_check_declarations.specs.Sites.{Site, told}
use Rattle.ec_check_declarations.proofs.structures.add_more.Given as goal

abbrev pub invariant-loop-d : goal.invariant-loop-d
invariant-loop-d l =
    let k = plain_known l.known in
    let all = map view_next_declarator l.more in
    let rest = map view_next_declarator (drop l.d-index l.more) in
    let here = map plain_member_declared l.members.items in
    let first = map plain_member_declared l.fn.members.items in
    record {
      values : with_more_members k l.said rest here ≡ with_more_members k l.said all first;
      noted : (others : List Site) → told l.faults.least (more_member_sites k l.said rest here others)
          ≡ told l.fn.faults.least (more_member_sites k l.said all first others);
    }
