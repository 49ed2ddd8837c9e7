use Rattle.std.proofs.Common.{◌≡◌, List, drop, map}
use Rattle.ec_grammar.specs.Views.{view_member}
use Rattle.ec_check_expressions.specs.Known.{plain_known}
use Rattle.ec_check_declarations.specs.Structures.{plain_member_declared, with_all_declared, all_declared_sites}
use Rattle.ec_check_declarations.specs.Sites.{Site, told}
use Rattle.ec_check_declarations.proofs.structures.add_all_declared.Given as goal

abbrev pub invariant-loop-m : goal.invariant-loop-m
invariant-loop-m l =
    let k = plain_known l.known in
    let all = map view_member l.more in
    let rest = map view_member (drop l.m-index l.more) in
    let here = map plain_member_declared l.members.items in
    let first = map plain_member_declared l.fn.members.items in
    record {
      values : with_all_declared k rest here ≡ with_all_declared k all first;
      noted : (others : List Site)
          → told l.faults.least (all_declared_sites k rest here others) ≡ told l.fn.faults.least (all_declared_sites k all first others);
    }
