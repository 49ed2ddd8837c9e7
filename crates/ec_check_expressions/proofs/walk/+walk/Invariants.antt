use Rattle.std.proofs.Common.{◌≡◌, ◌+◌, List, drop}
use Rattle.ec_grammar.specs.Views.{views_further}
use Rattle.ec_check_expressions.specs.Arguments.{plain_wanted, plain_passed}
use Rattle.ec_check_expressions.specs.Expressions.{passed_further, further_sites}
use Rattle.ec_check_expressions.specs.Known.{plain_known}
use Rattle.ec_check_expressions.specs.Sites.{Site, told}
use Rattle.ec_check_expressions.proofs.walk.+walk.Given as goal

abbrev pub invariant-further-loop-i : goal.invariant-further-loop-i
invariant-further-loop-i l =
    let k = plain_known l.known in
    let w = plain_wanted l.wanted in
    record {
      passed : passed_further k w (plain_passed l.args) (l.i + 1) (views_further (drop l.i l.more))
          ≡ passed_further k w (plain_passed l.fn.args) 1 (views_further l.more);
      noted : (rest : List Site) → told l.faults.least (further_sites k w (l.i + 1) (views_further (drop l.i l.more)) rest)
          ≡ told l.fn.faults.least (further_sites k w 1 (views_further l.more) rest);
    }
