use Rattle.std.proofs.Common.{◌≡◌, ◌+◌, ◌++◌, suc, ap, ◌∙◌, arith}
use Rattle.ec_fxcode_limits.specs.Limits.{limited_code}
use Rattle.ec_select_operations.specs.Code.{move_code}
use Rattle.ec_select_operations.proofs.Emits.{joined_code}
use Rattle.ec_select_operations.proofs.fixed.stopped.Goals as goal

pub returns-clause-ok : goal.returns-clause-ok
returns-clause-ok c =
    let of = c.args.of in
    let old = c.args.out.now.items in
    let one_more : c.args.top + 1 ≡ suc c.args.top = omega arith in
    let moved = c.in_ok-move_number.ensures.ok ∙ ap (λ n. old ++ move_code of.left c.args.to n) one_more in
    joined_code c.limited.result old c.move_number.new.out.items c.limited.new.out.items (move_code of.left c.args.to (suc c.args.top))
    (limited_code c.args.minus of.signed of.right c.args.to c.args.top) moved c.limited.ensures.ok
