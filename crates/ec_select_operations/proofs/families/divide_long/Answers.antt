use Rattle.std.proofs.Common.{◌+◌, ◌++◌, ◌≡◌, suc, subst, arith}
use Rattle.ec_select_quotients.specs.Signs.{quotient_code}
use Rattle.ec_select_operations.specs.Code.{move_code}
use Rattle.ec_select_operations.proofs.Emits.{joined_code}
use Rattle.ec_select_operations.proofs.families.divide_long.Goals as goal

pub returns-clause-ok : goal.returns-clause-ok
returns-clause-ok c =
    let a = c.args.a in
    let to = c.args.to in
    let top = c.args.top in
    let old = c.args.out.now.items in
    let mid = c.move_number.new.out.items in
    let e : top + 1 ≡ suc top = omega arith in
    joined_code c.quotient.result old mid c.quotient.new.out.items (move_code a to (suc top))
    (quotient_code c.args.of.remainder c.args.of.signed to c.args.b top)
    (subst (λ n. mid ≡ old ++ move_code a to n) e c.in_ok-move_number.ensures.ok) c.quotient.ensures.ok
