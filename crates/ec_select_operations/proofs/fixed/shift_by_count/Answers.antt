use Rattle.std.proofs.Common.{◌≡◌, ℕ, ◌+◌, ◌++◌, suc, arith}
use Rattle.std.proofs.Common.{subst}
use Rattle.std.specs.Prelude.{OnOk}
use Rattle.ec_asm.specs.declared.pieces.Location.TheVariants.{InRegisters}
use Rattle.ec_fxcode_placed.specs.Shifts.{placed_code}
use Rattle.ec_select_operations.specs.Code.{move_code}
use Rattle.ec_select_operations.proofs.Emits.{joined_code}
use Rattle.ec_select_operations.proofs.fixed.shift_by_count.Goals as goal

pub returns-clause-ok : goal.returns-clause-ok
returns-clause-ok c =
    let of = c.args.of in
    let one_more : c.args.top + 1 ≡ suc c.args.top = omega arith in
    let code = λ (n : ℕ). move_code of.left c.args.to n ++ placed_code c.args.left of.signed c.args.to n in
    joined_code c.shifted.result c.args.out.now.items c.move_number.new.out.items c.shifted.new.out.items
    (move_code of.right (InRegisters 30) 1) (code (suc c.args.top)) c.in_ok-move_number.ensures.ok
    (subst (λ (n : ℕ). OnOk c.shifted.result (c.shifted.new.out.items ≡ c.move_number.new.out.items ++ code n)) one_more
    c.shifted.ensures.ok)
