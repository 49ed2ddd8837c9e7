use Rattle.std.proofs.lemmas.Grind.{common_steps}
use Rattle.std.proofs.Common.{rules, arith, sym, subst}
use Rattle.ec_core.specs.declared.arithmetic_types.Arithmetic.{Arithmetic}
use Rattle.ec_core.specs.ArithmeticValues.{HoldsNumber, IsKnownType}
use Rattle.ec_interp.proofs.Operands.{updated_types}
use Rattle.ec_interp.proofs.numbers.compound.Goals as goal

pub returns-in_err-x-clause-answered : goal.returns-in_err-x-clause-answered
returns-in_err-x-clause-answered c = λ h i j.
    let t = updated_types c.args.op c.args.a.ty c.args.b.ty c.args.a.n c.args.b.n h i j in
    let k = subst (λ (z : Arithmetic). IsKnownType z) (sym c.operation_types-types.ensures.left) t.left in
    let a = c.in_err-x.ensures.answered k i in
    search rules

pub returns-in_err-y-clause-answered : goal.returns-in_err-y-clause-answered
returns-in_err-y-clause-answered c = λ h i j.
    let t = updated_types c.args.op c.args.a.ty c.args.b.ty c.args.a.n c.args.b.n h i j in
    let k = subst (λ (z : Arithmetic). IsKnownType z) (sym c.operation_types-types.ensures.right) t.right in
    let a = c.in_err-y.ensures.answered k j in
    search rules

pub returns-in_err-n-clause-answered : goal.returns-in_err-n-clause-answered
returns-in_err-n-clause-answered c = λ h i j.
    let t = updated_types c.args.op c.args.a.ty c.args.b.ty c.args.a.n c.args.b.n h i j in
    let types = c.operation_types-types in
    let s =
    t.suited c.in_ok-x.x c.in_ok-y.y (subst (λ (z : Arithmetic). HoldsNumber z c.in_ok-x.x) types.ensures.left c.in_ok-x.ensures.held)
    (subst (λ (z : Arithmetic). HoldsNumber z c.in_ok-y.y) types.ensures.right c.in_ok-y.ensures.held) in
    let k = rw (← types.ensures.left, ← types.ensures.right, ← types.ensures.outcome) at s in
    let p = c.in_ok-x.ensures.held in
    let q = c.in_ok-y.ensures.held in
    first_of (search rules, grind (arith, common_steps))
