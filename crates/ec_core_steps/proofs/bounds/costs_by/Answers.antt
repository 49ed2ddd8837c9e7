use Rattle.std.proofs.Common.{◌≡◌, ◌<◌, List, length, get_or, subst}
use Rattle.ec_core.specs.declared.programs.Func.{Func}
use Rattle.ec_core.specs.Plain.{plain_program}
use Rattle.ec_core.specs.PortTable.{plain_table}
use Rattle.ec_core_steps.proofs.Rounds.{costs_on, costs_end}
use Rattle.ec_core_steps.proofs.bounds.costs_by.Goals as goal

pub loop-place-preserved : goal.loop-place-preserved
loop-place-preserved c =
    let funcs = c.args.program.now.funcs.items in
    let i = c.loop-place.place in
    let q = c.as_slice-func-items.ensures in
    let l : i < length funcs = subst (λ (xs : List Func). i < length xs) q (c.loop-place-test.true) in
    let here : c.func-item.result ≡ get_or funcs i c.func-item.result =
    subst (λ (xs : List Func). c.func-item.result ≡ get_or xs i c.func-item.result) q c.func-item.is in
    costs_on (plain_table c.args.io.now) c.args.inner.now (plain_program c.args.program.now) funcs i
    c.func-item.result c.loop-place.costs.items c.add_cost.new.costs.items _ l here c.in_ok-add_cost.ensures c.loop-place.invariant

pub returns : goal.returns
returns c =
    costs_end (plain_table c.args.io.now) c.args.inner.now (plain_program c.args.program.now)
    c.args.program.now.funcs.items c.loop-place.place c.loop-place.costs.items _
    (rw c.as_slice-func-items.ensures at c.loop-place-test.false) c.loop-place.invariant
