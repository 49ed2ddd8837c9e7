use Rattle.std.proofs.Common.{◌≤◌, ℕ, List, map, length, ◌∙◌, ap, sym, subst}
use Rattle.std.proofs.lemmas.List.{take_all}
use Rattle.ec_ir.specs.declared.operations.IrFunc.{IrFunc}
use Rattle.ec_select.proofs.Added.{same_slots}
use Rattle.ec_select.proofs.program.frames_of.Goals as goal

pub returns : goal.returns
returns c =
    let funcs = c.args.ir.now.funcs.items in
    let past : length funcs ≤ c.loop-g.g-index =
    subst (λ (xs : List IrFunc). length xs ≤ c.loop-g.g-index) c.as_slice-g-items.ensures c.loop-g-test.false in
    c.loop-g.invariant ∙ ap (λ (xs : List IrFunc). map {B = ℕ} (λ g. g.slots) xs) (take_all c.loop-g.g-index funcs past)
    ∙ sym (same_slots funcs)
