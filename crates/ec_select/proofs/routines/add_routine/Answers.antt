use Rattle.std.proofs.Common.{◌≡◌, ◌∙◌, ap, sym, ◌++◌, List, refl, true}
use Rattle.ec_asm.specs.declared.items.AsmItem.{AsmItem}
use Rattle.ec_select.specs.Seen.{row_operation}
use Rattle.ec_select.proofs.Shaped.{same_routine}
use Rattle.ec_select.proofs.routines.add_routine.Goals as goal

pub returns-in_ok-routine : goal.returns-in_ok-routine
returns-in_ok-routine c =
    let once : c.args.row.now.once ≡ true = c.if-row.true in
    c.in_ok-routine.ensures.ok
    ∙ ap (λ (x : List AsmItem). c.args.out.now.items ++ x)
    (same_routine c.args.label (row_operation c.args.row.now) c.requires.0 ∙ sym (rw once refl))
