use Rattle.std.proofs.Common.{◌≡◌, ◌∙◌, ◌++◌, ap, subst, List}
use Rattle.std.specs.Prelude.{IfOk}
use Rattle.ec_asm.specs.declared.items.AsmItem.{AsmItem}
use Rattle.ec_asm.specs.Items.{code_words}
use Rattle.ec_ir.specs.Operations.{plain_ir}
use Rattle.ec_select_operations.specs.Routines.{routine_for}
use Rattle.ec_select.specs.Sharing.{shape_of, shape_routine}
use Rattle.ec_select.proofs.Shaped.{same_routine}
use Rattle.ec_select.proofs.sharing.routine_words.Goals as goal

pub returns : goal.returns
returns c =
    let i = plain_ir c.args.i.now in
    let items : c.routine.new.out.items ≡ shape_routine 0 (shape_of i) =
    c.in_ok-routine.ensures.ok ∙ ap (λ (x : List AsmItem). x ++ routine_for 0 i) c.new-items.ensures
    ∙ same_routine 0 i c.requires.0 in
    subst (λ (xs : List AsmItem). IfOk c.words_of.result (λ n. n ≡ code_words xs)) items c.words_of.ensures
