use Rattle.std.proofs.Common.{◌∙◌, ap, subst}
use Rattle.std.specs.Prelude.{◌≡◌, IfOk}
use Rattle.ec_asm_near.specs.Labels.{words_of}
use Rattle.ec_asm_near.specs.Near.{word_of, drafted, near_from}
use Rattle.ec_asm_near.proofs.Shortened.{near_is}
use Rattle.ec_asm_near.proofs.shorten.near.Goals as goal

pub returns : goal.returns
returns c =
    let long = words_of c.in_ok-long.long in
    let short = words_of c.in_ok-short.short in
    let e = near_is c.args.items.now.items c.in_ok-draft.draft.items long short (c.in_ok-long.ensures ∙ ap word_of c.as_slice.ensures)
    (c.in_ok-draft.ensures ∙ ap (drafted long 0) c.as_slice-2.ensures) (c.in_ok-short.ensures ∙ ap word_of c.as_slice-3.ensures) in
    subst (λ xs. IfOk c.near_from.result (λ out. out.items ≡ xs))
    (ap (near_from long short 0 0) c.as_slice-4.ensures ∙ e) c.near_from.ensures
