use Rattle.std.proofs.Common.{◌≡◌, ◌∙◌, List, ℕ, subst}
use Rattle.std.specs.Prelude.{IfOk, string_bytes}
use Rattle.ec_where.specs.declared.place.Place.TheVariants.{Token}
use Rattle.ec_where.specs.Located.{IsExplained}
use Rattle.ec_where.specs.Recursion.{DefinesAt, recursion_message}
use Rattle.ec_where.proofs.Files.{ok_of, read_held, shown}
use Rattle.ec_where.proofs.recursion.explain_in.Goals as goal

pub returns-clause-told : goal.returns-clause-told
returns-clause-told g c =
    let file = c.args.file.now in
    let name = c.args.name.now in
    let source = c.in-Ok.source.items in
    let index = c.in_ok-index.index in
    let said = c.as_str.ensures.value
    ∙ ok_of c.message.result c.in_ok-message.message (λ s. string_bytes s ≡ recursion_message name) c.in_ok-message.ensures.value
    c.message.ensures in
    shown c.explain_place.result c.ok-2.result (λ v. v.items) (g.S.Store.disk c.args.store.now) file name source index c.ok-2.ensures.value
    (read_held (g.S.Store.disk c.args.store.now) (g.S.Store.disk c.read_file.new.store) file 65_536 c.in-Ok.source c.in-Ok.ensures.told)
    (subst (λ (n : List ℕ). DefinesAt source n index) c.as_bytes.ensures.value c.in_ok-index.ensures)
    (subst (λ (m : List ℕ). IfOk c.explain_place.result (λ v. IsExplained file source (Token index) m v.items)) said
    c.explain_place.ensures.explained)
