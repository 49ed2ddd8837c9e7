use Rattle.std.proofs.Common.{◌≡◌, ◌∙◌, ℕ, List, ap, subst, map, length, replicate}
use Rattle.std.proofs.lemmas.List.{length-replicate}
use Rattle.ec_ir.specs.declared.operations.Ir.{Ir}
use Rattle.ec_ir.specs.Operations.{plain_ir}
use Rattle.ec_select_operations.specs.Needs.{IsLive}
use Rattle.ec_select_live.specs.Least.{HaveLabels}
use Rattle.ec_select_live.specs.Tables.{needs_of}
use Rattle.ec_select_live.proofs.Growth.{IsNoMore, least_table}
use Rattle.ec_select_live.proofs.labels.live.Goals as goal

pub returns-clause-least : goal.returns-clause-least
returns-clause-least c =
    let a : c.as_slice.result.now ≡ c.args.code.now.items = c.as_slice.ensures in
    let b : c.as_slice-2.result.now ≡ c.args.code.now.items = c.as_slice-2.ensures in
    let h = subst (λ (xs : List Ir). HaveLabels c.in_ok-labels.labels (map plain_ir xs)) a c.in_ok-labels.ensures in
    let p : c.from-places.result ≡ c.args.slots = c.from-places.ensures in
    let t : c.in_ok-table.table ≡ replicate c.in_ok-labels.labels (replicate c.args.slots 0) =
    c.in_ok-table.ensures ∙ ap (λ (s : ℕ). replicate c.in_ok-labels.labels (replicate s 0)) p in
    let n : length c.deref_mut.result.now ≡ c.args.slots =
    ap length (c.deref_mut.ensures.value ∙ c.in_ok-need.ensures) ∙ length-replicate c.from-places.result 0 ∙ p in
    let q = subst (λ (xs : List Ir). IsNoMore c.args.in_flash (length c.deref_mut.result.now)
    (map plain_ir xs) c.in_ok-table.table c.settle.new.table) b
    c.settle.ensures.least in
    least_table c.args.in_flash c.args.slots (map plain_ir c.args.code.now.items) c.in_ok-labels.labels c.in_ok-table.table
    c.settle.new.table h t
    (subst (λ (s : ℕ). IsNoMore c.args.in_flash s (map plain_ir c.args.code.now.items) c.in_ok-table.table c.settle.new.table) n q)

pub returns-clause-live : goal.returns-clause-live
returns-clause-live c =
    subst (λ (xs : List Ir). IsLive c.args.in_flash (needs_of c.settle.new.table) (map plain_ir xs)) c.as_slice-2.ensures
    c.settle.ensures.live
