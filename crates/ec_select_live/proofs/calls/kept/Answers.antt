use Rattle.std.proofs.Common.{◌≡◌, ◌∙◌, ◌++◌, ℕ, List, Vec, Global, ap, subst, map, length, take, drop}
use Rattle.std.proofs.lemmas.List.{length-replicate}
use Rattle.std.proofs.Math.Seq.{take-append_seam}
use Rattle.ec_ir.specs.declared.operations.Ir.{Ir}
use Rattle.ec_ir.specs.Operations.{plain_ir}
use Rattle.ec_select_operations.specs.Needs.{facts_of}
use Rattle.ec_select_operations.specs.Written.{kept_rows}
use Rattle.ec_select_live.specs.Tables.{needs_of}
use Rattle.ec_select_live.proofs.calls.kept.Goals as goal

pub returns : goal.returns
returns c =
    let rows = c.keep_all.new.rows in
    let rest = drop (length rows) c.in_ok-rows.rows.items in
    let n : length rows ≡ c.in_ok-rows.rows.len = c.keep_all.auto.rows ∙ c.deref_mut-2.ensures.len in
    let seam : take c.in_ok-rows.rows.len (rows ++ rest) ≡ rows =
    subst (λ (k : ℕ). take k (rows ++ rest) ≡ rows) n (take-append_seam rows rest) in
    let places : length c.deref_mut.result.now ≡ c.args.slots =
    ap length (c.deref_mut.ensures.value ∙ c.in_ok-need.ensures) ∙ length-replicate c.from.result 0 ∙ c.from.ensures in
    let labels = needs_of c.args.table.now in
    ap (λ (xs : List (Vec ℕ Global)). map (λ row. row.items) xs) seam ∙ c.in_ok-keep_all.ensures
    ∙ ap (λ (s : ℕ). kept_rows s (facts_of c.args.in_flash labels (map plain_ir c.as_slice.result.now))
    (map plain_ir c.as_slice.result.now)) places
    ∙ ap (λ (xs : List Ir). kept_rows c.args.slots (facts_of c.args.in_flash labels (map plain_ir xs)) (map plain_ir xs)) c.as_slice.ensures
