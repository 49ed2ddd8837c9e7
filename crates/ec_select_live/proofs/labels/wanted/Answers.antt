use Rattle.std.proofs.Common.{◌≡◌, ◌∙◌, ◌++◌, ℕ, List, ap, subst, map, length, take, drop}
use Rattle.std.proofs.Math.Seq.{take-append_seam}
use Rattle.ec_ir.specs.declared.operations.Ir.{Ir}
use Rattle.ec_ir.specs.Operations.{plain_ir}
use Rattle.ec_select_operations.specs.Code.{wanted_bytes}
use Rattle.ec_select_operations.specs.Needs.{facts_of}
use Rattle.ec_select_live.specs.Tables.{needs_of}
use Rattle.ec_select_live.proofs.labels.wanted.Goals as goal

pub returns : goal.returns
returns c =
    let w = c.want.new.wanted in
    let rest = drop (length w) c.in_ok-bytes.bytes.items in
    let n : length w ≡ c.in_ok-bytes.bytes.len = c.want.auto.wanted ∙ c.deref_mut-2.ensures.len in
    let seam : take c.in_ok-bytes.bytes.len (w ++ rest) ≡ w =
    subst (λ (k : ℕ). take k (w ++ rest) ≡ w) n (take-append_seam w rest) in
    seam ∙ c.want.ensures
    ∙ ap (λ (xs : List Ir). wanted_bytes (facts_of c.args.in_flash (needs_of c.args.table.now) (map plain_ir xs)) (map plain_ir xs))
    c.as_slice.ensures
