-- Initial values, one leaf after another, and flashes as two lists.
use Rattle.std.proofs.Common.{◌≡◌, ◌+◌, ◌<◌, ℕ, Bool, List, ◌++◌, length, map, drop, get_or, Option, append_assoc, ap, ◌∙◌}
use Rattle.std.specs.Prelude.{slice_get}
use Rattle.ec_space.specs.declared.space.Place.{Place}
use Rattle.ec_core.specs.declared.layout.Leaf.{Leaf}
use Rattle.ec_core.specs.declared.programs.LeafInit.{LeafInit}
use Rattle.ec_core.specs.Layout.{plain_leaf}
use Rattle.ec_core.specs.Plain.{plain_type}
use Rattle.ec_locate.specs.Image.{FlashView, value_bytes, leaf_bytes}
use Rattle.ec_locate.proofs.Sums.{split_at}

-- one leaf more
pub leaves_step : (places : List Place) (leaves : List Leaf) (inits : List LeafInit) (i : ℕ) (leaf : Leaf) (out new : List ℕ)
    (init : Option LeafInit) (whole : List ℕ)
    → i < length leaves → leaf ≡ get_or leaves i leaf → init ≡ slice_get inits i → new ≡ out ++ value_bytes places (plain_type leaf.ty) init
    → out ++ leaf_bytes places i (map plain_leaf (drop i leaves)) inits ≡ whole
    → new ++ leaf_bytes places (i + 1) (map plain_leaf (drop (i + 1) leaves)) inits ≡ whole
leaves_step places leaves inits i leaf out new init whole l is found pushed h =
    let split = split_at leaves i leaf l is in
    let front = rw split at h in
    rw (pushed, found) (append_assoc out (value_bytes places (plain_type leaf.ty) (slice_get inits i))
    (leaf_bytes places (i + 1) (map plain_leaf (drop (i + 1) leaves)) inits) ∙ front)

-- two flashes with the same lists
pub same_flash : (a b : List ℕ) (c d : List Bool) → a ≡ b → c ≡ d → (let f : FlashView = record { bytes = a; written = c } in f) ≡ record {
  bytes = b;
  written = d;
}
same_flash a b c d p q =
    let first : List ℕ → FlashView = λ x. record { bytes = x; written = c } in
    let second : List Bool → FlashView = λ y. record { bytes = b; written = y } in
    ap first p ∙ ap second q
