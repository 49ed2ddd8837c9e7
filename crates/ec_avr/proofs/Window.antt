-- A window of one byte, written.
use Rattle.std.proofs.Common.{◌≡◌, ℕ, ◌+◌, ◌<◌, List, [], ◌∷◌, length, slice_set, refl, ap, ◌∙◌, arith, length-take, length-drop}
use Rattle.std.specs.List.{slice_range}
use Rattle.ec_space.specs.Memory.{overwrite}
use Rattle.ec_space.proofs.Overwrite.{overwrite_one}

one : (xs : List ℕ) (v : ℕ) → length xs ≡ 1 → slice_set xs 0 v ≡ v ∷ []
one [] v h = absurd (omega arith)
one (x ∷ []) v h = refl
one (x ∷ y ∷ xs) v h = absurd (omega arith)

-- the one byte of a window is written: the list is written there
pub overwrite-window : (xs : List ℕ) (i v : ℕ) → i < length xs
    → overwrite xs i (slice_set (slice_range xs i (i + 1)) 0 v) ≡ slice_set xs i v
overwrite-window xs i v h =
    let size : length (slice_range xs i (i + 1)) ≡ 1 = simp (length-take, length-drop) (omega arith) in
    ap (overwrite xs i) (one (slice_range xs i (i + 1)) v size) ∙ overwrite_one xs i v h
