-- A list with others written over a part of it.
use Rattle.std.proofs.Common.{◌≡◌, ℕ, suc, ◌+◌, ◌<◌, ◌≤◌, List, [], ◌∷◌, ◌++◌, length, take, drop, slice_index, slice_set, slice_range, sym}
use Rattle.std.proofs.Common.{ap, ◌∙◌, arith, length-take, length-drop, length-append}
use Rattle.std.proofs.lemmas.List.{places, drop-drop, set_split, take_all}
use Rattle.std.proofs.lemmas.Slice.{between-put_mid}
use Rattle.ec_space.specs.Memory.{overwrite}

pub length-overwrite : (xs : List ℕ) (from : ℕ) (ws : List ℕ) → length (overwrite xs from ws) ≡ length xs
length-overwrite xs from ws = simp (length-take, length-append, length-drop) (omega arith)

-- where the others fit, nothing is cut off
pub overwrite_inside : (xs : List ℕ) (from : ℕ) (ws : List ℕ) → from + length ws ≤ length xs
    → overwrite xs from ws ≡ take from xs ++ (ws ++ drop (length ws) (drop from xs))
overwrite_inside xs from ws h =
    take_all (length xs) (take from xs ++ (ws ++ drop (length ws) (drop from xs)))
    (simp (length-take, length-append, length-drop) (omega arith))

pub overwrite_one : (xs : List ℕ) (i x : ℕ) → i < length xs → overwrite xs i (x ∷ []) ≡ slice_set xs i x
overwrite_one xs i x h =
    let next : i + 1 ≡ suc i = omega arith in
    overwrite_inside xs i (x ∷ []) (omega arith) ∙ ap (λ rest. take i xs ++ x ∷ rest) (drop-drop 1 i xs ∙ ap (λ k. drop k xs) next)
    ∙ sym (set_split xs i x h)

-- what was written stands there
pub slice_range-overwrite : (xs : List ℕ) (from : ℕ) (ws : List ℕ) → from + length ws ≤ length xs
    → slice_range (overwrite xs from ws) from (from + length ws) ≡ ws
slice_range-overwrite xs from ws h =
    ap (λ ys. slice_range ys from (from + length ws)) (overwrite_inside xs from ws h)
    ∙ between-put_mid from (length ws) xs ws (from + length ws) (omega arith) (omega arith)

-- and the rest stays
pub slice_index-overwrite_below : (xs : List ℕ) (from : ℕ) (ws : List ℕ) (i : ℕ) → i < from
    → slice_index (overwrite xs from ws) i ≡ slice_index xs i
slice_index-overwrite_below xs from ws i h = grind (arith, places)

pub slice_index-overwrite_above : (xs : List ℕ) (from : ℕ) (ws : List ℕ) (i : ℕ) → from + length ws ≤ i
    → slice_index (overwrite xs from ws) i ≡ slice_index xs i
slice_index-overwrite_above xs from ws i h = grind (arith, places)

-- those, for `grind`
pub ruleset writes = (length-overwrite, overwrite_one, slice_range-overwrite, slice_index-overwrite_below, slice_index-overwrite_above)
