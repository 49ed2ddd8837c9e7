-- The rows of what calls keep.
use Rattle.std.proofs.Common.{◌≡◌, ℕ, zero, suc, ◌+◌, ◌-◌, ◌<◌, ◌≤◌, List, [], ◌∷◌, refl, sym, ap, ◌∙◌, arith, length}
use Rattle.std.proofs.Common.{Bool, drop, set}
use Rattle.std.specs.Prelude.{if◌then◌else◌}
use Rattle.std.proofs.lemmas.List.{drop-set}
use Rattle.ec_ir.specs.Operations.{PlainIr, constant, copy, address, field, load_at, store_at, load_object}
use Rattle.ec_ir.specs.Operations.{store_object, binary_op, unary_op, conversion, label, jump, branch_zero}
use Rattle.ec_ir.specs.Operations.{call_function, return_from, port_in, port_out, load_cell, store_cell, cell_port}
use Rattle.ec_select_operations.specs.Code.{register_places}
use Rattle.ec_select_operations.specs.Needs.{Need, Facts, needs, without_result, moves_pointer}
use Rattle.ec_select_operations.specs.Written.{row_from, kept_row, kept_rows}
use Rattle.ec_select_live.specs.Places.{HasPlaces}
use Rattle.ec_select_live.specs.Tables.{need_of, AreSame}
use Rattle.ec_select_live.proofs.Operations.{same_result}

same_row : (count place : ℕ) (a b : Need) → ((j : ℕ) → j < place + count → a j ≡ b j)
    → row_from count place a ≡ row_from count place b
same_row zero place a b h = refl
same_row (suc count) place a b h =
    let x = h place (omega arith) in
    let y = same_row count (suc place) a b (λ j l. h j (omega arith)) in
    rw (x, y) refl

-- what is needed of the place of an index
index_same : (x : Bool) (at : ℕ) (a b : Need) → a at ≡ b at → (if x then a at ∷ [] else []) ≡ (if x then b at ∷ [] else [])
index_same x at a b q = ap (λ n. if x then n ∷ [] else []) q

kept_same : (s : ℕ) (i : PlainIr) (a b : Need) → HasPlaces s i → AreSame s a b → kept_row s a i ≡ kept_row s b i
kept_same s (call_function f to) a b k h =
    same_row (register_places s) 0 (without_result to a) (without_result to b) (λ j l. same_result s to a b h j (omega arith))
kept_same s (constant t n) a b k h = refl
kept_same s (copy to from) a b k h = refl
kept_same s (address t o offset) a b k h = refl
kept_same s (field ptr space offset) a b k h = refl
kept_same s (load_at to ptr space) a b k h = refl
kept_same s (store_at ptr space from) a b k h = refl
kept_same s (load_object t o offset) a b k h = refl
kept_same s (store_object o offset t) a b k h = refl
kept_same s (binary_op op ty mode to x xty y yty) a b k h = index_same (moves_pointer op xty yty) y.at a b (h y.at k.2.0)
kept_same s (unary_op op ty mode to x) a b k h = refl
kept_same s (conversion to ty mode x xty) a b k h = refl
kept_same s (label l) a b k h = refl
kept_same s (jump l) a b k h = refl
kept_same s (branch_zero t l) a b k h = refl
kept_same s (return_from from) a b k h = refl
kept_same s (port_in to port index width) a b k h = refl
kept_same s (port_out from port index width) a b k h = refl
kept_same s (load_cell to cell) a b k h = refl
kept_same s (store_cell cell from) a b k h = refl
kept_same s (cell_port read t cell offset index width) a b k h = refl

-- one operation more
pub rows_more : (s : ℕ) (at : Facts) (code rest : List PlainIr) (i : PlainIr) (need : List ℕ) (rows : List (List ℕ))
    (k : ℕ) (row : List ℕ) → HasPlaces s i → code ≡ i ∷ rest → AreSame s (need_of need) (needs at rest)
    → row ≡ kept_row s (need_of need) i → 0 < k → k ≤ length rows → drop k rows ≡ kept_rows s at rest
    → drop (k - 1) (set rows (k - 1) row) ≡ kept_rows s at code
rows_more s at code rest i need rows k row p is h r z l w =
    let m : k - 1 < length rows = omega arith in
    let e : (k - 1) + 1 ≡ k = omega arith in
    let q : row ≡ kept_row s (needs at rest) i = r ∙ kept_same s i (need_of need) (needs at rest) p h in
    drop-set rows (k - 1) row m
    ∙ ap (λ (j : ℕ). row ∷ drop j rows) e
    ∙ ap (λ (x : List (List ℕ)). row ∷ x) w
    ∙ ap (λ (x : List ℕ). x ∷ kept_rows s at rest) q
    ∙ ap (kept_rows s at) (sym is)
