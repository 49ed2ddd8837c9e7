-- The cells of dynamic groups: what has to stand at their bytes, and which of them operations use.
use Rattle.std.proofs.Common.{◌≡◌, ◌≢◌, ◌⊎◌, inl, inr, ⊎_elim, ℕ, zero, suc, ◌+◌, ◌-◌, ◌<◌, ◌≤◌, Bool, true, false, List, []}
use Rattle.std.proofs.Common.{◌∷◌, Option, Some, None, refl, sym, ap, ◌∙◌, subst, arith, leb-true, ltb-true}
use Rattle.std.specs.Prelude.{nat_le, nat_lt, ◌&&◌, unwrap_or, slice_get, replicate, ⊤}
use Rattle.std.specs.List.{AllByRecursion}
use Rattle.std.proofs.lemmas.Bool.{and_parts, and_from, cases_lt, lt-ltb, le-leb}
use Rattle.ec_asm.specs.Pieces.{Outside}
use Rattle.ec_core.specs.State.{State, ObjectState, GroupStates, with_choice, changed_at, chosen}
use Rattle.ec_core.specs.Valid.{EachFrom}
use Rattle.ec_ir.specs.Operations.{PlainIr, load_cell, store_cell, cell_port, PlainIrFunction, PlainIrProgram}
use Rattle.ec_ir.specs.Valid.{Results, ValidOperation, ValidIr, ValidIrFunction}
use Rattle.ec_select_functions.specs.Relation.{standing_byte}

-- ---- what most operations leave as it is

-- the objects, and the groups of ports
abbrev pub memory_of : State → List ObjectState × GroupStates
memory_of s = (s.objects, s.groups)

pub same_objects : (s t : State) → memory_of s ≡ memory_of t → s.objects ≡ t.objects
same_objects s t h = ap (λ (x : List ObjectState × GroupStates). x.0) h

pub same_groups : (s t : State) → memory_of s ≡ memory_of t → s.groups ≡ t.groups
same_groups s t h = ap (λ (x : List ObjectState × GroupStates). x.1) h

-- ---- rows of bytes

abbrev pub in_row : (a n k : ℕ) → Bool
in_row a n k = nat_le a k && nat_lt k (a + n)

pub row_parts : (a n k : ℕ) → in_row a n k ≡ true → (a ≤ k) × (k < a + n)
row_parts a n k h = let r = and_parts (nat_le a k) (nat_lt k (a + n)) h in (leb-true a k r.0, ltb-true k (a + n) r.1)

pub row_from : (a n k : ℕ) → a ≤ k → k < a + n → in_row a n k ≡ true
row_from a n k l m = and_from (nat_le a k) (nat_lt k (a + n)) (le-leb a k l) (lt-ltb k (a + n) m)

pub row_outside : (a n k : ℕ) → Outside a n k → in_row a n k ≡ false
row_outside a n k o = by_test (in_row a n k) refl
  where
    by_test : (b : Bool) → in_row a n k ≡ b → b ≡ false
    by_test true q = let r = row_parts a n k q in let z = o r.0 in absurd (omega (arith, r.1, z))
    by_test false q = refl

-- a place of a row, or none
pub by_row : (a n k : ℕ) → ((i : ℕ) × (i < n) × (k ≡ a + i)) ⊎ Outside a n k
by_row a n k =
    ⊎_elim
    (λ (l : k < a). inr (λ m. absurd (omega arith)))
    (λ (l : a ≤ k).
    ⊎_elim
    (λ (m : k < a + n). inl (k - a, omega arith, omega arith))
    (λ (m : a + n ≤ k). inr (λ z. m))
    (cases_lt k (a + n)))
    (cases_lt k a)

-- ---- what has to stand

module _ (first cells : ℕ) (was : ℕ → ℕ) where
  pub cell_stands : (c : ℕ) (s : State) → c < cells → standing_byte first cells was s.groups (first + c) ≡ chosen c s
  cell_stands c s l =
      let i : first + c - first ≡ c = omega arith in
      rw (row_from first cells (first + c) (omega arith) (omega arith), i) refl

  pub other_stands : (k : ℕ) (groups : GroupStates) → Outside first cells k → standing_byte first cells was groups k ≡ Some (was k)
  other_stands k groups o = rw (row_outside first cells k o) refl

  -- what stood elsewhere is not looked at for a cell
  pub cell_stands_alike : (old : ℕ → ℕ) (c : ℕ) (groups : GroupStates) → c < cells
      → standing_byte first cells was groups (first + c) ≡ standing_byte first cells old groups (first + c)
  cell_stands_alike old c groups l = rw (row_from first cells (first + c) (omega arith) (omega arith)) refl

  -- so it is what stood there that has to stand
  pub other_is : (k byte : ℕ) (groups : GroupStates) → Outside first cells k → standing_byte first cells was groups k ≡ Some byte
      → was k ≡ byte
  other_is k byte groups o q = let z : Some (was k) ≡ Some byte = sym (other_stands k groups o) ∙ q in cc

-- ---- choices

item_changed : (n c k : ℕ) (xs : List (Option ℕ)) → c ≢ n
    → unwrap_or (slice_get (changed_at n (λ was. Some k) xs) c) None ≡ unwrap_or (slice_get xs c) None
item_changed n c k [] q = refl
item_changed zero zero k (x ∷ xs) q = absurd (q refl)
item_changed zero (suc c) k (x ∷ xs) q = refl
item_changed (suc n) zero k (x ∷ xs) q = refl
item_changed (suc n) (suc c) k (x ∷ xs) q = item_changed n c k xs (λ e. q (ap suc e))

-- a group that is bound to something else keeps the others
pub other_chosen : (n c k : ℕ) (s : State) → c ≢ n → chosen c (with_choice n k s) ≡ chosen c s
other_chosen n c k s q = item_changed n c k s.groups.choices q

-- and what it is bound to is this
pub now_chosen : (n k b : ℕ) (s : State) → chosen n (with_choice n k s) ≡ Some b → k ≡ b
now_chosen n k b s h = by_place n s.groups.choices h
  where
    by_place : (n : ℕ) (xs : List (Option ℕ)) → unwrap_or (slice_get (changed_at n (λ was. Some k) xs) n) None ≡ Some b → k ≡ b
    by_place zero [] h = absurd cc
    by_place (suc n) [] h = absurd cc
    by_place zero (x ∷ xs) h = cc
    by_place (suc n) (x ∷ xs) h = by_place n xs h

-- at the start none is bound
abbrev all_unbound : ℕ → List (Option ℕ)
all_unbound n = replicate n None

pub none_bound : (n c : ℕ) → unwrap_or (slice_get (all_unbound n) c) None ≡ None
none_bound zero zero = refl
none_bound zero (suc c) = refl
none_bound (suc n) zero = refl
none_bound (suc n) (suc c) = none_bound n c

-- ---- which cells operations use

-- an operation uses no cell, or one of so many
abbrev pub UsesCells : (cells : ℕ) → PlainIr → Type 0
UsesCells cells (load_cell to cell) = cell < cells
UsesCells cells (store_cell cell from) = cell < cells
UsesCells cells (cell_port read t cell offset index width) = cell < cells
UsesCells cells i = ⊤

module _ (cells : ℕ) (p : PlainIrProgram) (results : Results) (f slots : ℕ) (all : List PlainIr) where
  uses_cells : (i : PlainIr) → ValidOperation cells p results f slots all i → UsesCells cells i
  uses_cells (load_cell to cell) v = v.within
  uses_cells (store_cell cell from) v = v.within
  uses_cells (cell_port read t cell offset index width) v = v.0
  uses_cells i v = tt

  all_use : (code : List PlainIr) → AllByRecursion (ValidOperation cells p results f slots all) code
      → AllByRecursion (UsesCells cells) code
  all_use [] v = tt
  all_use (i ∷ code) v = (uses_cells i v.0, all_use code v.1)

pub each_at : {A : Type 0} (P : ℕ → A → Type 0) (n : ℕ) (xs : List A) (k : ℕ) (x : A) → EachFrom n P xs → slice_get xs k ≡ Some x
    → P (n + k) x
each_at P n [] zero x all q = absurd cc
each_at P n [] (suc k) x all q = absurd cc
each_at P n (z ∷ xs) zero x all q =
    let g : Some z ≡ Some x = q in
    let i : z ≡ x = cc in
    let j : n ≡ n + 0 = omega arith in
    subst (P (n + 0)) i (subst (λ m. P m z) j all.0)
each_at P n (z ∷ xs) (suc k) x all q =
    let j : n + 1 + k ≡ n + suc k = omega arith in
    subst (λ m. P m x) j (each_at P (n + 1) xs k x all.1 q)

-- in a valid program
pub functions_use : (cells : ℕ) (p : PlainIrProgram) → ValidIr cells p → (f : ℕ) (g : PlainIrFunction)
    → slice_get p.functions f ≡ Some g → AllByRecursion (UsesCells cells) g.code
functions_use cells p valid f g q =
    let v = each_at (ValidIrFunction cells p valid.results) 0 p.functions f g valid.functions q in
    all_use cells p valid.results (0 + f) g.slots g.code g.code v.code
