-- What is needed before operations, by two tables that tell the same at all labels.
use Rattle.std.proofs.Common.{◌≡◌, ℕ, zero, suc, ◌+◌, ◌<◌, ◌≤◌, Bool, true, false, List, [], ◌∷◌, Option, Some, None, ◌||◌, refl, arith}
use Rattle.std.specs.Prelude.{◌==◌, if◌then◌else◌, min, max, ⊤}
use Rattle.std.specs.List.{AllByRecursion}
use Rattle.ec_space.specs.declared.space.SpaceId.{SpaceId}
use Rattle.ec_space.specs.declared.space.SpaceId.TheVariants.{Flash, FarFlash, Data, Generic}
use Rattle.ec_ir.specs.declared.operations.Temp.{Temp}
use Rattle.ec_ir.specs.Operations.{PlainIr, constant, copy, address, field, load_at, store_at, load_object}
use Rattle.ec_ir.specs.Operations.{store_object, binary_op, unary_op, conversion, label, jump, branch_zero}
use Rattle.ec_ir.specs.Operations.{call_function, return_from, port_in, port_out, load_cell, store_cell, cell_port}
use Rattle.ec_select_operations.specs.Code.{result_wanted, wanted_behind, wanted_bytes, register_places}
use Rattle.ec_ir_known.specs.declared.known.RightNumber.{RightNumber}
use Rattle.ec_select_operations.specs.Needs.{Need, at_least, without, either, wanted, is_fixed, is_whole, first_wanted}
use Rattle.ec_select_operations.specs.Needs.{second_wanted, family_of, is_apart}
use Rattle.ec_select_operations.specs.Needs.{only_wanted, index_needed, without_result, number_taken, numbered, takes_whole, right_taken}
use Rattle.ec_select_operations.specs.Needs.{right_needed, before, moves_pointer, masked_bytes, joined_bytes, moved_wanted, narrowed}
use Rattle.ec_select_operations.specs.Needs.{loaded_bytes}
use Rattle.ec_select_operations.specs.Needs.{compared_bytes, facts_of, known_right, needs}
use Rattle.ec_select_operations.specs.Written.{row_from, kept_row, kept_rows}
use Rattle.ec_select_live.specs.Places.{HasPlace, HasPlaces, HavePlaces}
use Rattle.ec_select_live.specs.Tables.{AreSame}

-- two tables tell the same of the first places at the label that an operation names
abbrev pub TellSame : ℕ → (ℕ → Need) → (ℕ → Need) → PlainIr → Type 0
TellSame s here there (label l) = AreSame s (here l) (there l)
TellSame s here there (jump l) = AreSame s (here l) (there l)
TellSame s here there (branch_zero t l) = AreSame s (here l) (there l)
TellSame s here there i = ⊤

-- ---- one operation

same_without : (s at : ℕ) (a b : Need) → AreSame s a b → AreSame s (without at a) (without at b)
same_without s at a b h place l = λ j. if place == at then 0 else h place l j

same_least : (s at n m : ℕ) (a b : Need) → n ≡ m → AreSame s a b → AreSame s (at_least at n a) (at_least at m b)
same_least s at n m a b e h place l = λ j. if place == at then max (h place l j) (e j) else h place l j

same_either : (s : ℕ) (a b c d : Need) → AreSame s a b → AreSame s c d → AreSame s (either a c) (either b d)
same_either s a b c d h k place l = λ j. max (h place l j) (k place l j)

same_wanted : (s : ℕ) (t : Temp) (a b : Need) → HasPlace s t → AreSame s a b → wanted a t ≡ wanted b t
same_wanted s t a b l h = λ j. min (h t.at l.0 j) t.bytes

same_value : (s : ℕ) (to : Temp) (at : ℕ) (f : ℕ → ℕ) (a b : Need) → HasPlace s to → AreSame s a b
    → AreSame s (at_least at (f (wanted a to)) (without to.at a)) (at_least at (f (wanted b to)) (without to.at b))
same_value s to at f a b l h =
    same_least s at (f (wanted a to)) (f (wanted b to)) (without to.at a) (without to.at b)
    (λ j. f (same_wanted s to a b l h j)) (same_without s to.at a b h)

same_result : (s : ℕ) (to : Option Temp) (a b : Need) → AreSame s a b → AreSame s (without_result to a) (without_result to b)
same_result s None a b h = h
same_result s (Some t) a b h = same_without s t.at a b h

same_index : (s : ℕ) (index : Option Temp) (a b : Need) → AreSame s a b → AreSame s (index_needed index a) (index_needed index b)
same_index s None a b h = h
same_index s (Some t) a b h = same_least s t.at 1 1 a b refl h

-- of a second operand that may be taken as a number
same_right : (s : ℕ) (taken : Option RightNumber) (to : Temp) (at : ℕ) (f : ℕ → ℕ) (a b : Need) → HasPlace s to → AreSame s a b
    → AreSame s (right_needed taken at (f (wanted a to)) (without to.at a)) (right_needed taken at (f (wanted b to)) (without to.at b))
same_right s None to at f a b l h = same_value s to at f a b l h
same_right s (Some k) to at f a b l h = same_without s to.at a b h

-- and of what is stored
same_stored : (s : ℕ) (taken : Option RightNumber) (at n : ℕ) (a b : Need) → AreSame s a b
    → AreSame s (right_needed taken at n a) (right_needed taken at n b)
same_stored s None at n a b h = same_least s at n n a b refl h
same_stored s (Some k) at n a b h = h

module _ (s : ℕ) (in_flash : Bool) (here there : ℕ → Need) where
  before_same : (n : Option RightNumber) (i : PlainIr) (a b : Need) → HasPlaces s i → TellSame s here there i → AreSame s a b
      → AreSame s (before here n i a) (before there n i b)
  before_same n (constant t x) a b l k h = same_without s t.at a b h
  before_same n (copy to from) a b l k h = same_value s to from.at (λ n. n) a b l.0 h
  before_same n (load_object t o offset) a b l k h = same_without s t.at a b h
  before_same n (store_object o offset t) a b l k h = same_stored s (numbered n) t.at t.bytes a b h
  before_same n (binary_op op ty mode to x xty y yty) a b l k h =
      let w = is_apart (family_of op) mode ty xty yty in
      let taken = number_taken n w op in
      let right = right_taken n (takes_whole op mode ty xty yty to y) w op in
      let first =
      λ (n : ℕ). moved_wanted (moves_pointer op xty yty) n (first_wanted w op (compared_bytes taken x.bytes) (masked_bytes taken op n)) in
      let second =
      λ (n : ℕ). moved_wanted (moves_pointer op yty xty) n (second_wanted w op (compared_bytes taken y.bytes) (joined_bytes taken n)) in
      same_least s x.at (first (wanted a to)) (first (wanted b to))
      (right_needed right y.at (second (wanted a to)) (without to.at a))
      (right_needed right y.at (second (wanted b to)) (without to.at b))
      (λ j. first (same_wanted s to a b l.0 h j))
      (same_right s right to y.at second a b l.0 h)
  before_same n (unary_op op ty mode to x) a b l k h = same_value s to x.at (only_wanted (is_whole ty) x.bytes) a b l.0 h
  before_same n (conversion to ty mode x xty) a b l k h =
      same_value s to x.at (only_wanted (is_fixed ty || is_fixed xty) x.bytes) a b l.0 h
  before_same n (branch_zero t q) a b l k h =
      same_least s t.at (compared_bytes n t.bytes) (compared_bytes n t.bytes) (either a (here q)) (either b (there q)) refl
      (same_either s a b (here q) (there q) h k)
  before_same n (return_from from) a b l k h = λ place q. refl
  before_same n (label q) a b l k h = k
  before_same n (jump q) a b l k h = k
  before_same n (address t o offset) a b l k h = same_without s t.at a b h
  before_same n (field ptr space offset) a b l k h = same_least s ptr.at 2 2 a b refl h
  before_same n (load_at to ptr space) a b l k h =
      same_least s ptr.at ptr.bytes ptr.bytes (without to.at a) (without to.at b) refl (same_without s to.at a b h)
  before_same n (store_at ptr space from) a b l k h =
      same_least s from.at from.bytes from.bytes (at_least ptr.at 2 a) (at_least ptr.at 2 b) refl
      (same_least s ptr.at 2 2 a b refl h)
  before_same n (call_function f to) a b l k h = same_result s to a b h
  before_same n (port_in to port index width) a b l k h =
      same_index s index (without to.at a) (without to.at b) (same_without s to.at a b h)
  before_same n (port_out from port index width) a b l k h =
      same_least s from.at width width (index_needed index a) (index_needed index b) refl (same_index s index a b h)
  before_same n (load_cell to cell) a b l k h = same_without s to.at a b h
  before_same n (store_cell cell from) a b l k h = same_least s from.at from.bytes from.bytes a b refl h
  before_same n (cell_port true to cell offset index width) a b l k h =
      same_index s index (without to.at a) (without to.at b) (same_without s to.at a b h)
  before_same n (cell_port false from cell offset index width) a b l k h =
      same_least s from.at width width (index_needed index a) (index_needed index b) refl (same_index s index a b h)

  result_same : (i : PlainIr) (a b : Need) → HasPlaces s i → AreSame s a b → result_wanted a i ≡ result_wanted b i
  result_same (constant t n) a b l h = same_wanted s t a b l h
  result_same (copy to from) a b l h = same_wanted s to a b l.0 h
  result_same (binary_op op ty mode to x xty y yty) a b l h = same_wanted s to a b l.0 h
  result_same (unary_op op ty mode to x) a b l h = same_wanted s to a b l.0 h
  result_same (conversion to ty mode x xty) a b l h = same_wanted s to a b l.0 h
  result_same (address t o offset) a b l h = same_wanted s t a b l h
  result_same (call_function f None) a b l h = refl
  result_same (call_function f (Some t)) a b l h = same_wanted s t a b l h
  result_same (port_in to port index width) a b l h = same_wanted s to a b l.0 h
  result_same (cell_port true to cell offset index width) a b l h = same_wanted s to a b l.0 h
  result_same (load_object t o offset) a b l h = refl
  result_same (store_object o offset t) a b l h = refl
  result_same (branch_zero t k) a b l h = same_wanted s t a b l h
  result_same (return_from from) a b l h = refl
  result_same (label k) a b l h = refl
  result_same (jump k) a b l h = refl
  result_same (field ptr space offset) a b l h = refl
  result_same (load_at to ptr space) a b l h = refl
  result_same (store_at ptr space from) a b l h = refl
  result_same (port_out from port index width) a b l h = refl
  result_same (load_cell to cell) a b l h = refl
  result_same (store_cell cell from) a b l h = refl
  result_same (cell_port false from cell offset index width) a b l h = refl

  behind_same : (i : PlainIr) (a b : Need) → HasPlaces s i → TellSame s here there i → AreSame s a b
      → wanted_behind here a i ≡ wanted_behind there b i
  behind_same (branch_zero t q) a b l k h =
      same_wanted s t (either a (here q)) (either b (there q)) l (same_either s a b (here q) (there q) h k)
  behind_same (store_at ptr space from) a b l k h = same_wanted s ptr a b l.0 h
  behind_same i a b l k h = result_same i a b l h

  -- ---- all operations

  -- an operation that takes less of its pointer has the same places, and the same label
  loaded_most : (space : SpaceId) (bytes : ℕ) → bytes ≤ 16 → loaded_bytes space in_flash bytes ≤ 16
  loaded_most Generic bytes l = by_flash in_flash
    where
      by_flash : (x : Bool) → loaded_bytes Generic x bytes ≤ 16
      by_flash true = l
      by_flash false = omega arith
  loaded_most Flash bytes l = l
  loaded_most FarFlash bytes l = l
  loaded_most Data bytes l = l

  narrowed_places : (i : PlainIr) → HasPlaces s i → HasPlaces s (narrowed i in_flash)
  narrowed_places (load_at to ptr space) h = (h.0, (h.1.0, loaded_most space ptr.bytes h.1.1))
  narrowed_places i h = h

  narrowed_tell : (i : PlainIr) → TellSame s here there i → TellSame s here there (narrowed i in_flash)
  narrowed_tell (load_at to ptr space) h = h
  narrowed_tell i h = h

  needs_same : (all code : List PlainIr) → HavePlaces s code → AllByRecursion (TellSame s here there) code
      → AreSame s (needs (facts_of in_flash here all) code) (needs (facts_of in_flash there all) code)
  needs_same all [] l k = λ place q. refl
  needs_same all (i ∷ code) l k =
      before_same (known_right all (i ∷ code)) (narrowed i in_flash) (needs (facts_of in_flash here all) code)
      (needs (facts_of in_flash there all) code)
      (narrowed_places i l.0) (narrowed_tell i k.0)
      (needs_same all code l.1 k.1)

  pub wanted_same : (all code : List PlainIr) → HavePlaces s code → AllByRecursion (TellSame s here there) code
      → wanted_bytes (facts_of in_flash here all) code ≡ wanted_bytes (facts_of in_flash there all) code
  wanted_same all [] l k = refl
  wanted_same all (i ∷ code) l k =
      λ j. behind_same i (needs (facts_of in_flash here all) code) (needs (facts_of in_flash there all) code) l.0 k.0
      (needs_same all code l.1 k.1) j
      ∷ wanted_same all code l.1 k.1 j

  row_same : (count place : ℕ) (a b : Need) → place + count ≤ s → AreSame s a b → row_from count place a ≡ row_from count place b
  row_same zero place a b l h = refl
  row_same (suc count) place a b l h =
      let here_is : place < s = omega (arith, l) in
      let more : suc place + count ≤ s = omega (arith, l) in
      λ j. h place here_is j ∷ row_same count (suc place) a b more h j

  row_kept : (i : PlainIr) (a b : Need) → HasPlaces s i → AreSame s a b → kept_row s a i ≡ kept_row s b i
  row_kept (call_function f to) a b l h =
      let few : 0 + register_places s ≤ s = omega arith in
      row_same (register_places s) 0 (without_result to a) (without_result to b) few (same_result s to a b h)
  row_kept (binary_op op ty mode to x xty z zty) a b l h = λ j. if moves_pointer op xty zty then h z.at l.2.0 j ∷ [] else []
  row_kept i a b l h = refl

  pub rows_same : (all code : List PlainIr) → HavePlaces s code → AllByRecursion (TellSame s here there) code
      → kept_rows s (facts_of in_flash here all) code ≡ kept_rows s (facts_of in_flash there all) code
  rows_same all [] l k = refl
  rows_same all (i ∷ code) l k =
      λ j. row_kept i (needs (facts_of in_flash here all) code) (needs (facts_of in_flash there all) code) l.0
      (needs_same all code l.1 k.1) j
      ∷ rows_same all code l.1 k.1 j
