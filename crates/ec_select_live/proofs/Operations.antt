-- What is needed before operations, of the first places.
use Rattle.std.proofs.Common.{◌≡◌, ℕ, zero, suc, ◌≤◌, List, [], ◌∷◌, Option, Some, None, Bool, true, false, ◌||◌, refl}
use Rattle.std.proofs.Common.{ap, ◌∙◌, arith}
use Rattle.std.specs.Prelude.{◌==◌, if◌then◌else◌, min, max}
use Rattle.std.proofs.lemmas.Bool.Decides.{nat_tests}
use Rattle.ec_space.specs.declared.space.SpaceId.{SpaceId}
use Rattle.ec_space.specs.declared.space.SpaceId.TheVariants.{Flash, FarFlash, Data, Generic}
use Rattle.ec_core.specs.declared.expressions.BinOp.{BinOp}
use Rattle.ec_core.specs.declared.expressions.BinOp.TheVariants.{Shl, Shr}
use Rattle.ec_ir.specs.declared.operations.Temp.{Temp}
use Rattle.ec_ir.specs.Operations.{PlainIr, constant, copy, address, field, load_at, store_at, load_object}
use Rattle.ec_ir.specs.Operations.{store_object, binary_op, unary_op, conversion, label, jump, branch_zero}
use Rattle.ec_ir.specs.Operations.{call_function, return_from, port_in, port_out, load_cell, store_cell, cell_port}
use Rattle.ec_select_operations.specs.Code.{result_wanted, wanted_behind}
use Rattle.ec_ir_known.specs.declared.known.RightNumber.{RightNumber}
use Rattle.ec_select_operations.specs.Needs.{Need, nothing, at_least, without, either, wanted, is_of_low_bytes}
use Rattle.ec_select_operations.specs.Needs.{all_or_none, is_fixed, is_whole, first_wanted, second_wanted, only_wanted}
use Rattle.ec_select_operations.specs.Needs.{family_of, is_apart}
use Rattle.ec_select_operations.specs.Needs.{index_needed, operand_wanted, right_wanted, returned_need, without_result}
use Rattle.ec_select_operations.specs.Needs.{number_taken, numbered, takes_whole, right_taken, compared_bytes, right_needed}
use Rattle.ec_select_operations.specs.Needs.{is_low_mask, is_number, masked_bytes, joined_bytes, before, facts_of, known_right, needs}
use Rattle.ec_select_operations.specs.Needs.{moves_pointer, moved_wanted, narrowed, loaded_bytes}
use Rattle.ec_select_live.specs.Least.{HasLabel}
use Rattle.ec_select_live.specs.Places.{HasPlace, MayHavePlace, HasPlaces, HavePlaces}
use Rattle.ec_select_live.specs.Tables.{AreSame, IsBounded, AreBounded}

-- ---- the same needs

pub same_without : (s at : ℕ) (a b : Need) → AreSame s a b → AreSame s (without at a) (without at b)
same_without s at a b h place l = ap (λ x. if place == at then 0 else x) (h place l)

pub same_least : (s at n m : ℕ) (a b : Need) → n ≡ m → AreSame s a b → AreSame s (at_least at n a) (at_least at m b)
same_least s at n m a b e h place l =
    ap (λ x. if place == at then max x n else x) (h place l)
    ∙ ap (λ k. if place == at then max (b place) k else b place) e

pub same_either : (s : ℕ) (a b c : Need) → AreSame s a b → AreSame s (either a c) (either b c)
same_either s a b c h place l = ap (λ x. max x (c place)) (h place l)

pub same_wanted : (s : ℕ) (t : Temp) (a b : Need) → HasPlace s t → AreSame s a b → wanted a t ≡ wanted b t
same_wanted s t a b l h = ap (λ x. min x t.bytes) (h t.at l.0)

same_value : (s : ℕ) (to from : Temp) (a b : Need) → HasPlace s to → AreSame s a b
    → AreSame s (at_least from.at (wanted a to) (without to.at a)) (at_least from.at (wanted b to) (without to.at b))
same_value s to from a b l h =
    same_least s from.at (wanted a to) (wanted b to) (without to.at a) (without to.at b) (same_wanted s to a b l h)
    (same_without s to.at a b h)

same_only : (s : ℕ) (whole : Bool) (to from : Temp) (a b : Need) → HasPlace s to → AreSame s a b
    → AreSame s (at_least from.at (only_wanted whole from.bytes (wanted a to)) (without to.at a))
    (at_least from.at (only_wanted whole from.bytes (wanted b to)) (without to.at b))
same_only s whole to from a b l h =
    same_least s from.at (only_wanted whole from.bytes (wanted a to)) (only_wanted whole from.bytes (wanted b to)) (without to.at a)
    (without to.at b) (ap (only_wanted whole from.bytes) (same_wanted s to a b l h)) (same_without s to.at a b h)

pub same_result : (s : ℕ) (to : Option Temp) (a b : Need) → AreSame s a b → AreSame s (without_result to a) (without_result to b)
same_result s None a b h = h
same_result s (Some t) a b h = same_without s t.at a b h

same_index : (s : ℕ) (index : Option Temp) (a b : Need) → AreSame s a b
    → AreSame s (index_needed index a) (index_needed index b)
same_index s None a b h = h
same_index s (Some t) a b h = same_least s t.at 1 1 a b refl h

same_right : (s : ℕ) (taken : Option RightNumber) (at n m : ℕ) (a b : Need) → n ≡ m → AreSame s a b
    → AreSame s (right_needed taken at n a) (right_needed taken at m b)
same_right s None at n m a b e h = same_least s at n m a b e h
same_right s (Some k) at n m a b e h = h

pub before_same : (s : ℕ) (at : ℕ → Need) (k : Option RightNumber) (i : PlainIr) (a b : Need) → HasPlaces s i → AreSame s a b
    → AreSame s (before at k i a) (before at k i b)
before_same s at k (constant t n) a b l h = same_without s t.at a b h
before_same s at k (copy to from) a b l h = same_value s to from a b l.0 h
before_same s at k (load_object t o offset) a b l h = same_without s t.at a b h
before_same s at k (store_object o offset t) a b l h = same_right s (numbered k) t.at t.bytes t.bytes a b refl h
before_same s at k (binary_op op ty mode to x xty y yty) a b l h =
    let w = is_apart (family_of op) mode ty xty yty in
    let taken = number_taken k w op in
    let right = right_taken k (takes_whole op mode ty xty yty to y) w op in
    let first =
    λ (n : ℕ). moved_wanted (moves_pointer op xty yty) n (first_wanted w op (compared_bytes taken x.bytes) (masked_bytes taken op n)) in
    let second =
    λ (n : ℕ). moved_wanted (moves_pointer op yty xty) n (second_wanted w op (compared_bytes taken y.bytes) (joined_bytes taken n)) in
    same_least s x.at (first (wanted a to)) (first (wanted b to))
    (right_needed right y.at (second (wanted a to)) (without to.at a))
    (right_needed right y.at (second (wanted b to)) (without to.at b))
    (ap first (same_wanted s to a b l.0 h))
    (same_right s right y.at (second (wanted a to)) (second (wanted b to)) (without to.at a)
    (without to.at b) (ap second (same_wanted s to a b l.0 h)) (same_without s to.at a b h))
before_same s at k (unary_op op ty mode to x) a b l h = same_only s (is_whole ty) to x a b l.0 h
before_same s at k (conversion to ty mode x xty) a b l h = same_only s (is_fixed ty || is_fixed xty) to x a b l.0 h
before_same s at k (branch_zero t j) a b l h =
    same_least s t.at (compared_bytes k t.bytes) (compared_bytes k t.bytes) (either a (at j)) (either b (at j)) refl
    (same_either s a b (at j) h)
before_same s at k (return_from from) a b l h = λ place q. refl
before_same s at k (label j) a b l h = λ place q. refl
before_same s at k (jump j) a b l h = λ place q. refl
before_same s at k (address t o offset) a b l h = same_without s t.at a b h
before_same s at k (field ptr space offset) a b l h = same_least s ptr.at 2 2 a b refl h
before_same s at k (load_at to ptr space) a b l h =
    same_least s ptr.at ptr.bytes ptr.bytes (without to.at a) (without to.at b) refl (same_without s to.at a b h)
before_same s at k (store_at ptr space from) a b l h =
    same_least s from.at from.bytes from.bytes (at_least ptr.at 2 a) (at_least ptr.at 2 b) refl
    (same_least s ptr.at 2 2 a b refl h)
before_same s at k (call_function f to) a b l h = same_result s to a b h
before_same s at k (port_in to port index width) a b l h = same_index s index (without to.at a) (without to.at b)
    (same_without s to.at a b h)
before_same s at k (port_out from port index width) a b l h =
    same_least s from.at width width (index_needed index a) (index_needed index b) refl (same_index s index a b h)
before_same s at k (load_cell to cell) a b l h = same_without s to.at a b h
before_same s at k (store_cell cell from) a b l h = same_least s from.at from.bytes from.bytes a b refl h
before_same s at k (cell_port true to cell offset index width) a b l h =
    same_index s index (without to.at a) (without to.at b) (same_without s to.at a b h)
before_same s at k (cell_port false from cell offset index width) a b l h =
    same_least s from.at width width (index_needed index a) (index_needed index b) refl (same_index s index a b h)

pub result_same : (s : ℕ) (i : PlainIr) (a b : Need) → HasPlaces s i → AreSame s a b
    → result_wanted a i ≡ result_wanted b i
result_same s (constant t n) a b l h = same_wanted s t a b l h
result_same s (copy to from) a b l h = same_wanted s to a b l.0 h
result_same s (binary_op op ty mode to x xty y yty) a b l h = same_wanted s to a b l.0 h
result_same s (unary_op op ty mode to x) a b l h = same_wanted s to a b l.0 h
result_same s (conversion to ty mode x xty) a b l h = same_wanted s to a b l.0 h
result_same s (load_object t o offset) a b l h = refl
result_same s (store_object o offset t) a b l h = refl
result_same s (branch_zero t k) a b l h = same_wanted s t a b l h
result_same s (return_from from) a b l h = refl
result_same s (label k) a b l h = refl
result_same s (jump k) a b l h = refl
result_same s (address t o offset) a b l h = same_wanted s t a b l h
result_same s (field ptr space offset) a b l h = refl
result_same s (load_at to ptr space) a b l h = refl
result_same s (store_at ptr space from) a b l h = refl
result_same s (call_function f None) a b l h = refl
result_same s (call_function f (Some t)) a b l h = same_wanted s t a b l h
result_same s (port_in to port index width) a b l h = same_wanted s to a b l.0 h
result_same s (port_out from port index width) a b l h = refl
result_same s (load_cell to cell) a b l h = refl
result_same s (store_cell cell from) a b l h = refl
result_same s (cell_port true to cell offset index width) a b l h = same_wanted s to a b l.0 h
result_same s (cell_port false from cell offset index width) a b l h = refl

pub behind_same : (s : ℕ) (at : ℕ → Need) (i : PlainIr) (a b : Need) → HasPlaces s i → AreSame s a b
    → wanted_behind at a i ≡ wanted_behind at b i
behind_same s at (branch_zero t k) a b l h = same_wanted s t (either a (at k)) (either b (at k)) l (same_either s a b (at k) h)
behind_same s at (store_at ptr space from) a b l h = same_wanted s ptr a b l.0 h
behind_same s at i a b l h = result_same s i a b l h

-- ---- no more bytes than a place has

bounded_without : (at : ℕ) (a : Need) → IsBounded a → IsBounded (without at a)
bounded_without at a h place = let x = h place in grind (arith, nat_tests)

bounded_least : (at n : ℕ) (a : Need) → n ≤ 16 → IsBounded a → IsBounded (at_least at n a)
bounded_least at n a l h place = let x = h place in grind (arith, nat_tests)

bounded_either : (a b : Need) → IsBounded a → IsBounded b → IsBounded (either a b)
bounded_either a b h k place = let x = h place in let y = k place in omega arith

wanted_most : (a : Need) (t : Temp) → t.bytes ≤ 16 → wanted a t ≤ 16
wanted_most a t l = omega arith

all_most : (bytes n : ℕ) → bytes ≤ 16 → all_or_none bytes n ≤ 16
all_most bytes zero l = omega arith
all_most bytes (suc n) l = l

operand_most : (op : BinOp) (bytes n : ℕ) → bytes ≤ 16 → n ≤ 16 → operand_wanted op bytes n ≤ 16
operand_most op bytes n l k =
    elim (is_of_low_bytes op) as (λ x. (if x then n else all_or_none bytes n) ≤ 16)
    [ true ↦ k | false ↦ all_most bytes n l ]

right_most : (op : BinOp) (bytes n : ℕ) → bytes ≤ 16 → n ≤ 16 → right_wanted op bytes n ≤ 16
right_most Shl bytes n l k = all_most 1 n (omega arith)
right_most Shr bytes n l k = all_most 1 n (omega arith)
right_most op bytes n l k = operand_most op bytes n l k

first_most : (whole : Bool) (op : BinOp) (bytes n : ℕ) → bytes ≤ 16 → n ≤ 16 → first_wanted whole op bytes n ≤ 16
first_most true op bytes n l k = all_most bytes n l
first_most false op bytes n l k = operand_most op bytes n l k

second_most : (whole : Bool) (op : BinOp) (bytes n : ℕ) → bytes ≤ 16 → n ≤ 16 → second_wanted whole op bytes n ≤ 16
second_most true op bytes n l k = all_most bytes n l
second_most false op bytes n l k = right_most op bytes n l k

moved_most : (moved : Bool) (n others : ℕ) → n ≤ 16 → others ≤ 16 → moved_wanted moved n others ≤ 16
moved_most true zero others l k = omega arith
moved_most true (suc n) others l k = omega (arith, l)
moved_most false n others l k = k

only_most : (whole : Bool) (bytes n : ℕ) → bytes ≤ 16 → n ≤ 16 → only_wanted whole bytes n ≤ 16
only_most true bytes n l k = all_most bytes n l
only_most false bytes n l k = k

bounded_only : (whole : Bool) (to from : Temp) (a : Need) → to.bytes ≤ 16 → from.bytes ≤ 16 → IsBounded a
    → IsBounded (at_least from.at (only_wanted whole from.bytes (wanted a to)) (without to.at a))
bounded_only whole to from a l k h =
    bounded_least from.at (only_wanted whole from.bytes (wanted a to)) (without to.at a)
    (only_most whole from.bytes (wanted a to) k (wanted_most a to l)) (bounded_without to.at a h)

bounded_value : (to from : Temp) (a : Need) → to.bytes ≤ 16 → IsBounded a
    → IsBounded (at_least from.at (wanted a to) (without to.at a))
bounded_value to from a l h =
    bounded_least from.at (wanted a to) (without to.at a) (wanted_most a to l) (bounded_without to.at a h)

bounded_index : (index : Option Temp) (a : Need) → IsBounded a → IsBounded (index_needed index a)
bounded_index None a h = h
bounded_index (Some t) a h = bounded_least t.at 1 a (omega arith) h

bounded_nothing : IsBounded nothing
bounded_nothing place = omega arith

bounded_returned : (s : ℕ) (from : Option Temp) → MayHavePlace s from → IsBounded (returned_need from)
bounded_returned s None l = bounded_nothing
bounded_returned s (Some t) l = bounded_least t.at t.bytes nothing l.1 bounded_nothing

compared_most : (taken : Option RightNumber) (bytes : ℕ) → bytes ≤ 16 → compared_bytes taken bytes ≤ 16
compared_most None bytes l = l
compared_most (Some k) bytes l = by_test k.in_byte
  where
    by_test : (x : Bool) → (if x then min 1 bytes else bytes) ≤ 16
    by_test true = omega arith
    by_test false = l

masked_most : (taken : Option RightNumber) (op : BinOp) (n : ℕ) → n ≤ 16 → masked_bytes taken op n ≤ 16
masked_most None op n l = l
masked_most (Some k) op n l = by_test (is_low_mask k.number op)
  where
    by_test : (x : Bool) → (if x then min n 1 else n) ≤ 16
    by_test true = omega (arith, l)
    by_test false = l

joined_most : (taken : Option RightNumber) (n : ℕ) → n ≤ 16 → joined_bytes taken n ≤ 16
joined_most None n l = l
joined_most (Some k) n l = by_test (is_number k.number || k.in_byte)
  where
    by_test : (x : Bool) → (if x then n else min n 1) ≤ 16
    by_test true = l
    by_test false = omega (arith, l)

bounded_right : (taken : Option RightNumber) (at n : ℕ) (a : Need) → n ≤ 16 → IsBounded a → IsBounded (right_needed taken at n a)
bounded_right None at n a l h = bounded_least at n a l h
bounded_right (Some k) at n a l h = h

pub before_bounded : (s : ℕ) (at : ℕ → Need) (n : Option RightNumber) (i : PlainIr) (a : Need) → HasPlaces s i → AreBounded at
    → IsBounded a → IsBounded (before at n i a)
before_bounded s at n (constant t x) a l k h = bounded_without t.at a h
before_bounded s at n (copy to from) a l k h = bounded_value to from a l.0.1 h
before_bounded s at n (load_object t o offset) a l k h = bounded_without t.at a h
before_bounded s at n (store_object o offset t) a l k h = bounded_right (numbered n) t.at t.bytes a l.1 h
before_bounded s at n (binary_op op ty mode to x xty y yty) a l k h =
    let w = is_apart (family_of op) mode ty xty yty in
    let taken = number_taken n w op in
    let right = right_taken n (takes_whole op mode ty xty yty to y) w op in
    let moved = moves_pointer op xty yty in
    let turned = moves_pointer op yty xty in
    let first = first_wanted w op (compared_bytes taken x.bytes) (masked_bytes taken op (wanted a to)) in
    let second = second_wanted w op (compared_bytes taken y.bytes) (joined_bytes taken (wanted a to)) in
    bounded_least x.at (moved_wanted moved (wanted a to) first)
    (right_needed right y.at (moved_wanted turned (wanted a to) second) (without to.at a))
    (moved_most moved (wanted a to) first (wanted_most a to l.0.1)
    (first_most w op (compared_bytes taken x.bytes) (masked_bytes taken op (wanted a to)) (compared_most taken x.bytes l.1.1)
    (masked_most taken op (wanted a to) (wanted_most a to l.0.1))))
    (bounded_right right y.at (moved_wanted turned (wanted a to) second) (without to.at a)
    (moved_most turned (wanted a to) second (wanted_most a to l.0.1)
    (second_most w op (compared_bytes taken y.bytes) (joined_bytes taken (wanted a to)) (compared_most taken y.bytes l.2.1)
    (joined_most taken (wanted a to) (wanted_most a to l.0.1))))
    (bounded_without to.at a h))
before_bounded s at n (unary_op op ty mode to x) a l k h = bounded_only (is_whole ty) to x a l.0.1 l.1.1 h
before_bounded s at n (conversion to ty mode x xty) a l k h = bounded_only (is_fixed ty || is_fixed xty) to x a l.0.1 l.1.1 h
before_bounded s at n (branch_zero t q) a l k h =
    bounded_least t.at (compared_bytes n t.bytes) (either a (at q)) (compared_most n t.bytes l.1) (bounded_either a (at q) h (k q))
before_bounded s at n (return_from from) a l k h = bounded_returned s from l
before_bounded s at n (label q) a l k h = k q
before_bounded s at n (jump q) a l k h = k q
before_bounded s at n (address t o offset) a l k h = bounded_without t.at a h
before_bounded s at n (field ptr space offset) a l k h = bounded_least ptr.at 2 a (omega arith) h
before_bounded s at n (load_at to ptr space) a l k h =
    bounded_least ptr.at ptr.bytes (without to.at a) l.1.1 (bounded_without to.at a h)
before_bounded s at n (store_at ptr space from) a l k h =
    bounded_least from.at from.bytes (at_least ptr.at 2 a) l.1.1 (bounded_least ptr.at 2 a (omega arith) h)
before_bounded s at n (call_function f None) a l k h = h
before_bounded s at n (call_function f (Some t)) a l k h = bounded_without t.at a h
before_bounded s at n (port_in to port index width) a l k h = bounded_index index (without to.at a) (bounded_without to.at a h)
before_bounded s at n (port_out from port index width) a l k h =
    bounded_least from.at width (index_needed index a) l.2 (bounded_index index a h)
before_bounded s at n (load_cell to cell) a l k h = bounded_without to.at a h
before_bounded s at n (store_cell cell from) a l k h = bounded_least from.at from.bytes a l.1 h
before_bounded s at n (cell_port true to cell offset index width) a l k h =
    bounded_index index (without to.at a) (bounded_without to.at a h)
before_bounded s at n (cell_port false from cell offset index width) a l k h =
    bounded_least from.at width (index_needed index a) l.2 (bounded_index index a h)

-- an operation that takes less of its pointer has the same places, and the same label
loaded_most : (space : SpaceId) (in_flash : Bool) (bytes : ℕ) → bytes ≤ 16 → loaded_bytes space in_flash bytes ≤ 16
loaded_most Generic false bytes l = omega arith
loaded_most Generic true bytes l = l
loaded_most Flash in_flash bytes l = l
loaded_most FarFlash in_flash bytes l = l
loaded_most Data in_flash bytes l = l

pub narrowed_places : (s : ℕ) (in_flash : Bool) (i : PlainIr) → HasPlaces s i → HasPlaces s (narrowed i in_flash)
narrowed_places s in_flash (load_at to ptr space) h = (h.0, (h.1.0, loaded_most space in_flash ptr.bytes h.1.1))
narrowed_places s in_flash i h = h

pub narrowed_label : (n : ℕ) (in_flash : Bool) (i : PlainIr) → HasLabel n i → HasLabel n (narrowed i in_flash)
narrowed_label n in_flash (load_at to ptr space) h = h
narrowed_label n in_flash i h = h

pub needs_bounded : (s : ℕ) (in_flash : Bool) (at : ℕ → Need) (all code : List PlainIr) → HavePlaces s code → AreBounded at
    → IsBounded (needs (facts_of in_flash at all) code)
needs_bounded s in_flash at all [] l k = bounded_nothing
needs_bounded s in_flash at all (i ∷ code) l k =
    before_bounded s at (known_right all (i ∷ code)) (narrowed i in_flash) (needs (facts_of in_flash at all) code)
    (narrowed_places s in_flash i l.0) k (needs_bounded s in_flash at all code l.1 k)
