-- What needs no more than any table that tells all.
use Rattle.std.proofs.Common.{Option, Some, None, ◌≡◌, ℕ, zero, suc, ◌<◌, ◌≤◌, List, [], ◌∷◌, Bool, true, false}
use Rattle.std.proofs.Common.{refl, sym, ap, ◌∙◌, subst, arith, drop, replicate, max, ◌+◌, ⊎_elim}
use Rattle.std.specs.Prelude.{◌==◌, ◌||◌, if◌then◌else◌, min}
use Rattle.std.proofs.lemmas.Bool.{cases_eq, ne_eqb}
use Rattle.std.proofs.lemmas.Bool.Decides.{nat_tests}
use Rattle.ec_core.specs.declared.expressions.BinOp.{BinOp}
use Rattle.ec_core.specs.declared.expressions.BinOp.TheVariants.{Shl, Shr}
use Rattle.ec_ir.specs.declared.operations.Temp.{Temp}
use Rattle.ec_ir.specs.Operations.{PlainIr, constant, copy, address, field, load_at, store_at, load_object}
use Rattle.ec_ir.specs.Operations.{store_object, binary_op, unary_op, conversion, label, jump, branch_zero}
use Rattle.ec_ir.specs.Operations.{call_function, return_from, port_in, port_out, load_cell, store_cell, cell_port}
use Rattle.ec_ir.specs.Valid.{count}
use Rattle.ec_ir_known.specs.declared.known.RightNumber.{RightNumber}
use Rattle.ec_select_operations.specs.Needs.{Need, at_least, without, either, wanted, is_of_low_bytes}
use Rattle.ec_select_operations.specs.Needs.{is_fixed, is_whole, first_wanted, second_wanted, only_wanted, family_of}
use Rattle.ec_select_operations.specs.Needs.{is_apart}
use Rattle.ec_select_operations.specs.Needs.{index_needed, all_or_none, operand_wanted, right_wanted, returned_need}
use Rattle.ec_select_operations.specs.Needs.{number_taken, numbered, takes_whole, right_taken, right_needed, before, Facts}
use Rattle.ec_select_operations.specs.Needs.{is_low_mask, is_number, masked_bytes, joined_bytes, moves_pointer}
use Rattle.ec_select_operations.specs.Needs.{pointer_wanted, moved_wanted}
use Rattle.ec_select_operations.specs.Needs.{narrowed}
use Rattle.ec_select_operations.specs.Needs.{compared_bytes, facts_of, known_right, needs}
use Rattle.ec_select_operations.specs.Needs.{IsLiveBy, IsLive}
use Rattle.ec_select_live.specs.Least.{HasLabel, HaveLabels, IsLeast}
use Rattle.ec_select_live.specs.Places.{HasPlace, HasPlaces}
use Rattle.ec_select_live.specs.Tables.{need_of, needs_of, AreSame, IsJoined, NeedsNoMore, TellNoMore}
use Rattle.ec_select_live.proofs.Operations.{narrowed_places, narrowed_label}

-- ---- operations

more_without : (s at : ℕ) (a b : Need) → NeedsNoMore s a b → NeedsNoMore s (without at a) (without at b)
more_without s at a b h place l = let x = h place l in grind (arith, nat_tests)

more_least : (s at n m : ℕ) (a b : Need) → n ≤ m → NeedsNoMore s a b
    → NeedsNoMore s (at_least at n a) (at_least at m b)
more_least s at n m a b e h place l = let x = h place l in grind (arith, nat_tests)

more_either : (s : ℕ) (a b c d : Need) → NeedsNoMore s a b → NeedsNoMore s c d
    → NeedsNoMore s (either a c) (either b d)
more_either s a b c d h k place l = let x = h place l in let y = k place l in omega arith

more_wanted : (s : ℕ) (t : Temp) (a b : Need) → HasPlace s t → NeedsNoMore s a b → wanted a t ≤ wanted b t
more_wanted s t a b l h = let x = h t.at l.0 in omega arith

more_all : (bytes n m : ℕ) → n ≤ m → all_or_none bytes n ≤ all_or_none bytes m
more_all bytes zero m l = omega arith
more_all bytes (suc n) zero l = absurd (omega arith)
more_all bytes (suc n) (suc m) l = omega arith

more_operand : (op : BinOp) (bytes n m : ℕ) → n ≤ m → operand_wanted op bytes n ≤ operand_wanted op bytes m
more_operand op bytes n m l =
    elim (is_of_low_bytes op) as (λ x. (if x then n else all_or_none bytes n) ≤ (if x then m else all_or_none bytes m))
    [ true ↦ l | false ↦ more_all bytes n m l ]

more_right : (op : BinOp) (bytes n m : ℕ) → n ≤ m → right_wanted op bytes n ≤ right_wanted op bytes m
more_right Shl bytes n m l = more_all 1 n m l
more_right Shr bytes n m l = more_all 1 n m l
more_right op bytes n m l = more_operand op bytes n m l

more_first : (whole : Bool) (op : BinOp) (bytes n m : ℕ) → n ≤ m → first_wanted whole op bytes n ≤ first_wanted whole op bytes m
more_first true op bytes n m l = more_all bytes n m l
more_first false op bytes n m l = more_operand op bytes n m l

more_second : (whole : Bool) (op : BinOp) (bytes n m : ℕ) → n ≤ m → second_wanted whole op bytes n ≤ second_wanted whole op bytes m
more_second true op bytes n m l = more_all bytes n m l
more_second false op bytes n m l = more_right op bytes n m l

more_pointer : (n m : ℕ) → n ≤ m → pointer_wanted n ≤ pointer_wanted m
more_pointer zero m l = omega arith
more_pointer (suc n) zero l = absurd (omega arith)
more_pointer (suc n) (suc m) l = omega (arith, l)

more_moved : (moved : Bool) (n m i j : ℕ) → n ≤ m → i ≤ j → moved_wanted moved n i ≤ moved_wanted moved m j
more_moved true n m i j l k = more_pointer n m l
more_moved false n m i j l k = k

more_only : (whole : Bool) (bytes n m : ℕ) → n ≤ m → only_wanted whole bytes n ≤ only_wanted whole bytes m
more_only true bytes n m l = more_all bytes n m l
more_only false bytes n m l = l

more_alone : (s : ℕ) (whole : Bool) (to from : Temp) (a b : Need) → HasPlace s to → NeedsNoMore s a b
    → NeedsNoMore s (at_least from.at (only_wanted whole from.bytes (wanted a to)) (without to.at a))
    (at_least from.at (only_wanted whole from.bytes (wanted b to)) (without to.at b))
more_alone s whole to from a b l h =
    more_least s from.at (only_wanted whole from.bytes (wanted a to)) (only_wanted whole from.bytes (wanted b to)) (without to.at a)
    (without to.at b) (more_only whole from.bytes (wanted a to) (wanted b to) (more_wanted s to a b l h)) (more_without s to.at a b h)

more_value : (s : ℕ) (to from : Temp) (a b : Need) → HasPlace s to → NeedsNoMore s a b
    → NeedsNoMore s (at_least from.at (wanted a to) (without to.at a)) (at_least from.at (wanted b to) (without to.at b))
more_value s to from a b l h =
    more_least s from.at (wanted a to) (wanted b to) (without to.at a) (without to.at b) (more_wanted s to a b l h)
    (more_without s to.at a b h)

more_index : (s : ℕ) (index : Option Temp) (a b : Need) → NeedsNoMore s a b
    → NeedsNoMore s (index_needed index a) (index_needed index b)
more_index s None a b h = h
more_index s (Some t) a b h = more_least s t.at 1 1 a b (omega arith) h

same_needs : (s : ℕ) (a : Need) → NeedsNoMore s a a
same_needs s a place l = omega arith

more_masked : (taken : Option RightNumber) (op : BinOp) (n m : ℕ) → n ≤ m → masked_bytes taken op n ≤ masked_bytes taken op m
more_masked None op n m l = l
more_masked (Some k) op n m l = by_test (is_low_mask k.number op)
  where
    by_test : (x : Bool) → (if x then min n 1 else n) ≤ (if x then min m 1 else m)
    by_test true = omega (arith, l)
    by_test false = l

more_joined : (taken : Option RightNumber) (n m : ℕ) → n ≤ m → joined_bytes taken n ≤ joined_bytes taken m
more_joined None n m l = l
more_joined (Some k) n m l = by_test (is_number k.number || k.in_byte)
  where
    by_test : (x : Bool) → (if x then n else min n 1) ≤ (if x then m else min m 1)
    by_test true = l
    by_test false = omega (arith, l)

more_second_needed : (s : ℕ) (taken : Option RightNumber) (at n m : ℕ) (a b : Need) → n ≤ m → NeedsNoMore s a b
    → NeedsNoMore s (right_needed taken at n a) (right_needed taken at m b)
more_second_needed s None at n m a b e h = more_least s at n m a b e h
more_second_needed s (Some k) at n m a b e h = h

pub before_more : (n s : ℕ) (at other : ℕ → Need) (known : Option RightNumber) (i : PlainIr) (a b : Need) → HasPlaces s i → HasLabel n i
    → TellNoMore n s at other → NeedsNoMore s a b → NeedsNoMore s (before at known i a) (before other known i b)
before_more n s at other known (constant t x) a b l k q h = more_without s t.at a b h
before_more n s at other known (copy to from) a b l k q h = more_value s to from a b l.0 h
before_more n s at other known (load_object t o offset) a b l k q h = more_without s t.at a b h
before_more n s at other known (store_object o offset t) a b l k q h =
    more_second_needed s (numbered known) t.at t.bytes t.bytes a b (omega arith) h
before_more n s at other known (binary_op op ty mode to x xty y yty) a b l k q h =
    let w = is_apart (family_of op) mode ty xty yty in
    let taken = number_taken known w op in
    let right = right_taken known (takes_whole op mode ty xty yty to y) w op in
    let first = λ (n : ℕ). first_wanted w op (compared_bytes taken x.bytes) (masked_bytes taken op n) in
    let second = λ (n : ℕ). second_wanted w op (compared_bytes taken y.bytes) (joined_bytes taken n) in
    let moved = moves_pointer op xty yty in
    let turned = moves_pointer op yty xty in
    let more = more_wanted s to a b l.0 h in
    more_least s x.at (moved_wanted moved (wanted a to) (first (wanted a to))) (moved_wanted moved (wanted b to) (first (wanted b to)))
    (right_needed right y.at (moved_wanted turned (wanted a to) (second (wanted a to))) (without to.at a))
    (right_needed right y.at (moved_wanted turned (wanted b to) (second (wanted b to))) (without to.at b))
    (more_moved moved (wanted a to) (wanted b to) (first (wanted a to)) (first (wanted b to)) more
    (more_first w op (compared_bytes taken x.bytes) (masked_bytes taken op (wanted a to)) (masked_bytes taken op (wanted b to))
    (more_masked taken op (wanted a to) (wanted b to) more)))
    (more_second_needed s right y.at (moved_wanted turned (wanted a to) (second (wanted a to)))
    (moved_wanted turned (wanted b to) (second (wanted b to))) (without to.at a) (without to.at b)
    (more_moved turned (wanted a to) (wanted b to) (second (wanted a to)) (second (wanted b to)) more
    (more_second w op (compared_bytes taken y.bytes) (joined_bytes taken (wanted a to)) (joined_bytes taken (wanted b to))
    (more_joined taken (wanted a to) (wanted b to) more))) (more_without s to.at a b h))
before_more n s at other known (unary_op op ty mode to x) a b l k q h = more_alone s (is_whole ty) to x a b l.0 h
before_more n s at other known (conversion to ty mode x xty) a b l k q h = more_alone s (is_fixed ty || is_fixed xty) to x a b l.0 h
before_more n s at other known (branch_zero t j) a b l k q h =
    more_least s t.at (compared_bytes known t.bytes) (compared_bytes known t.bytes) (either a (at j)) (either b (other j)) (omega arith)
    (more_either s a b (at j) (other j) h (q j k))
before_more n s at other known (return_from from) a b l k q h = same_needs s (returned_need from)
before_more n s at other known (label j) a b l k q h = q j k
before_more n s at other known (jump j) a b l k q h = q j k
before_more n s at other known (address t o offset) a b l k q h = more_without s t.at a b h
before_more n s at other known (field ptr space offset) a b l k q h = more_least s ptr.at 2 2 a b (omega arith) h
before_more n s at other known (load_at to ptr space) a b l k q h =
    more_least s ptr.at ptr.bytes ptr.bytes (without to.at a) (without to.at b) (omega arith) (more_without s to.at a b h)
before_more n s at other known (store_at ptr space from) a b l k q h =
    more_least s from.at from.bytes from.bytes (at_least ptr.at 2 a) (at_least ptr.at 2 b) (omega arith)
    (more_least s ptr.at 2 2 a b (omega arith) h)
before_more n s at other known (call_function f None) a b l k q h = h
before_more n s at other known (call_function f (Some t)) a b l k q h = more_without s t.at a b h
before_more n s at other known (port_in to port index width) a b l k q h =
    more_index s index (without to.at a) (without to.at b) (more_without s to.at a b h)
before_more n s at other known (port_out from port index width) a b l k q h =
    more_least s from.at width width (index_needed index a) (index_needed index b) (omega arith) (more_index s index a b h)
before_more n s at other known (load_cell to cell) a b l k q h = more_without s to.at a b h
before_more n s at other known (store_cell cell from) a b l k q h =
    more_least s from.at from.bytes from.bytes a b (omega arith) h
before_more n s at other known (cell_port true to cell offset index width) a b l k q h =
    more_index s index (without to.at a) (without to.at b) (more_without s to.at a b h)
before_more n s at other known (cell_port false from cell offset index width) a b l k q h =
    more_least s from.at width width (index_needed index a) (index_needed index b) (omega arith) (more_index s index a b h)

-- ---- tables that tell all

live_rest : (at : Facts) (i : PlainIr) (code : List PlainIr) → IsLiveBy at (i ∷ code) → IsLiveBy at code
live_rest at (label l) code h = h.1
live_rest at (constant t n) code h = h
live_rest at (copy to from) code h = h
live_rest at (address t o offset) code h = h
live_rest at (field ptr space offset) code h = h
live_rest at (load_at to ptr space) code h = h
live_rest at (store_at ptr space from) code h = h
live_rest at (load_object t o offset) code h = h
live_rest at (store_object o offset t) code h = h
live_rest at (binary_op op ty mode to a aty b bty) code h = h
live_rest at (unary_op op ty mode to a) code h = h
live_rest at (conversion to ty mode a aty) code h = h
live_rest at (jump l) code h = h
live_rest at (branch_zero t l) code h = h
live_rest at (call_function f to) code h = h
live_rest at (return_from from) code h = h
live_rest at (port_in to port index width) code h = h
live_rest at (port_out from port index width) code h = h
live_rest at (load_cell to cell) code h = h
live_rest at (store_cell cell from) code h = h
live_rest at (cell_port read t cell offset index width) code h = h

pub live_drop : (at : Facts) (n : ℕ) (code : List PlainIr) → IsLiveBy at code → IsLiveBy at (drop n code)
live_drop at zero code h = h
live_drop at (suc n) [] h = h
live_drop at (suc n) (i ∷ code) h = live_drop at n code (live_rest at i code h)

pub labels_drop : (labels n : ℕ) (code : List PlainIr) → HaveLabels labels code → HaveLabels labels (drop n code)
labels_drop labels zero code h = h
labels_drop labels (suc n) [] h = h
labels_drop labels (suc n) (i ∷ code) h = labels_drop labels n code h.1

pub live_joined : (s : ℕ) (at : Facts) (i : PlainIr) (code : List PlainIr) (need : Need) → IsLiveBy at (i ∷ code)
    → NeedsNoMore s need (needs at code) → IsJoined s at.needed i need
live_joined s at (label l) code need h k = λ place q. (let x = k place q in let y = h.0 place in omega arith)
live_joined s at (constant t n) code need h k = tt
live_joined s at (copy to from) code need h k = tt
live_joined s at (address t o offset) code need h k = tt
live_joined s at (field ptr space offset) code need h k = tt
live_joined s at (load_at to ptr space) code need h k = tt
live_joined s at (store_at ptr space from) code need h k = tt
live_joined s at (load_object t o offset) code need h k = tt
live_joined s at (store_object o offset t) code need h k = tt
live_joined s at (binary_op op ty mode to a aty b bty) code need h k = tt
live_joined s at (unary_op op ty mode to a) code need h k = tt
live_joined s at (conversion to ty mode a aty) code need h k = tt
live_joined s at (jump l) code need h k = tt
live_joined s at (branch_zero t l) code need h k = tt
live_joined s at (call_function f to) code need h k = tt
live_joined s at (return_from from) code need h k = tt
live_joined s at (port_in to port index width) code need h k = tt
live_joined s at (port_out from port index width) code need h k = tt
live_joined s at (load_cell to cell) code need h k = tt
live_joined s at (store_cell cell from) code need h k = tt
live_joined s at (cell_port read t cell offset index width) code need h k = tt

-- ---- one operation

-- a table and a row need no more than any table that tells all of the code, where the table t0 needed no more
pub record NoMore (s : ℕ) (in_flash : Bool) (code : List PlainIr) (t0 t : List (List ℕ)) (need : List ℕ)
    (rest : List PlainIr) : Type 0 where
  pub at_labels : (labels : ℕ) (other : ℕ → Need) → HaveLabels labels code → IsLive in_flash other code
      → TellNoMore labels s (needs_of t0) other → TellNoMore labels s (needs_of t) other
  pub here : (labels : ℕ) (other : ℕ → Need) → HaveLabels labels code → IsLive in_flash other code
      → TellNoMore labels s (needs_of t0) other → NeedsNoMore s (need_of need) (needs (facts_of in_flash other code) rest)

pub no_more : (s : ℕ) (in_flash : Bool) (code : List PlainIr) (t0 t t1 : List (List ℕ)) (need need1 : List ℕ) (rest : List PlainIr)
    (n : Option RightNumber) (i : PlainIr) (k : ℕ) → n ≡ known_right code (i ∷ rest) → HasPlaces s i → drop k code ≡ i ∷ rest
    → NoMore s in_flash code t0 t need rest
    → ((labels : ℕ) (other : ℕ → Need) → TellNoMore labels s (needs_of t) other → IsJoined s other i (need_of need)
    → TellNoMore labels s (needs_of t1) other)
    → AreSame s (need_of need1) (before (needs_of t1) n (narrowed i in_flash) (need_of need))
    → NoMore s in_flash code t0 t1 need1 (drop k code)
no_more s in_flash code t0 t t1 need need1 rest n i k number p is z j b =
    let tells : (labels : ℕ) (other : ℕ → Need) → HaveLabels labels code → IsLive in_flash other code
    → TellNoMore labels s (needs_of t0) other → TellNoMore labels s (needs_of t1) other =
    λ labels other h live q.
    j labels other (z.at_labels labels other h live q)
    (live_joined s (facts_of in_flash other code) i rest (need_of need)
    (subst (λ (x : List PlainIr). IsLiveBy (facts_of in_flash other code) x) is (live_drop (facts_of in_flash other code) k code live))
    (z.here labels other h live q)) in
    record {
      at_labels = tells;
      here = λ labels other h live q.
          let l : HaveLabels labels (i ∷ rest) = subst (λ (x : List PlainIr). HaveLabels labels x) is (labels_drop labels k code h) in
          subst (λ (x : List PlainIr). NeedsNoMore s (need_of need1) (needs (facts_of in_flash other code) x)) (sym is)
          (λ place m.
          let x = b place m in
          let y = before_more labels s (needs_of t1) other n (narrowed i in_flash) (need_of need)
          (needs (facts_of in_flash other code) rest)
          (narrowed_places s in_flash i p) (narrowed_label labels in_flash i l.0)
          (tells labels other h live q) (z.here labels other h live q) place m in
          let w = ap (λ (v : Option RightNumber). before other v (narrowed i in_flash) (needs (facts_of in_flash other code) rest) place)
          number in
          omega (arith, x, y, w));
    }

-- ---- the first table, and labels that stand

row_nothing : (n place : ℕ) → place < n → need_of (replicate n 0) place ≡ 0
row_nothing zero place h = absurd (omega arith)
row_nothing (suc n) zero h = refl
row_nothing (suc n) (suc place) h = row_nothing n place (omega arith)

table_nothing : (labels s l place : ℕ) → l < labels → place < s
    → needs_of (replicate labels (replicate s 0)) l place ≡ 0
table_nothing zero s l place h k = absurd (omega arith)
table_nothing (suc labels) s zero place h k = row_nothing s place k
table_nothing (suc labels) s (suc l) place h k = table_nothing labels s l place (omega arith) k

pub nothing_more : (labels s : ℕ) (other : ℕ → Need)
    → TellNoMore labels s (needs_of (replicate labels (replicate s 0))) other
nothing_more labels s other l h place k = let x = table_nothing labels s l place h k in omega arith

pub stands_below : (labels l : ℕ) (code : List PlainIr) → HaveLabels labels code → 1 ≤ count l code → l < labels
stands_below labels l [] h k = absurd (omega arith)
stands_below labels l (label j ∷ code) h k =
    ⊎_elim
    (λ (same : j ≡ l). subst (λ (x : ℕ). x < labels) same h.0)
    (λ (other : j ≡ l → ⊥).
    let b = ne_eqb j l other in
    let z : 0 + count l code ≡ count l code = omega arith in
    let g : (if j == l then 1 else 0) + count l code ≡ count l code =
    ap (λ (x : Bool). (if x then 1 else 0) + count l code) b ∙ z in
    stands_below labels l code h.1 (omega arith))
    (cases_eq j l)
stands_below labels l (i ∷ code) h k = stands_below labels l code h.1 k

label_more : (n m : ℕ) (i : PlainIr) → n ≤ m → HasLabel n i → HasLabel m i
label_more n m (label l) h k = omega arith
label_more n m (jump l) h k = omega arith
label_more n m (branch_zero t l) h k = omega arith
label_more n m i h k = k

labels_more : (n m : ℕ) (code : List PlainIr) → n ≤ m → HaveLabels n code → HaveLabels m code
labels_more n m [] h k = tt
labels_more n m (i ∷ code) h k = (label_more n m i h k.0, labels_more n m code h k.1)

pub more_labels : (n m : ℕ) (code rest : List PlainIr) (i : PlainIr) → code ≡ i ∷ rest → HasLabel n i
    → HaveLabels m rest → HaveLabels (max m n) code
more_labels n m code rest i is h k =
    subst (λ (x : List PlainIr). HaveLabels (max m n) x) (sym is)
    (label_more n (max m n) i (omega arith) h, labels_more m (max m n) rest (omega arith) k)

abbrev pub IsNoMore : (in_flash : Bool) → ℕ → List PlainIr → (t0 t : List (List ℕ)) → Type 0
IsNoMore in_flash s code t0 t =
    (labels : ℕ) (other : ℕ → Need) → HaveLabels labels code → IsLive in_flash other code
    → TellNoMore labels s (needs_of t0) other → TellNoMore labels s (needs_of t) other

pub least_table : (in_flash : Bool) (s : ℕ) (code : List PlainIr) (labels : ℕ) (t0 t : List (List ℕ)) → HaveLabels labels code
    → t0 ≡ replicate labels (replicate s 0) → IsNoMore in_flash s code t0 t → IsLeast in_flash s (needs_of t) code
least_table in_flash s code labels t0 t h e q other v l k place p =
    q labels other h v (subst (λ (x : List (List ℕ)). TellNoMore labels s (needs_of x) other) (sym e) (nothing_more labels s other)) l
    (stands_below labels l code h k) place p
