-- Where operations are left of the code of a function, and what is known there.
use Rattle.std.proofs.Common.{◌≡◌, ℕ, zero, suc, ◌-◌, ◌^◌, ◌<◌, ◌≤◌, Bool, true, false, List, [], unsigned_abs}
use Rattle.std.proofs.Common.{◌∷◌, ◌++◌, Option, Some, ℤ, pos, negsuc, subst}
use Rattle.std.proofs.Common.{None, refl, sym, ap, ◌∙◌, arith, length, take, drop, reverse}
use Rattle.std.specs.Prelude.{◌==◌, if◌then◌else◌, nat_lt}
use Rattle.std.specs.Int.{int_rem_euclid}
use native.Mathlib.Nat.{pow-suc}
use Rattle.std.proofs.lemmas.Bool.{eq-eqb, eqb-true, lt-ltb}
use Rattle.std.proofs.lemmas.List.{length-drop, reverse-append}
use Rattle.ec_ir.specs.declared.operations.Temp.{Temp}
use Rattle.ec_ir.specs.Meaning.{find}
use Rattle.ec_ir.specs.Operations.{PlainIr, constant, copy, address, field, load_at, store_at, load_object}
use Rattle.ec_ir.specs.Operations.{store_object, binary_op, unary_op, conversion, label, jump, branch_zero}
use Rattle.ec_ir.specs.Operations.{call_function, return_from, port_in, port_out, load_cell, store_cell, cell_port}
use Rattle.ec_core.specs.declared.values.Value.{Value}
use Rattle.ec_core.specs.declared.values.Value.TheVariants.{Number, Pointer}
use Rattle.ec_ir.specs.Temporaries.{Content, bits, Held, Temps, low_bytes, content_of, with_content}
use Rattle.ec_ir_known.specs.declared.known.KnownNumber.{KnownNumber}
use Rattle.ec_ir_known.specs.Known.{Known, is_set, bytes_left, known_after, known_behind, known_at}
use Rattle.ec_ir_known.specs.Laws.{is_held, are_held}

-- ---- what is known is so

abbrev pub known_number : ℕ → ℤ → KnownNumber
known_number bytes n = record { bytes = bytes; number = Some n; width = bytes }

-- any number that so many bytes are enough for
abbrev pub any_number : (bytes width : ℕ) → KnownNumber
any_number bytes width = record { bytes = bytes; number = None; width = width }

abbrev pub holding : ℕ → Content → Held
holding bytes c = record { bytes = bytes; content = c }

abbrev pub IsSo : KnownNumber → Option Held → Type 0
IsSo k h = is_held (Some k) h ≡ true

abbrev pub Knows : Known → Temps → Type 0
Knows known temps = (place : ℕ) (k : KnownNumber) → known place ≡ Some k → IsSo k (temps place)

pub held_true : (o : Option KnownNumber) (h : Option Held) → ((k : KnownNumber) → o ≡ Some k → IsSo k h) → is_held o h ≡ true
held_true None h f = refl
held_true (Some k) h f = f k refl

pub all_held : (known : Known) (temps : Temps) (places : List ℕ) → Knows known temps → are_held known temps places ≡ true
all_held known temps [] h = refl
all_held known temps (place ∷ places) h =
    let a = held_true (known place) (temps place) (h place) in
    let b = all_held known temps places h in
    rw (a, b) refl

-- a number that is left is so
pub number_so : (bytes : ℕ) (n : ℤ) → IsSo (known_number bytes n) (Some (holding bytes (bits (low_bytes bytes n))))
number_so bytes n =
    let a : (bytes == bytes) ≡ true = eq-eqb bytes bytes refl in
    let low = low_bytes bytes n in
    let b : (low == low) ≡ true = eq-eqb low low refl in
    rw (a, b) refl

-- so is one below 256
pub any_so : (bytes width low : ℕ) → low < 256 ^ width → IsSo (any_number bytes width) (Some (holding bytes (bits low)))
any_so bytes width low l =
    let a : (bytes == bytes) ≡ true = eq-eqb bytes bytes refl in
    let b : nat_lt low (256 ^ width) ≡ true = lt-ltb low (256 ^ width) l in
    rw (a, b) refl

pub byte_so : (bytes low : ℕ) → low < 256 → IsSo (any_number bytes 1) (Some (holding bytes (bits low)))
byte_so bytes low l = any_so bytes 1 low l

some_numbers : (bytes : ℕ) → 0 < 256 ^ bytes
some_numbers zero = omega arith
some_numbers (suc n) = let h = some_numbers n in rw pow-suc (omega (arith, h))

rest_below : (n : ℤ) (m : ℕ) → 0 < m → unsigned_abs (int_rem_euclid n (pos m)) < m
rest_below (pos a) m l = omega (arith, l)
rest_below (negsuc a) m l = omega (arith, l)

pub low_below : (bytes : ℕ) (n : ℤ) → low_bytes bytes n < 256 ^ bytes
low_below bytes n = rest_below n (256 ^ bytes) (some_numbers bytes)

-- the bytes of any value
bytes_of_value : (bytes : ℕ) (v : Value) → IsSo (any_number bytes bytes) (Some (holding bytes (content_of bytes v)))
bytes_of_value bytes (Number n) = any_so bytes bytes (low_bytes bytes n) (low_below bytes n)
bytes_of_value bytes (Pointer None) = any_so bytes bytes 0 (some_numbers bytes)
bytes_of_value bytes (Pointer (Some p)) = let a : (bytes == bytes) ≡ true = eq-eqb bytes bytes refl in rw a refl

pub bytes_left_so : (t : Temp) (v : Value) (k : KnownNumber) → bytes_left t ≡ Some k
    → IsSo k (Some (holding t.bytes (content_of t.bytes v)))
bytes_left_so t v k e =
    let is : any_number t.bytes t.bytes ≡ k = cc in
    subst (λ (z : KnownNumber). IsSo z (Some (holding t.bytes (content_of t.bytes v)))) is (bytes_of_value t.bytes v)

-- a place gets what is known of it from then on
pub knows_result : (t : Temp) (given : Option KnownNumber) (c : Content) (known : Known) (temps : Temps)
    → ((k : KnownNumber) → given ≡ Some k → IsSo k (Some (holding t.bytes c))) → Knows known temps
    → Knows (λ place. if place == t.at then given else known place) (with_content t c temps)
knows_result t given c known temps f h place k e = by_test (place == t.at) e
  where
    by_test : (b : Bool) → (if b then given else known place) ≡ Some k
        → IsSo k (if b then Some (holding t.bytes c) else temps place)
    by_test true e = f k e
    by_test false e = h place k e

-- a place is forgotten
pub knows_cleared : (o : Option Temp) (known : Known) (temps : Temps) → Knows known temps
    → Knows (λ place. if is_set o place then None else known place) temps
knows_cleared o known temps h place k e = by_test (is_set o place) e
  where
    by_test : (b : Bool) → (if b then None else known place) ≡ Some k → IsSo k (temps place)
    by_test true e = let no : None ≡ Some k = e in absurd cc
    by_test false e = h place k e

-- ---- where operations are left

pub record Stands (code rest : List PlainIr) : Type 0 where
  pub d : ℕ
  pub within : d ≤ length code
  pub there : drop d code ≡ rest

pub at_is : (code rest : List PlainIr) (w : Stands code rest) → known_at code rest ≡ known_behind (reverse (take w.d code))
at_is code rest w =
    let within = w.within in
    let long : length (drop w.d code) ≡ length rest = ap length w.there in
    let e : length code - length rest ≡ w.d = omega (arith, within, long, length-drop w.d code) in
    ap (λ d. known_behind (reverse (take d code))) e

-- the operation before is passed
pub record Passed (code : List PlainIr) (i : PlainIr) (rest : List PlainIr) (d : ℕ) : Type 0 where
  pub within : suc d ≤ length code
  pub there : drop (suc d) code ≡ rest
  pub before : reverse (take (suc d) code) ≡ i ∷ reverse (take d code)

pub passed : (code : List PlainIr) (i : PlainIr) (rest : List PlainIr) (d : ℕ) → drop d code ≡ i ∷ rest → Passed code i rest d
passed [] i rest zero e = let no : [] ≡ i ∷ rest = e in absurd cc
passed [] i rest (suc d) e = let no : [] ≡ i ∷ rest = e in absurd cc
passed (x ∷ code) i rest zero e =
    let both : x ∷ code ≡ i ∷ rest = e in
    let same : x ≡ i = cc in
    let left : code ≡ rest = cc in
    record { within = omega arith; there = left; before = ap (λ y. y ∷ []) same }
passed (x ∷ code) i rest (suc d) e =
    let p = passed code i rest d e in
    let within = p.within in
    record {
      within = omega arith;
      there = p.there;
      before = reverse-append (x ∷ []) (take (suc d) code) ∙ ap (λ y. y ++ x ∷ []) p.before
          ∙ ap (λ y. i ∷ y) (sym (reverse-append (x ∷ []) (take d code)));
    }

pub next_stands : (code : List PlainIr) (i : PlainIr) (rest : List PlainIr) → Stands code (i ∷ rest) → Stands code rest
next_stands code i rest w =
    let p = passed code i rest w.d w.there in record { d = suc w.d; within = p.within; there = p.there }

pub known_next : (code : List PlainIr) (i : PlainIr) (rest : List PlainIr) → Stands code (i ∷ rest)
    → known_at code rest ≡ known_after i (known_at code (i ∷ rest))
known_next code i rest w =
    let p = passed code i rest w.d w.there in
    at_is code rest (record { d = suc w.d; within = p.within; there = p.there })
    ∙ ap known_behind p.before
    ∙ ap (known_after i) (sym (at_is code (i ∷ rest) w))

pub all_left : (code : List PlainIr) → Stands code code
all_left code = record { d = 0; within = omega arith; there = refl }

pub nothing_first : (code : List PlainIr) (at : ℕ) → known_at code code at ≡ None
nothing_first code at =
    ap (λ (known : Known). known at) (at_is code code (record { d = 0; within = omega arith; there = refl }))

-- ---- behind a label

pub record Found (l : ℕ) (code rest : List PlainIr) : Type 0 where
  pub number : ℕ
  pub stands : Stands code (label number ∷ rest)

found_later : (l : ℕ) (i : PlainIr) (code rest : List PlainIr) → Found l code rest → Found l (i ∷ code) rest
found_later l i code rest f =
    let within = f.stands.within in
    record { number = f.number; stands = record { d = suc f.stands.d; within = omega arith; there = f.stands.there } }

found_here : (l k : ℕ) (code rest : List PlainIr) → (find l code ≡ Some rest → Found l code rest) → (b : Bool)
    → (if b then Some code else find l code) ≡ Some rest → Found l (label k ∷ code) rest
found_here l k code rest later true e =
    let is : Some code ≡ Some rest = e in
    let same : code ≡ rest = cc in
    record { number = k; stands = record { d = 0; within = omega arith; there = ap (λ y. label k ∷ y) same } }
found_here l k code rest later false e = found_later l (label k) code rest (later e)

pub found : (l : ℕ) (code rest : List PlainIr) → find l code ≡ Some rest → Found l code rest
found l [] rest e = let no : None ≡ Some rest = e in absurd cc
found l (label k ∷ code) rest e = found_here l k code rest (λ q. found l code rest q) (k == l) e
found l (constant t n ∷ code) rest e = found_later l (constant t n) code rest (found l code rest e)
found l (copy to from ∷ code) rest e = found_later l (copy to from) code rest (found l code rest e)
found l (address t o offset ∷ code) rest e = found_later l (address t o offset) code rest (found l code rest e)
found l (field ptr space offset ∷ code) rest e = found_later l (field ptr space offset) code rest (found l code rest e)
found l (load_at to ptr space ∷ code) rest e = found_later l (load_at to ptr space) code rest (found l code rest e)
found l (store_at ptr space from ∷ code) rest e = found_later l (store_at ptr space from) code rest (found l code rest e)
found l (load_object t o offset ∷ code) rest e = found_later l (load_object t o offset) code rest (found l code rest e)
found l (store_object o offset t ∷ code) rest e = found_later l (store_object o offset t) code rest (found l code rest e)
found l (binary_op op ty mode to a aty b bty ∷ code) rest e =
    found_later l (binary_op op ty mode to a aty b bty) code rest (found l code rest e)
found l (unary_op op ty mode to a ∷ code) rest e = found_later l (unary_op op ty mode to a) code rest (found l code rest e)
found l (conversion to ty mode a aty ∷ code) rest e = found_later l (conversion to ty mode a aty) code rest (found l code rest e)
found l (jump k ∷ code) rest e = found_later l (jump k) code rest (found l code rest e)
found l (branch_zero t k ∷ code) rest e = found_later l (branch_zero t k) code rest (found l code rest e)
found l (call_function f to ∷ code) rest e = found_later l (call_function f to) code rest (found l code rest e)
found l (return_from from ∷ code) rest e = found_later l (return_from from) code rest (found l code rest e)
found l (port_in to port index width ∷ code) rest e = found_later l (port_in to port index width) code rest (found l code rest e)
found l (port_out from port index width ∷ code) rest e =
    found_later l (port_out from port index width) code rest (found l code rest e)
found l (load_cell to cell ∷ code) rest e = found_later l (load_cell to cell) code rest (found l code rest e)
found l (store_cell cell from ∷ code) rest e = found_later l (store_cell cell from) code rest (found l code rest e)
found l (cell_port read t cell offset index width ∷ code) rest e =
    found_later l (cell_port read t cell offset index width) code rest (found l code rest e)
