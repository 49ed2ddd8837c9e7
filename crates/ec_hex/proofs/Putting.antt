-- Bytes that are put into an image one by one.
use Rattle.std.specs.Prelude.{Option, is_some, unwrap_or, slice_get, All, ◌==◌, if◌then◌else◌}
use Rattle.std.specs.List.{AllByRecursion}
use Rattle.std.proofs.lemmas.Bool.{eqb-true, eq-eqb, ne_eqb}
use Rattle.std.proofs.lemmas.List.{get_or_append_left, get_or-append-add, get_or_at, take_more, length-set, length-take-le}
use Rattle.std.proofs.lemmas.List.{take-append-drop, drop_more}
use Rattle.std.proofs.lemmas.List.Elements.{All-from_recursion, recursion_from_All, All-append, All-push}
use Rattle.std.proofs.lemmas.List.Quantifiers.{all_pairs_push}
use Rattle.std.proofs.lemmas.Option.{slice_get-get_or, get_or_from_slice_get}
use Rattle.std.proofs.Common.{◌≡◌, ◌≢◌, ◌+◌, ◌≤◌, ◌<◌, ℕ, suc, Bool, true, false, List, [], ◌∷◌, ◌++◌, length, get_or, take, drop, set}
use Rattle.std.proofs.Common.{Some, None, refl, sym, ap, ◌∙◌, subst, arith, get_or-set_same, get_or-set_other, append_assoc, length-append}
use Rattle.ec_space.specs.declared.Core.{Core}
use Rattle.ec_avr.specs.Flash.{flash_size}
use Rattle.ec_hex.specs.Denotes.{addressed, byte_at, HoldsJust}
use Rattle.ec_hex.specs.Stops.{AreInFlash, AreOnce}

pub addressed-append : (at : ℕ) (xs ys : List ℕ) → addressed at (xs ++ ys) ≡ addressed at xs ++ addressed (at + length xs) ys
addressed-append at [] ys = ap (λ (a : ℕ). addressed a ys) (omega arith)
addressed-append at (x ∷ xs) ys =
    ap (λ (more : List (ℕ × ℕ)). (at, x) ∷ more) (addressed-append (at + 1) xs ys
    ∙ ap (λ (a : ℕ). addressed (at + 1) xs ++ addressed a ys) (omega arith))

-- bytes whose addresses end within the flash are in it, and only they
pub addressed_in : (at size : ℕ) (bytes : List ℕ) → at + length bytes ≤ size
    → AllByRecursion (λ (cell : ℕ × ℕ). cell.0 < size) (addressed at bytes)
addressed_in at size [] fits = tt
addressed_in at size (byte ∷ bytes) fits = (omega (arith, fits), addressed_in (at + 1) size bytes (omega (arith, fits)))

pub addressed_out : (at size : ℕ) (bytes : List ℕ) → 0 < length bytes
    → AllByRecursion (λ (cell : ℕ × ℕ). cell.0 < size) (addressed at bytes)
    → at + length bytes ≤ size
addressed_out at size [] some all = absurd (omega (arith, some))
addressed_out at size (byte ∷ []) some all = omega (arith, all.0)
addressed_out at size (byte ∷ next ∷ bytes) some all = omega (arith, addressed_out (at + 1) size (next ∷ bytes) (omega arith) all.1)

All-right : {X : Type 0} (P : X → Type 0) (xs ys : List X) → All P (xs ++ ys) → All P ys
All-right P xs ys all k d below =
    subst P (get_or-append-add xs ys k d) (all (length xs + k) d (omega (arith, length-append xs ys, below)))

pub past_flash : (core : Core) (cells : List (ℕ × ℕ)) (at : ℕ) (bytes : List ℕ) → 0 < length bytes → flash_size core < at + length bytes
    → AreInFlash core (cells ++ addressed at bytes) → ⊥
past_flash core cells at bytes some past all =
    omega (
      arith,
      past,
      addressed_out at (flash_size core) bytes some (recursion_from_All (λ cell. cell.0 < flash_size core) (addressed at bytes)
          (All-right (λ cell. cell.0 < flash_size core) cells (addressed at bytes) all)),
    )

pub within_flash : (core : Core) (cells : List (ℕ × ℕ)) (at : ℕ) (bytes : List ℕ) → at + length bytes ≤ flash_size core
    → AreInFlash core cells
    → AreInFlash core (cells ++ addressed at bytes)
within_flash core cells at bytes fits all =
    All-append (λ cell. cell.0 < flash_size core) cells (addressed at bytes) all
    (All-from_recursion (λ cell. cell.0 < flash_size core) (addressed at bytes) (addressed_in at (flash_size core) bytes fits))

-- no byte at an address
not_among : (a : ℕ) (cells : List (ℕ × ℕ)) → is_some (byte_at a cells) ≡ false → AllByRecursion (λ cell. cell.0 ≢ a) cells
not_among a [] none = tt
not_among a (cell ∷ cells) none = either (cell.0 == a) refl none (not_among a cells)
  where
    either : (b : Bool) → (cell.0 == a) ≡ b → is_some (if b then Some cell.1 else byte_at a cells) ≡ false
        → (is_some (byte_at a cells) ≡ false → AllByRecursion (λ other. other.0 ≢ a) cells)
        → AllByRecursion (λ other. other.0 ≢ a) (cell ∷ cells)
    either true is h rest = cc
    either false is h rest = ((λ same. cc (eq-eqb cell.0 a same, is)), rest h)

-- a byte at an address
among : (a : ℕ) (cells : List (ℕ × ℕ)) → is_some (byte_at a cells) ≡ true → (k : ℕ) × ((k < length cells) × ((get_or cells k (0, 0)).0 ≡ a))
among a [] some = cc
among a (cell ∷ cells) some = either (cell.0 == a) refl some (among a cells)
  where
    either : (b : Bool) → (cell.0 == a) ≡ b → is_some (if b then Some cell.1 else byte_at a cells) ≡ true
        → (is_some (byte_at a cells) ≡ true → (k : ℕ) × ((k < length cells) × ((get_or cells k (0, 0)).0 ≡ a)))
        → (k : ℕ) × ((k < length (cell ∷ cells)) × ((get_or (cell ∷ cells) k (0, 0)).0 ≡ a))
    either true is h rest = (0, (omega arith, eqb-true cell.0 a is))
    either false is h rest = let found = rest h in (suc found.0, (omega (arith, found.1.0), found.1.1))

byte_at-more : (k a b : ℕ) (cells : List (ℕ × ℕ))
    → byte_at k (cells ++ (a, b) ∷ []) ≡ (if is_some (byte_at k cells) then byte_at k cells else (if a == k then Some b else None))
byte_at-more k a b [] = refl
byte_at-more k a b (cell ∷ cells) = either (cell.0 == k) (byte_at-more k a b cells)
  where
    either : (c : Bool)
        → byte_at k (cells ++ (a, b) ∷ []) ≡ (if is_some (byte_at k cells) then byte_at k cells else (if a == k then Some b else None))
        → (if c then Some cell.1 else byte_at k (cells ++ (a, b) ∷ []))
        ≡ (if is_some (if c then Some cell.1 else byte_at k cells) then (if c then Some cell.1 else byte_at k cells)
        else (if a == k then Some b else None))
    either true rest = refl
    either false rest = rest

some_same : (x y : Bool) → Some x ≡ Some y → x ≡ y
some_same x y h = cc

none_from : (o : Option ℕ) → is_some o ≡ false → o ≡ None
none_from None h = refl
none_from (Some x) h = cc

-- the flag at an address tells whether it has a byte
flag_tells : (core : Core) (cells : List (ℕ × ℕ)) (bytes : List ℕ) (written : List Bool) (a : ℕ) (flag : Bool)
    → HoldsJust core cells bytes written
    → a < flash_size core → flag ≡ get_or written a flag → is_some (byte_at a cells) ≡ flag
flag_tells core cells bytes written a flag holds below here =
    sym (here ∙ get_or_from_slice_get written a _ flag (holds.flags_are a below))

at_other : (k a b : ℕ) (cells : List (ℕ × ℕ)) (o : Option ℕ) → a ≢ k → byte_at k cells ≡ o → byte_at k (cells ++ (a, b) ∷ []) ≡ o
at_other k a b cells None differ is = byte_at-more k a b cells ∙ rw (is, ne_eqb a k differ) refl
at_other k a b cells (Some x) differ is = byte_at-more k a b cells ∙ rw is refl

at_same : (a b : ℕ) (cells : List (ℕ × ℕ)) → is_some (byte_at a cells) ≡ false → byte_at a (cells ++ (a, b) ∷ []) ≡ Some b
at_same a b cells none = byte_at-more a a b cells ∙ rw (none, eq-eqb a a refl) refl

put_one : (core : Core) (cells : List (ℕ × ℕ)) (bytes : List ℕ) (written : List Bool) (a b : ℕ) → HoldsJust core cells bytes written
    → a < flash_size core → is_some (byte_at a cells) ≡ false → HoldsJust core (cells ++ (a, b) ∷ []) (set bytes a b) (set written a true)
put_one core cells bytes written a b holds below none = record {
  in_flash = All-push (λ cell. cell.0 < flash_size core) cells (a, b) holds.in_flash below;
  once = all_pairs_push (λ cell other. cell.0 ≢ other.0) cells (a, b) holds.once
      (All-from_recursion (λ cell. cell.0 ≢ a) cells (not_among a cells none));
  sized = length-set bytes a b ∙ holds.sized;
  flagged = length-set written a true ∙ holds.flagged;
  bytes_are = λ k inside. byte_is k inside (a == k) refl;
  flags_are = λ k inside. flag_is k inside (a == k) refl;
}
  where
    byte_is : (k : ℕ) → k < flash_size core → (same : Bool) → (a == k) ≡ same
        → slice_get (set bytes a b) k ≡ Some (unwrap_or (byte_at k (cells ++ (a, b) ∷ [])) 255)
    byte_is k inside true is =
        slice_get-get_or (set bytes a b) k 0 (omega (arith, length-set bytes a b, holds.sized, inside))
        ∙ rw (← eqb-true a k is, at_same a b cells none) (ap Some (get_or-set_same bytes a b 0 (omega (arith, holds.sized, below))))
    byte_is k inside false is =
        let differ : a ≢ k = λ same. cc (eq-eqb a k same, is) in
        slice_get-get_or (set bytes a b) k 0 (omega (arith, length-set bytes a b, holds.sized, inside))
        ∙ rw (at_other k a b cells _ differ refl) (ap Some
        (get_or-set_other bytes a k b 0 (λ same. differ (sym same)) ∙ get_or_from_slice_get bytes k _ 0 (holds.bytes_are k inside)))

    flag_is : (k : ℕ) → k < flash_size core → (same : Bool) → (a == k) ≡ same
        → slice_get (set written a true) k ≡ Some (is_some (byte_at k (cells ++ (a, b) ∷ [])))
    flag_is k inside true is =
        slice_get-get_or (set written a true) k false (omega (arith, length-set written a true, holds.flagged, inside))
        ∙ rw (← eqb-true a k is, at_same a b cells none)
        (ap Some (get_or-set_same written a true false (omega (arith, holds.flagged, below))))
    flag_is k inside false is =
        let differ : a ≢ k = λ same. cc (eq-eqb a k same, is) in
        slice_get-get_or (set written a true) k false (omega (arith, length-set written a true, holds.flagged, inside))
        ∙ rw (at_other k a b cells _ differ refl) (ap Some (get_or-set_other written a k true false (λ same. differ (sym same))
        ∙ get_or_from_slice_get written k _ false (holds.flags_are k inside)))

-- one more of some bytes
pub addressed-more : (cells : List (ℕ × ℕ)) (at i : ℕ) (bytes : List ℕ) → i < length bytes
    → cells ++ addressed at (take (i + 1) bytes) ≡ (cells ++ addressed at (take i bytes)) ++ (at + i, get_or bytes i 0) ∷ []
addressed-more cells at i bytes below =
    ap (λ (l : List ℕ). cells ++ addressed at l) (take_more bytes i 0 below)
    ∙ ap (λ (l : List (ℕ × ℕ)). cells ++ l) (addressed-append at (take i bytes) (get_or bytes i 0 ∷ []))
    ∙ sym (append_assoc cells (addressed at (take i bytes)) (addressed (at + length (take i bytes)) (get_or bytes i 0 ∷ [])))
    ∙ ap (λ (n : ℕ). (cells ++ addressed at (take i bytes)) ++ (at + n, get_or bytes i 0) ∷ [])
    (length-take-le i bytes (omega (arith, below)))

addressed-split : (cells : List (ℕ × ℕ)) (at i : ℕ) (bytes : List ℕ) → i < length bytes
    → cells ++ addressed at bytes
    ≡ (cells ++ addressed at (take i bytes)) ++ (at + i, get_or bytes i 0) ∷ addressed (at + i + 1) (drop (i + 1) bytes)
addressed-split cells at i bytes below =
    ap (λ (l : List ℕ). cells ++ addressed at l)
    (sym (take-append-drop i bytes) ∙ ap (λ (l : List ℕ). take i bytes ++ l) (drop_more bytes i 0 below))
    ∙ ap (λ (l : List (ℕ × ℕ)). cells ++ l) (addressed-append at (take i bytes) (get_or bytes i 0 ∷ drop (i + 1) bytes))
    ∙ sym
    (append_assoc cells (addressed at (take i bytes)) (addressed (at + length (take i bytes)) (get_or bytes i 0 ∷ drop (i + 1) bytes)))
    ∙ ap (λ (n : ℕ). (cells ++ addressed at (take i bytes)) ++ addressed (at + n) (get_or bytes i 0 ∷ drop (i + 1) bytes))
    (length-take-le i bytes (omega (arith, below)))

pub put_more : (core : Core) (cells : List (ℕ × ℕ)) (bytes : List ℕ) (written : List Bool) (at i : ℕ) (more : List ℕ)
    → HoldsJust core (cells ++ addressed at (take i more)) bytes written → i < length more → at + i < flash_size core
    → false ≡ get_or written (at + i) false
    → HoldsJust core (cells ++ addressed at (take (i + 1) more)) (set bytes (at + i) (get_or more i 0)) (set written (at + i) true)
put_more core cells bytes written at i more holds below inside unwritten =
    rw (addressed-more cells at i more below)
    (put_one core (cells ++ addressed at (take i more)) bytes written (at + i) (get_or more i 0) holds inside
    (flag_tells core (cells ++ addressed at (take i more)) bytes written (at + i) false holds inside unwritten))

twice : (front : List (ℕ × ℕ)) (a b : ℕ) (more : List (ℕ × ℕ)) (k : ℕ) → k < length front → (get_or front k (0, 0)).0 ≡ a
    → AreOnce (front ++ (a, b) ∷ more) → ⊥
twice front a b more k below same once =
    once k (length front) (0, 0) below (omega (arith, length-append front ((a, b) ∷ more)))
    (ap (λ (cell : ℕ × ℕ). cell.0) (get_or_append_left front ((a, b) ∷ more) (0, 0) k below) ∙ same
    ∙ sym (ap (λ (cell : ℕ × ℕ). cell.0) (get_or_at front (a, b) more (0, 0) (length front) refl)))

-- an address that has a byte already
pub put_twice : (core : Core) (cells : List (ℕ × ℕ)) (bytes : List ℕ) (written : List Bool) (at i : ℕ) (more : List ℕ)
    → HoldsJust core (cells ++ addressed at (take i more)) bytes written → i < length more → at + i < flash_size core
    → true ≡ get_or written (at + i) true
    → AreOnce (cells ++ addressed at more) → ⊥
put_twice core cells bytes written at i more holds below inside is once =
    let front = cells ++ addressed at (take i more) in
    let found = among (at + i) front (flag_tells core front bytes written (at + i) true holds inside is) in
    let rest : cells ++ addressed at more ≡ front ++ (at + i, get_or more i 0) ∷ addressed (at + i + 1) (drop (i + 1) more) =
    addressed-split cells at i more below in
    twice front (at + i) (get_or more i 0) (addressed (at + i + 1) (drop (i + 1) more)) found.0 found.1.0 found.1.1
    (let P : List (ℕ × ℕ) → Type 0 = AreOnce in subst P rest once)
