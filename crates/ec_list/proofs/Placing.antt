-- The bytes of a line, put into an image behind those of the lines before it.
use Rattle.std.proofs.Common.{◌≡◌, ◌≢◌, ◌≤◌, ◌<◌, ℕ, zero, suc, ◌+◌, ◌-◌, Bool, true, false, ◌&&◌, List, [], ◌∷◌, ◌++◌, length}
use Rattle.std.proofs.Common.{replicate, Option, Some, None, refl, sym, ap, ◌∙◌, arith, inl, inr, ◌⊎◌}
use Rattle.std.specs.Prelude.{nat_le, nat_lt, slice_get, slice_set, is_some, unwrap_or, if◌then◌else◌}
use Rattle.std.specs.List.{AllByRecursion}
use Rattle.std.proofs.lemmas.Bool.{cases_lt, lt-ltb, le-ltb, le-leb}
use Rattle.ec_space.specs.declared.Core.{Core}
use Rattle.ec_avr.specs.Flash.{flash_size}
use Rattle.ec_list.specs.Lines.{item_bytes, end_of, end_after, IsLine, AreInOrder, byte_by}
use Rattle.ec_list.specs.Lists.{HasJust}
use Rattle.ec_list.specs.Assembling.{put_over, all_true}
use Rattle.ec_list.specs.declared.line.Line.{Line}

-- ---- lists with values put over them

get_same : {X : Type 0} (xs : List X) (i : ℕ) (y : X) → i < length xs → slice_get (slice_set xs i y) i ≡ Some y
get_same [] i y h = absurd (omega (arith, h))
get_same (x ∷ xs) zero y h = refl
get_same (x ∷ xs) (suc i) y h = get_same xs i y (omega (arith, h))

get_other : {X : Type 0} (xs : List X) (i k : ℕ) (y : X) → k ≢ i → slice_get (slice_set xs i y) k ≡ slice_get xs k
get_other [] i k y h = refl
get_other (x ∷ xs) zero zero y h = absurd (h refl)
get_other (x ∷ xs) zero (suc k) y h = refl
get_other (x ∷ xs) (suc i) zero y h = refl
get_other (x ∷ xs) (suc i) (suc k) y h = get_other xs i k y (λ e. h (ap suc e))

length_set : {X : Type 0} (xs : List X) (i : ℕ) (y : X) → length (slice_set xs i y) ≡ length xs
length_set [] i y = refl
length_set (x ∷ xs) zero y = refl
length_set (x ∷ xs) (suc i) y = ap suc (length_set xs i y)

pub length_over : {X : Type 0} (xs : List X) (at : ℕ) (ys : List X) → length (put_over xs at ys) ≡ length xs
length_over xs at [] = refl
length_over xs at (y ∷ ys) = length_over (slice_set xs at y) (at + 1) ys ∙ length_set xs at y

below_over : {X : Type 0} (xs : List X) (at : ℕ) (ys : List X) (k : ℕ) → k < at → slice_get (put_over xs at ys) k ≡ slice_get xs k
below_over xs at [] k h = refl
below_over xs at (y ∷ ys) k h =
    below_over (slice_set xs at y) (at + 1) ys k (omega (arith, h)) ∙ get_other xs at k y (λ e. omega (arith, h, e))

above_over : {X : Type 0} (xs : List X) (at : ℕ) (ys : List X) (k : ℕ) → at + length ys ≤ k →
    slice_get (put_over xs at ys) k ≡ slice_get xs k
above_over xs at [] k h = refl
above_over xs at (y ∷ ys) k h =
    above_over (slice_set xs at y) (at + 1) ys k (omega (arith, h)) ∙ get_other xs at k y (λ e. omega (arith, h, e))

in_over : {X : Type 0} (xs : List X) (at : ℕ) (ys : List X) (k : ℕ) → k < length ys → at + length ys ≤ length xs
    → slice_get (put_over xs at ys) (at + k) ≡ slice_get ys k
in_over xs at [] k h w = absurd (omega (arith, h))
in_over xs at (y ∷ ys) zero h w =
    let same : at + 0 ≡ at = omega arith in
    ap (λ i. slice_get (put_over (slice_set xs at y) (at + 1) ys) i) same
    ∙ below_over (slice_set xs at y) (at + 1) ys at (omega arith) ∙ get_same xs at y (omega (arith, w))
in_over xs at (y ∷ ys) (suc k) h w =
    let same : at + suc k ≡ at + 1 + k = omega arith in
    ap (λ i. slice_get (put_over (slice_set xs at y) (at + 1) ys) i) same
    ∙ in_over (slice_set xs at y) (at + 1) ys k (omega (arith, h)) (omega (arith, w, length_set xs at y))

length_true : (n : ℕ) → length (all_true n) ≡ n
length_true zero = refl
length_true (suc n) = ap suc (length_true n)

get_true : (n k : ℕ) → k < n → slice_get (all_true n) k ≡ Some true
get_true zero k h = absurd (omega (arith, h))
get_true (suc n) zero h = refl
get_true (suc n) (suc k) h = get_true n k (omega (arith, h))

pub get_replicate : {X : Type 0} (n k : ℕ) (x : X) → k < n → slice_get (replicate n x) k ≡ Some x
get_replicate zero k x h = absurd (omega (arith, h))
get_replicate (suc n) zero x h = refl
get_replicate (suc n) (suc k) x h = get_replicate n k x (omega (arith, h))

-- ---- one line more

pub in_order_more : (from : ℕ) (ls : List Line) (l : Line) → AreInOrder from ls → end_after from ls ≤ l.at → AreInOrder from (ls ++ l ∷ [])
in_order_more from [] l o h = (h, tt)
in_order_more from (m ∷ ls) l o h = (o.0, in_order_more (end_of m) ls l o.1 h)

pub each_more : (core : Core) (ls : List Line) (l : Line) → AllByRecursion (IsLine core) ls → IsLine core l →
    AllByRecursion (IsLine core) (ls ++ l ∷ [])
each_more core [] l a h = (h, tt)
each_more core (m ∷ ls) l a h = (a.0, each_more core ls l a.1 h)

pub end_more : (from : ℕ) (ls : List Line) (l : Line) → end_after from (ls ++ l ∷ []) ≡ end_of l
end_more from [] l = refl
end_more from (m ∷ ls) l = end_more (end_of m) ls l

-- as many lines as have an end, which lies in flash
pub end_within : (core : Core) (from : ℕ) (ls : List Line) → AllByRecursion (IsLine core) ls → AreInOrder from ls → from ≤ flash_size core
    → end_after from ls ≤ flash_size core
end_within core from [] a o le = le
end_within core from (l ∷ ls) a o le = end_within core (end_of l) ls a.1 o.1 a.0.suits.in_flash

test_le : (a b : ℕ) → a ≤ b → nat_le a b ≡ true
test_le a b h = le-leb a b h

-- a byte of a line, and none
inside : (l : Line) (ls : List Line) (k : ℕ) → l.at ≤ k → k < end_of l → byte_by (l ∷ ls) k ≡ slice_get (item_bytes l.item) (k - l.at)
inside l ls k low high =
    let a : nat_le l.at k ≡ true = le-leb l.at k low in
    let b : nat_lt k (end_of l) ≡ true = lt-ltb k (end_of l) high in rw (a, b) refl

behind : (l : Line) (ls : List Line) (k : ℕ) → end_of l ≤ k → byte_by (l ∷ ls) k ≡ byte_by ls k
behind l ls k h =
    let a : nat_le l.at k ≡ true = le-leb l.at k (omega (arith, h)) in
    let b : nat_lt k (end_of l) ≡ false = le-ltb k (end_of l) h in rw (a, b) refl

before : (l : Line) (ls : List Line) (k : ℕ) → k < l.at → byte_by (l ∷ ls) k ≡ byte_by ls k
before l ls k h =
    let a : nat_le l.at k ≡ false = above l.at k h in rw a refl
  where
    above : (a k : ℕ) → k < a → nat_le a k ≡ false
    above a k h = grind (arith, h)

-- behind the last line nothing stands
none_behind : (from : ℕ) (ls : List Line) (k : ℕ) → AreInOrder from ls → end_after from ls ≤ k → byte_by ls k ≡ None
none_behind from [] k o h = refl
none_behind from (l ∷ ls) k o h =
    let le = end_above (end_of l) ls o.1 in
    behind l ls k (omega (arith, h, le)) ∙ none_behind (end_of l) ls k o.1 h
  where
    end_above : (from : ℕ) (ls : List Line) → AreInOrder from ls → from ≤ end_after from ls
    end_above from [] o = omega arith
    end_above from (m ∷ ls) o = let first = o.0 in let rest = end_above (end_of m) ls o.1 in omega (arith, first, rest)

-- the bytes of lines with one more
more_outside : (ls : List Line) (l : Line) (k : ℕ) → ((k < l.at) ⊎ (end_of l ≤ k)) → byte_by (ls ++ l ∷ []) k ≡ byte_by ls k
more_outside [] l k (inl h) = before l [] k h
more_outside [] l k (inr h) = behind l [] k h
more_outside (m ∷ ls) l k h =
    ap (λ o. if nat_le m.at k && nat_lt k (end_of m) then slice_get (item_bytes m.item) (k - m.at) else o) (more_outside ls l k h)

more_inside : (from : ℕ) (ls : List Line) (l : Line) (k : ℕ) → AreInOrder from ls → end_after from ls ≤ l.at → l.at ≤ k → k < end_of l
    → byte_by (ls ++ l ∷ []) k ≡ slice_get (item_bytes l.item) (k - l.at)
more_inside from [] l k o h low high = inside l [] k low high
more_inside from (m ∷ ls) l k o h low high =
    let le = end_above (end_of m) ls o.1 in
    behind m (ls ++ l ∷ []) k (omega (arith, h, le, low)) ∙ more_inside (end_of m) ls l k o.1 h low high
  where
    end_above : (from : ℕ) (ls : List Line) → AreInOrder from ls → from ≤ end_after from ls
    end_above from [] o = omega arith
    end_above from (m ∷ ls) o = let first = o.0 in let rest = end_above (end_of m) ls o.1 in omega (arith, first, rest)

there : {X : Type 0} (xs : List X) (k : ℕ) → k < length xs → (x : X) × (slice_get xs k ≡ Some x)
there [] k h = absurd (omega (arith, h))
there (x ∷ xs) zero h = (x, refl)
there (x ∷ xs) (suc k) h = there xs k (omega (arith, h))

pub has_more : (core : Core) (ls : List Line) (l : Line) (bytes : List ℕ) (written : List Bool) → AreInOrder 0 ls → end_after 0 ls ≤ l.at
    → end_of l ≤ flash_size core → HasJust core ls bytes written
    → HasJust core (ls ++ l ∷ []) (put_over bytes l.at (item_bytes l.item)) (put_over written l.at (all_true (length (item_bytes l.item))))
has_more core ls l bytes written o h w image = record {
  sized = length_over bytes l.at (item_bytes l.item) ∙ image.sized;
  flagged = length_over written l.at (all_true n) ∙ image.flagged;
  bytes_are = λ k less. by_place k less (place k);
  flags_are = λ k less. by_flag k less (place k);
}
  where
    n : ℕ
    n = length (item_bytes l.item)

    place : (k : ℕ) → ((k < l.at) ⊎ (end_of l ≤ k)) ⊎ ((l.at ≤ k) × (k < end_of l))
    place k = by_low (cases_lt k l.at)
      where
        by_high : l.at ≤ k → ((k < end_of l) ⊎ (end_of l ≤ k)) → ((k < l.at) ⊎ (end_of l ≤ k)) ⊎ ((l.at ≤ k) × (k < end_of l))
        by_high low (inl high) = inr (low, high)
        by_high low (inr high) = inl (inr high)

        by_low : ((k < l.at) ⊎ (l.at ≤ k)) → ((k < l.at) ⊎ (end_of l ≤ k)) ⊎ ((l.at ≤ k) × (k < end_of l))
        by_low (inl low) = inl (inl low)
        by_low (inr low) = by_high low (cases_lt k (end_of l))

    outside : {X : Type 0} (xs ys : List X) (k : ℕ) → length ys ≡ n → ((k < l.at) ⊎ (end_of l ≤ k)) →
        slice_get (put_over xs l.at ys) k ≡ slice_get xs k
    outside xs ys k e (inl low) = below_over xs l.at ys k low
    outside xs ys k e (inr high) = above_over xs l.at ys k (omega (arith, high, e))

    in_line : {X : Type 0} (xs ys : List X) (k : ℕ) → length ys ≡ n → length xs ≡ flash_size core → l.at ≤ k → k < end_of l
        → slice_get (put_over xs l.at ys) k ≡ slice_get ys (k - l.at)
    in_line xs ys k e sized low high =
        let same : k ≡ l.at + (k - l.at) = omega (arith, low) in
        ap (λ i. slice_get (put_over xs l.at ys) i) same
        ∙ in_over xs l.at ys (k - l.at) (omega (arith, low, high, e)) (omega (arith, w, e, sized))

    by_place : (k : ℕ) → k < flash_size core → ((k < l.at) ⊎ (end_of l ≤ k)) ⊎ ((l.at ≤ k) × (k < end_of l))
        → slice_get (put_over bytes l.at (item_bytes l.item)) k ≡ Some (unwrap_or (byte_by (ls ++ l ∷ []) k) 255)
    by_place k less (inl out) =
        outside bytes (item_bytes l.item) k refl out ∙ image.bytes_are k less
        ∙ ap (λ x. Some (unwrap_or x 255)) (sym (more_outside ls l k out))
    by_place k less (inr at) =
        let low = at.0 in let high = at.1 in
        let b = there (item_bytes l.item) (k - l.at) (omega (arith, low, high)) in
        in_line bytes (item_bytes l.item) k refl image.sized at.0 at.1 ∙ b.1
        ∙ ap (λ x. Some (unwrap_or x 255)) (sym (more_inside 0 ls l k o h at.0 at.1 ∙ b.1))

    by_flag : (k : ℕ) → k < flash_size core → ((k < l.at) ⊎ (end_of l ≤ k)) ⊎ ((l.at ≤ k) × (k < end_of l))
        → slice_get (put_over written l.at (all_true n)) k ≡ Some (is_some (byte_by (ls ++ l ∷ []) k))
    by_flag k less (inl out) =
        outside written (all_true n) k (length_true n) out ∙ image.flags_are k less
        ∙ ap (λ (x : Option ℕ). Some (is_some x)) (sym (more_outside ls l k out))
    by_flag k less (inr at) =
        let low = at.0 in let high = at.1 in
        let b = there (item_bytes l.item) (k - l.at) (omega (arith, low, high)) in
        in_line written (all_true n) k (length_true n) image.flagged at.0 at.1 ∙ get_true n (k - l.at) (omega (arith, low, high))
        ∙ ap (λ (x : Option ℕ). Some (is_some x)) (sym (more_inside 0 ls l k o h at.0 at.1 ∙ b.1))
