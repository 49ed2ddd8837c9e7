-- What holds of all patterns of texts, and of patterns with their numbers.
use Rattle.std.proofs.Common.{◌≡◌, ℕ, ◌+◌, ◌-◌, ◌*◌, ◌%◌, ◌/◌, ◌<◌, ◌≤◌, true, false, not, ◌&&◌, Bool, List, [], ◌∷◌, ◌++◌, length}
use Rattle.std.proofs.Common.{refl, sym, ap, ◌∙◌, subst, arith, length-append}
use Rattle.std.specs.Prelude.{◌==◌, nat_lt, nat_le, if◌then◌else◌, slice_index}
use Rattle.std.specs.Fmt.{decimal}
use Rattle.std.proofs.lemmas.Fmt.{decimal_by_steps, length-decimal-le}
use Rattle.std.proofs.lemmas.Bool.{lt-ltb, le-leb, leb-true, eqb-true}
use Rattle.ec_list.specs.Texts.{filled}
use Rattle.ec_list.specs.Assembling.{has_no_end}
use Rattle.ec_list.specs.Scanning.{Scan, begin, digit_on, other_on, scan_one, scan_on, scanned, is_decimal}

-- ---- scanning

-- the number of the next run of digits is kept here
abbrev next_of : Scan → ℕ
next_of s = if s.later then s.second else s.first

-- a number was taken
abbrev pub numbered : ℕ → Scan → Scan
numbered n s = record {
  pattern = s.pattern ++ 35 ∷ [];
  first = if s.later then s.first else n;
  second = if s.later then n else s.second;
  later = s.later;
  inside = true;
}

-- what is scanned of a pattern with its numbers
abbrev pub taken : List ℕ → ℕ → ℕ → Scan → Scan
taken [] n m s = s
taken (c ∷ pattern) n m s = if c == 35 then taken pattern m 0 (numbered n s) else taken pattern n m (other_on c s)

-- at most two numbers stand in the pattern, none behind another, and neither a digit nor a line feed
abbrev is_plain : List ℕ → ℕ → ℕ → Scan → Bool
is_plain [] n m s = true
is_plain (c ∷ pattern) n m s =
    if c == 35 then not s.inside && (next_of s == 0) && is_plain pattern m 0 (numbered n s)
    else not (is_decimal c) && not (c == 10) && is_plain pattern n m (other_on c s)

-- the greatest length with numbers of at most five digits
abbrev longest : List ℕ → ℕ
longest [] = 0
longest (c ∷ pattern) = (if c == 35 then 5 else 1) + longest pattern

-- it begins with a letter, and leaves room for the address in a line of 32 characters
abbrev pub is_sound : List ℕ → ℕ → ℕ → Bool
is_sound pattern n m = is_plain pattern n m begin && (nat_le 65 (slice_index pattern 0) && nat_le (longest pattern) 24)

scan_append : (s : Scan) (a b : List ℕ) → scan_on s (a ++ b) ≡ scan_on (scan_on s a) b
scan_append s [] b = refl
scan_append s (c ∷ a) b = scan_append (scan_one c s) a b

digit_is : (n : ℕ) → n < 10 → is_decimal (48 + n) ≡ true
digit_is n h = let low : nat_le 48 (48 + n) ≡ true = le-leb 48 (48 + n) (omega arith) in
    let high : nat_lt (48 + n) 58 ≡ true = lt-ltb (48 + n) 58 (omega (arith, h)) in rw (low, high) refl

abbrev state : List ℕ → ℕ → ℕ → Bool → Bool → Scan
state pattern first second later inside = record { pattern = pattern; first = first; second = second; later = later; inside = inside }

first_digit : (pattern : List ℕ) (first second : ℕ) (later : Bool) (d : ℕ) → d < 10 → (if later then second else first) ≡ 0
    → digit_on d (state pattern first second later false) ≡ numbered d (state pattern first second later false)
first_digit pattern first second true d h e = let same : (10 * second + d) % 65536 ≡ d = omega (arith, e, h) in rw same refl
first_digit pattern first second false d h e = let same : (10 * first + d) % 65536 ≡ d = omega (arith, e, h) in rw same refl

next_digit : (pattern : List ℕ) (first second : ℕ) (later : Bool) (n d : ℕ) → 10 * n + d < 65536
    → digit_on d (numbered n (state pattern first second later false)) ≡ numbered (10 * n + d) (state pattern first second later false)
next_digit pattern first second true n d h = let same : (10 * n + d) % 65536 ≡ 10 * n + d = omega (arith, h) in rw same refl
next_digit pattern first second false n d h = let same : (10 * n + d) % 65536 ≡ 10 * n + d = omega (arith, h) in rw same refl

digit_step : (s : Scan) (d : ℕ) → d < 10 → scan_one (48 + d) s ≡ digit_on d s
digit_step s d h = let less : 48 + d - 48 ≡ d = omega arith in rw (digit_is d h, less) refl

number_from : (pattern : List ℕ) (first second : ℕ) (later : Bool) (n : ℕ) → n < 65536 → (if later then second else first) ≡ 0
    → scan_on (state pattern first second later false) (decimal n) ≡ numbered n (state pattern first second later false)
number_from pattern first second later n small zero = decimal_by_steps
    (λ n ds. n < 65536 → scan_on s ds ≡ numbered n s)
    (λ n h small. digit_step s n h ∙ first_digit pattern first second later n h zero)
    (λ n ds h before small.
    let same : 10 * (n / 10) + n % 10 ≡ n = omega arith in
    scan_append s ds ((48 + n % 10) ∷ [])
    ∙ ap (λ t. scan_one (48 + n % 10) t) (before (omega (arith, small)))
    ∙ digit_step (numbered (n / 10) s) (n % 10) (omega arith)
    ∙ next_digit pattern first second later (n / 10) (n % 10) (omega (arith, small))
    ∙ ap (λ k. numbered k s) same)
    n (omega (arith, small)) small
  where
    s : Scan
    s = state pattern first second later false

number_on : (n : ℕ) (s : Scan) → n < 65536 → s.inside ≡ false → next_of s ≡ 0 → scan_on s (decimal n) ≡ numbered n s
number_on n s small out zero = subst (λ t. scan_on t (decimal n) ≡ numbered n t) outside
    (number_from s.pattern s.first s.second s.later n small zero)
  where
    outside : state s.pattern s.first s.second s.later false ≡ s
    outside = ap (λ b. state s.pattern s.first s.second s.later b) (sym out)

split : (a b : Bool) → (a && b) ≡ true → (a ≡ true) × (b ≡ true)
split true true e = (refl, refl)
split true false e = cc
split false b e = cc

not_true : (b : Bool) → not b ≡ true → b ≡ false
not_true true e = cc
not_true false e = refl

taken_is : (pattern : List ℕ) (n m : ℕ) (s : Scan) → n < 65536 → m < 65536 → is_plain pattern n m s ≡ true
    → scan_on s (filled pattern n m) ≡ taken pattern n m s
taken_is [] n m s a b e = refl
taken_is (c ∷ pattern) n m s a b e =
    by_sign (c == 35) (λ h. taken_is pattern m 0 (numbered n s) b (omega arith) h) (λ h. taken_is pattern n m (other_on c s) a b h) e
  where
    by_sign : (sign : Bool)
        → (is_plain pattern m 0 (numbered n s) ≡ true → scan_on (numbered n s) (filled pattern m 0) ≡ taken pattern m 0 (numbered n s))
        → (is_plain pattern n m (other_on c s) ≡ true → scan_on (other_on c s) (filled pattern n m) ≡ taken pattern n m (other_on c s))
        → (if sign then not s.inside && (next_of s == 0) && is_plain pattern m 0 (numbered n s)
        else not (is_decimal c) && not (c == 10) && is_plain pattern n m (other_on c s)) ≡ true
        → scan_on s (if sign then decimal n ++ filled pattern m 0 else c ∷ filled pattern n m)
        ≡ (if sign then taken pattern m 0 (numbered n s) else taken pattern n m (other_on c s))
    by_sign true number other e =
        let p = split (not s.inside && (next_of s == 0)) (is_plain pattern m 0 (numbered n s)) e in
        let q = split (not s.inside) (next_of s == 0) p.0 in
        scan_append s (decimal n) (filled pattern m 0)
        ∙ ap (λ t. scan_on t (filled pattern m 0)) (number_on n s a (not_true s.inside q.0) (eqb-true (next_of s) 0 q.1))
        ∙ number p.1
    by_sign false number other e =
        let p = split (not (is_decimal c) && not (c == 10)) (is_plain pattern n m (other_on c s)) e in
        let q = split (not (is_decimal c)) (not (c == 10)) p.0 in
        let same : scan_one c s ≡ other_on c s = rw (not_true (is_decimal c) q.0) refl in
        ap (λ t. scan_on t (filled pattern n m)) same ∙ other p.1

pub scanned_is : (pattern : List ℕ) (n m : ℕ) → n < 65536 → m < 65536 → is_sound pattern n m ≡ true
    → scanned (filled pattern n m) ≡ taken pattern n m begin
scanned_is pattern n m a b e =
    taken_is pattern n m begin a b (split (is_plain pattern n m begin)
    (nat_le 65 (slice_index pattern 0) && nat_le (longest pattern) 24) e).0

-- ---- the first character, the length, and no line feed

pub append_ends : (a b : List ℕ) → has_no_end a ≡ true → has_no_end b ≡ true → has_no_end (a ++ b) ≡ true
append_ends [] b e f = f
append_ends (c ∷ a) b e f =
    let p = split (not (c == 10)) (has_no_end a) e in rw (p.0, append_ends a b p.1 f) refl

digit_ends : (d : ℕ) → d < 10 → has_no_end ((48 + d) ∷ []) ≡ true
digit_ends d h = grind (arith, h)

number_ends : (n : ℕ) → n < 65536 → has_no_end (decimal n) ≡ true
number_ends n h = decimal_by_steps (λ n ds. has_no_end ds ≡ true) (λ n less. digit_ends n less)
    (λ n ds more before. append_ends ds ((48 + n % 10) ∷ []) before (digit_ends (n % 10) (omega arith))) n (omega (arith, h))

filled_ends : (pattern : List ℕ) (n m : ℕ) (s : Scan) → n < 65536 → m < 65536 → is_plain pattern n m s ≡ true
    → has_no_end (filled pattern n m) ≡ true
filled_ends [] n m s a b e = refl
filled_ends (c ∷ pattern) n m s a b e =
    by_sign (c == 35) (λ h. filled_ends pattern m 0 (numbered n s) b (omega arith) h) (λ h. filled_ends pattern n m (other_on c s) a b h) e
  where
    by_sign : (sign : Bool)
        → (is_plain pattern m 0 (numbered n s) ≡ true → has_no_end (filled pattern m 0) ≡ true)
        → (is_plain pattern n m (other_on c s) ≡ true → has_no_end (filled pattern n m) ≡ true)
        → (if sign then not s.inside && (next_of s == 0) && is_plain pattern m 0 (numbered n s)
        else not (is_decimal c) && not (c == 10) && is_plain pattern n m (other_on c s)) ≡ true
        → has_no_end (if sign then decimal n ++ filled pattern m 0 else c ∷ filled pattern n m) ≡ true
    by_sign true number other e =
        let p = split (not s.inside && (next_of s == 0)) (is_plain pattern m 0 (numbered n s)) e in
        append_ends (decimal n) (filled pattern m 0) (number_ends n a) (number p.1)
    by_sign false number other e =
        let p = split (not (is_decimal c) && not (c == 10)) (is_plain pattern n m (other_on c s)) e in
        let q = split (not (is_decimal c)) (not (c == 10)) p.0 in
        rw (q.1, other p.1) refl

pub pattern_ends : (pattern : List ℕ) (n m : ℕ) → n < 65536 → m < 65536 → is_sound pattern n m ≡ true
    → has_no_end (filled pattern n m) ≡ true
pattern_ends pattern n m a b e =
    filled_ends pattern n m begin a b (split (is_plain pattern n m begin)
    (nat_le 65 (slice_index pattern 0) && nat_le (longest pattern) 24) e).0

length_filled : (pattern : List ℕ) (n m : ℕ) → n < 65536 → m < 65536 → length (filled pattern n m) ≤ longest pattern
length_filled [] n m a b = omega arith
length_filled (c ∷ pattern) n m a b = by_sign (c == 35) (length_filled pattern m 0 b (omega arith)) (length_filled pattern n m a b)
  where
    by_sign : (sign : Bool) → length (filled pattern m 0) ≤ longest pattern → length (filled pattern n m) ≤ longest pattern
        → length (if sign then decimal n ++ filled pattern m 0 else c ∷ filled pattern n m) ≤ (if sign then 5 else 1) + longest pattern
    by_sign true number other =
        let few = length-decimal-le 5 n (omega arith) (omega (arith, a)) (omega (arith, a)) in
        omega (arith, length-append (decimal n) (filled pattern m 0), few, number)
    by_sign false number other = omega (arith, other)

pub pattern_length : (pattern : List ℕ) (n m : ℕ) → n < 65536 → m < 65536 → is_sound pattern n m ≡ true → length (filled pattern n m) ≤ 24
pattern_length pattern n m a b e =
    let p = split (is_plain pattern n m begin) (nat_le 65 (slice_index pattern 0) && nat_le (longest pattern) 24) e in
    let q = split (nat_le 65 (slice_index pattern 0)) (nat_le (longest pattern) 24) p.1 in
    omega (arith, length_filled pattern n m a b, leb-true (longest pattern) 24 q.1)

-- the first character of a text whose pattern begins with a letter
pub pattern_letter : (pattern : List ℕ) (n m : ℕ) → is_sound pattern n m ≡ true → nat_le 65 (slice_index (filled pattern n m) 0) ≡ true
pattern_letter [] n m e = cc
pattern_letter (c ∷ pattern) n m e = by_sign (c == 35) refl
  where
    letter : nat_le 65 c ≡ true
    letter =
        let p = split (is_plain (c ∷ pattern) n m begin) (nat_le 65 c && nat_le (longest (c ∷ pattern)) 24) e in
        (split (nat_le 65 c) (nat_le (longest (c ∷ pattern)) 24) p.1).0

    by_sign : (sign : Bool) → (c == 35) ≡ sign → nat_le 65 (slice_index
        (if sign then decimal n ++ filled pattern m 0 else c ∷ filled pattern n m) 0) ≡ true
    by_sign true h = absurd (omega (arith, eqb-true c 35 h, leb-true 65 c letter))
    by_sign false h = letter
