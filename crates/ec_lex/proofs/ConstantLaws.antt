-- Reading a run of bytes gives exactly the constant that it is.
use Rattle.std.proofs.Common.{◌≡◌, ℕ, zero, suc, ◌+◌, ◌*◌, ◌^◌, ◌<◌, ◌≤◌, ◌==◌, ◌&&◌, ◌||◌, List, [], ◌∷◌, ◌++◌, length, take, drop, Bool}
use Rattle.std.proofs.Common.{true, false, Option, Some, None, option_map, refl, sym, ap, ◌∙◌, arith, subst, nat_lt, nat_le, if◌then◌else◌}
use Rattle.std.proofs.Common.{lit<}
use Rattle.std.specs.Option.{option_and_then}
use Rattle.std.specs.List.{prefix_len, list_all}
use Rattle.std.specs.Char.{to_ascii_lowercase}
use Rattle.std.specs.Cmp.Lexicographic.{pointwise}
use Rattle.std.proofs.lemmas.Bool.{eqb-true, ne_eqb, and_parts, cond_both, cond-true, cond-false, true≢false, ltb-true, ltb-false, lt-ltb}
use Rattle.std.proofs.lemmas.Bool.{le-ltb, leb-true}
use Rattle.std.proofs.lemmas.Bool.Decides.{nat_tests}
use Rattle.std.proofs.lemmas.List.{take_at, drop_at, take-append-drop, length-take-le}
use Rattle.std.proofs.lemmas.List.Sums.{prefix_len-le-length}
use Rattle.std.proofs.Math.Nat.{pow-le-pow_right, pow-suc, mul-le-mul_right, mul_assoc, mul_comm}
use Rattle.std.proofs.lemmas.Nat.{pow-add}
use Rattle.ec_fx.specs.declared.formats.FxKind.{FxKind}
use Rattle.ec_fx.specs.declared.numbers.Fixed.{Fixed}
use Rattle.ec_fx.specs.declared.numbers.Fx.{Fx}
use Rattle.ec_fx.specs.declared.numbers.Fx.TheVariants as fx
use Rattle.ec_fx.specs.Formats.{format_of}
use Rattle.ec_fx.specs.Constants.{value_of_constant}
use Rattle.ec_grammar.specs.Tokens.{Lexeme, whole, fixed}
use Rattle.ec_lex.specs.declared.constants.Suffix.{Suffix}
use Rattle.ec_lex.specs.Bytes.{is_digit, is_octal, is_hexadecimal, digit_value, begins}
use Rattle.ec_lex.specs.Pieces.{Pass}
use Rattle.ec_lex.specs.Constants.{value_from, suffix_value, integer_suffixes, fixed_suffixes, IntegerType, types_tried, greatest_of}
use Rattle.ec_lex.specs.Constants.{first_holding, Integer, decimal, octal, hexadecimal, IsConstant, integer, fixed_point}
use Rattle.ec_lex.specs.Reading.{below, integer_suffix, fixed_suffix, whole_of, hexadecimal_of, integer_of, fixed_value, fixed_of}
use Rattle.ec_lex.specs.Reading.{constant_of}
use Rattle.ec_lex.proofs.Runs.{prefix_passes}
use Rattle.ec_lex.proofs.Tables.{some_is}
use Rattle.ec_lex.proofs.LongestLaws.{taken_more}

-- ---- what holds of the answer, where there is one

abbrev pub Each : {A : Type 0} → (A → Type 0) → Option A → Type 0
Each P None = Unit {0}
Each P (Some x) = P x

pub each_then : {A B : Type 0} (P : B → Type 0) (f : A → Option B) (o : Option A) → ((a : A) → o ≡ Some a → Each P (f a))
    → Each P (option_and_then f o)
each_then P f None h = tt
each_then P f (Some a) h = h a refl

pub each_map : {A B : Type 0} (P : B → Type 0) (f : A → B) (o : Option A) → ((a : A) → o ≡ Some a → P (f a)) → Each P (option_map f o)
each_map P f None h = tt
each_map P f (Some a) h = h a refl

below_is : (limit n m : ℕ) → below limit n ≡ Some m → n ≡ m
below_is limit n m h = go (nat_lt n limit) h
  where
    go : (v : Bool) → (if v then Some n else None) ≡ Some m → n ≡ m
    go true e = some_is n m e
    go false e = cc

-- ---- what is read is a constant

whole_read : (base len : ℕ) (bs run front : List ℕ) → Integer front base (take len bs) → run ≡ front ++ drop len bs
    → Each (IsConstant run) (whole_of base len bs)
unfolding whole_of integer_suffix
whole_read base len bs run front spelled e =
    each_then (IsConstant run) _ (suffix_value (drop len bs) integer_suffixes) (λ s hs.
    each_then (IsConstant run) _ (below (2 ^ 32) (value_from base 0 (take len bs))) (λ n hn.
    each_map (IsConstant run) (λ (t : IntegerType). whole n t.signed t.bytes)
    (first_holding n (types_tried (base == 10) s.unsigned s.long)) (λ t ht.
    let same : value_from base 0 (take len bs) ≡ n = below_is (2 ^ 32) (value_from base 0 (take len bs)) n hn in
    let holds : first_holding (value_from base 0 (take len bs)) (types_tried (base == 10) s.unsigned s.long) ≡ Some t = rw same ht in
    let k = integer front (take len bs) (drop len bs) base s t spelled hs holds in
    subst (λ (w : List ℕ). IsConstant w (whole n t.signed t.bytes)) (sym e)
    (subst (λ (m : ℕ). IsConstant (front ++ drop len bs) (whole m t.signed t.bytes)) same k))))

-- the digits of a run that has one
some_digits : (test : ℕ → Bool) (ds : List ℕ) → (prefix_len test ds == 0) ≡ false
    → (d : ℕ) × (more : List ℕ) × (take (prefix_len test ds) ds ≡ d ∷ more) × (test d ≡ true) × Pass test more
some_digits test [] h = absurd (true≢false h)
some_digits test (d ∷ ds) h = go (test d) refl
  where
    go : (v : Bool) → test d ≡ v
        → (e : ℕ) × (more : List ℕ) × (take (prefix_len test (d ∷ ds)) (d ∷ ds) ≡ e ∷ more) × (test e ≡ true) × Pass test more
    go true is = (d, take (prefix_len test ds) ds, taken_more test d ds is, is, prefix_passes test ds)
    go false is = let e : (0 == 0) ≡ false = rw is at h in absurd (true≢false e)

hexadecimal_read : (x : ℕ) (ds : List ℕ) → ((x == 120) || (x == 88)) ≡ true → Each (IsConstant (48 ∷ x ∷ ds)) (hexadecimal_of ds)
hexadecimal_read x ds is_x =
    cond_both (prefix_len is_hexadecimal ds == 0) None _ (λ o. Each (IsConstant (48 ∷ x ∷ ds)) o) (λ none. tt) (λ some.
    let n = prefix_len is_hexadecimal ds in
    let d = some_digits is_hexadecimal ds some in
    let spelled : Integer (48 ∷ x ∷ take n ds) 16 (take n ds) =
    subst (λ (t : List ℕ). Integer (48 ∷ x ∷ t) 16 t) (sym d.2) (hexadecimal is_x d.3 d.4) in
    whole_read 16 n ds (48 ∷ x ∷ ds) (48 ∷ x ∷ take n ds) spelled (ap (λ (t : List ℕ). 48 ∷ x ∷ t) (sym (take-append-drop n ds))))

zero_read : (bs : List ℕ) → Each (IsConstant (48 ∷ bs)) (if begins (λ x. (x == 120) || (x == 88)) bs then hexadecimal_of (drop 1 bs)
    else whole_of 8 (prefix_len is_octal bs) bs)
zero_read bs = cond_both (begins (λ x. (x == 120) || (x == 88)) bs) _ _ (λ o. Each (IsConstant (48 ∷ bs)) o) (with_x bs)
    (λ no_x. whole_read 8 (prefix_len is_octal bs) bs (48 ∷ bs) (48 ∷ take (prefix_len is_octal bs) bs) (octal (prefix_passes is_octal bs))
    (ap (λ (t : List ℕ). 48 ∷ t) (sym (take-append-drop (prefix_len is_octal bs) bs))))
  where
    with_x : (rest : List ℕ) → begins (λ x. (x == 120) || (x == 88)) rest ≡ true
        → Each (IsConstant (48 ∷ rest)) (hexadecimal_of (drop 1 rest))
    with_x [] h = cc
    with_x (x ∷ ds) h = hexadecimal_read x ds h

decimal_read : (b : ℕ) (bs : List ℕ) → (b == 48) ≡ false → is_digit b ≡ true
    → Each (IsConstant (b ∷ bs)) (whole_of 10 (prefix_len is_digit (b ∷ bs)) (b ∷ bs))
decimal_read b bs not_zero digit =
    let n = prefix_len is_digit (b ∷ bs) in
    let digits : take n (b ∷ bs) ≡ b ∷ take (prefix_len is_digit bs) bs = taken_more is_digit b bs digit in
    let spelled : Integer (take n (b ∷ bs)) 10 (take n (b ∷ bs)) =
    subst (λ (t : List ℕ). Integer t 10 t) (sym digits) (decimal digit not_zero (prefix_passes is_digit bs)) in
    whole_read 10 n (b ∷ bs) (b ∷ bs) (take n (b ∷ bs)) spelled (sym (take-append-drop n (b ∷ bs)))

integer_read : (run : List ℕ) → Each (IsConstant run) (integer_of run)
unfolding integer_of
integer_read [] = tt
integer_read (b ∷ bs) =
    cond_both (b == 48) _ _ (λ o. Each (IsConstant (b ∷ bs)) o)
    (λ is. subst (λ (n : ℕ). Each (IsConstant (n ∷ bs)) (if begins (λ x. (x == 120) || (x == 88)) bs then hexadecimal_of (drop 1 bs)
    else whole_of 8 (prefix_len is_octal bs) bs)) (sym (eqb-true b 48 is)) (zero_read bs)) (λ not_zero.
    cond_both (is_digit b) _ None (λ o. Each (IsConstant (b ∷ bs)) o) (λ digit. decimal_read b bs not_zero digit) (λ no_digit. tt))

fixed_value_read : (before after suffix : List ℕ) (kind : FxKind) (v : Fx) → Pass is_digit before → Pass is_digit after
    → 0 < length before + length after → length before + length after ≤ 24
    → suffix_value suffix fixed_suffixes ≡ Some kind
    → value_of_constant (value_from 10 (value_from 10 0 before) after) (length after) (format_of kind) ≡ v
    → Each (IsConstant (before ++ 46 ∷ (after ++ suffix))) (fixed_value kind v)
fixed_value_read before after suffix kind (fx.Got x) p q some few hs hv = fixed_point before after suffix kind x p q some few hs hv
fixed_value_read before after suffix kind fx.Overflow p q some few hs hv = tt
fixed_value_read before after suffix kind fx.ZeroDivisor p q some few hs hv = tt

some_from_test : (a b : ℕ) → ((a == 0) && (b == 0)) ≡ false → 0 < a + b
some_from_test zero zero h = absurd (true≢false h)
some_from_test zero (suc b) h = omega arith
some_from_test (suc a) b h = omega arith

fixed_read : (before more : List ℕ) → Pass is_digit before → Each (IsConstant (before ++ 46 ∷ more)) (fixed_of before more)
unfolding fixed_of fixed_suffix
fixed_read before more p =
    let n = prefix_len is_digit more in
    let P : Lexeme → Type 0 = IsConstant (before ++ 46 ∷ more) in
    cond_both ((length before == 0) && (n == 0)) None _ (λ o. Each P o) (λ none. tt) (λ some.
    cond_both (nat_lt 24 (length before + n)) None _ (λ o. Each P o) (λ many. tt) (λ few.
    each_then P _ (suffix_value (drop n more) fixed_suffixes) (λ kind hs.
    each_then P _ (below (10 ^ 24) (value_from 10 0 before)) (λ first h1.
    each_then P _ (below (10 ^ 24) (value_from 10 first (take n more))) (λ digits h2.
    let len : length (take n more) ≡ n = length-take-le n more (prefix_len-le-length is_digit more) in
    let some' : 0 < length before + length (take n more) = rw len (some_from_test (length before) n some) in
    let few' : length before + length (take n more) ≤ 24 = rw len (ltb-false 24 (length before + n) few) in
    let one : value_from 10 0 before ≡ first = below_is (10 ^ 24) (value_from 10 0 before) first h1 in
    let two : value_from 10 first (take n more) ≡ digits = below_is (10 ^ 24) (value_from 10 first (take n more)) digits h2 in
    let all : value_from 10 (value_from 10 0 before) (take n more) ≡ digits = ap (λ (m : ℕ). value_from 10 m (take n more)) one ∙ two in
    let value : value_of_constant (value_from 10 (value_from 10 0 before) (take n more)) (length (take n more)) (format_of kind)
    ≡ value_of_constant digits n (format_of kind) = rw (all, len) refl in
    let k = fixed_value_read before (take n more) (drop n more) kind (value_of_constant digits n (format_of kind)) p
    (prefix_passes is_digit more) some' few' hs value in
    subst (λ (w : List ℕ). Each (IsConstant (before ++ 46 ∷ w)) (fixed_value kind (value_of_constant digits n (format_of kind))))
    (take-append-drop n more) k)))))

constant_read : (run : List ℕ) → Each (IsConstant run) (constant_of run)
unfolding constant_of
constant_read run =
    let n = prefix_len is_digit run in
    cond_both (begins (λ b. b == 46) (drop n run)) _ _ (λ o. Each (IsConstant run) o)
    (λ is. with_point n (drop n run) refl (prefix_passes is_digit run) is) (λ no_point. integer_read run)
  where
    with_point : (n : ℕ) (rest : List ℕ) → drop n run ≡ rest → Pass is_digit (take n run) → begins (λ b. b == 46) rest ≡ true
        → Each (IsConstant run) (fixed_of (take n run) (drop 1 rest))
    with_point n [] e p is = cc
    with_point n (b ∷ more) e p is =
        let point : b ≡ 46 = eqb-true b 46 is in
        let whole_run : take n run ++ 46 ∷ more ≡ run =
        ap (λ (c : ℕ). take n run ++ c ∷ more) (sym point) ∙ ap (λ (w : List ℕ). take n run ++ w) (sym e) ∙ take-append-drop n run in
        subst (λ (w : List ℕ). Each (IsConstant w) (fixed_of (take n run) more)) whole_run (fixed_read (take n run) more p)

pub constant-read : (run : List ℕ) (k : Lexeme) → constant_of run ≡ Some k → IsConstant run k
constant-read run k h = subst (Each (IsConstant run)) h (constant_read run)

-- ---- a constant is read

-- the first byte of a suffix
abbrev is_suffix_letter : ℕ → Bool
is_suffix_letter a = (a == 104) || ((a == 107) || ((a == 108) || ((a == 114) || (a == 117))))

-- a byte that a suffix does not begin with
abbrev is_within : ℕ → Bool
is_within b = is_hexadecimal b || ((b == 46) || ((b == 120) || (b == 88)))

letter_not_within : (b a : ℕ) → is_suffix_letter a ≡ true → (to_ascii_lowercase b == a) ≡ true → is_within b ≡ false
letter_not_within b a h e = grind (arith, nat_tests)

abbrev starts_as_suffix : List ℕ → Bool
starts_as_suffix [] = true
starts_as_suffix (a ∷ as_) = is_suffix_letter a

suffix_start : {K : Type 0} (table : List (List ℕ × K)) (w : List ℕ) (k : K) → list_all (λ e. starts_as_suffix e.0) table ≡ true
    → suffix_value w table ≡ Some k → begins is_within w ≡ false
suffix_start table [] k all h = refl
suffix_start [] (b ∷ bs) k all h = cc
suffix_start {K} (e ∷ es) (b ∷ bs) k all h =
    let parts = and_parts (starts_as_suffix e.0) (list_all (λ entry. starts_as_suffix entry.0) es) all in
    go (λ m. suffix_start es (b ∷ bs) k parts.1 m) (pointwise (λ x a. to_ascii_lowercase x == a) (b ∷ bs) e.0) refl parts.0
  where
    first : (letters : List ℕ) → pointwise (λ x a. to_ascii_lowercase x == a) (b ∷ bs) letters ≡ true → starts_as_suffix letters ≡ true
        → is_within b ≡ false
    first [] is ok = cc
    first (a ∷ as_) is ok =
        letter_not_within b a ok (and_parts (to_ascii_lowercase b == a) (pointwise (λ x c. to_ascii_lowercase x == c) bs as_) is).0

    go : (suffix_value (b ∷ bs) es ≡ Some k → begins is_within (b ∷ bs) ≡ false) → (v : Bool)
        → pointwise (λ x a. to_ascii_lowercase x == a) (b ∷ bs) e.0 ≡ v → starts_as_suffix e.0 ≡ true → is_within b ≡ false
    go more true is ok = first e.0 is ok
    go more false is ok =
        more (sym (cond-false (pointwise (λ x a. to_ascii_lowercase x == a) (b ∷ bs) e.0) (Some e.1) (suffix_value (b ∷ bs) es) is) ∙ h)

pub prefix_exact : (test : ℕ → Bool) (w r : List ℕ) → Pass test w → begins test r ≡ false → prefix_len test (w ++ r) ≡ length w
prefix_exact test [] [] p h = refl
prefix_exact test [] (b ∷ bs) p h = rw h refl
prefix_exact test (b ∷ w) r p h = rw (p.0, prefix_exact test w r p.1 h) (omega arith)

begins_less : (p q : ℕ → Bool) (r : List ℕ) → ((b : ℕ) → q b ≡ false → p b ≡ false) → begins q r ≡ false → begins p r ≡ false
begins_less p q [] weaker h = refl
begins_less p q (b ∷ bs) weaker h = weaker b h

begins_behind : (p test : ℕ → Bool) (w r : List ℕ) → ((b : ℕ) → test b ≡ true → p b ≡ false) → Pass test w → begins p r ≡ false
    → begins p (w ++ r) ≡ false
begins_behind p test [] r other pass h = h
begins_behind p test (b ∷ w) r other pass h = other b pass.0

within_digit : (b : ℕ) → is_within b ≡ false → is_digit b ≡ false
within_digit b h = grind (arith, nat_tests)

within_octal : (b : ℕ) → is_within b ≡ false → is_octal b ≡ false
within_octal b h = grind (arith, nat_tests)

within_hexadecimal : (b : ℕ) → is_within b ≡ false → is_hexadecimal b ≡ false
within_hexadecimal b h = grind (arith, nat_tests)

within_point : (b : ℕ) → is_within b ≡ false → (b == 46) ≡ false
within_point b h = grind (arith, nat_tests)

within_x : (b : ℕ) → is_within b ≡ false → ((b == 120) || (b == 88)) ≡ false
within_x b h = grind (arith, nat_tests)

octal_no_x : (b : ℕ) → is_octal b ≡ true → ((b == 120) || (b == 88)) ≡ false
octal_no_x b h = grind (arith, nat_tests)

octal_digit : (b : ℕ) → is_octal b ≡ true → is_digit b ≡ true
octal_digit b h = grind (arith, nat_tests)

octals_digits : (ds : List ℕ) → Pass is_octal ds → Pass is_digit ds
octals_digits [] p = tt
octals_digits (d ∷ ds) p = (octal_digit d p.0, octals_digits ds p.1)

below_some : (limit n : ℕ) → n < limit → below limit n ≡ Some n
below_some limit n h = rw (lt-ltb n limit h) refl

holding_small : (n : ℕ) (ts : List IntegerType) (t : IntegerType) → list_all (λ u. nat_lt (greatest_of u) (2 ^ 32)) ts ≡ true
    → first_holding n ts ≡ Some t → n < 2 ^ 32
holding_small n [] t all h = cc
holding_small n (u ∷ us) t all h =
    let parts = and_parts (nat_lt (greatest_of u) (2 ^ 32)) (list_all (λ v. nat_lt (greatest_of v) (2 ^ 32)) us) all in
    go (λ m. holding_small n us t parts.1 m) (nat_le n (greatest_of u)) refl parts.0
  where
    go : (first_holding n us ≡ Some t → n < 2 ^ 32) → (v : Bool) → nat_le n (greatest_of u) ≡ v
        → nat_lt (greatest_of u) (2 ^ 32) ≡ true → n < 2 ^ 32
    go more true is ok = omega (arith, leb-true n (greatest_of u) is, ltb-true (greatest_of u) (2 ^ 32) ok)
    go more false is ok = more (sym (cond-false (nat_le n (greatest_of u)) (Some u) (first_holding n us) is) ∙ h)

types_small : (d u l : Bool) → list_all (λ t. nat_lt (greatest_of t) (2 ^ 32)) (types_tried d u l) ≡ true
types_small true false false = refl
types_small false false false = refl
types_small true true false = refl
types_small false true false = refl
types_small true false true = refl
types_small false false true = refl
types_small true true true = refl
types_small false true true = refl

whole_gives : (base : ℕ) (digits suffix : List ℕ) (s : Suffix) (t : IntegerType) → suffix_value suffix integer_suffixes ≡ Some s
    → first_holding (value_from base 0 digits) (types_tried (base == 10) s.unsigned s.long) ≡ Some t
    → whole_of base (length digits) (digits ++ suffix) ≡ Some (whole (value_from base 0 digits) t.signed t.bytes)
unfolding whole_of integer_suffix
whole_gives base digits suffix s t hs ht =
    let small : value_from base 0 digits < 2 ^ 32 = holding_small (value_from base 0 digits) (types_tried (base == 10) s.unsigned s.long) t
    (types_small (base == 10) s.unsigned s.long) ht in
    rw (
      drop_at digits suffix (length digits) refl,
      take_at digits suffix (length digits) refl,
      hs,
      below_some (2 ^ 32) (value_from base 0 digits) small,
      ht,
    ) refl

no_point : (run : List ℕ) → begins (λ b. b == 46) (drop (prefix_len is_digit run) run) ≡ false → constant_of run ≡ integer_of run
unfolding constant_of
no_point run h = cond-false (begins (λ b. b == 46) (drop (prefix_len is_digit run) run)) _ _ h

point : (run : List ℕ) → begins (λ b. b == 46) (drop (prefix_len is_digit run) run) ≡ true
    → constant_of run ≡ fixed_of (take (prefix_len is_digit run) run) (drop 1 (drop (prefix_len is_digit run) run))
unfolding constant_of
point run h = cond-true (begins (λ b. b == 46) (drop (prefix_len is_digit run) run)) _ _ h

-- digits, and then a suffix
no_point_behind : (ds suffix : List ℕ) → Pass is_digit ds → begins is_within suffix ≡ false
    → constant_of (ds ++ suffix) ≡ integer_of (ds ++ suffix)
no_point_behind ds suffix p h =
    let n : prefix_len is_digit (ds ++ suffix) ≡ length ds =
    prefix_exact is_digit ds suffix p (begins_less is_digit is_within suffix within_digit h) in
    no_point (ds ++ suffix) (rw (n, drop_at ds suffix (length ds) refl) (begins_less (λ b. b == 46) is_within suffix within_point h))

decimal_gives : (d : ℕ) (ds suffix : List ℕ) (s : Suffix) (t : IntegerType) → is_digit d ≡ true → (d == 48) ≡ false → Pass is_digit ds
    → begins is_within suffix ≡ false
    → suffix_value suffix integer_suffixes ≡ Some s → first_holding (value_from 10 0 (d ∷ ds)) (types_tried true s.unsigned s.long) ≡ Some t
    → integer_of ((d ∷ ds) ++ suffix) ≡ Some (whole (value_from 10 0 (d ∷ ds)) t.signed t.bytes)
unfolding integer_of
decimal_gives d ds suffix s t digit not_zero p h hs ht =
    let n : prefix_len is_digit ((d ∷ ds) ++ suffix) ≡ length (d ∷ ds) =
    prefix_exact is_digit (d ∷ ds) suffix (digit, p) (begins_less is_digit is_within suffix within_digit h) in
    cond-false (d == 48) _ _ not_zero ∙ cond-true (is_digit d) _ _ digit ∙ ap (λ (m : ℕ). whole_of 10 m ((d ∷ ds) ++ suffix)) n
    ∙ whole_gives 10 (d ∷ ds) suffix s t hs ht

octal_gives : (ds suffix : List ℕ) (s : Suffix) (t : IntegerType) → Pass is_octal ds → begins is_within suffix ≡ false
    → suffix_value suffix integer_suffixes ≡ Some s → first_holding (value_from 8 0 ds) (types_tried false s.unsigned s.long) ≡ Some t
    → integer_of ((48 ∷ ds) ++ suffix) ≡ Some (whole (value_from 8 0 ds) t.signed t.bytes)
unfolding integer_of
octal_gives ds suffix s t p h hs ht =
    let n : prefix_len is_octal (ds ++ suffix) ≡ length ds =
    prefix_exact is_octal ds suffix p (begins_less is_octal is_within suffix within_octal h) in
    let no_x : begins (λ x. (x == 120) || (x == 88)) (ds ++ suffix) ≡ false = begins_behind (λ x. (x == 120) || (x == 88)) is_octal ds
    suffix octal_no_x p (begins_less (λ x. (x == 120) || (x == 88)) is_within suffix within_x h) in
    cond-false (begins (λ x. (x == 120) || (x == 88)) (ds ++ suffix)) _ _ no_x ∙ ap (λ (m : ℕ). whole_of 8 m (ds ++ suffix)) n
    ∙ whole_gives 8 ds suffix s t hs ht

hexadecimal_gives : (x d : ℕ) (ds suffix : List ℕ) (s : Suffix) (t : IntegerType) → ((x == 120) || (x == 88)) ≡ true
    → is_hexadecimal d ≡ true → Pass is_hexadecimal ds → begins is_within suffix ≡ false
    → suffix_value suffix integer_suffixes ≡ Some s
    → first_holding (value_from 16 0 (d ∷ ds)) (types_tried false s.unsigned s.long) ≡ Some t
    → integer_of ((48 ∷ x ∷ d ∷ ds) ++ suffix) ≡ Some (whole (value_from 16 0 (d ∷ ds)) t.signed t.bytes)
unfolding integer_of
hexadecimal_gives x d ds suffix s t is_x hex p h hs ht =
    let n : prefix_len is_hexadecimal ((d ∷ ds) ++ suffix) ≡ length (d ∷ ds) =
    prefix_exact is_hexadecimal (d ∷ ds) suffix (hex, p) (begins_less is_hexadecimal is_within suffix within_hexadecimal h) in
    let some : (prefix_len is_hexadecimal ((d ∷ ds) ++ suffix) == 0) ≡ false = ne_eqb _ 0 (λ e. omega (arith, n)) in
    cond-true ((x == 120) || (x == 88)) _ _ is_x ∙ cond-false (prefix_len is_hexadecimal ((d ∷ ds) ++ suffix) == 0) _ _ some
    ∙ ap (λ (m : ℕ). whole_of 16 m ((d ∷ ds) ++ suffix)) n ∙ whole_gives 16 (d ∷ ds) suffix s t hs ht

x_no_digit : (x : ℕ) → ((x == 120) || (x == 88)) ≡ true → (is_digit x ≡ false) × ((x == 46) ≡ false)
x_no_digit x h = (grind (arith, nat_tests), grind (arith, nat_tests))

no_point_at_x : (x : ℕ) (rest : List ℕ) → ((x == 120) || (x == 88)) ≡ true → constant_of (48 ∷ x ∷ rest) ≡ integer_of (48 ∷ x ∷ rest)
no_point_at_x x rest h =
    let k = x_no_digit x h in
    let n : prefix_len is_digit (48 ∷ x ∷ rest) ≡ 1 = prefix_exact is_digit (48 ∷ []) (x ∷ rest) (refl, tt) k.0 in
    no_point (48 ∷ x ∷ rest) (rw n k.1)

integer_given : (front digits suffix : List ℕ) (base : ℕ) (s : Suffix) (t : IntegerType) → Integer front base digits
    → suffix_value suffix integer_suffixes ≡ Some s
    → first_holding (value_from base 0 digits) (types_tried (base == 10) s.unsigned s.long) ≡ Some t → begins is_within suffix ≡ false
    → constant_of (front ++ suffix) ≡ Some (whole (value_from base 0 digits) t.signed t.bytes)
integer_given front digits suffix base s t (decimal {d = d} {ds = ds} digit not_zero p) hs ht h =
    no_point_behind (d ∷ ds) suffix (digit, p) h ∙ decimal_gives d ds suffix s t digit not_zero p h hs ht
integer_given front digits suffix base s t (octal {ds = ds} p) hs ht h =
    no_point_behind (48 ∷ ds) suffix (refl, octals_digits ds p) h ∙ octal_gives ds suffix s t p h hs ht
integer_given front digits suffix base s t (hexadecimal {x = x} {d = d} {ds = ds} is_x hex p) hs ht h =
    no_point_at_x x (d ∷ ds ++ suffix) is_x ∙ hexadecimal_gives x d ds suffix s t is_x hex p h hs ht

-- ---- fixed-point constants

more_digits : (n d p q : ℕ) → d ≤ 9 → q ≡ p * 10 → (n * 10 + d + 1) * p ≤ (n + 1) * q
more_digits n d p q h e =
    let fewer : n * 10 + d + 1 ≤ (n + 1) * 10 = omega arith in
    let same : (n + 1) * 10 * p ≡ (n + 1) * q = mul_assoc (n + 1) 10 p ∙ ap (λ (m : ℕ). (n + 1) * m) (mul_comm 10 p ∙ sym e) in
    omega (arith, mul-le-mul_right p fewer, same)

digit_small : (b : ℕ) → is_digit b ≡ true → digit_value b ≤ 9
digit_small b h = grind (arith, nat_tests)

-- so many digits make a number below so many powers of ten
digits_bound : (n : ℕ) (ds : List ℕ) → Pass is_digit ds → value_from 10 n ds < (n + 1) * 10 ^ length ds
digits_bound n [] p = omega arith
digits_bound n (d ∷ ds) p =
    let more : value_from 10 (n * 10 + digit_value d) ds < (n * 10 + digit_value d + 1) * 10 ^ length ds =
    digits_bound (n * 10 + digit_value d) ds p.1 in
    let step : (n * 10 + digit_value d + 1) * 10 ^ length ds ≤ (n + 1) * 10 ^ suc (length ds) =
    more_digits n (digit_value d) (10 ^ length ds) (10 ^ suc (length ds)) (digit_small d p.0) (pow-suc 10 (length ds)) in
    omega (arith, more, step)

few_digits : (before after : List ℕ) → Pass is_digit before → Pass is_digit after → length before + length after ≤ 24
    → (value_from 10 0 before < 10 ^ 24) × (value_from 10 (value_from 10 0 before) after < 10 ^ 24)
few_digits before after p q few =
    let n = value_from 10 0 before in
    let one : n < 10 ^ length before = omega (arith, digits_bound 0 before p) in
    let two : value_from 10 n after < (n + 1) * 10 ^ length after = digits_bound n after q in
    let fits : n + 1 ≤ 10 ^ length before = omega arith in
    let product : (n + 1) * 10 ^ length after ≤ 10 ^ length before * 10 ^ length after = mul-le-mul_right (10 ^ length after) fits in
    let all : 10 ^ (length before + length after) ≤ 10 ^ 24 = pow-le-pow_right (lit< tt) few in
    let fewer : length before ≤ 24 = omega arith in
    let first : 10 ^ length before ≤ 10 ^ 24 = pow-le-pow_right (lit< tt) fewer in
    (omega (arith, one, first), omega (arith, two, product, pow-add 10 (length before) (length after), all))

none_from_some : (a b : ℕ) → 0 < a + b → ((a == 0) && (b == 0)) ≡ false
none_from_some zero zero h = absurd (omega arith)
none_from_some zero (suc b) h = rw (ne_eqb (suc b) 0 (λ e. omega arith)) refl
none_from_some (suc a) b h = rw (ne_eqb (suc a) 0 (λ e. omega arith)) refl

fixed_given : (before after suffix : List ℕ) (kind : FxKind) (x : Fixed) → Pass is_digit before → Pass is_digit after
    → 0 < length before + length after → length before + length after ≤ 24
    → suffix_value suffix fixed_suffixes ≡ Some kind
    → value_of_constant (value_from 10 (value_from 10 0 before) after) (length after) (format_of kind) ≡ fx.Got x
    → begins is_within suffix ≡ false
    → fixed_of before (after ++ suffix) ≡ Some (fixed kind x.n)
unfolding fixed_of fixed_suffix
fixed_given before after suffix kind x p q some few hs hv h =
    let n : prefix_len is_digit (after ++ suffix) ≡ length after =
    prefix_exact is_digit after suffix q (begins_less is_digit is_within suffix within_digit h) in
    let b = few_digits before after p q few in
    rw (
      n,
      none_from_some (length before) (length after) some,
      le-ltb 24 (length before + length after) few,
      drop_at after suffix (length after) refl,
      hs,
      below_some (10 ^ 24) (value_from 10 0 before) b.0,
      take_at after suffix (length after) refl,
      below_some (10 ^ 24) (value_from 10 (value_from 10 0 before) after) b.1,
      hv,
    ) refl

point_behind : (before more : List ℕ) → Pass is_digit before → constant_of (before ++ 46 ∷ more) ≡ fixed_of before more
point_behind before more p =
    let n : prefix_len is_digit (before ++ 46 ∷ more) ≡ length before = prefix_exact is_digit before (46 ∷ more) p refl in
    let rest : drop (prefix_len is_digit (before ++ 46 ∷ more)) (before ++ 46 ∷ more) ≡ 46 ∷ more =
    rw n (drop_at before (46 ∷ more) (length before) refl) in
    let front : take (prefix_len is_digit (before ++ 46 ∷ more)) (before ++ 46 ∷ more) ≡ before =
    rw n (take_at before (46 ∷ more) (length before) refl) in
    point (before ++ 46 ∷ more) (rw rest refl) ∙ rw (rest, front) refl

pub constant-given : (run : List ℕ) (k : Lexeme) → IsConstant run k → constant_of run ≡ Some k
constant-given run k (integer front digits suffix base s t spelled hs ht) =
    integer_given front digits suffix base s t spelled hs ht (suffix_start integer_suffixes suffix s refl hs)
constant-given run k (fixed_point before after suffix kind x p q some few hs hv) =
    point_behind before (after ++ suffix) p
    ∙ fixed_given before after suffix kind x p q some few hs hv (suffix_start fixed_suffixes suffix kind refl hs)
