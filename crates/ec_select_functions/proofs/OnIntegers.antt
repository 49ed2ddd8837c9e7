-- What an operator gives for numbers of one fixed-point format is what it gives for the integers of their bytes.
use Rattle.std.proofs.Common.{◌≡◌, ℕ, zero, suc, ◌-◌, ◌*◌, ◌/◌, ◌^◌, ◌<◌, ◌≤◌, max, ⊎_elim, Bool, true, false, ℤ, pos, negsuc}
use Rattle.std.proofs.Common.{neg_ℤ, ◌+ℤ◌, ◌-ℤ◌, ◌*ℤ◌, int_lt, nat_lt, Ok, refl, sym, ap, ◌∙◌, subst, arith}
use Rattle.std.specs.Prelude.{if◌then◌else◌, not, ◌&&◌, ◌||◌}
use Rattle.std.specs.Ordering.{int_cmp}
use Rattle.std.proofs.lemmas.Bool.{cases_lt, cases_Bool, lt-ltb, le-ltb, and_parts, eqb-true}
use Rattle.std.proofs.lemmas.Bool.Decides.{nat_tests}
use Rattle.std.proofs.lemmas.Int.{ints}
use Rattle.std.proofs.lemmas.Nat.{mul-le, pow_pos}
use Rattle.ec_fx.specs.declared.formats.Format.{Format}
use Rattle.ec_fx.specs.declared.formats.FxKind.{FxKind}
use Rattle.ec_fx.specs.declared.numbers.Mode.{Mode}
use Rattle.ec_fx.specs.declared.numbers.Fx.TheVariants.{Got, Overflow}
use Rattle.ec_fx.specs.Arithmetic.{exact_sum, exact_difference, exact_negation}
use Rattle.ec_fx.specs.Conversions.{exact_conversion}
use Rattle.ec_fx.specs.Formats.{format_of}
use Rattle.ec_fx.specs.Ranges.{least, greatest}
use Rattle.ec_fx.specs.Results.{fit}
use Rattle.ec_fx.specs.Rounding.{trunc, rounded}
use Rattle.ec_fx.proofs.Scaling.{sum_aligned, difference_aligned, trunc-common}
use Rattle.ec_core.specs.declared.expressions.BinOp.{BinOp}
use Rattle.ec_core.specs.declared.expressions.BinOp.TheVariants.{Add, Sub}
use Rattle.ec_core.specs.declared.expressions.UnOp.TheVariants.{Minus}
use Rattle.ec_core.specs.declared.values.Value.{Value}
use Rattle.ec_core.specs.declared.values.Value.TheVariants.{Number}
use Rattle.ec_core.specs.Accesses.{operand_of}
use Rattle.ec_core.specs.ArithmeticValues.{outcome, is_comparison}
use Rattle.ec_core.specs.Integers.{wrapped, compared}
use Rattle.ec_core.specs.Operators.{as_number, unary_result, binary_result, conversion_result}
use Rattle.ec_core.specs.Plain.{PlainType, integer, fixed, PlainProgram}
use Rattle.ec_core.specs.State.{State}
use Rattle.ec_ir.specs.Temporaries.{bits, content_of, low_bytes, number_of_bytes}
use Rattle.ec_select_fixed.proofs.Converted.{kept_result}
use Rattle.ec_select_fixed.proofs.Operators.{as_told}
use Rattle.ec_select_operations.specs.Code.{has_one_format, has_one_fraction, keeps_number}
use Rattle.ec_select_operations.proofs.OneFormat.{one_format}
use Rattle.ec_select_functions.proofs.Wrapped.{low_of_number, low_of_wrapped}

-- ---- exact results

whole_trunc : (z : ℤ) → trunc z 1 ≡ z
whole_trunc (pos n) = let e : n / 1 ≡ n = omega arith in ap pos e
whole_trunc (negsuc n) = let e : suc n / 1 ≡ suc n = omega arith in ap (λ (m : ℕ). neg_ℤ (pos m)) e

times_one : (z : ℤ) → z *ℤ pos 1 ≡ z
times_one z = omega (arith, ints)

-- in units of the operands' format nothing is rounded
pub sum_exact : (x y : ℤ) (f : ℕ) → rounded (exact_sum x f y f f) ≡ x +ℤ y
sum_exact x y f =
    let e : f ≡ max f f = omega arith in
    let z : f - f ≡ 0 = omega arith in
    sym (sum_aligned x y f f f f e (omega arith)) ∙ ap (λ (i : ℕ). trunc (x *ℤ pos (2 ^ i) +ℤ y *ℤ pos (2 ^ i)) (2 ^ i)) z
    ∙ whole_trunc (x *ℤ pos 1 +ℤ y *ℤ pos 1) ∙ ap (λ (i : ℤ). i +ℤ y *ℤ pos 1) (times_one x) ∙ ap (λ (i : ℤ). x +ℤ i) (times_one y)

pub difference_exact : (x y : ℤ) (f : ℕ) → rounded (exact_difference x f y f f) ≡ x -ℤ y
difference_exact x y f =
    let e : f ≡ max f f = omega arith in
    let z : f - f ≡ 0 = omega arith in
    sym (difference_aligned x y f f f f e (omega arith)) ∙ ap (λ (i : ℕ). trunc (x *ℤ pos (2 ^ i) -ℤ y *ℤ pos (2 ^ i)) (2 ^ i)) z
    ∙ whole_trunc (x *ℤ pos 1 -ℤ y *ℤ pos 1) ∙ ap (λ (i : ℤ). i -ℤ y *ℤ pos 1) (times_one x) ∙ ap (λ (i : ℤ). x -ℤ i) (times_one y)

zero_plus : (z : ℤ) → z ≡ pos 0 +ℤ z
zero_plus z = omega (arith, ints)

negation_exact : (x : ℤ) → rounded (exact_negation x) ≡ pos 0 -ℤ x
negation_exact x = whole_trunc (neg_ℤ x) ∙ zero_plus (neg_ℤ x)

-- a result that does not saturate is the number itself
fits : (to : Format) (mode : Mode) (z n : ℤ) → not mode.saturate ≡ true → outcome (fit to mode z) ≡ Ok n → n ≡ z
fits to mode z n = by_tests (int_lt (greatest to.signed to.bits) z) (int_lt z (least to.signed to.bits)) mode.saturate
  where
    by_tests : (b c s : Bool) → not s ≡ true
        → outcome (if b then (if s then Got (record { format = to; n = greatest to.signed to.bits }) else Overflow)
        else (if c then (if s then Got (record { format = to; n = least to.signed to.bits }) else Overflow)
        else Got (record { format = to; n = z }))) ≡ Ok n → n ≡ z
    by_tests b c true q h = absurd cc
    by_tests true c false q h = absurd cc
    by_tests false true false q h = absurd cc
    by_tests false false false q h = let same : z ≡ n = cc in sym same

-- ---- the order of multiples

less_times : (a b p : ℕ) → 0 < p → nat_lt (a * p) (b * p) ≡ nat_lt a b
less_times a b p some =
    ⊎_elim
    (λ (l : a < b).
    let m : suc a * p ≤ b * p = mul-le (suc a) p b p l (omega arith) in
    lt-ltb (a * p) (b * p) (omega (arith, m, some)) ∙ sym (lt-ltb a b l))
    (λ (l : b ≤ a).
    let m : b * p ≤ a * p = mul-le b p a p l (omega arith) in
    le-ltb (a * p) (b * p) m ∙ sym (le-ltb a b l))
    (cases_lt a b)

not_below : (x m : ℕ) → int_lt (pos x) (neg_ℤ (pos m)) ≡ false
not_below x zero = le-ltb x 0 (omega arith)
not_below x (suc m) = refl

below : (m x : ℕ) → 0 < m → int_lt (neg_ℤ (pos m)) (pos x) ≡ true
below zero x l = absurd (omega arith)
below (suc m) x l = refl

both_below : (m n : ℕ) → 0 < m → 0 < n → int_lt (neg_ℤ (pos m)) (neg_ℤ (pos n)) ≡ nat_lt n m
both_below zero n l k = absurd (omega arith)
both_below (suc m) zero l k = absurd (omega arith)
both_below (suc m) (suc n) l k = grind (arith, nat_tests)

some_product : (m p : ℕ) → 0 < p → 0 < suc m * p
some_product m p l = let h : 1 * p ≤ suc m * p = mul-le 1 p (suc m) p (omega arith) (omega arith) in omega (arith, h, l)

int_less_times : (x y : ℤ) (p : ℕ) → 0 < p → int_lt (x *ℤ pos p) (y *ℤ pos p) ≡ int_lt x y
int_less_times (pos a) (pos b) p l = less_times a b p l
int_less_times (pos a) (negsuc b) p l = not_below (a * p) (suc b * p)
int_less_times (negsuc a) (pos b) p l = below (suc a * p) (b * p) (some_product a p l)
int_less_times (negsuc a) (negsuc b) p l =
    both_below (suc a * p) (suc b * p) (some_product a p l) (some_product b p l) ∙ less_times (suc b) (suc a) p l
    ∙ sym (both_below (suc a) (suc b) (omega arith) (omega arith))

order_times : (x y : ℤ) (p : ℕ) → 0 < p → int_cmp (x *ℤ pos p) (y *ℤ pos p) ≡ int_cmp x y
order_times x y p l = rw (int_less_times x y p l, int_less_times y x p l) refl

order_exact : (x y : ℤ) (f : ℕ) → int_cmp (x *ℤ pos (2 ^ f)) (y *ℤ pos (2 ^ f)) ≡ int_cmp (x *ℤ pos 1) (y *ℤ pos 1)
order_exact x y f =
    order_times x y (2 ^ f) (pow_pos f) ∙ ap (λ (i : ℤ). int_cmp i y) (sym (times_one x))
    ∙ ap (λ (i : ℤ). int_cmp (x *ℤ pos 1) i) (sym (times_one y))

-- ---- operators

-- the integer that the bytes of a number stand for
abbrev pub whole_of : FxKind → ℕ → ℤ
whole_of k x = number_of_bytes (format_of k).signed ((format_of k).bits / 8) x

abbrev pub whole_type : FxKind → PlainType
whole_type k = integer (format_of k).signed ((format_of k).bits / 8)

-- where an operator gives r for two numbers, it gives a number for the integers whose low b bytes are those of r
pub record GivesAs (op : BinOp) (ty : PlainType) (mode : Mode) (p : PlainProgram) (k : FxKind) (x z b : ℕ) (st : State)
    (r : Value) : Type 0 where
  pub number : ℤ
  pub is : binary_result op ty mode (operand_of p (whole_type k) (Number (whole_of k x)) st)
      (operand_of p (whole_type k) (Number (whole_of k z)) st) ≡ Ok (Number number)
  pub same : content_of b r ≡ content_of b (Number number)

pub sum_as : (k : FxKind) (s0 s1 s2 : Bool) (mode : Mode) (p : PlainProgram) (x z b : ℕ) (st : State) (r : Value)
    → not mode.saturate ≡ true
    → binary_result Add (fixed k s0) mode (operand_of p (fixed k s1) (Number (whole_of k x)) st)
    (operand_of p (fixed k s2) (Number (whole_of k z)) st) ≡ Ok r
    → GivesAs Add (integer (format_of k).signed b) mode p k x z b st r
sum_as k s0 s1 s2 mode p x z b st r q h =
    let f = format_of k in
    let m = whole_of k x in
    let n = whole_of k z in
    let told = as_told (outcome (fit f mode (rounded (exact_sum m f.frac n f.frac f.frac)))) r h in
    let exact : told.number ≡ m +ℤ n =
    fits f mode (rounded (exact_sum m f.frac n f.frac f.frac)) told.number q told.is ∙ sum_exact m n f.frac in
    let low = ap (low_bytes b) exact ∙ sym (low_of_wrapped f.signed b (m +ℤ n)) in
    record { number = _; is = refl; same = ap (content_of b) told.result ∙ ap bits low }

pub difference_as : (k : FxKind) (s0 s1 s2 : Bool) (mode : Mode) (p : PlainProgram) (x z b : ℕ) (st : State) (r : Value)
    → not mode.saturate ≡ true
    → binary_result Sub (fixed k s0) mode (operand_of p (fixed k s1) (Number (whole_of k x)) st)
    (operand_of p (fixed k s2) (Number (whole_of k z)) st) ≡ Ok r
    → GivesAs Sub (integer (format_of k).signed b) mode p k x z b st r
difference_as k s0 s1 s2 mode p x z b st r q h =
    let f = format_of k in
    let m = whole_of k x in
    let n = whole_of k z in
    let told = as_told (outcome (fit f mode (rounded (exact_difference m f.frac n f.frac f.frac)))) r h in
    let exact : told.number ≡ m -ℤ n =
    fits f mode (rounded (exact_difference m f.frac n f.frac f.frac)) told.number q told.is ∙ difference_exact m n f.frac in
    let low = ap (low_bytes b) exact ∙ sym (low_of_wrapped f.signed b (m -ℤ n)) in
    record { number = _; is = refl; same = ap (content_of b) told.result ∙ ap bits low }

pub order_as : (op : BinOp) → is_comparison op ≡ true → (ty : PlainType) (k : FxKind) (s1 s2 : Bool) (mode : Mode) (p : PlainProgram)
    (x z b : ℕ) (st : State) (r : Value)
    → binary_result op ty mode (operand_of p (fixed k s1) (Number (whole_of k x)) st)
    (operand_of p (fixed k s2) (Number (whole_of k z)) st) ≡ Ok r
    → GivesAs op ty mode p k x z b st r
order_as op c ty k s1 s2 mode p x z b st r h =
    let f = format_of k in
    let m = whole_of k x in
    let n = whole_of k z in
    let order = order_exact m n f.frac in
    let compares : as_number (compared op (int_cmp (m *ℤ pos (2 ^ f.frac)) (n *ℤ pos (2 ^ f.frac)))) ≡ Ok r = compared_so h in
    let told = as_told (compared op (int_cmp (m *ℤ pos 1) (n *ℤ pos 1))) r (ap (λ o. as_number (compared op o)) (sym order) ∙ compares) in
    record {
      number = told.number;
      is = rw c (ap as_number told.is);
      same = ap (content_of b) told.result;
    }
  where
    compared_so : binary_result op ty mode (operand_of p (fixed k s1) (Number (whole_of k x)) st)
        (operand_of p (fixed k s2) (Number (whole_of k z)) st) ≡ Ok r
        → as_number (compared op (int_cmp (whole_of k x *ℤ pos (2 ^ (format_of k).frac))
        (whole_of k z *ℤ pos (2 ^ (format_of k).frac)))) ≡ Ok r
    compared_so = rw c (λ q. q)

-- the same bytes in another format, with more of their sign, or 0, above them, or without the highest ones
same_kept : (k : FxKind) (s t : Bool) (mode : Mode) (p : PlainProgram) (x : ℕ) (st : State) (r : Value)
    → x < 256 ^ ((format_of k).bits / 8)
    → conversion_result (fixed k s) mode (operand_of p (fixed k t) (Number (whole_of k x)) st) ≡ Ok r
    → content_of ((format_of k).bits / 8) r ≡ bits (low_bytes ((format_of k).bits / 8) (whole_of k x))
same_kept k s t mode p x st r l h =
    kept_result (fixed k t) (fixed k t) mode x x refl tt tt l refl (operand_of p (fixed k t) (Number (whole_of k x)) st) r
    (record { type_is = refl; value_is = refl }) h
    ∙ ap bits (sym (low_of_number (format_of k).signed ((format_of k).bits / 8) x l))

conversion_exact : (x : ℤ) (f g : ℕ) → f ≡ g → rounded (exact_conversion x f g) ≡ x
conversion_exact x f g e =
    let one : 2 ^ g ≡ 1 * 2 ^ g = omega arith in
    ap (λ (i : ℕ). trunc (x *ℤ pos (2 ^ g)) (2 ^ i)) e ∙ ap (λ (i : ℕ). trunc (x *ℤ pos (2 ^ g)) i) one
    ∙ trunc-common x 1 (2 ^ g) (pow_pos g) ∙ whole_trunc x

pub number_kept : (k j : FxKind) (s t : Bool) (mode : Mode) (p : PlainProgram) (x : ℕ) (st : State) (r : Value)
    → keeps_number (fixed k s) (fixed j t) mode ≡ true → x < 256 ^ ((format_of j).bits / 8)
    → conversion_result (fixed k s) mode (operand_of p (fixed j t) (Number (whole_of j x)) st) ≡ Ok r
    → content_of ((format_of k).bits / 8) r ≡ bits (low_bytes ((format_of k).bits / 8) (whole_of j x))
number_kept k j s t mode p x st r q l h =
    ⊎_elim
    (λ (same : has_one_format (fixed k s) (fixed j t) ≡ true).
    let one = one_format (fixed k s) (fixed j t) same in
    let first : fixed k s ≡ fixed one.kind one.first_saturates = one.first in
    let second : fixed j t ≡ fixed one.kind one.second_saturates = one.second in
    let kinds : j ≡ k = cc in
    (subst (λ (i : FxKind). x < 256 ^ ((format_of i).bits / 8)
    → conversion_result (fixed k s) mode (operand_of p (fixed i t) (Number (whole_of i x)) st) ≡ Ok r
    → content_of ((format_of k).bits / 8) r ≡ bits (low_bytes ((format_of k).bits / 8) (whole_of i x))) (sym kinds)
    (same_kept k s t mode p x st r)) l h)
    (λ (other : has_one_format (fixed k s) (fixed j t) ≡ false).
    let both : (has_one_fraction (fixed k s) (fixed j t) && not mode.saturate) ≡ true =
    ap (λ (b : Bool). b || (has_one_fraction (fixed k s) (fixed j t) && not mode.saturate)) (sym other) ∙ q in
    let parts = and_parts (has_one_fraction (fixed k s) (fixed j t)) (not mode.saturate) both in
    let fraction : (format_of k).frac ≡ (format_of j).frac = eqb-true (format_of k).frac (format_of j).frac parts.0 in
    let m = whole_of j x in
    let exact = conversion_exact m (format_of j).frac (format_of k).frac (sym fraction) in
    let told = as_told (outcome (fit (format_of k) mode (rounded (exact_conversion m (format_of j).frac (format_of k).frac)))) r h in
    let number : told.number ≡ m =
    fits (format_of k) mode (rounded (exact_conversion m (format_of j).frac (format_of k).frac)) told.number parts.1 told.is ∙ exact in
    ap (content_of ((format_of k).bits / 8)) told.result ∙ ap (λ (i : ℤ). bits (low_bytes ((format_of k).bits / 8) i)) number)
    (cases_Bool (has_one_format (fixed k s) (fixed j t)))

-- the same of a negation
pub record NegatesAs (s : Bool) (n : ℕ) (mode : Mode) (m : ℤ) (b : ℕ) (r : Value) : Type 0 where
  pub number : ℤ
  pub is : unary_result Minus (integer s n) mode (Number m) ≡ Ok (Number number)
  pub same : content_of b r ≡ content_of b (Number number)

pub negation_as : (k : FxKind) (s : Bool) (mode : Mode) (x b : ℕ) (r : Value) → not mode.saturate ≡ true → b ≡ (format_of k).bits / 8
    → unary_result Minus (fixed k s) mode (Number (whole_of k x)) ≡ Ok r
    → NegatesAs (format_of k).signed ((format_of k).bits / 8) mode (whole_of k x) b r
negation_as k s mode x b r q e h =
    let f = format_of k in
    let m = whole_of k x in
    let n = f.bits / 8 in
    let told = as_told (outcome (fit f mode (rounded (exact_negation m)))) r h in
    let exact : told.number ≡ pos 0 -ℤ m = fits f mode (rounded (exact_negation m)) told.number q told.is ∙ negation_exact m in
    let low : low_bytes n told.number ≡ low_bytes n (wrapped (record { signed = f.signed; bytes = n }) (pos 0 -ℤ m)) =
    ap (low_bytes n) exact ∙ sym (low_of_wrapped f.signed n (pos 0 -ℤ m)) in
    rw e (record { number = _; is = refl; same = ap (content_of n) told.result ∙ ap bits low })
