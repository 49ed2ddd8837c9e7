-- The order of two numbers, and of the same scaled by a power of two.
use Rattle.std.proofs.Common.{◌≡◌, ℕ, zero, suc, ◌+◌, ◌-◌, ◌*◌, ◌/◌, ◌%◌, ◌^◌, ◌<◌, ◌≤◌, min, ⊎_elim, Bool, true, false, not}
use Rattle.std.proofs.Common.{refl, sym, ap, ◌∙◌, subst, arith, ℤ, pos, negsuc, neg_ℤ, ◌*ℤ◌, int_lt, nat_lt, ◌==◌, Less as Below}
use Rattle.std.proofs.Common.{Equal as Same, Greater as Above}
use Rattle.std.specs.Prelude.{cond}
use Rattle.std.specs.Ordering.{int_cmp, is_lt, is_ge, is_eq, is_ne}
use Rattle.std.proofs.lemmas.Bool.{cases_lt, lt-ltb, le-ltb, eq-eqb, eqb-true}
use Rattle.std.proofs.lemmas.Bool.Decides.{nat_tests}
use Rattle.std.proofs.lemmas.Int.{ints}
use Rattle.std.proofs.lemmas.Nat.{mul-le, pow_pos}
use Rattle.ec_fx.specs.declared.formats.Format.{Format}
use Rattle.ec_fx.specs.Conversions.{order_of}
use Rattle.ec_fx.proofs.Scaling.{scale_pow}
use Rattle.ec_select_order.specs.declared.relations.Relation.{Relation}
use Rattle.ec_select_order.specs.declared.relations.Relation.TheVariants.{Less, NotLess, Equal, NotEqual}
use Rattle.ec_select_order.specs.Relations.{stand_so}
use Rattle.ec_fxcode.specs.ClampLaws.{signed_number}
use Rattle.ec_fxcode.proofs.Clamped.{two_halves}
use Rattle.ec_fxcode_shifts.specs.ShiftLaws.{number_in}
use Rattle.ec_fxcode_quotients.specs.QuotientLaws.{operand_in}
use Rattle.ec_fxcode_quotients.proofs.Signs.{scaled_is, fraction_is}
use Rattle.ec_fxcode_sums.specs.Sums.{raised}
use Rattle.ec_fxcode_sums.specs.Orders.{stands_in}
use Rattle.ec_fxcode_sums.proofs.TwosComplement.{read, read_less, read_back}

-- ---- a common factor

less_times : (a b p : ℕ) → 0 < p → nat_lt (a * p) (b * p) ≡ nat_lt a b
less_times a b p some =
    ⊎_elim
    (λ (l : a < b).
    let m : suc a * p ≤ b * p = mul-le (suc a) p b p l (omega arith) in
    lt-ltb (a * p) (b * p) (omega (arith, m, some)) ∙ sym (lt-ltb a b l))
    (λ (l : b ≤ a).
    let m : b * p ≤ a * p = mul-le b p a p l (omega arith) in
    le-ltb (a * p) (b * p) m ∙ sym (le-ltb a b l))
    (cases_lt a b)

not_below : (x m : ℕ) → int_lt (pos x) (neg_ℤ (pos m)) ≡ false
not_below x zero = le-ltb x 0 (omega arith)
not_below x (suc m) = refl

below : (m x : ℕ) → 0 < m → int_lt (neg_ℤ (pos m)) (pos x) ≡ true
below zero x l = absurd (omega arith)
below (suc m) x l = refl

both_below : (m n : ℕ) → 0 < m → 0 < n → int_lt (neg_ℤ (pos m)) (neg_ℤ (pos n)) ≡ nat_lt n m
both_below zero n l k = absurd (omega arith)
both_below (suc m) zero l k = absurd (omega arith)
both_below (suc m) (suc n) l k = grind (arith, nat_tests)

some_product : (m p : ℕ) → 0 < p → 0 < suc m * p
some_product m p l = let h : 1 * p ≤ suc m * p = mul-le 1 p (suc m) p (omega arith) (omega arith) in omega (arith, h, l)

int_less_times : (x y : ℤ) (p : ℕ) → 0 < p → int_lt (x *ℤ pos p) (y *ℤ pos p) ≡ int_lt x y
int_less_times (pos a) (pos b) p l = less_times a b p l
int_less_times (pos a) (negsuc b) p l = not_below (a * p) (suc b * p)
int_less_times (negsuc a) (pos b) p l = below (suc a * p) (b * p) (some_product a p l)
int_less_times (negsuc a) (negsuc b) p l =
    both_below (suc a * p) (suc b * p) (some_product a p l) (some_product b p l) ∙ less_times (suc b) (suc a) p l
    ∙ sym (both_below (suc a) (suc b) (omega arith) (omega arith))

cmp_times : (x y : ℤ) (p : ℕ) → 0 < p → int_cmp (x *ℤ pos p) (y *ℤ pos p) ≡ int_cmp x y
cmp_times x y p l = rw (int_less_times x y p l, int_less_times y x p l) refl

-- both scaled to the greater count of fraction bits
cmp_rises : (x y : ℤ) (f g : ℕ) → int_cmp (x *ℤ pos (2 ^ (g - f))) (y *ℤ pos (2 ^ (f - g))) ≡ int_cmp (x *ℤ pos (2 ^ g)) (y *ℤ pos (2 ^ f))
cmp_rises x y f g =
    let p = 2 ^ min f g in
    let u = x *ℤ pos (2 ^ (g - f)) in
    let v = y *ℤ pos (2 ^ (f - g)) in
    let first : u *ℤ pos p ≡ x *ℤ pos (2 ^ g) = scale_pow x (g - f) (min f g) g (omega arith) in
    let second : v *ℤ pos p ≡ y *ℤ pos (2 ^ f) = scale_pow y (f - g) (min f g) f (omega arith) in
    sym (cmp_times u v p (pow_pos (min f g))) ∙ ap (λ z. int_cmp z (v *ℤ pos p)) first ∙ ap (int_cmp (x *ℤ pos (2 ^ g))) second

pub order_rises : (f g : Format) (a b x y : ℕ)
    → int_cmp (number_in f.signed a x *ℤ pos (2 ^ raised f g)) (number_in g.signed b y *ℤ pos (2 ^ raised g f))
    ≡ order_of (operand_in f a x) (operand_in g b y)
order_rises f g a b x y =
    rw (scaled_is f a x, scaled_is g b y, fraction_is f a x, fraction_is g b y)
    (cmp_rises (number_in f.signed a x) (number_in g.signed b y) f.frac g.frac)

-- ---- relations

lt_is : (p q : Bool) → is_lt (cond p Below (cond q Above Same)) ≡ p
lt_is true q = refl
lt_is false true = refl
lt_is false false = refl

ge_is : (p q : Bool) → is_ge (cond p Below (cond q Above Same)) ≡ not p
ge_is true q = refl
ge_is false true = refl
ge_is false false = refl

ne_is : (p q : Bool) → is_ne (cond p Below (cond q Above Same)) ≡ not (is_eq (cond p Below (cond q Above Same)))
ne_is true q = refl
ne_is false true = refl
ne_is false false = refl

not_less : (x : ℤ) → int_lt x x ≡ false
not_less x = grind (arith, ints)

only_equal : (x y : ℤ) → int_lt x y ≡ false → int_lt y x ≡ false → x ≡ y
only_equal x y p q = grind (arith, ints)

eq_is : (x y : ℤ) (e : Bool) → (e ≡ true → x ≡ y) → (x ≡ y → e ≡ true) → is_eq (int_cmp x y) ≡ e
eq_is x y true h k = let s = h refl in rw (s, not_less y) refl
eq_is x y false h k = by (int_lt x y) (int_lt y x) refl refl
  where
    by : (p q : Bool) → int_lt x y ≡ p → int_lt y x ≡ q → is_eq (cond p Below (cond q Above Same)) ≡ false
    by true q e f = refl
    by false true e f = refl
    by false false e f = absurd (let t : false ≡ true = k (only_equal x y e f) in cc)

-- what the numbers of n + 1 bytes tell
told_by : (x y h : ℕ) → x < 2 * h → y < 2 * h
    → (l e : Bool) → l ≡ nat_lt ((x + 2 * h / 2) % (2 * h)) ((y + 2 * h / 2) % (2 * h)) → e ≡ (x == y)
    → let o = int_cmp (read (2 * h) x) (read (2 * h) y) in
    (is_lt o ≡ l) × (is_eq o ≡ e)
told_by x y h lx ly l e p q =
    let X = read (2 * h) x in
    let Y = read (2 * h) y in (
      lt_is (int_lt X Y) (int_lt Y X) ∙ sym (read_less h x y lx ly) ∙ sym p,
      eq_is X Y e (λ t. ap (read (2 * h)) (eqb-true x y (sym q ∙ t))) (λ t. q ∙ eq-eqb x y (read_back (2 * h) x y lx ly t)),
    )

is_less_by : (N h x y : ℕ) → N ≡ 2 * h → x < N → y < N
    → (is_lt (int_cmp (read N x) (read N y)) ≡ nat_lt ((x + N / 2) % N) ((y + N / 2) % N))
    × (is_eq (int_cmp (read N x) (read N y)) ≡ (x == y))
is_less_by N h x y e lx ly =
    subst (λ t. (is_lt (int_cmp (read t x) (read t y)) ≡ nat_lt ((x + t / 2) % t) ((y + t / 2) % t)) ×
    (is_eq (int_cmp (read t x) (read t y)) ≡ (x == y))) (sym e)
    (told_by x y h (omega (arith, e, lx)) (omega (arith, e, ly)) _ _ refl refl)

pub stands : (r : Relation) (n x y : ℕ) → x < 256 ^ suc n → y < 256 ^ suc n
    → stand_so r true (suc n) x y ≡ stands_in r (int_cmp (signed_number (suc n) x) (signed_number (suc n) y))
stands Less n x y lx ly = sym (is_less_by (256 ^ suc n) (128 * 256 ^ n) x y (two_halves n) lx ly).0
stands NotLess n x y lx ly =
    let X = signed_number (suc n) x in
    let Y = signed_number (suc n) y in
    ap not (sym (is_less_by (256 ^ suc n) (128 * 256 ^ n) x y (two_halves n) lx ly).0 ∙ lt_is (int_lt X Y) (int_lt Y X))
    ∙ sym (ge_is (int_lt X Y) (int_lt Y X))
stands Equal n x y lx ly = sym (is_less_by (256 ^ suc n) (128 * 256 ^ n) x y (two_halves n) lx ly).1
stands NotEqual n x y lx ly =
    let X = signed_number (suc n) x in
    let Y = signed_number (suc n) y in
    ap not (sym (is_less_by (256 ^ suc n) (128 * 256 ^ n) x y (two_halves n) lx ly).1) ∙ sym (ne_is (int_lt X Y) (int_lt Y X))
