-- The values of a counted loop: each is an int, in order with the bound until there are no more turns.
use Rattle.std.proofs.Common.{◌≡◌, ◌≤◌, ◌<◌, ℕ, suc, ◌+◌, ◌-◌, ◌*◌, ◌/◌, ◌%◌, Bool, true, false, not, ℤ, pos, negsuc}
use Rattle.std.proofs.Common.{◌+ℤ◌, ◌-ℤ◌, ◌*ℤ◌, ◌≤ℤ◌, ◌<ℤ◌, unsigned_abs, refl, sym, subst, ap, ◌∙◌, arith, leb-true, leb-false}
use Rattle.std.specs.Prelude.{int_lt, nat_le, if◌then◌else◌}
use Rattle.std.specs.Int.{int_rem_euclid}
use Rattle.std.specs.Ordering.{int_eq, int_cmp, MatchOrdering}
use Rattle.std.specs.declared.cmp.Ordering.{Ordering}
use Rattle.std.specs.declared.cmp.Ordering.TheVariants.{Less, Equal, Greater}
use Rattle.std.proofs.lemmas.Int.{ints, int_rem_euclid_is}
use Rattle.std.proofs.lemmas.Nat.{div_below}
use Rattle.std.proofs.Math.Nat.{add-div_right, div-le_self}
use Rattle.std.specs.Cmp.{int_ranks}
use Rattle.ec_core.specs.declared.arithmetic_types.IntegerType.{IntegerType}
use Rattle.ec_core.specs.declared.expressions.BinOp.{BinOp}
use Rattle.ec_core.specs.declared.expressions.BinOp.TheVariants.{Lt, Gt, Le, Ge}
use Rattle.ec_core.specs.Integers.{accepts, wrapped, from_bits, truth}
use Rattle.ec_core_steps.specs.Counted.{distance, steps_in, last_tested, is_int, leads_to}

-- ---- steps in a distance

module _ (by : ℕ) (some : 1 ≤ by) where
  quotient : (n : ℕ) → (suc n + by - 1) / by ≡ n / by + 1
  quotient n = let same : suc n + by - 1 ≡ n + by = omega arith in rw same (add-div_right n some)

  pub next_steps : (d : ℤ) (k : ℕ) → steps_in d by ≡ suc k → steps_in (d -ℤ pos by) by ≡ k
  next_steps d k e = by_less (int_lt (pos 0) d) refl e
    where
      less_on : (h : Bool) → int_lt (pos 0) (d -ℤ pos by) ≡ h → int_lt (pos 0) d ≡ true → (unsigned_abs d + by - 1) / by ≡ suc k
          → (if h then (unsigned_abs (d -ℤ pos by) + by - 1) / by else 0) ≡ k
      less_on true e2 l q =
          let n = unsigned_abs d - 1 in
          let same : unsigned_abs d ≡ suc n = grind (arith, ints, l) in
          let same2 : unsigned_abs (d -ℤ pos by) + by - 1 ≡ n = grind (arith, ints, l, e2, some) in
          let q2 : (suc n + by - 1) / by ≡ suc k = subst (λ z. (z + by - 1) / by ≡ suc k) same q in
          let q3 = quotient n in
          rw same2 (omega (arith, q2, q3))
      less_on false e2 l q =
          let n = unsigned_abs d - 1 in
          let same : unsigned_abs d ≡ suc n = grind (arith, ints, l) in
          let small : n < 1 * by = grind (arith, ints, l, e2, some) in
          let q2 : (suc n + by - 1) / by ≡ suc k = subst (λ z. (z + by - 1) / by ≡ suc k) same q in
          let q3 = quotient n in
          let q4 = div_below n by 1 some small in
          omega (arith, q2, q3, q4)

      by_less : (h : Bool) → int_lt (pos 0) d ≡ h → (if h then (unsigned_abs d + by - 1) / by else 0) ≡ suc k
          → steps_in (d -ℤ pos by) by ≡ k
      by_less true l q = less_on (int_lt (pos 0) (d -ℤ pos by)) refl l q
      by_less false l q = cc

  pub some_steps : (d : ℤ) → int_lt (pos 0) d ≡ true → (k : ℕ) × (steps_in d by ≡ suc k)
  some_steps d e =
      let n = unsigned_abs d - 1 in
      let same : unsigned_abs d ≡ suc n = grind (arith, ints, e) in
      let q : (unsigned_abs d + by - 1) / by ≡ n / by + 1 = ap (λ z. (z + by - 1) / by) same ∙ quotient n in
      (n / by, rw e (omega (arith, q)))

  pub few_steps : (d : ℤ) (most : ℕ) → d ≤ℤ pos most → steps_in d by ≤ most
  few_steps d most h = by_less (int_lt (pos 0) d) refl
    where
      by_less : (b : Bool) → int_lt (pos 0) d ≡ b → (if b then (unsigned_abs d + by - 1) / by else 0) ≤ most
      by_less true e =
          let n = unsigned_abs d - 1 in
          let same : unsigned_abs d ≡ suc n = grind (arith, ints, e) in
          let small : suc n ≤ most = grind (arith, ints, e, h) in
          let less2 = div-le_self n by in
          let q : (unsigned_abs d + by - 1) / by ≡ n / by + 1 = ap (λ z. (z + by - 1) / by) same ∙ quotient n in
          omega (arith, q, less2, small)
      by_less false e = omega arith

-- ---- orders

lt_true : (a b : ℤ) → a <ℤ b → int_lt a b ≡ true
lt_true a b h = grind (arith, ints, h)

lt_false : (a b : ℤ) → b ≤ℤ a → int_lt a b ≡ false
lt_false a b h = grind (arith, ints, h)

-- a value is in order with the bound exactly where there is a distance left
met : (op : BinOp) (v bound step : ℤ) (r : Ordering) → leads_to op step ≡ true → MatchOrdering r (v <ℤ bound) (v ≡ bound) (bound <ℤ v)
    → accepts op r ≡ int_lt (pos 0) (distance op v bound)
met Lt v bound step Less e m = sym (lt_true (pos 0) (bound -ℤ v) (omega (arith, ints, m)))
met Lt v bound step Equal e m = sym (lt_false (pos 0) (bound -ℤ v) (omega (arith, ints, m)))
met Lt v bound step Greater e m = sym (lt_false (pos 0) (bound -ℤ v) (omega (arith, ints, m)))
met Le v bound step Less e m = sym (lt_true (pos 0) ((bound -ℤ v) +ℤ pos 1) (omega (arith, ints, m)))
met Le v bound step Equal e m = sym (lt_true (pos 0) ((bound -ℤ v) +ℤ pos 1) (omega (arith, ints, m)))
met Le v bound step Greater e m = sym (lt_false (pos 0) ((bound -ℤ v) +ℤ pos 1) (omega (arith, ints, m)))
met Gt v bound step Less e m = sym (lt_false (pos 0) (v -ℤ bound) (omega (arith, ints, m)))
met Gt v bound step Equal e m = sym (lt_false (pos 0) (v -ℤ bound) (omega (arith, ints, m)))
met Gt v bound step Greater e m = sym (lt_true (pos 0) (v -ℤ bound) (omega (arith, ints, m)))
met Ge v bound step Less e m = sym (lt_false (pos 0) ((v -ℤ bound) +ℤ pos 1) (omega (arith, ints, m)))
met Ge v bound step Equal e m = sym (lt_true (pos 0) ((v -ℤ bound) +ℤ pos 1) (omega (arith, ints, m)))
met Ge v bound step Greater e m = sym (lt_true (pos 0) ((v -ℤ bound) +ℤ pos 1) (omega (arith, ints, m)))
met op v bound step r e m = cc

times_one : (v : ℤ) → v *ℤ pos 1 ≡ v
times_one v = omega (arith, ints)

pub is_met : (op : BinOp) (v bound step : ℤ) → leads_to op step ≡ true
    → accepts op (int_cmp (v *ℤ pos 1) (bound *ℤ pos 1)) ≡ int_lt (pos 0) (distance op v bound)
is_met op v bound step e =
    ap (λ (z : ℤ). accepts op (int_cmp z (bound *ℤ pos 1))) (times_one v)
    ∙ ap (λ (z : ℤ). accepts op (int_cmp v z)) (times_one bound)
    ∙ met op v bound step (int_cmp v bound) e (int_ranks v bound)

up_abs : (d : ℤ) → int_lt (pos 0) d ≡ true → pos (unsigned_abs d) ≡ d
up_abs d e = grind (arith, ints, e)

down_abs : (d : ℤ) → int_lt d (pos 0) ≡ true → pos (unsigned_abs d) ≡ pos 0 -ℤ d
down_abs d e = grind (arith, ints, e)

pub distance_on : (op : BinOp) (v bound step : ℤ) → leads_to op step ≡ true
    → distance op (v +ℤ step) bound ≡ distance op v bound -ℤ pos (unsigned_abs step)
distance_on Lt v bound step e = let a = up_abs step e in omega (arith, ints, a)
distance_on Le v bound step e = let a = up_abs step e in omega (arith, ints, a)
distance_on Gt v bound step e = let a = down_abs step e in omega (arith, ints, a)
distance_on Ge v bound step e = let a = down_abs step e in omega (arith, ints, a)
distance_on op v bound step e = cc

pub some_step : (op : BinOp) (step : ℤ) → leads_to op step ≡ true → 1 ≤ unsigned_abs step
some_step Lt step e = grind (arith, ints, e)
some_step Le step e = grind (arith, ints, e)
some_step Gt step e = grind (arith, ints, e)
some_step Ge step e = grind (arith, ints, e)
some_step op step e = cc

-- ---- ints

pub record IsInt (v : ℤ) : Type 0 where
  pub low : negsuc 32_767 ≤ℤ v
  pub high : v ≤ℤ pos 32_767

pub int_of : (v : ℤ) → is_int v ≡ true → IsInt v
int_of v e = record { low = grind (arith, ints, e); high = grind (arith, ints, e) }

lt_of : (a b : ℤ) → int_lt a b ≡ true → a <ℤ b
lt_of a b e = grind (arith, ints, e)

pub int_on : (op : BinOp) (v bound step : ℤ) → leads_to op step ≡ true → int_lt (pos 0) (distance op v bound) ≡ true → IsInt v
    → IsInt (last_tested op bound step) → IsInt (v +ℤ step)
int_on Lt v bound step e m h k =
    let a = lt_of (pos 0) step e in
    let b = lt_of (pos 0) (bound -ℤ v) m in
    let c = h.low in
    let d = k.high in
    record { low = omega (arith, ints, a, b, c, d); high = omega (arith, ints, a, b, c, d) }
int_on Le v bound step e m h k =
    let a = lt_of (pos 0) step e in
    let b = lt_of (pos 0) ((bound -ℤ v) +ℤ pos 1) m in
    let c = h.low in
    let d = k.high in
    record { low = omega (arith, ints, a, b, c, d); high = omega (arith, ints, a, b, c, d) }
int_on Gt v bound step e m h k =
    let a = lt_of step (pos 0) e in
    let b = lt_of (pos 0) (v -ℤ bound) m in
    let c = h.high in
    let d = k.low in
    record { low = omega (arith, ints, a, b, c, d); high = omega (arith, ints, a, b, c, d) }
int_on Ge v bound step e m h k =
    let a = lt_of step (pos 0) e in
    let b = lt_of (pos 0) ((v -ℤ bound) +ℤ pos 1) m in
    let c = h.high in
    let d = k.low in
    record { low = omega (arith, ints, a, b, c, d); high = omega (arith, ints, a, b, c, d) }
int_on op v bound step e m h k = cc

pub near : (op : BinOp) (v bound step : ℤ) → leads_to op step ≡ true → IsInt v → IsInt (last_tested op bound step)
    → distance op v bound ≤ℤ pos 65_535
near Lt v bound step e h k = let a = lt_of (pos 0) step e in let c = h.low in let d = k.high in omega (arith, ints, a, c, d)
near Le v bound step e h k = let a = lt_of (pos 0) step e in let c = h.low in let d = k.high in omega (arith, ints, a, c, d)
near Gt v bound step e h k = let a = lt_of step (pos 0) e in let c = h.high in let d = k.low in omega (arith, ints, a, c, d)
near Ge v bound step e h k = let a = lt_of step (pos 0) e in let c = h.high in let d = k.low in omega (arith, ints, a, c, d)
near op v bound step e h k = cc

abbrev pub int_type : IntegerType
int_type = record { signed = true; bytes = 2 }

low_same : (low : ℕ) → low ≤ 32_767 → from_bits int_type low ≡ pos low
low_same low h = by_test (nat_le 65_536 (2 * low)) refl
  where
    by_test : (c : Bool) → nat_le 65_536 (2 * low) ≡ c → (if c then pos low -ℤ pos 65_536 else pos low) ≡ pos low
    by_test true e = let f = leb-true 65_536 (2 * low) e in absurd (omega (arith, f, h))
    by_test false e = refl

high_same : (low m : ℕ) → low + m ≡ 65_535 → m ≤ 32_767 → from_bits int_type low ≡ negsuc m
high_same low m s h = by_test (nat_le 65_536 (2 * low)) refl
  where
    by_test : (c : Bool) → nat_le 65_536 (2 * low) ≡ c → (if c then pos low -ℤ pos 65_536 else pos low) ≡ negsuc m
    by_test true e = omega (arith, ints, s)
    by_test false e = let f = leb-false 65_536 (2 * low) e in absurd (omega (arith, f, s, h))

-- an int is not wrapped
pub wrapped_same : (n : ℤ) → IsInt n → wrapped int_type n ≡ n
wrapped_same (pos m) h =
    let b = h.high in
    let small : m ≤ 32_767 = omega (arith, ints, b) in
    let e : int_rem_euclid (pos m) (pos 65_536) ≡ pos (m % 65_536)
    = int_rem_euclid_is (pos m) (pos 65_536) 65_536 0 m (omega arith) refl (omega (arith, ints)) in
    let f : m % 65_536 ≡ m = omega (arith, small) in
    ap (λ (z : ℤ). from_bits int_type (unsigned_abs z)) (e ∙ ap pos f) ∙ low_same m small
wrapped_same (negsuc m) h =
    let b = h.low in
    let small : m ≤ 32_767 = omega (arith, ints, b) in
    let low = 65_535 - m in
    let s : low + m ≡ 65_535 = omega (arith, small) in
    let e : int_rem_euclid (negsuc m) (pos 65_536) ≡ pos (low % 65_536)
    = int_rem_euclid_is (negsuc m) (pos 65_536) 65_536 1 low (omega arith) refl (omega (arith, ints, s)) in
    let f : low % 65_536 ≡ low = omega (arith, s) in
    ap (λ (z : ℤ). from_bits int_type (unsigned_abs z)) (e ∙ ap pos f) ∙ high_same low m s small

pub truth_same : (h : Bool) → not (int_eq (truth h) (pos 0)) ≡ h
truth_same true = refl
truth_same false = refl
