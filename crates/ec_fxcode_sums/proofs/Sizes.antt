-- How far operands are scaled, and the bytes that they have then.
use Rattle.std.proofs.Common.{◌≡◌, ℕ, ◌+◌, ◌-◌, ◌*◌, ◌%◌, ◌<◌, ◌≤◌, max, ◌⊎◌, inl, inr, ⊎_elim, Bool, true, false, ◌==◌}
use Rattle.std.proofs.Common.{if◌then◌else◌, nat_lt, refl, sym, subst, arith}
use Rattle.std.proofs.lemmas.Bool.{cases_lt}
use Rattle.ec_fx.specs.declared.formats.Format.{Format}
use Rattle.ec_fx.specs.Formats.{IsFormat, step_of, rank_of, higher}
use Rattle.ec_fxcode_scales.specs.ScaleLaws.{IsScale}
use Rattle.ec_fxcode_quotients.specs.QuotientLaws.{IsOperandFormat}
use Rattle.ec_fxcode_quotients.proofs.Sizes.{operand_sized, bytes_of}
use Rattle.ec_fxcode_sums.specs.Sums.{raised, raised_bytes, surplus}
use Rattle.ec_fxcode_sums.specs.SumLaws.{IsArithmetic, ArithmeticFormats}

-- ---- fraction bits

-- whole bytes, or one bit less
abbrev pub IsCount : ℕ → Type 0
IsCount x = (x % 8 ≡ 0) ⊎ (x % 8 ≡ 7)

count_by_step : (x step one : ℕ) → one ≤ 1 → step ≡ x + one → (step ≡ 8) ⊎ ((step ≡ 16) ⊎ (step ≡ 32)) → IsCount x
count_by_step x step one l e h =
    let m : step % 8 ≡ 0 = ⊎_elim (λ (s : step ≡ 8). omega (arith, s))
    (λ r. ⊎_elim (λ (s : step ≡ 16). omega (arith, s)) (λ (s : step ≡ 32). omega (arith, s)) r) h in
    ⊎_elim (λ (z : one < 1). inl (omega (arith, z, e, m))) (λ (z : 1 ≤ one). inr (omega (arith, z, l, e, m))) (cases_lt one 1)

pub sign_bit : (b : Bool) → (if b then 1 else 0) ≤ 1
sign_bit true = omega arith
sign_bit false = omega arith

pub counted : (f : Format) → IsOperandFormat f → IsCount f.frac
counted f (inl h) = count_by_step f.frac (step_of f) (if f.signed then 1 else 0) (sign_bit f.signed) refl h.step
counted f (inr h) = let z = h.whole in inl (omega (arith, z))

-- the difference of two counts
pub scale_of : (x y : ℕ) → IsCount x → IsCount y → IsScale (y - x)
scale_of x y hx hy = ⊎_elim (λ (l : y < x). inl (omega (arith, l))) (λ (l : x ≤ y). by l hx hy) (cases_lt y x)
  where
    by : x ≤ y → IsCount x → IsCount y → IsScale (y - x)
    by l (inl a) (inl b) = inl (omega (arith, l, a, b))
    by l (inl a) (inr b) = inr (inr (omega (arith, l, a, b)))
    by l (inr a) (inl b) = inr (inl (omega (arith, l, a, b)))
    by l (inr a) (inr b) = inl (omega (arith, l, a, b))

-- ---- bytes

-- what holds of two operands of a and b bytes; t is the bytes of either scaled number without its sign
pub record IsPair (f g : Format) (a b t : ℕ) : Type 0 where
  pub first : (1 ≤ a) × (a ≤ 8)
  pub second : (1 ≤ b) × (b ≤ 8)
  pub first_scale : IsScale (raised f g)
  pub second_scale : IsScale (raised g f)
  pub first_room : raised_bytes a (raised f g) ≤ t
  pub second_room : raised_bytes b (raised g f) ≤ t
  pub few : t ≤ 9
  pub twice : t ≤ a + b
  pub fraction : max f.frac g.frac ≤ 8 * t

pub paired : (f g : Format) (a b : ℕ) → IsOperandFormat f → f.bits ≡ 8 * a → IsOperandFormat g → g.bits ≡ 8 * b
    → IsPair f g a b (max (raised_bytes a (raised f g)) (raised_bytes b (raised g f)))
paired f g a b hf fb hg gb =
    let x = operand_sized f hf in
    let y = operand_sized g hg in
    let x1 = x.inside in
    let x2 = x.few in
    let x3 = x.above in
    let y1 = y.inside in
    let y2 = y.few in
    let y3 = y.above in
    let la = bytes_of f.bits f.frac a x fb in
    let lb = bytes_of g.bits g.frac b y gb in
    let la1 = la.0 in
    let la8 = la.1 in
    let lb1 = lb.0 in
    let lb8 = lb.1 in
    let t = max (raised_bytes a (raised f g)) (raised_bytes b (raised g f)) in
    let ra : raised_bytes a (raised f g) ≤ 9 = omega (arith, fb, x1, x3, y2) in
    let rb : raised_bytes b (raised g f) ≤ 9 = omega (arith, gb, y1, y3, x2) in
    let sa : raised_bytes a (raised f g) ≤ a + b = omega (arith, gb, y1) in
    let sb : raised_bytes b (raised g f) ≤ a + b = omega (arith, fb, x1) in
    let ua : max f.frac g.frac ≤ 8 * raised_bytes a (raised f g) = omega (arith, fb, x1) in
    record {
      first = la;
      second = lb;
      first_scale = scale_of f.frac g.frac (counted f hf) (counted g hg);
      second_scale = scale_of g.frac f.frac (counted g hg) (counted f hf);
      first_room = omega arith;
      second_room = omega arith;
      few = omega (arith, ra, rb);
      twice = omega (arith, sa, sb);
      fraction = omega (arith, ua);
    }

-- ---- the format of the result

pub higher_is : (P : Format → Type 0) (x y : Format) → P x → P y → P (higher x y)
higher_is P x y p q = elim (nat_lt (rank_of x) (rank_of y)) as (λ b. P (if b then y else x)) [ true ↦ q | false ↦ p ]

pub arithmetic_is : (P : Format → Type 0) (x y : Bool) (f g to : Format) → IsArithmetic x y f g to → P f → P g → P to
arithmetic_is P true true f g to h p q = absurd h
arithmetic_is P true false f g to h p q = subst P (sym h) q
arithmetic_is P false true f g to h p q = subst P (sym h) p
arithmetic_is P false false f g to h p q = subst P (sym h.1) (higher_is P f g p q)

-- it has no more fraction bits than the operands
pub result_fraction : (f g to : Format) → ArithmeticFormats f g to → to.frac ≤ max f.frac g.frac
result_fraction f g to h =
    arithmetic_is (λ t. t.frac ≤ max f.frac g.frac) (f.frac == 0) (g.frac == 0) f g to h (omega arith) (omega arith)

max_counted : (x y : ℕ) → IsCount x → IsCount y → IsCount (max x y)
max_counted x y p q =
    ⊎_elim (λ (l : x < y). let e : max x y ≡ y = omega arith in rw e q)
    (λ (l : y ≤ x). let e : max x y ≡ x = omega arith in rw e p) (cases_lt x y)

pub surplus_scale : (f g to : Format) → IsOperandFormat f → IsOperandFormat g → IsFormat to → IsScale (surplus f g to)
surplus_scale f g to hf hg ht =
    scale_of to.frac (max f.frac g.frac) (counted to (inl ht)) (max_counted f.frac g.frac (counted f hf) (counted g hg))
