-- The code multiplies.
use Rattle.std.proofs.Common.{◌≡◌, ℕ, ◌+◌, ◌-◌, ◌*◌, ◌%◌, ◌^◌, ◌<◌, ◌≤◌, ◌⊎◌, inl, inr, Bool, true, false, ◌||◌, ◌==◌, if◌then◌else◌, refl}
use Rattle.std.proofs.Common.{sym, ap, ◌∙◌, subst, arith, ℤ, pos, ◌*ℤ◌}
use Rattle.std.specs.Prelude.{nat_lt}
use Rattle.std.proofs.lemmas.Bool.{eqb-true}
use Rattle.ec_fx.specs.declared.formats.Format.{Format}
use Rattle.ec_fx.specs.declared.numbers.Mode.{Mode}
use Rattle.ec_fx.specs.declared.numbers.Num.TheVariants.{Whole, Fixed as FixedNum}
use Rattle.ec_fx.specs.Arithmetic.{IsResultFormat, product_of}
use Rattle.ec_fx.specs.Formats.{IsFormat, rank_of}
use Rattle.ec_fx.specs.Results.{fit}
use Rattle.ec_fx.specs.Rounding.{trunc}
use Rattle.ec_asm.specs.Pieces.{Outside, value}
use Rattle.ec_asm.proofs.Hoare.{has_parts}
use Rattle.ec_select_products.specs.Products.{product_of as bytes_product, product_code}
use Rattle.ec_select_products.specs.Laws.{ProductsAreRight as BytesAreMultiplied}
use Rattle.ec_fxcode.specs.Clamps.{clamp_code}
use Rattle.ec_fxcode.specs.ClampLaws.{signed_number, HoldsResult, ClampsAreRight, IsClearOfEnds}
use Rattle.ec_fxcode.proofs.Moves.{part_stands}
use Rattle.ec_fxcode_shifts.specs.ShiftLaws.{number_in, fixed_in}
use Rattle.ec_fxcode_quotients.specs.Quotients.{further}
use Rattle.ec_fxcode_quotients.specs.QuotientLaws.{IsOperandFormat, operand_in}
use Rattle.ec_fxcode_quotients.proofs.Rows.{further_stands}
use Rattle.ec_fxcode_quotients.proofs.Signs.{scaled_is, fraction_is}
use Rattle.ec_fxcode_quotients.proofs.Sizes.{operand_sized}
use Rattle.ec_fxcode_scales.specs.ScaleLaws.{IsScale, ScalesAreRight, CutsAreRight}
use Rattle.ec_fxcode_conversions.specs.Conversions.{units_code}
use Rattle.ec_fxcode_conversions.specs.Products.{exact_code}
use Rattle.ec_fxcode_conversions.specs.ProductLaws.{AreFactors, product_words, ProductsAreRight}
use Rattle.ec_fxcode_conversions.proofs.Factors.{product_number}
use Rattle.ec_fxcode_conversions.proofs.Numbers.{IsStep, operand_step, step_scale, times_one}
use Rattle.ec_fxcode_conversions.proofs.Runs.{IsInside, from_brings, from_clamps, from_leads, computed, told, above_all, clear_above}
use Rattle.ec_fxcode_conversions.proofs.Runs.{part_apart}
use Rattle.ec_fxcode_conversions.proofs.Units.{AreUnits, units_run}

-- ---- formats

-- what the product of two numbers has to do with the format of the result
pub record IsProduct (f g to : Format) : Type 0 where
  pub result : IsFormat to
  pub bits : to.bits ≡ 8
  pub scale : IsScale (f.frac + g.frac - to.frac)
  pub few : f.frac + g.frac - to.frac ≤ 8

-- a format with a fraction is one of the twelve
fixed_format : (f : Format) → IsOperandFormat f → (f.frac == 0) ≡ false → IsFormat f
fixed_format f (inl h) e = h
fixed_format f (inr h) e = let z = h.whole in absurd (let q : true ≡ false = (let r : (f.frac == 0) ≡ true = rw z refl in sym r ∙ e) in cc)

-- beside a whole number
beside_whole : (f g to : Format) → IsOperandFormat g → g.bits ≡ 8 → (g.frac == 0) ≡ false → to ≡ g → f.frac ≡ 0 → IsProduct f g to
beside_whole f g to hg gb some is whole =
    let z : f.frac + g.frac - to.frac ≡ 0 = (let e : to.frac ≡ g.frac = ap (λ (x : Format). x.frac) is in omega (arith, e, whole)) in
    record {
      result = subst IsFormat (sym is) (fixed_format g hg some);
      bits = ap (λ (x : Format). x.bits) is ∙ gb;
      scale = inl (rw z refl);
      few = rw z (omega arith);
    }

-- the fraction bits of a format of one byte, by its sign
one_byte : (f : Format) → IsFormat f → f.bits ≡ 8 → f.frac + (if f.signed then 1 else 0) ≡ 8
one_byte f h e = by (f.frac + (if f.signed then 1 else 0)) refl h.step h.width
  where
    by : (step : ℕ) → f.frac + (if f.signed then 1 else 0) ≡ step → (step ≡ 8) ⊎ ((step ≡ 16) ⊎ (step ≡ 32))
        → (f.bits ≡ step) ⊎ (f.bits ≡ 2 * step) → f.frac + (if f.signed then 1 else 0) ≡ 8
    by step q s (inl w) = q ∙ sym w ∙ e
    by step q (inl s) (inr w) = absurd (omega (arith, e, s, w))
    by step q (inr (inl s)) (inr w) = absurd (omega (arith, e, s, w))
    by step q (inr (inr s)) (inr w) = absurd (omega (arith, e, s, w))

same_fraction : (a b : Bool) (x y : ℕ) → a ≡ b → x + (if a then 1 else 0) ≡ 8 → y + (if b then 1 else 0) ≡ 8 → x ≡ y
same_fraction a b x y e h g = (let q : y + (if a then 1 else 0) ≡ 8 = rw e g in omega (arith, h, q))

-- of two formats of one byte the higher one has the same fraction bits
of_two : (f g to : Format) (b : Bool) → IsFormat f → IsFormat g → f.bits ≡ 8 → g.bits ≡ 8 → f.frac ≡ g.frac → f.frac ≤ 8 → IsStep f.frac
    → to ≡ (if b then g else f) → IsProduct f g to
of_two f g to true hf hg fb gb same few step is =
    let z : f.frac + g.frac - to.frac ≡ f.frac = (let e : to.frac ≡ g.frac = ap (λ (x : Format). x.frac) is in omega (arith, e, same)) in
    record {
      result = subst IsFormat (sym is) hg;
      bits = ap (λ (x : Format). x.bits) is ∙ gb;
      scale = rw z (step_scale f.frac step);
      few = rw z few;
    }
of_two f g to false hf hg fb gb same few step is =
    let z : f.frac + g.frac - to.frac ≡ f.frac = (let e : to.frac ≡ f.frac = ap (λ (x : Format). x.frac) is in omega (arith, e, same)) in
    record {
      result = subst IsFormat (sym is) hf;
      bits = ap (λ (x : Format). x.bits) is ∙ fb;
      scale = rw z (step_scale f.frac step);
      few = rw z few;
    }

pub products_fit : (f g to : Format) → AreFactors f g to → IsProduct f g to
products_fit f g to h = by (f.frac == 0) (g.frac == 0) refl refl h.result
  where
    by : (a b : Bool) → (f.frac == 0) ≡ a → (g.frac == 0) ≡ b
        → IsResultFormat (if a then Whole (number_in f.signed 1 0) else FixedNum (fixed_in f 1 0))
        (if b then Whole (number_in g.signed 1 0) else FixedNum (fixed_in g 1 0)) to
        → IsProduct f g to
    by true true p q r = absurd r
    by true false p q r = beside_whole f g to h.right h.right_bits q r (eqb-true f.frac 0 p)
    by false true p q r =
        let x = beside_whole g f to h.left h.left_bits p r (eqb-true g.frac 0 q) in
        let swap : f.frac + g.frac - to.frac ≡ g.frac + f.frac - to.frac = omega arith in
        record { result = x.result; bits = x.bits; scale = rw swap x.scale; few = rw swap x.few }
    by false false p q r =
        let hf = fixed_format f h.left p in
        let hg = fixed_format g h.right q in
        let same = same_fraction f.signed g.signed f.frac g.frac r.0 (one_byte f hf h.left_bits) (one_byte g hg h.right_bits) in
        let inside = (operand_sized f h.left).inside in
        let bits = h.left_bits in
        of_two f g to (nat_lt (rank_of f) (rank_of g)) hf hg h.left_bits h.right_bits same (omega (arith, inside, bits))
        (operand_step f h.left) r.1

-- ---- the value

holds_product : (f g to : Format) (mode : Mode) (x y Y : ℕ) (z n : ℤ)
    → z ≡ trunc (n *ℤ pos (2 ^ 0)) (2 ^ (f.frac + g.frac - to.frac))
    → n ≡ number_in f.signed 1 x *ℤ number_in g.signed 1 y
    → HoldsResult 1 (fit to mode z) Y → HoldsResult 1 (product_of (operand_in f 1 x) (operand_in g 1 y) to mode) Y
holds_product f g to mode x y Y z n e is h =
    let all : z ≡ trunc (number_in f.signed 1 x *ℤ number_in g.signed 1 y) (2 ^ (f.frac + g.frac - to.frac)) =
    e ∙ ap (λ (t : ℤ). trunc t (2 ^ (f.frac + g.frac - to.frac))) (times_one n ∙ is) in
    rw (scaled_is f 1 x, scaled_is g 1 y, fraction_is f 1 x, fraction_is g 1 y)
    (subst (λ (t : ℤ). HoldsResult 1 (fit to mode t) Y) all h)

-- ---- the run

one_value : (f : ℕ → ℕ) (i : ℕ) → value f i 1 ≡ f i
one_value f i = let e : i + 0 ≡ i = omega arith in (let q : f (i + 0) ≡ f i = ap f e in omega (arith, q))

-- the number in two bytes that hold the product of two others
product_value : (left right : Bool) (f : ℕ → ℕ) (i j y : ℕ) → f i < 256 → f j < 256
    → y ≡ bytes_product left right (f i) (f j) % 256 ^ 2
    → number_in (left || right) 2 y ≡ number_in left 1 (value f i 1) *ℤ number_in right 1 (value f j 1)
product_value left right f i j y li lj is =
    let p = product_number left right (f i) (f j) li lj in
    rw (one_value f i, one_value f j, is) p

clear_of_two : (i : ℕ) → IsClearOfEnds i 1 → Outside 30 2 i
clear_of_two i c l = c.above l

module _ (products : BytesAreMultiplied) (scales : ScalesAreRight) (cuts : CutsAreRight) (clamps : ClampsAreRight) where
  pub products_are_right : ProductsAreRight
  products_are_right f g to mode e p c q w i j o s pc end v factors slots numbers at =
      let down = f.frac + g.frac - to.frac in
      let signed = f.signed || g.signed in
      let is = products_fit f g to factors in
      let high = above_all s slots.clear.3 in
      let b = s + 2 in
      let x = further w 2 in
      let two : IsInside s 2 s = record { low = omega arith; high = omega arith } in
      let three : IsInside b 3 s = record { low = omega arith; high = omega arith } in
      let low_work = part_stands e w 40 2 s (omega arith) slots.work in
      let work = further_stands e w 40 2 3 s (omega arith) slots.work in
      let parts = has_parts e (exact_code f g to p c w) (clamp_code to mode x q 3 1) pc end at in
      let inner = has_parts e (product_code f.signed g.signed p c w 2) (units_code signed w x 2 0 down) pc parts.0 parts.1 in
      let number = bytes_product f.signed g.signed (v.at i) (v.at j) % 256 ^ 2 in
      let F = λ (y : ℕ). y ≡ number in
      let first = from_leads e 11 pc inner.0 s 2 s number v
      (products f.signed g.signed e p c w 2 i j s pc inner.0 v slots.number slots.divisor low_work (omega arith)
      (clear_of_two i slots.clear.0) (clear_of_two j slots.clear.1) numbers inner.1) in
      let u = first.last in
      let few = is.few in
      let units : AreUnits e w x 2 0 down s b u = record {
        up_is = inl refl;
        down_is = is.scale;
        some = omega arith;
        most = omega arith;
        few = omega (arith, few);
        number = low_work;
        work = work;
        apart = record { first = λ y. omega arith; second = λ y. absurd (omega arith) };
        clear_number = clear_above s 2 high;
        clear_work = clear_above b 3 (omega (arith, high));
        numbers = first.numbers;
      } in
      let n = number_in signed 2 (value u.at s 2) in
      let G = λ (y : ℕ). signed_number 3 y ≡ trunc (n *ℤ pos (2 ^ 0)) (2 ^ down) in
      let second = from_brings e 384 inner.0 parts.0 b 3 s u G
      (units_run scales cuts signed e w x 2 0 down s b inner.0 parts.0 u units inner.2) in
      let both = computed e 11 384 395 pc inner.0 parts.0 s 2 b 3 s v F G two (omega arith) first second in
      let u2 = both.last in
      let z = signed_number 3 (value u2.at b 3) in
      let H = HoldsResult 1 (fit to mode z) in
      let third = from_clamps e 120 parts.0 end o 1 s u2 (fit to mode z)
      (clamps to mode e x q 3 1 b o parts.0 end u2 is.result is.bits (omega arith) work slots.result
      (part_apart o 1 s b 3 (omega arith) three slots.others.2) (clear_above b 3 (omega (arith, high))) slots.clear.2 both.numbers
      parts.2) in
      let ci = slots.number.clear in
      let cj = slots.divisor.clear in
      let exact = product_value f.signed g.signed v.at i j (value u.at s 2) (numbers i (omega (arith, ci)))
      (numbers j (omega (arith, cj))) first.holds in
      told e (64 * product_words) pc end o 1 s v H
      (HoldsResult 1 (product_of (operand_in f 1 (value v.at i 1)) (operand_in g 1 (value v.at j 1)) to mode))
      (λ y h. holds_product f g to mode (value v.at i 1) (value v.at j 1) y z n both.holds exact h)
      (computed e 395 120 (64 * product_words) pc parts.0 end b 3 o 1 s v G H three (omega arith) both third)
