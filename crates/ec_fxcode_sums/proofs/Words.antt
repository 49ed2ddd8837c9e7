-- The words of the code.
use Rattle.std.proofs.Common.{◌≡◌, ℕ, zero, suc, ◌+◌, ◌-◌, ◌*◌, ◌%◌, ◌≤◌, max, ◌⊎◌, inl, inr, ⊎_elim, Bool, true, false, ◌==◌}
use Rattle.std.proofs.Common.{if◌then◌else◌, [], ◌++◌, refl, sym, ap, ◌∙◌, subst, arith}
use Rattle.std.proofs.lemmas.Bool.{eq-eqb, eqb-true}
use Rattle.std.proofs.lemmas.List.Sums.{sum_by-append}
use Rattle.std.proofs.lemmas.Nat.{mul-le}
use Rattle.ec_fx.specs.declared.formats.Format.{Format}
use Rattle.ec_fx.specs.declared.numbers.Mode.{Mode}
use Rattle.ec_fx.specs.Formats.{IsFormat}
use Rattle.ec_asm.specs.declared.pieces.Location.{Location}
use Rattle.ec_asm.specs.declared.pieces.Location.TheVariants.{InRegisters, InMemory}
use Rattle.ec_asm.specs.Items.{code_words, item_words}
use Rattle.ec_asm.specs.Pieces.{operate_byte, operate_code}
use Rattle.ec_select_bytes.specs.Complements.{negation_code}
use Rattle.ec_select_bytes.specs.ComplementLaws.{ComplementsHave}
use Rattle.ec_select_order.specs.Laws.{RelationsHaveWords}
use Rattle.ec_select_order.specs.Relations.{relation_code}
use Rattle.ec_fxcode.specs.Clamps.{clamp_code}
use Rattle.ec_fxcode_scales.specs.Scales.{scale_code, cut_code}
use Rattle.ec_fxcode_scales.specs.ScaleLaws.{IsScale, ScalesHave, CutsHave, ClampsAreShort}
use Rattle.ec_fxcode_quotients.specs.QuotientLaws.{IsOperandFormat}
use Rattle.ec_fxcode_quotients.proofs.Sizes.{operand_sized, format_sized, bytes_of}
use Rattle.ec_fxcode_sums.specs.Sums.{raised, raised_bytes, second_at, align_code, surplus, cut_if, settle_code, operator_of, combine_code}
use Rattle.ec_fxcode_sums.specs.SumLaws.{ArithmeticFormats, IsArithmetic, most_sum_words, SumsHave, NegationsHave}
use Rattle.ec_fxcode_sums.specs.OrderLaws.{OrdersHave}
use Rattle.ec_fxcode_sums.proofs.Sizes.{IsPair, paired, sign_bit, surplus_scale, arithmetic_is}

-- ---- a sum

byte_words : (minus : Bool) (p q : Location) (i : ℕ) → code_words (operate_byte (operator_of minus) p q i) ≤ 7
byte_words true (InRegisters r) (InRegisters s) zero = omega arith
byte_words true (InRegisters r) (InRegisters s) (suc i) = omega arith
byte_words true (InMemory o k) (InRegisters s) zero = omega arith
byte_words true (InMemory o k) (InRegisters s) (suc i) = omega arith
byte_words true (InRegisters r) (InMemory o k) zero = omega arith
byte_words true (InRegisters r) (InMemory o k) (suc i) = omega arith
byte_words true (InMemory o k) (InMemory u j) zero = omega arith
byte_words true (InMemory o k) (InMemory u j) (suc i) = omega arith
byte_words false (InRegisters r) (InRegisters s) zero = omega arith
byte_words false (InRegisters r) (InRegisters s) (suc i) = omega arith
byte_words false (InMemory o k) (InRegisters s) zero = omega arith
byte_words false (InMemory o k) (InRegisters s) (suc i) = omega arith
byte_words false (InRegisters r) (InMemory o k) zero = omega arith
byte_words false (InRegisters r) (InMemory o k) (suc i) = omega arith
byte_words false (InMemory o k) (InMemory u j) zero = omega arith
byte_words false (InMemory o k) (InMemory u j) (suc i) = omega arith

operate_words : (minus : Bool) (p q : Location) (n : ℕ) → code_words (operate_code (operator_of minus) p q n) ≤ 7 * n
operate_words minus p q zero = omega arith
operate_words minus p q (suc n) =
    let h = operate_words minus p q n in
    let b = byte_words minus p q n in
    omega (arith, sum_by-append item_words (operate_code (operator_of minus) p q n) (operate_byte (operator_of minus) p q n), h, b)

-- ---- what a bit more or less costs

abbrev extra : (d m : ℕ) → ℕ
extra d m = if d % 8 == 0 then 0 else 7 * m

extra_most : (d m : ℕ) → extra d m ≤ 7 * m
extra_most d m = by (d % 8 == 0)
  where
    by : (b : Bool) → (if b then 0 else 7 * m) ≤ 7 * m
    by true = omega arith
    by false = omega arith

extra_none : (d m : ℕ) → d % 8 ≡ 0 → extra d m ≡ 0
extra_none d m e = rw (eq-eqb (d % 8) 0 e) refl

-- ---- parts

align_words : ScalesHave → (f g : Format) (p c w : Location) (a b t m : ℕ) → IsPair f g a b t → suc t ≤ m
    → code_words (align_code f g p c w a b m) ≤ 16 + 8 * m + (extra (raised f g) m + extra (raised g f) m)
align_words have f g p c w a b t m pair room =
    let d = raised f g in
    let d' = raised g f in
    let r1 = pair.first_room in
    let r2 = pair.second_room in
    let x = have f.signed p w a m d pair.first_scale pair.first.0 (omega (arith, r1, room)) in
    let y = have g.signed c (second_at w) b m d' pair.second_scale pair.second.0 (omega (arith, r2, room)) in
    omega (arith, sum_by-append item_words (scale_code f.signed p w a m d) (scale_code g.signed c (second_at w) b m d'), x, y)

cut_none : (w : Location) (m d : ℕ) → d ≡ 0 → code_words (cut_if w m d) ≡ 0
cut_none w m d e = rw (eq-eqb d 0 e) refl

cut_words : CutsHave → (w : Location) (m d : ℕ) → IsScale d → code_words (cut_if w m d) ≤ 8 + 16 * m + extra d m
cut_words have w m d scale =
    let h = have w m d scale in
    by (d == 0) h
  where
    by : (b : Bool) → code_words (cut_code w m d) ≤ 8 + 16 * m + extra d m
        → code_words (if b then [] else cut_code w m d) ≤ 8 + 16 * m + extra d m
    by true h = omega arith
    by false h = h

settle_words : ClampsAreShort → (to : Format) (mode : Mode) (w q : Location) (m k d : ℕ) → 1 ≤ m → 1 ≤ k
    → code_words (settle_code to mode w q m k d) ≤ code_words (cut_if w m d) + (4 * max m k + 6 * k + 20)
settle_words have to mode w q m k d some many =
    let h = have to mode w q m k some many in
    omega (arith, sum_by-append item_words (cut_if w m d) (clamp_code to mode w q m k), h)

-- ---- enough

square : (w : ℕ) → 1 ≤ w → w ≤ w * w
square w l = let m : 1 * w ≤ w * w = mul-le 1 w w w l (omega arith) in omega (arith, m)

-- one operand is a whole number: no bits are cut
whole_total : (a b k t w all x y z u : ℕ) → a ≤ w → b ≤ w → k ≤ w → k ≤ t → t ≤ a + b → 1 ≤ w → all ≤ x + y + (z + u)
    → x ≤ 16 + 8 * (t + 2) + 7 * (t + 2) → y ≤ 7 * (t + 2) → z ≡ 0 → u ≤ 4 * max (t + 2) k + 6 * k + 20 → all ≤ most_sum_words w
whole_total a b k t w all x y z u ha hb hk kt ht some h hx hy hz hu =
    let s = square w some in
    omega (arith, ha, hb, hk, kt, ht, some, h, hx, hy, hz, hu, s)

-- two fixed-point numbers: they differ by whole bytes
fixed_total : (a b k t w all x y z u : ℕ) → a ≤ w → b ≤ w → k ≤ w → k ≤ t → t + 1 ≤ a + b → 1 ≤ w → all ≤ x + y + (z + u)
    → x ≤ 16 + 8 * (t + 2) → y ≤ 7 * (t + 2) → z ≤ 8 + 16 * (t + 2) → u ≤ 4 * max (t + 2) k + 6 * k + 20 → all ≤ most_sum_words w
fixed_total a b k t w all x y z u ha hb hk kt ht some h hx hy hz hu =
    let s = square w some in
    omega (arith, ha, hb, hk, kt, ht, some, h, hx, hy, hz, hu, s)

-- ---- two fixed-point formats, both signed or both unsigned

-- their fraction bits differ by whole bytes, and are 7 at least
record AreTwins (x y : ℕ) : Type 0 where
  alike : x % 8 ≡ y % 8
  first : 7 ≤ x
  second : 7 ≤ y

twins_by : (x y one : ℕ) → one ≤ 1 → (x + one ≡ 8) ⊎ ((x + one ≡ 16) ⊎ (x + one ≡ 32))
    → (y + one ≡ 8) ⊎ ((y + one ≡ 16) ⊎ (y + one ≡ 32)) → AreTwins x y
twins_by x y one l p q =
    let step = λ (z : ℕ) (h : (z ≡ 8) ⊎ ((z ≡ 16) ⊎ (z ≡ 32))). stepped z h in
    let a = step (x + one) p in
    let b = step (y + one) q in
    let a0 = a.0 in
    let a1 = a.1 in
    let b0 = b.0 in
    let b1 = b.1 in
    record { alike = omega (arith, l, a0, b0, a1, b1); first = omega (arith, l, a1); second = omega (arith, l, b1) }
  where
    stepped : (z : ℕ) → (z ≡ 8) ⊎ ((z ≡ 16) ⊎ (z ≡ 32)) → (z % 8 ≡ 0) × (8 ≤ z)
    stepped z (inl e) = (omega (arith, e), omega (arith, e))
    stepped z (inr (inl e)) = (omega (arith, e), omega (arith, e))
    stepped z (inr (inr e)) = (omega (arith, e), omega (arith, e))

twins : (f g : Format) → IsFormat f → IsFormat g → f.signed ≡ g.signed → AreTwins f.frac g.frac
twins f g hf hg e =
    let same : (if g.signed then 1 else 0) ≡ (if f.signed then 1 else 0) = ap (λ (s : Bool). if s then 1 else 0) (sym e) in
    twins_by f.frac g.frac (if f.signed then 1 else 0) (sign_bit f.signed) hf.step
    (subst (λ i. (g.frac + i ≡ 8) ⊎ ((g.frac + i ≡ 16) ⊎ (g.frac + i ≡ 32))) same hg.step)

fixed_format : (f : Format) → IsOperandFormat f → (f.frac == 0) ≡ false → IsFormat f
fixed_format f (inl h) e = h
fixed_format f (inr h) e = absurd (let t : true ≡ false = sym (eq-eqb f.frac 0 h.whole) ∙ e in cc)

-- ---- sums

-- the bytes of the result are those of an operand
result_bytes : (f g to : Format) (a b k t : ℕ) → f.bits ≡ 8 * a → g.bits ≡ 8 * b → to.bits ≡ 8 * k → ArithmeticFormats f g to
    → IsPair f g a b t → k ≤ t
result_bytes f g to a b k t fb gb tb h pair =
    let r1 = pair.first_room in
    let r2 = pair.second_room in
    let most : to.bits ≤ 8 * t = arithmetic_is (λ (x : Format). x.bits ≤ 8 * t) (f.frac == 0) (g.frac == 0) f g to h
    (omega (arith, fb, r1)) (omega (arith, gb, r2)) in
    omega (arith, most, tb)

module _ (scales : ScalesHave) (cuts : CutsHave) (clamps : ClampsAreShort) where
  -- the parts of a sum
  in_parts : (minus : Bool) (f g to : Format) (mode : Mode) (p c q w : Location) (a b k : ℕ) (t d : ℕ) → 1 ≤ k
      → code_words (align_code f g p c w a b (suc (suc t)) ++ combine_code minus to mode w q (suc (suc t)) k d)
      ≤ code_words (align_code f g p c w a b (suc (suc t))) + code_words (operate_code (operator_of minus) (second_at w) w (suc (suc t)))
      + (code_words (cut_if w (suc (suc t)) d) + (4 * max (suc (suc t)) k + 6 * k + 20))
  in_parts minus f g to mode p c q w a b k t d some =
      let m = suc (suc t) in
      let first = align_code f g p c w a b m in
      let code = operate_code (operator_of minus) (second_at w) w m in
      let rest = settle_words clamps to mode w q m k d (omega arith) some in
      omega (
        arith,
        sum_by-append item_words first (code ++ settle_code to mode w q m k d),
        sum_by-append item_words code
            (settle_code to mode w q m k d),
        rest,
      )

  -- a whole number beside a fixed-point one
  whole_words : (minus : Bool) (f g to : Format) (mode : Mode) (p c q w : Location) (a b k t d W : ℕ) → IsPair f g a b t → d ≡ 0
      → (raised f g % 8 ≡ 0) ⊎ (raised g f % 8 ≡ 0) → 1 ≤ k → k ≤ t → a ≤ W → b ≤ W → k ≤ W
      → code_words (align_code f g p c w a b (suc (suc t)) ++ combine_code minus to mode w q (suc (suc t)) k d) ≤ most_sum_words W
  whole_words minus f g to mode p c q w a b k t d W pair none even some kt wa wb wk =
      let m = suc (suc t) in
      let one = pair.first.0 in
      let twice = pair.twice in
      let x = align_words scales f g p c w a b t m pair (omega arith) in
      let y = operate_words minus (second_at w) w m in
      let e1 = extra_most (raised f g) m in
      let e2 = extra_most (raised g f) m in
      let few : code_words (align_code f g p c w a b m) ≤ 16 + 8 * (t + 2) + 7 * (t + 2) =
      ⊎_elim (λ (e : raised f g % 8 ≡ 0). let z = extra_none (raised f g) m e in omega (arith, x, e2, z))
      (λ (e : raised g f % 8 ≡ 0). let z = extra_none (raised g f) m e in omega (arith, x, e1, z)) even in
      whole_total a b k t W _ (code_words (align_code f g p c w a b m))
      (code_words (operate_code (operator_of minus) (second_at w) w m)) (code_words (cut_if w m d)) (4 * max m k + 6 * k + 20)
      wa wb wk kt twice (omega arith) (in_parts minus f g to mode p c q w a b k t d some) few (omega (arith, y))
      (cut_none w m d none) (omega arith)

  -- two fixed-point numbers
  fixed_words : (minus : Bool) (f g to : Format) (mode : Mode) (p c q w : Location) (a b k t d W : ℕ) → IsPair f g a b t → IsScale d
      → d % 8 ≡ 0 → raised f g % 8 ≡ 0 → raised g f % 8 ≡ 0 → t + 1 ≤ a + b → 1 ≤ k → k ≤ t → a ≤ W → b ≤ W → k ≤ W
      → code_words (align_code f g p c w a b (suc (suc t)) ++ combine_code minus to mode w q (suc (suc t)) k d) ≤ most_sum_words W
  fixed_words minus f g to mode p c q w a b k t d W pair scale even first second less some kt wa wb wk =
      let m = suc (suc t) in
      let one = pair.first.0 in
      let x = align_words scales f g p c w a b t m pair (omega arith) in
      let y = operate_words minus (second_at w) w m in
      let z = cut_words cuts w m d scale in
      let e1 = extra_none (raised f g) m first in
      let e2 = extra_none (raised g f) m second in
      let e3 = extra_none d m even in
      fixed_total a b k t W _ (code_words (align_code f g p c w a b m))
      (code_words (operate_code (operator_of minus) (second_at w) w m)) (code_words (cut_if w m d)) (4 * max m k + 6 * k + 20)
      wa wb wk kt less (omega arith) (in_parts minus f g to mode p c q w a b k t d some) (omega (arith, x, e1, e2))
      (omega (arith, y)) (omega (arith, z, e3)) (omega arith)

  summed_words : (minus : Bool) (f g to : Format) (mode : Mode) (p c q w : Location) (a b k t W : ℕ) → IsOperandFormat f
      → f.bits ≡ 8 * a → IsOperandFormat g → g.bits ≡ 8 * b → IsFormat to → to.bits ≡ 8 * k → (x y : Bool) → (f.frac == 0) ≡ x
      → (g.frac == 0) ≡ y → IsArithmetic x y f g to → IsPair f g a b t → k ≤ t
      → t ≡ max (raised_bytes a (raised f g)) (raised_bytes b (raised g f)) → a ≤ W → b ≤ W → k ≤ W
      → code_words (align_code f g p c w a b (suc (suc t)) ++ combine_code minus to mode w q (suc (suc t)) k (surplus f g to))
      ≤ most_sum_words W
  summed_words minus f g to mode p c q w a b k t W hf fb hg gb ht tb true true ex ey h pair kt et wa wb wk = absurd h
  summed_words minus f g to mode p c q w a b k t W hf fb hg gb ht tb true false ex ey h pair kt et wa wb wk =
      let z = eqb-true f.frac 0 ex in
      let e : to.frac ≡ g.frac = ap (λ (x : Format). x.frac) h in
      whole_words minus f g to mode p c q w a b k t (surplus f g to) W pair (omega (arith, z, e)) (inr (omega (arith, z)))
      (bytes_of to.bits to.frac k (format_sized to ht) tb).0 kt wa wb wk
  summed_words minus f g to mode p c q w a b k t W hf fb hg gb ht tb false true ex ey h pair kt et wa wb wk =
      let z = eqb-true g.frac 0 ey in
      let e : to.frac ≡ f.frac = ap (λ (x : Format). x.frac) h in
      whole_words minus f g to mode p c q w a b k t (surplus f g to) W pair (omega (arith, z, e)) (inl (omega (arith, z)))
      (bytes_of to.bits to.frac k (format_sized to ht) tb).0 kt wa wb wk
  summed_words minus f g to mode p c q w a b k t W hf fb hg gb ht tb false false ex ey h pair kt et wa wb wk =
      let two = twins f g (fixed_format f hf ex) (fixed_format g hg ey) h.0 in
      let alike = two.alike in
      let l1 = two.first in
      let l2 = two.second in
      let in1 = (operand_sized f hf).inside in
      let in2 = (operand_sized g hg).inside in
      let r1 : raised f g % 8 ≡ 0 = omega (arith, alike) in
      let r2 : raised g f % 8 ≡ 0 = omega (arith, alike) in
      let f1 : raised_bytes a (raised f g) + 1 ≤ a + b = omega (arith, alike, l1, l2, in2, gb, (pair.second).0) in
      let f2 : raised_bytes b (raised g f) + 1 ≤ a + b = omega (arith, alike, l1, l2, in1, fb, (pair.first).0) in
      let less : t + 1 ≤ a + b = omega (arith, et, f1, f2) in
      let even : surplus f g to % 8 ≡ 0 = arithmetic_is
      (λ (x : Format). (max f.frac g.frac - x.frac) % 8 ≡ 0) false false f g to h (omega (arith, alike)) (omega (arith, alike)) in
      fixed_words minus f g to mode p c q w a b k t (surplus f g to) W pair (surplus_scale f g to hf hg ht) even r1 r2 less
      (bytes_of to.bits to.frac k (format_sized to ht) tb).0 kt wa wb wk

  pub sums_have : SumsHave
  sums_have minus f g to mode p c q w a b k hf fb hg gb ht tb arithmetic =
      let t = max (raised_bytes a (raised f g)) (raised_bytes b (raised g f)) in
      let pair = paired f g a b hf fb hg gb in
      summed_words minus f g to mode p c q w a b k t (max a (max b k)) hf fb hg gb ht tb (f.frac == 0)
      (g.frac == 0) refl refl arithmetic pair
      (result_bytes f g to a b k t fb gb tb arithmetic pair) refl (omega arith) (omega arith) (omega arith)

-- ---- comparisons and negations

order_total : (a b t w all x y : ℕ) → a ≤ w → b ≤ w → t ≤ a + b → 1 ≤ w → all ≤ x + y → x ≤ 16 + 8 * suc t + (7 * suc t + 7 * suc t)
    → y ≤ 3 + 5 * suc t → all ≤ most_sum_words w
order_total a b t w all x y ha hb ht some h hx hy =
    let s = square w some in
    omega (arith, ha, hb, ht, some, h, hx, hy, s)

pub orders_have : ScalesHave → RelationsHaveWords → OrdersHave
orders_have scales relations r f g p c w a b hf fb hg gb =
    let t = max (raised_bytes a (raised f g)) (raised_bytes b (raised g f)) in
    let m = suc t in
    let pair = paired f g a b hf fb hg gb in
    let one = pair.first.0 in
    let x = align_words scales f g p c w a b t m pair (omega arith) in
    let y = relations r true w (second_at w) m in
    let e1 = extra_most (raised f g) m in
    let e2 = extra_most (raised g f) m in
    order_total a b t (max a b) _ (code_words (align_code f g p c w a b m))
    (code_words (relation_code r true w (second_at w) m)) (omega arith) (omega arith) pair.twice (omega (arith, one))
    (omega (arith, sum_by-append item_words (align_code f g p c w a b m) (relation_code r true w (second_at w) m)))
    (omega (arith, x, e1, e2)) y

pub negations_have : ScalesHave → ComplementsHave → ClampsAreShort → NegationsHave
negations_have scales complements clamps f mode p q w k hf fb =
    let m = suc k in
    let some = (bytes_of f.bits f.frac k (format_sized f hf) fb).0 in
    let x = scales f.signed p w k m 0 (inl refl) some (omega arith) in
    let y = (complements w m).1 in
    let z = clamps f mode w q m k (omega arith) some in
    omega (
      arith,
      some,
      sum_by-append item_words (scale_code f.signed p w k m 0)
          (negation_code w m ++ clamp_code f mode w q m k),
      sum_by-append item_words (negation_code w m) (clamp_code f mode w q m k),
      x,
      y,
      z,
    )
