-- The whole code of a division.
use Rattle.std.proofs.Common.{◌≡◌, ◌≢◌, ℕ, zero, suc, ◌+◌, ◌-◌, ◌*◌, ◌/◌, ◌^◌, ◌<◌, ◌≤◌, max, ⊎_elim, Bool, ◌++◌, bit_xor, refl, sym, ap}
use Rattle.std.proofs.Common.{◌∙◌, subst, arith, pos, ◌*ℤ◌, unsigned_abs}
use Rattle.std.proofs.lemmas.Bool.{cases_lt}
use Rattle.ec_fx.specs.declared.formats.Format.{Format}
use Rattle.ec_fx.specs.declared.numbers.Mode.{Mode}
use Rattle.ec_fx.specs.declared.numbers.Fx.{Fx}
use Rattle.ec_fx.specs.Arithmetic.{turned, quotient_of}
use Rattle.ec_fx.specs.Formats.{IsFormat}
use Rattle.ec_fx.specs.Results.{fit}
use Rattle.ec_fx.specs.Rounding.{trunc}
use Rattle.ec_asm.specs.declared.pieces.Location.{Location}
use Rattle.ec_asm.specs.View.{View}
use Rattle.ec_asm.specs.Change.{Env}
use Rattle.ec_asm.specs.Items.{HasAt, block, code_steps}
use Rattle.ec_asm.specs.Pieces.{Outside, value}
use Rattle.ec_asm.specs.PieceLaws.{AreHeld, HoldsNumbers}
use Rattle.ec_asm.proofs.Hoare.{has_parts, block_goes, goes_on_to}
use Rattle.ec_asm.proofs.Numbers.{value_below, value_mod}
use Rattle.ec_select_quotients.proofs.Long.{Long}
use Rattle.ec_fxcode.specs.Clamps.{clamp_code}
use Rattle.ec_fxcode.specs.ClampLaws.{signed_number, HoldsResult, Clamps, IsClearOfEnds, AreApart}
use Rattle.ec_fxcode.proofs.Alike.{value_parts}
use Rattle.ec_fxcode.proofs.Moves.{part_stands}
use Rattle.ec_fxcode.proofs.Whole.{clamps_are_right}
use Rattle.ec_fxcode_shifts.specs.Shifts.{turned_code}
use Rattle.ec_fxcode_shifts.specs.ShiftLaws.{number_in, most_words}
use Rattle.ec_fxcode_shifts.proofs.Entered.{mark_of, numbers_after}
use Rattle.ec_fxcode_shifts.proofs.Negated.{TurnsTo, turns}
use Rattle.ec_fxcode_shifts.proofs.Right.{IsNegatedBy}
use Rattle.ec_fxcode_shifts.proofs.Steps.{turned_short}
use Rattle.ec_fxcode_quotients.specs.Quotients.{bits_of, quotient_bytes, number_bytes, number_at, ready_code, turns_code, finish_code}
use Rattle.ec_fxcode_quotients.specs.Quotients.{solve_code}
use Rattle.ec_fxcode_quotients.specs.QuotientLaws.{operand_in, AreSlots, Divides, QuotientsAreRight}
use Rattle.ec_fxcode_quotients.proofs.Loop.{After, runs}
use Rattle.ec_fxcode_quotients.proofs.Number.{twice_below, quotient_low}
use Rattle.ec_fxcode_quotients.proofs.Rows.{AreRows, further_stands}
use Rattle.ec_fxcode_quotients.proofs.Signs.{IsSignedBy, operand_signed, exact_result, signed_result, holds_quotient}
use Rattle.ec_fxcode_quotients.proofs.Sizes.{operand_sized, bytes_of, few_bits}
use Rattle.ec_fxcode_quotients.proofs.Start.{IsReady, starts}
use Rattle.ec_fxcode_quotients.proofs.Steps.{IsRoomy, roomy, ready_short, steps_bound}

-- the work bytes stand above the registers
above_all : (s : ℕ) → IsClearOfEnds s 40 → 32 ≤ s
above_all s c =
    ⊎_elim (λ (x : s < 30). let y = c.below x in absurd (omega arith)) (λ (x : 30 ≤ s). c.above x) (cases_lt s 30)

clear_above : (a n : ℕ) → 32 ≤ a → IsClearOfEnds a n
clear_above a n l = record { below = λ x. absurd (omega arith); above = λ x. l }

inside_apart : (o k s i m : ℕ) → 1 ≤ m → i + m ≤ 40 → AreApart o k s 40 → AreApart (s + i) m o k
inside_apart o k s i m some l h =
    record {
      first = λ x. ⊎_elim (λ (y : o < s). let z = h.first y in absurd (omega arith))
          (λ (y : s ≤ o). let z = h.second y in omega arith) (cases_lt o s);
      second = λ x. ⊎_elim (λ (y : o < s). let z = h.first y in omega arith)
          (λ (y : s ≤ o). let z = h.second y in absurd (omega arith)) (cases_lt o s);
    }

-- what is at the top of the number
number_is : (f : ℕ → ℕ) (x z a A : ℕ) → value f x z ≡ 0 → value f (x + z) a ≡ A → value f x (z + a) ≡ A * 256 ^ z
number_is f x z a A h g = value_parts f x z a ∙ rw (h, g) (omega arith)

-- ---- the value

-- after T bits, in the low m bytes, and then with its sign
result_is : (f g to : Format) (n m z T a b x y A D jr jx B s t : ℕ) (v2 v3 : View) → suc n ≡ z + a
    → T ≡ 8 * a + (g.frac + to.frac) - f.frac → f.frac ≤ 8 * a → m ≡ T / 8 + 1 → m ≤ suc n → a + 1 ≤ suc n → 1 ≤ D
    → Long (A * 256 ^ z) D (256 ^ suc n) (value v2.at jr (suc B)) (value v2.at jx (suc n)) T → AreHeld v2.at jx (suc n)
    → TurnsTo v2 jx jx (bit_xor t s) m v3 → IsSignedBy s A (number_in f.signed a x) → IsSignedBy t D (number_in g.signed b y)
    → signed_number m (value v3.at jx m) ≡ trunc (turned (number_in g.signed b y) (number_in f.signed a x *ℤ pos (2 ^ (g.frac + to.frac))))
    (unsigned_abs (number_in g.signed b y) * 2 ^ f.frac)
result_is f g to n m z T a b x y A D jr jx B s t v2 v3 en et inside em lm la some long held turn sx sy =
    let up = g.frac + to.frac in
    let Q = A * 2 ^ up / (D * 2 ^ f.frac) in
    let below = value_below v2.at jx (suc n) held in
    let q =
    quotient_low A D a z (suc n) m up f.frac T (value v2.at jr (suc B)) (value v2.at jx (suc n)) en et inside em lm la below some long in
    let low : value v2.at jx m ≡ Q = sym (value_mod v2.at jx m (suc n) lm held) ∙ q.0 in
    let room : 2 * Q < 256 ^ m = (let c = q.1 in let d : 2 * 2 ^ T ≤ 256 ^ m = rw em (twice_below T) in omega (arith, c, d)) in
    let negated : IsNegatedBy (bit_xor t s) (256 ^ m) Q (value v3.at jx m) = record {
      plus_is = λ e. (turn.plus e).0 ∙ low;
      minus_is = λ e. (_, turn.bit, ap (λ i. value v3.at jx m + i) (sym low) ∙ turn.minus e);
    } in
    signed_result (bit_xor t s) Q m (value v3.at jx m) _ room (value_below v3.at jx m turn.held) negated
    (exact_result s t A D (2 ^ up) (2 ^ f.frac) (number_in f.signed a x) (number_in g.signed b y) sx sy)

-- ---- what is kept

record IsKept (v w : View) (o k s : ℕ) : Type 0 where
  same : (l : ℕ) → l ≢ 0 → l ≢ 1 → l ≢ 30 → l ≢ 31 → Outside o k l → Outside s 40 l → w.at l ≡ v.at l
  inputs : w.inputs ≡ v.inputs
  safe : w.safe ≡ v.safe
  seen : w.seen ≡ v.seen

all_kept : (e : Env) (most pc end : ℕ) (f g : Bool) (i na j nb s z T n m o k byte X D : ℕ) (v u v2 v3 : View) (answer : Fx)
    → suc nb ≤ 8 → suc n ≤ 13 → m ≤ suc n → IsReady v u f g i na j nb s z T
    → After X D (suc nb) n s (s + suc (suc nb)) (s + (2 * suc nb + 2)) u T v2
    → TurnsTo v2 (s + (2 * suc nb + 2)) (s + (2 * suc nb + 2)) byte m v3 → (c : Clamps e most pc v3 end o k answer)
    → IsKept v c.last o k s
all_kept e most pc end f g i na j nb s z T n m o k byte X D v u v2 v3 answer lb ln lm begun after turn clamp = record {
  same = λ l y1 y2 y3 y4 r t.
      clamp.same l y1 y2 y3 y4 r ∙ turn.keeps.same l y1 y2 (λ h. let d = t (omega arith) in omega (arith, d, lb, ln, lm))
      ∙ after.same l y1 y2 y3 (λ h. let d = t (omega arith) in omega (arith, d, lb))
      (λ h. let d = t (omega arith) in omega (arith, d, lb, ln))
      ∙ begun.touches.same l y1 y2 y3 y4 t;
  inputs = clamp.inputs ∙ turn.keeps.inputs ∙ after.inputs ∙ begun.touches.inputs;
  safe = clamp.safe ∙ turn.keeps.safe ∙ after.safe ∙ begun.touches.safe;
  seen = clamp.seen ∙ turn.keeps.seen ∙ after.seen ∙ begun.touches.seen;
}

-- ---- the run

divided : (f g to : Format) (mode : Mode) (e : Env) (p c q w : Location) (na nb k i j o s pc end : ℕ) (v : View) (n z m T W : ℕ)
    → suc n ≡ z + suc na → m ≡ T / 8 + 1 → m ≤ suc n → suc na + 1 ≤ suc n → suc n ≤ 13 → suc nb ≤ 8
    → T ≡ 8 * suc na + (g.frac + to.frac) - f.frac → f.frac ≤ 8 * suc na → T ≤ 97 → IsRoomy (suc na) (suc nb) k T (suc n) m W
    → IsFormat to → to.bits ≡ 8 * k → AreSlots e p c q w (suc na) (suc nb) k i j o s → HoldsNumbers v
    → HasAt e (ready_code f.signed g.signed p c w (suc na) (suc nb) z T ++ solve_code to mode w q (suc nb) (suc n) m k) pc end
    → Divides e (64 * most_words W) pc v end o k s
    (quotient_of (operand_in f (suc na) (value v.at i (suc na))) (operand_in g (suc nb) (value v.at j (suc nb))) to mode)
divided f g to mode e p c q w na nb k i j o s pc end v n z m T W en em lm la ln lb et inside lt room ht tb slots numbers at =
    let a = suc na in
    let b = suc nb in
    let jr = s + suc b in
    let jx = s + (2 * b + 2) in
    let x = number_at w b in
    let sa = mark_of f.signed (v.at (i + na)) in
    let sb = mark_of g.signed (v.at (j + nb)) in
    let byte = bit_xor sb sa in
    let high = above_all s slots.clear.3 in
    let first = ready_code f.signed g.signed p c w a b z T in
    let u = block e first v in
    let short = ready_short f.signed g.signed p c w a b z T in
    let parts = has_parts e first (solve_code to mode w q b (suc n) m k) pc end at in
    let rest = has_parts e (turns_code w b (suc n)) (finish_code to mode x q m k) parts.0 end parts.2 in
    let last = has_parts e (turned_code x x m) (clamp_code to mode x q m k) rest.0 end rest.2 in
    let go1 = block_goes e first pc parts.0 v short.straight parts.1 in
    let begun =
    starts e f.signed g.signed p c q w na nb k i j o s z T v slots high (omega (arith, en, ln, lb)) (omega (arith, lt)) numbers in
    let sd = part_stands e w 40 (suc b) s (omega (arith, lb)) slots.work in
    let sr = further_stands e w 40 (suc b) (suc b) s (omega (arith, lb)) slots.work in
    let sx = further_stands e w 40 (2 * b + 2) (suc n) s (omega (arith, lb, ln)) slots.work in
    let sm = further_stands e w 40 (2 * b + 2) m s (omega (arith, lb, ln, lm)) slots.work in
    let rows : AreRows s jr jx b = record { low = high; first = omega arith; second = omega arith } in
    let hu = begun.touches.numbers in
    let D = value u.at s b in
    let A = value u.at (s + (2 * b + 2 + z)) a in
    let under : D < 256 ^ b = value_below u.at s b (λ l y. hu (s + l) (omega arith)) in
    let divisor : value u.at s (suc b) ≡ D = (let y = begun.top in rw y (omega arith)) in
    let same_place : s + (2 * b + 2 + z) ≡ jx + z = omega arith in
    let number : value u.at jx (suc n) ≡ A * 256 ^ z =
    ap (value u.at jx) en ∙ number_is u.at jx z a A begun.zeros_are (ap (λ l. value u.at l a) (sym same_place)) in
    let loop = runs e w b n (A * 256 ^ z) D s jr jx T parts.0 rest.0 u sd sr sx rows under divisor begun.remainder number begun.count
    (omega (arith, lt)) hu rest.1 in
    let v2 = loop.last in
    let after = loop.after in
    let sign2 : v2.at 31 ≡ byte =
    after.same 31 (omega arith) (omega arith) (omega arith) (λ l. absurd (omega arith)) (λ l. absurd (omega arith)) ∙ begun.sign in
    let clear = clear_above jx m (omega arith) in
    let turn = turns e x x m jx jx byte v2 sm sm (λ l. absurd (omega arith)) clear after.numbers sign2 in
    let v3 = block e (turned_code x x m) v2 in
    let short3 = turned_short x x m in
    let go3 = block_goes e (turned_code x x m) rest.0 last.0 v2 short3.straight last.1 in
    let at30 : v3.at 30 < 256 = (let y : v3.at 30 ≡ v2.at 30 = turn.keeps.same 30 (omega arith) (omega arith) (λ l. absurd (omega arith)) in
    rw y (after.numbers 30 (omega arith))) in
    let at31 : v3.at 31 < 256 = (let y : v3.at 31 ≡ v2.at 31 = turn.keeps.same 31 (omega arith) (omega arith) (λ l. absurd (omega arith)) in
    rw y (after.numbers 31 (omega arith))) in
    let numbers3 = numbers_after v2 v3 jx m after.numbers (λ l y1 y2 y3 y4 r. turn.keeps.same l y1 y2 r) at30 at31 turn.held in
    let clamp = clamps_are_right to mode e x q m k jx o last.0 end v3 ht tb (omega (arith, em)) sm slots.result
    (inside_apart o k s (2 * b + 2) m (omega (arith, em)) (omega (arith, lb, ln, lm)) slots.others.2) clear slots.clear.2 numbers3 last.2 in
    let h1 = short.steps_are in
    let h2 = loop.at_most in
    let h3 = short3.steps_are in
    let h4 = clamp.at_most in
    let t1 = code_steps first in
    let t3 = code_steps (turned_code x x m) in
    let goes2 = goes_on_to e t1 loop.steps pc parts.0 rest.0 v u v2 go1 loop.goes in
    let goes3 = goes_on_to e (t1 + loop.steps) t3 pc rest.0 last.0 v v2 v3 goes2 go3 in
    let held_a = λ (l : ℕ) (y : l < a). (let ua = slots.number.clear in let r : v.at (i + l) < 256 = numbers (i + l) (omega arith) in r) in
    let held_b = λ (l : ℕ) (y : l < b). (let ub = slots.divisor.clear in let r : v.at (j + l) < 256 = numbers (j + l) (omega arith) in r) in
    let held_2 = λ (l : ℕ) (y : l < suc n). (let r : v2.at (jx + l) < 256 = after.numbers (jx + l) (omega arith) in r) in
    let signed_a = operand_signed f.signed v.at i na A held_a begun.number in
    let signed_b = operand_signed g.signed v.at j nb D held_b begun.divisor in
    let kept = all_kept e (60 + 20 * max m k) last.0 end f.signed g.signed i na j nb s z T n m o k byte (A * 256 ^ z) D v u v2 v3
    (fit to mode (signed_number m (value v3.at jx m))) lb ln lm begun after turn clamp in
    record {
      steps = t1 + loop.steps + t3 + clamp.steps;
      at_most = steps_bound a b k T (suc n) m W z t1 loop.steps t3 clamp.steps room (omega (arith, en)) h1 h2 h3 h4;
      last = clamp.last;
      goes = goes_on_to e (t1 + loop.steps + t3) clamp.steps pc last.0 end v v3 clamp.last goes3 clamp.goes;
      holds = holds_quotient f g to mode a b (value v.at i a) (value v.at j b) k (value clamp.last.at o k) D sb signed_b
          (λ some. subst (λ y. HoldsResult k (fit to mode y) (value clamp.last.at o k))
          (result_is f g to n m z T a b (value v.at i a) (value v.at j b) A D jr jx b sa sb v2 v3 en et inside em lm la some
          (after.long some) held_2 turn signed_a signed_b)
          clamp.holds);
      numbers = clamp.numbers;
      same = kept.same;
      inputs = kept.inputs;
      safe = kept.safe;
      seen = kept.seen;
    }

pub quotients_are_right : QuotientsAreRight
quotients_are_right f g to mode e p c q w zero b k i j o s pc end v hf fb hg gb ht tb slots numbers at =
    let l = (bytes_of f.bits f.frac zero (operand_sized f hf) fb).0 in
    absurd (omega (arith, l))
quotients_are_right f g to mode e p c q w (suc na) zero k i j o s pc end v hf fb hg gb ht tb slots numbers at =
    let l = (bytes_of g.bits g.frac zero (operand_sized g hg) gb).0 in
    absurd (omega (arith, l))
quotients_are_right f g to mode e p c q w (suc na) (suc nb) k i j o s pc end v hf fb hg gb ht tb slots numbers at =
    let a = suc na in
    let b = suc nb in
    let T = bits_of f g to a in
    let n = number_bytes a T in
    let m = quotient_bytes T in
    let W = max a (max b k) in
    let la = (bytes_of f.bits f.frac a (operand_sized f hf) fb).1 in
    let lb = (bytes_of g.bits g.frac b (operand_sized g hg) gb).1 in
    let few = few_bits f g to a hf fb hg ht in
    let r = roomy f g to a b k hf fb hg gb ht tb in
    let inside = (operand_sized f hf).inside in
    let up : suc (n - 1) ≡ n = omega arith in
    let code = λ (t : ℕ). ready_code f.signed g.signed p c w a b (n - a) T ++ solve_code to mode w q b t m k in
    divided f g to mode e p c q w na nb k i j o s pc end v (n - 1) (n - a) m T W
    (omega arith) refl (omega arith) (omega arith) (omega (arith, la, few)) lb refl (omega (arith, inside, fb)) few
    (subst (λ t. IsRoomy a b k T t m W) (sym up) r) ht tb slots numbers
    (subst (λ t. HasAt e (code t) pc end) (sym up) at)
