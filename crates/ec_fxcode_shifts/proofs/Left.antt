-- A shift to the left.
use Rattle.std.proofs.Common.{◌≡◌, ℕ, zero, suc, ◌+◌, ◌-◌, ◌*◌, ◌%◌, ◌^◌, ◌<◌, ◌≤◌, max, ⊎_elim, Bool, true, false, sym, ap, ◌∙◌, subst}
use Rattle.std.proofs.Common.{arith, pow-add, pos, ◌*ℤ◌}
use Rattle.std.proofs.lemmas.Bool.{cases_lt}
use Rattle.std.proofs.lemmas.Nat.{pow_pos, mod_below}
use Rattle.std.proofs.Math.Nat.{pow-le-pow_right}
use native.Mathlib.Nat.{pow-suc}
use Rattle.ec_fx.specs.declared.formats.Format.{Format}
use Rattle.ec_fx.specs.declared.numbers.Mode.{Mode}
use Rattle.ec_fx.specs.Formats.{IsFormat}
use Rattle.ec_fx.specs.Results.{fit}
use Rattle.ec_asm.specs.declared.pieces.Location.{Location}
use Rattle.ec_asm.specs.View.{View}
use Rattle.ec_asm.specs.Change.{Env, Own}
use Rattle.ec_asm.specs.Items.{HasAt, block, code_steps}
use Rattle.ec_asm.specs.Pieces.{StandsFrom, Outside, value}
use Rattle.ec_asm.specs.PieceLaws.{AreHeld, HoldsNumbers}
use Rattle.ec_asm.proofs.Hoare.{has_parts, block_goes, goes_on_to}
use Rattle.ec_asm.proofs.Numbers.{value_below}
use Rattle.ec_select_shifts.specs.declared.shifts.Direction.{Direction}
use Rattle.ec_select_shifts.specs.declared.shifts.Direction.TheVariants.{Left}
use Rattle.ec_select_shifts.specs.Shifts.{shifted_by}
use Rattle.ec_select_shifts.specs.Laws.{Leads}
use Rattle.ec_fxcode.specs.Clamps.{clamp_code}
use Rattle.ec_fxcode.specs.ClampLaws.{signed_number, HoldsResult, IsClearOfEnds}
use Rattle.ec_fxcode.proofs.Alike.{value_parts, zeros, ones}
use Rattle.ec_fxcode.proofs.Clamped.{bits_power}
use Rattle.ec_fxcode.proofs.Fits.{plus, minus}
use Rattle.ec_fxcode.proofs.Moves.{part_stands}
use Rattle.ec_fxcode.proofs.Parts.{value_moved, sign_is}
use Rattle.ec_fxcode.proofs.Whole.{clamps_are_right}
use Rattle.ec_fxcode_shifts.specs.Shifts.{turns_code, before_code, after_code, shift_code}
use Rattle.ec_fxcode_shifts.specs.ShiftLaws.{number_in, fixed_in, AreSlots, Shifts, most_words}
use Rattle.ec_fxcode_shifts.proofs.Before.{count_is, low_count, clear_part, apart_part, apart_turned, begins_left}
use Rattle.ec_fxcode_shifts.proofs.Bounds.{steps_bound}
use Rattle.ec_fxcode_shifts.proofs.Entered.{IsWidth, mark_of}
use Rattle.ec_fxcode_shifts.proofs.Shifted.{div_one, small, left_plus, left_minus}
use Rattle.ec_fxcode_shifts.proofs.Steps.{before_short}
use Rattle.ec_fxcode_shifts.proofs.Turns.{shifts}

-- ---- the loop over any number of bytes but none

pub loops : (s : Direction) (e : Env) (p : Location) (n a pc end : ℕ) (v : View) → 1 ≤ n → StandsFrom e p n a Own
    → Outside a n 30 → HoldsNumbers v → v.at 30 < 128 → HasAt e (turns_code s p n) pc end
    → Leads e (3 + v.at 30 * (3 + 4 * n)) pc v end a n (shifted_by s n (value v.at a n) (v.at 30))
loops s e p zero a pc end v some st far h l at = absurd (omega arith)
loops s e p (suc n) a pc end v some st far h l at = shifts s e p n a pc end v st far h l at

pub clear_of_30 : (s n : ℕ) → IsClearOfEnds s n → Outside s n 30
clear_of_30 s n c l =
    ⊎_elim (λ (x : s < 30). c.below x) (λ (x : 30 ≤ s). let y = c.above x in absurd (omega arith)) (cases_lt s 30)

-- ---- numbers

pub two_power : (k c : ℕ) → c < 8 * k → 2 * 2 ^ c ≤ 256 ^ k
two_power k c l =
    let a : 2 ^ suc c ≤ 2 ^ (8 * k) = pow-le-pow_right {n = 2} (omega arith) {i = suc c} {j = 8 * k} (omega arith) in
    let b = pow-suc 2 c in
    let e = bits_power k in
    omega (arith, a, b, e)

doubled_power : (k : ℕ) → 256 ^ (2 * k) ≡ 256 ^ k * 256 ^ k
doubled_power k = let e : 2 * k ≡ k + k = omega arith in ap (λ t. 256 ^ t) e ∙ pow-add 256 k k

-- the bytes of a number with those of its sign above them
whole_is : (f g : ℕ → ℕ) (s a k byte : ℕ) → ((j : ℕ) → j < k → f (s + j) ≡ g (a + j))
    → ((j : ℕ) → k ≤ j → j < 2 * k → f (s + j) ≡ byte) → value f s (2 * k) ≡ value g a k + 256 ^ k * value f (s + k) k
whole_is f g s a k byte low high =
    let e : 2 * k ≡ k + k = omega arith in
    let l = value_moved f g s a k low in
    ap (value f s) e ∙ value_parts f s k k ∙ ap (λ t. t + 256 ^ k * value f (s + k) k) l

bytes_above : (f : ℕ → ℕ) (s k byte : ℕ) → ((j : ℕ) → k ≤ j → j < 2 * k → f (s + j) ≡ byte) → (j : ℕ) → j < k
    → f (s + k + j) ≡ byte
bytes_above f s k byte high j l =
    let at : s + (k + j) ≡ s + k + j = omega arith in
    subst (λ i. f i ≡ byte) at (high (k + j) (omega arith) (omega arith))

with_zeros : (f g : ℕ → ℕ) (s a k : ℕ) → ((j : ℕ) → j < k → f (s + j) ≡ g (a + j))
    → ((j : ℕ) → k ≤ j → j < 2 * k → f (s + j) ≡ 0) → value f s (2 * k) ≡ value g a k
with_zeros f g s a k low high =
    let w = whole_is f g s a k 0 low high in
    let z = zeros f (s + k) k (bytes_above f s k 0 high) in
    w ∙ ap (λ t. value g a k + 256 ^ k * t) z ∙ omega arith

with_ones : (f g : ℕ → ℕ) (s a k : ℕ) → ((j : ℕ) → j < k → f (s + j) ≡ g (a + j))
    → ((j : ℕ) → k ≤ j → j < 2 * k → f (s + j) ≡ 255) → value g a k ≤ 256 ^ k
    → value f s (2 * k) + (256 ^ k - value g a k) ≡ 256 ^ k * 256 ^ k
with_ones f g s a k low high l =
    let w = whole_is f g s a k 255 low high in
    let z = ones f (s + k) k (bytes_above f s k 255 high) in
    let q : 256 ^ k * (value f (s + k) k + 1) ≡ 256 ^ k * 256 ^ k = ap (λ t. 256 ^ k * t) z in
    omega (arith, w, q, l)

-- what the loop leaves, as a number
left_value : (signed : Bool) (f g : ℕ → ℕ) (s a n c : ℕ) → AreHeld g a (suc n) → c < 8 * suc n
    → ((j : ℕ) → j < suc n → f (s + j) ≡ g (a + j))
    → ((j : ℕ) → suc n ≤ j → j < 2 * suc n → f (s + j) ≡ mark_of signed (g (a + n)))
    → signed_number (2 * suc n) (shifted_by Left (2 * suc n) (value f s (2 * suc n)) c)
    ≡ number_in signed (suc n) (value g a (suc n)) *ℤ pos (2 ^ c)
left_value false f g s a n c held l low high =
    let k = suc n in
    let A = value g a k in
    let w = with_zeros f g s a k low high in
    let t = two_power k c l in
    let below = value_below g a k held in
    rw w (left_plus (2 * k) A (256 ^ k) (2 ^ c) (doubled_power k) below t)
left_value true f g s a n c held l low high =
    let k = suc n in
    let A = value g a k in
    let N = 256 ^ k in
    let t = two_power k c l in
    let below = value_below g a k held in
    let sign = sign_is g a n held in
    ⊎_elim
    (λ (less : 2 * A < N).
    let z = sign.plus less in
    let w = with_zeros f g s a k low (λ j x y. high j x y ∙ z) in
    rw (w, plus k A less) (left_plus (2 * k) A N (2 ^ c) (doubled_power k) below t))
    (λ (more : N ≤ 2 * A).
    let z = sign.minus more in
    let w = with_ones f g s a k low (λ j x y. high j x y ∙ z) (omega arith) in
    let one = pow_pos c in
    rw (minus k A more below)
    (left_minus (2 * k) (value f s (2 * k)) (N - A) N (2 ^ c) (doubled_power k) w (omega arith) (omega arith) one t))
    (cases_lt (2 * A) N)

-- ---- the run

pub left_runs : (f g : Format) (mode : Mode) (e : Env) (p c q w : Location) (n m a d b s pc end : ℕ) (v : View)
    → IsFormat f → f.bits ≡ 8 * suc n → 1 ≤ m → IsWidth (suc n) → AreSlots e p c q w (suc n) m a d b s → HoldsNumbers v
    → HasAt e (shift_code f true mode p c q w (suc n)) pc end
    → Shifts e (64 * most_words (max (suc n) m)) pc v end b (suc n) s (fixed_in f (suc n) (value v.at a (suc n)))
    (number_in g.signed m (value v.at d m)) true mode
left_runs f g mode e p c q w n m a d b s pc end v is bits some wide slots numbers stands =
    let k = suc n in
    let most = wide.most in
    let two = slots.operand.clear in
    let first = before_code f.signed true p c w k in
    let parts = has_parts e first (after_code true f mode w q k) pc end stands in
    let rest = has_parts e (turns_code Left w (2 * k)) (clamp_code f mode w q (2 * k) k) parts.0 end parts.2 in
    let u = block e first v in
    let short = before_short f.signed true p c w k in
    let go1 = block_goes e first pc parts.0 v short.straight parts.1 in
    let begun = begins_left e f.signed p c q w n m a d b s v slots some wide numbers in
    let before = begun.before in
    let clear = clear_part s (2 * k) 40 (omega arith) slots.clear.3 in
    let work = part_stands e w 40 (2 * k) s (omega arith) slots.work in
    let count : u.at 30 < 8 * k = (let r = before.count in rw r (mod_below (v.at d) (8 * k) (omega arith))) in
    let loop =
    loops Left e w (2 * k) s parts.0 rest.0 u (omega arith) work (clear_of_30 s (2 * k) clear) before.numbers (omega arith) rest.1 in
    let v2 = loop.last in
    let apart = apart_turned b k s (2 * k) (omega arith) (omega arith) (apart_part b k s (2 * k) 40 (omega arith) slots.others.2) in
    let clamp = clamps_are_right f mode e w q (2 * k) k s b rest.0 end v2 is bits
    (omega arith) work slots.result apart clear slots.clear.2 loop.numbers rest.2 in
    let h1 = short.steps_are in
    let h2 = loop.at_most in
    let h3 = clamp.at_most in
    record {
      steps = code_steps first + loop.steps + clamp.steps;
      at_most = steps_bound k (max k m) (u.at 30) (2 * k) (code_steps first) loop.steps clamp.steps (omega arith) (omega arith)
          (omega arith) (omega arith) h1 h2 (omega (arith, h3));
      last = clamp.last;
      goes = goes_on_to e (code_steps first + loop.steps) clamp.steps pc rest.0 end v v2 clamp.last
          (goes_on_to e (code_steps first) loop.steps pc parts.0 rest.0 v u v2 go1 loop.goes) clamp.goes;
      holds = λ t is_count inside.
          let held =
          λ (j : ℕ) (l : j < m). (let ud = slots.count.clear in let o : v.at (d + j) < 256 = numbers (d + j) (omega arith) in o) in
          let V = count_is g.signed m (value v.at d m) t (value_below v.at d m held) is_count in
          let l8 : t < 8 * k = rw (sym bits) inside in
          let low : v.at d ≡ t = low_count v.at d m t some V (omega arith) in
          let now : u.at 30 ≡ t = before.count ∙ ap (λ x. x % (8 * k)) low ∙ small t (8 * k) l8 in
          let number = loop.number_is ∙ ap (shifted_by Left (2 * k) (value u.at s (2 * k))) now in
          let is_value : signed_number (2 * k) (value v2.at s (2 * k)) ≡ number_in f.signed k (value v.at a k) *ℤ pos (2 ^ t) =
          ap (signed_number (2 * k)) number
          ∙ left_value f.signed u.at v.at s a n t (λ j x. numbers (a + j) (omega arith)) l8 begun.low begun.high in
          subst (λ z. HoldsResult k (fit f mode z) (value clamp.last.at b k))
          (is_value ∙ sym (div_one (number_in f.signed k (value v.at a k) *ℤ pos (2 ^ t)))) clamp.holds;
      numbers = clamp.numbers;
      same = λ j x y z o i r. clamp.same j x y z o i ∙ loop.same j x y z (λ l. let h = r l in omega arith)
          ∙ before.keeps.same j x y z o (λ l. let h = r l in omega arith);
      inputs = clamp.inputs ∙ loop.inputs ∙ before.keeps.inputs;
      safe = clamp.safe ∙ loop.safe ∙ before.keeps.safe;
      seen = clamp.seen ∙ loop.seen ∙ before.keeps.seen;
    }
