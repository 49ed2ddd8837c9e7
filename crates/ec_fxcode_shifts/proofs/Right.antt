-- A shift to the right.
use Rattle.std.proofs.Common.{◌≡◌, ℕ, zero, suc, ◌+◌, ◌-◌, ◌*◌, ◌/◌, ◌%◌, ◌^◌, ◌<◌, ◌≤◌, max, ⊎_elim, Bool, true, false, refl, sym, ap, ◌∙◌}
use Rattle.std.proofs.Common.{arith}
use Rattle.std.proofs.lemmas.Bool.{cases_lt}
use Rattle.std.proofs.lemmas.Nat.{pow_pos, mod_below}
use Rattle.ec_fx.specs.declared.formats.Format.{Format}
use Rattle.ec_fx.specs.declared.numbers.Mode.{Mode}
use Rattle.ec_fx.specs.Results.{fit}
use Rattle.ec_fx.specs.Rounding.{trunc}
use Rattle.ec_asm.specs.declared.pieces.Location.{Location}
use Rattle.ec_asm.specs.View.{View}
use Rattle.ec_asm.specs.Change.{Env}
use Rattle.ec_asm.specs.Items.{HasAt, block, code_steps}
use Rattle.ec_asm.specs.Pieces.{Outside, value}
use Rattle.ec_asm.specs.PieceLaws.{AreHeld, HoldsNumbers}
use Rattle.ec_asm.proofs.Hoare.{has_parts, block_goes, goes_on_to}
use Rattle.ec_asm.proofs.Numbers.{value_below}
use Rattle.ec_select_shifts.specs.declared.shifts.Direction.TheVariants.{Right}
use Rattle.ec_select_shifts.specs.Shifts.{shifted_by}
use Rattle.ec_fxcode.specs.ClampLaws.{HoldsResult, IsClearOfEnds}
use Rattle.ec_fxcode.proofs.Clamped.{bits_power, half_power, two_halves}
use Rattle.ec_fxcode.proofs.Fits.{plus, minus}
use Rattle.ec_fxcode.proofs.Moves.{part_stands}
use Rattle.ec_fxcode.proofs.Parts.{IsSign, sign_is}
use Rattle.ec_fxcode_shifts.specs.Shifts.{turned_code, turns_code, before_code, after_code, shift_code}
use Rattle.ec_fxcode_shifts.specs.ShiftLaws.{number_in, fixed_in, AreSlots, Shifts, most_words}
use Rattle.ec_fxcode_shifts.proofs.Before.{count_is, low_count, clear_part, apart_part, apart_turned, begins_right}
use Rattle.ec_fxcode_shifts.proofs.Bounds.{steps_bound}
use Rattle.ec_fxcode_shifts.proofs.Entered.{IsWidth, mark_of, numbers_after}
use Rattle.ec_fxcode_shifts.proofs.Left.{loops, clear_of_30}
use Rattle.ec_fxcode_shifts.proofs.Shifted.{small, right_plus, right_unsigned, right_minus}
use Rattle.ec_fxcode_shifts.proofs.Steps.{before_short, turned_short}
use Rattle.ec_fxcode_shifts.proofs.Negated.{turns}

-- a number y that is x negated where the byte is 255, and x where it is 0
pub record IsNegatedBy (byte N x y : ℕ) : Type 0 where
  pub plus_is : byte ≡ 0 → y ≡ x
  pub minus_is : byte ≡ 255 → (t : ℕ) × (t ≤ 1) × (y + x ≡ t * N)

pub magnitude_is : (M A N t : ℕ) → t ≤ 1 → M + A ≡ t * N → A < N → N ≤ 2 * A → M ≡ N - A
magnitude_is M A N zero l e b m = absurd (omega (arith, e, b, m))
magnitude_is M A N (suc zero) l e b m = omega (arith, e, b)
magnitude_is M A N (suc (suc t)) l e b m = absurd (omega (arith, l))

-- what is brought back is the result, where p is two to the power of the count
right_value : (f : Format) (mode : Mode) (signed : Bool) (n A top p M Y : ℕ) → f.signed ≡ signed → f.bits ≡ 8 * suc n
    → A < 256 ^ suc n → 1 ≤ p → Y < 256 ^ suc n → (signed ≡ true → IsSign A (256 ^ suc n) (mark_of signed top))
    → (signed ≡ false → mark_of signed top ≡ 0)
    → IsNegatedBy (mark_of signed top) (256 ^ suc n) A M → IsNegatedBy (mark_of signed top) (256 ^ suc n) (M / p) Y
    → HoldsResult (suc n) (fit f mode (trunc (number_in signed (suc n) A) p)) Y
right_value f mode false n A top p M Y s e l one y sign none in_ out =
    let z = none refl in
    let m = in_.plus_is z in
    let r : Y ≡ A / p = out.plus_is z ∙ ap (λ t. t / p) m in
    right_unsigned f mode (suc n) A (256 ^ suc n) p Y s (ap (λ t. 2 ^ t) e ∙ bits_power (suc n)) l one r
right_value f mode true n A top p M Y s e l one y sign none in_ out =
    let k = suc n in
    let N = 256 ^ k in
    let h = 128 * 256 ^ n in
    let half : 2 ^ (f.bits - 1) ≡ h = ap (λ t. 2 ^ (t - 1)) e ∙ half_power n in
    let two = two_halves n in
    let is = sign refl in
    ⊎_elim
    (λ (less : 2 * A < N).
    let z = is.plus less in
    let m = in_.plus_is z in
    let r : Y ≡ A / p = out.plus_is z ∙ ap (λ t. t / p) m in
    rw (plus k A less) (right_plus f mode k A h p Y s half (omega (arith, less, two)) one r))
    (λ (more : N ≤ 2 * A).
    let z = is.minus more in
    let m = in_.minus_is z in
    let r = out.minus_is z in
    let mag : M ≡ N - A = magnitude_is M A N m.0 m.1 m.2 l more in
    let q : Y + (N - A) / p ≡ r.0 * N = ap (λ t. Y + t / p) (sym mag) ∙ r.2 in
    rw (minus k A more l) (right_minus f mode k h (N - A) p Y r.0 s half two (omega (arith, l)) (omega (arith, more, two)) one y r.1 q))
    (cases_lt (2 * A) N)

pub sign_given : (signed : Bool) (f : ℕ → ℕ) (a n : ℕ) → AreHeld f a (suc n) → signed ≡ true
    → IsSign (value f a (suc n)) (256 ^ suc n) (mark_of signed (f (a + n)))
sign_given true f a n h e = sign_is f a n h
sign_given false f a n h e = cc

pub no_sign : (signed : Bool) (x : ℕ) → signed ≡ false → mark_of signed x ≡ 0
no_sign true x e = cc
no_sign false x e = refl

pub beside_31 : (s n : ℕ) → IsClearOfEnds s n → Outside s n 31
beside_31 s n c l =
    ⊎_elim (λ (x : s < 30). let y = c.below x in omega arith) (λ (x : 30 ≤ s). let y = c.above x in absurd (omega arith)) (cases_lt s 30)

pub right_runs : (f g : Format) (mode : Mode) (e : Env) (p c q w : Location) (n m a d b s pc end : ℕ) (v : View)
    → f.bits ≡ 8 * suc n → 1 ≤ m → IsWidth (suc n) → AreSlots e p c q w (suc n) m a d b s → HoldsNumbers v
    → HasAt e (shift_code f false mode p c q w (suc n)) pc end
    → Shifts e (64 * most_words (max (suc n) m)) pc v end b (suc n) s (fixed_in f (suc n) (value v.at a (suc n)))
    (number_in g.signed m (value v.at d m)) false mode
right_runs f g mode e p c q w n m a d b s pc end v bits some wide slots numbers stands =
    let k = suc n in
    let most = wide.most in
    let two = slots.operand.clear in
    let byte = mark_of f.signed (v.at (a + n)) in
    let first = before_code f.signed false p c w k in
    let parts = has_parts e first (after_code false f mode w q k) pc end stands in
    let rest = has_parts e (turns_code (Right false) w k) (turned_code w q k) parts.0 end parts.2 in
    let u = block e first v in
    let short = before_short f.signed false p c w k in
    let go1 = block_goes e first pc parts.0 v short.straight parts.1 in
    let begun = begins_right e f.signed p c q w n m a d b s v slots some wide numbers in
    let before = begun.before in
    let clear = clear_part s k 40 (omega arith) slots.clear.3 in
    let work = part_stands e w 40 k s (omega arith) slots.work in
    let count : u.at 30 < 8 * k = (let r = before.count in rw r (mod_below (v.at d) (8 * k) (omega arith))) in
    let loop =
    loops (Right false) e w k s parts.0 rest.0 u (omega arith) work (clear_of_30 s k clear) before.numbers (omega arith) rest.1 in
    let v2 = loop.last in
    let apart = apart_turned b k s k (omega arith) (omega arith) (apart_part b k s k 40 (omega arith) slots.others.2) in
    let sign2 : v2.at 31 ≡ byte = loop.same 31 (omega arith) (omega arith) (omega arith) (beside_31 s k clear) ∙ before.sign in
    let w2 = block e (turned_code w q k) v2 in
    let t = turns e w q k s b byte v2 work slots.result apart.first slots.clear.2 loop.numbers sign2 in
    let short2 = turned_short w q k in
    let go3 = block_goes e (turned_code w q k) rest.0 end v2 short2.straight rest.2 in
    let h1 = short.steps_are in
    let h2 = loop.at_most in
    let h3 = short2.steps_are in
    let at30 : w2.at 30 < 256 =
    (let z : w2.at 30 ≡ v2.at 30 = t.keeps.same 30 (omega arith) (omega arith) (clear_of_30 b k slots.clear.2) in
    rw z (loop.numbers 30 (omega arith))) in
    let at31 : w2.at 31 < 256 = (let z : w2.at 31 ≡ v2.at 31 = t.keeps.same 31 (omega arith) (omega arith) (beside_31 b k slots.clear.2) in
    rw z (loop.numbers 31 (omega arith))) in
    record {
      steps = code_steps first + loop.steps + code_steps (turned_code w q k);
      at_most = steps_bound k (max k m) (u.at 30) k (code_steps first) loop.steps (code_steps (turned_code w q k)) (omega arith)
          (omega arith) (omega arith) (omega arith) h1 h2 (omega (arith, h3));
      last = w2;
      goes = goes_on_to e (code_steps first + loop.steps) (code_steps (turned_code w q k)) pc rest.0 end v v2 w2
          (goes_on_to e (code_steps first) loop.steps pc parts.0 rest.0 v u v2 go1 loop.goes) go3;
      holds = λ z is_count inside.
          let held =
          λ (j : ℕ) (l : j < m). (let ud = slots.count.clear in let o : v.at (d + j) < 256 = numbers (d + j) (omega arith) in o) in
          let V = count_is g.signed m (value v.at d m) z (value_below v.at d m held) is_count in
          let l8 : z < 8 * k = rw (sym bits) inside in
          let low : v.at d ≡ z = low_count v.at d m z some V (omega arith) in
          let now : u.at 30 ≡ z = before.count ∙ ap (λ x. x % (8 * k)) low ∙ small z (8 * k) l8 in
          let number : value v2.at s k ≡ value u.at s k / 2 ^ z = loop.number_is ∙ ap (shifted_by (Right false) k (value u.at s k)) now in
          let held_a = λ (j : ℕ) (l : j < k). (let o : v.at (a + j) < 256 = numbers (a + j) (omega arith) in o) in
          right_value f mode f.signed n (value v.at a k) (v.at (a + n)) (2 ^ z) (value u.at s k) (value w2.at b k) refl bits
          (value_below v.at a k held_a) (pow_pos z) (value_below w2.at b k t.held)
          (sign_given f.signed v.at a n held_a) (no_sign f.signed (v.at (a + n)))
          (record { plus_is = begun.plus; minus_is = begun.minus })
          (record {
            plus_is = λ y. (t.plus y).0 ∙ number;
            minus_is = λ y. (_, t.bit, ap (λ i. value w2.at b k + i) (sym number) ∙ t.minus y);
          });
      numbers = numbers_after v2 w2 b k loop.numbers (λ j x y z o r. t.keeps.same j x y r) at30 at31 t.held;
      same = λ j x y z o i r. t.keeps.same j x y i ∙ loop.same j x y z (λ l. let h = r l in omega arith)
          ∙ before.keeps.same j x y z o (λ l. let h = r l in omega arith);
      inputs = t.keeps.inputs ∙ loop.inputs ∙ before.keeps.inputs;
      safe = t.keeps.safe ∙ loop.safe ∙ before.keeps.safe;
      seen = t.keeps.seen ∙ loop.seen ∙ before.keeps.seen;
    }
