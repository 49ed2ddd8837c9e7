-- The work bytes before the loop: the magnitudes of the operands, and zeros.
use Rattle.std.proofs.Common.{◌≡◌, ◌≢◌, ℕ, suc, ◌+◌, ◌-◌, ◌*◌, ◌^◌, ◌<◌, ◌≤◌, ⊎_elim, Bool, sym, ap, ◌∙◌, arith}
use Rattle.std.specs.Int.Bits.{xor_self}
use Rattle.std.proofs.lemmas.Bool.{cases_eq}
use Rattle.ec_isa.specs.declared.instructions.Instr.TheVariants.{Mov, Eor}
use Rattle.ec_asm.specs.declared.pieces.Location.{Location}
use Rattle.ec_asm.specs.View.{View}
use Rattle.ec_asm.specs.Change.{Env, Own, change}
use Rattle.ec_asm.specs.Items.{block}
use Rattle.ec_asm.specs.Pieces.{StandsFrom, Outside, value}
use Rattle.ec_asm.specs.PieceLaws.{HoldsNumbers}
use Rattle.ec_asm.proofs.Bytes.{put_here, put_other}
use Rattle.ec_asm.proofs.Sum.{value-same}
use Rattle.ec_fxcode.specs.Clamps.{fills_code}
use Rattle.ec_fxcode.specs.ClampLaws.{IsClearOfEnds, AreApart}
use Rattle.ec_fxcode.proofs.Moves.{clear_byte, part_stands, fills}
use Rattle.ec_fxcode_shifts.specs.Shifts.{mark_code, turned_code}
use Rattle.ec_fxcode_shifts.proofs.Before.{mark_is_byte}
use Rattle.ec_fxcode_shifts.proofs.Entered.{mark_of, marks, numbers_after}
use Rattle.ec_fxcode_shifts.proofs.Negated.{turns}
use Rattle.ec_fxcode_shifts.proofs.Right.{IsNegatedBy}
use Rattle.ec_fxcode_quotients.specs.Quotients.{clear_code}

-- only n bytes from a, R0, R1, R30, R31 and the flags have changed, and all bytes are bytes
pub record Touches (v w : View) (a n : ℕ) : Type 0 where
  pub same : (k : ℕ) → k ≢ 0 → k ≢ 1 → k ≢ 30 → k ≢ 31 → Outside a n k → w.at k ≡ v.at k
  pub numbers : HoldsNumbers w
  pub inputs : w.inputs ≡ v.inputs
  pub safe : w.safe ≡ v.safe
  pub seen : w.seen ≡ v.seen

-- ---- zeros

pub record Clears (v w : View) (a n : ℕ) : Type 0 where
  pub zeros : (j : ℕ) → j < n → w.at (a + j) ≡ 0
  pub touches : Touches v w a n

pub cleared : (e : Env) (w : Location) (b z s : ℕ) (v : View) → 2 * b + 2 + z ≤ 40 → 32 ≤ s → StandsFrom e w 40 s Own
    → HoldsNumbers v → Clears v (block e (clear_code w b z) v) (s + b) (2 * b + 2 + z - b)
cleared e w b z s v l high st h =
    let n = 2 * b + 2 + z in
    let v1 = change e (Eor 31 31) v in
    let at31 : v1.at 31 ≡ 0 = xor_self (v.at 31) in
    let clear : IsClearOfEnds s n = record { below = λ x. absurd (omega arith); above = λ x. high } in
    let f = fills e w n s b 0 v1 (part_stands e w 40 n s l st) clear at31 in
    let u = block e (fills_code w b n) v1 in
    let h1 : HoldsNumbers v1 =
    λ k m. ⊎_elim (λ (q : k ≡ 31). rw (q, at31) (omega arith)) (λ (q : k ≢ 31). rw (put_other v.at 31 _ k q) (h k m)) (cases_eq k 31) in
    let at30 : u.at 30 < 256 =
    (let q : u.at 30 ≡ v1.at 30 = f.keeps.same 30 (omega arith) (omega arith) (λ x. absurd (omega arith)) in rw q (h1 30 (omega arith))) in
    let there31 : u.at 31 < 256 = (let q = f.sign in rw q (omega arith)) in
    record {
      zeros = f.there;
      touches = record {
        same = λ k x y i o r. f.keeps.same k x y r ∙ put_other v.at 31 _ k o;
        numbers = numbers_after v1 u (s + b) (n - b) h1 (λ k x y i o r. f.keeps.same k x y r) at30 there31
            (λ j m. let q = f.there j m in rw q (omega arith));
        inputs = f.keeps.inputs;
        safe = f.keeps.safe;
        seen = f.keeps.seen;
      };
    }

-- ---- an operand

-- the magnitude of a number stands in n bytes from b
pub record Enters (v w : View) (signed : Bool) (a b n : ℕ) : Type 0 where
  pub sign : w.at 31 ≡ mark_of signed (v.at (a + n))
  pub magnitude : IsNegatedBy (mark_of signed (v.at (a + n))) (256 ^ suc n) (value v.at a (suc n)) (value w.at b (suc n))
  pub kept : w.at 30 ≡ v.at 30
  pub touches : Touches v w b (suc n)

pub entered : (e : Env) (signed : Bool) (p q : Location) (n a b : ℕ) (v : View) → StandsFrom e p (suc n) a Own
    → StandsFrom e q (suc n) b Own → IsClearOfEnds a (suc n) → 32 ≤ b → AreApart a (suc n) b (suc n) → HoldsNumbers v
    → Enters v (block e (turned_code p q (suc n)) (block e (mark_code signed p (suc n)) v)) signed a b n
entered e signed p q n a b v sa sb ca high apart h =
    let m = suc n in
    let two = sa.clear in
    let byte = mark_of signed (v.at (a + n)) in
    let top : v.at (a + n) < 256 = h (a + n) (omega arith) in
    let small = mark_is_byte signed (v.at (a + n)) top in
    let s = marks e signed p n (a + n) v (sa.at n (omega arith)) (sa.kind n (omega arith)) top in
    let v1 = block e (mark_code signed p m) v in
    let here = s.sign in
    let h1 : HoldsNumbers v1 =
    λ k l. ⊎_elim (λ (x : k ≡ 31). rw (x, here) small) (λ (x : k ≢ 31). rw (s.same k (omega arith) x) (h k l)) (cases_eq k 31) in
    let cb : IsClearOfEnds b m = record { below = λ x. absurd (omega arith); above = λ x. high } in
    let t = turns e p q m a b byte v1 sa sb apart.first cb h1 here in
    let w = block e (turned_code p q m) v1 in
    let old : value v1.at a m ≡ value v.at a m =
    value-same v1.at v.at a m (λ j l. let f = clear_byte a m j ca two l in s.same (a + j) f.0 f.3) in
    let at30 : w.at 30 ≡ v1.at 30 = t.keeps.same 30 (omega arith) (omega arith) (λ x. absurd (omega arith)) in
    let at31 : w.at 31 ≡ byte = t.keeps.same 31 (omega arith) (omega arith) (λ x. absurd (omega arith)) ∙ here in
    let small30 : w.at 30 < 256 = rw at30 (h1 30 (omega arith)) in
    let small31 : w.at 31 < 256 = rw at31 small in
    record {
      sign = at31;
      magnitude = record {
        plus_is = λ z. (t.plus z).0 ∙ old;
        minus_is = λ z. (_, t.bit, ap (λ i. value w.at b m + i) (sym old) ∙ t.minus z);
      };
      kept = at30 ∙ s.same 30 (omega arith) (omega arith);
      touches = record {
        same = λ k x y i o r. t.keeps.same k x y r ∙ s.same k x o;
        numbers = numbers_after v1 w b m h1 (λ k x y i o r. t.keeps.same k x y r) small30 small31 t.held;
        inputs = t.keeps.inputs ∙ s.inputs;
        safe = t.keeps.safe ∙ s.safe;
        seen = t.keeps.seen ∙ s.seen;
      };
    }

-- the sign of the number is kept in R30
pub moved : (e : Env) (v w : View) (signed : Bool) (a b n : ℕ) → 32 ≤ b → Enters v w signed a b n
    → Touches v (change e (Mov 30 31) w) b (suc n)
moved e v w signed a b n high h = record {
  same = λ k x y i o r. put_other w.at 30 _ k i ∙ h.touches.same k x y i o r;
  numbers = λ k l. ⊎_elim (λ (x : k ≡ 30). rw (put_here w.at 30 (w.at 31) k x) (h.touches.numbers 31 (omega arith)))
      (λ (x : k ≢ 30). rw (put_other w.at 30 (w.at 31) k x) (h.touches.numbers k l)) (cases_eq k 30);
  inputs = h.touches.inputs;
  safe = h.touches.safe;
  seen = h.touches.seen;
}
