-- The count, the sign and the number, before the loop.
use Rattle.std.proofs.Common.{◌≡◌, ◌≢◌, ℕ, zero, suc, ◌+◌, ◌-◌, ◌*◌, ◌%◌, ◌^◌, ◌<◌, ◌≤◌, ⊎_elim, Bool, true, false, ◌++◌, refl, sym, ap}
use Rattle.std.proofs.Common.{◌∙◌, subst, arith, pos, negsuc}
use Rattle.std.proofs.lemmas.Bool.{cases_eq, cases_lt}
use Rattle.std.proofs.lemmas.Nat.{mod_below}
use Rattle.ec_asm.specs.declared.pieces.Location.{Location}
use Rattle.ec_asm.specs.View.{View}
use Rattle.ec_asm.specs.Change.{Env}
use Rattle.ec_asm.specs.Items.{block}
use Rattle.ec_asm.specs.Pieces.{Outside, value}
use Rattle.ec_asm.specs.PieceLaws.{HoldsNumbers}
use Rattle.ec_asm.proofs.Hoare.{block-append}
use Rattle.ec_asm.proofs.Numbers.{value_front}
use Rattle.ec_asm.proofs.Sum.{value-same}
use Rattle.ec_fxcode.specs.ClampLaws.{IsClearOfEnds, AreApart}
use Rattle.ec_fxcode.proofs.Clamped.{fill_is_byte}
use Rattle.ec_fxcode.proofs.Fits.{plus, minus}
use Rattle.ec_fxcode.proofs.Moves.{KeepsBut, Signs, clear_byte, part_stands, Extends}
use Rattle.ec_fxcode_shifts.specs.Shifts.{count_code, mark_code, enter_code, before_code}
use Rattle.ec_fxcode_shifts.specs.ShiftLaws.{number_in, AreSlots}
use Rattle.ec_fxcode_shifts.proofs.Entered.{IsWidth, Counts, counts, mark_of, marks, widens, numbers_after}
use Rattle.ec_fxcode_shifts.proofs.Negated.{TurnsTo, turns}

-- ---- the count

pub count_is : (signed : Bool) (m V c : ℕ) → V < 256 ^ m → number_in signed m V ≡ pos c → V ≡ c
count_is false m V c l h = cc
count_is true m V c l h =
    ⊎_elim (λ (less : 2 * V < 256 ^ m). let e : pos V ≡ pos c = sym (plus m V less) ∙ h in cc)
    (λ (more : 256 ^ m ≤ 2 * V). let e : negsuc (256 ^ m - V - 1) ≡ pos c = sym (minus m V more l) ∙ h in absurd cc)
    (cases_lt (2 * V) (256 ^ m))

-- a count below 256 stands in the lowest byte
pub low_count : (f : ℕ → ℕ) (d m c : ℕ) → 1 ≤ m → value f d m ≡ c → c < 256 → f d ≡ c
low_count f d zero c some h l = absurd (omega arith)
low_count f d (suc m) c some h l =
    let e = value_front f d m in
    omega (arith, e, h, l)

-- ---- parts of places

pub clear_part : (s n m : ℕ) → n ≤ m → IsClearOfEnds s m → IsClearOfEnds s n
clear_part s n m l c = record { below = λ x. let y = c.below x in omega arith; above = c.above }

pub apart_part : (a n s k m : ℕ) → k ≤ m → AreApart a n s m → AreApart a n s k
apart_part a n s k m l h = record { first = h.first; second = λ x. let y = h.second x in omega arith }

pub apart_turned : (a n s k : ℕ) → 1 ≤ n → 1 ≤ k → AreApart a n s k → AreApart s k a n
apart_turned a n s k some many h =
    let first = h.first in
    let second = h.second in
    record { first = λ x. second (omega arith); second = λ x. by (omega arith) x first second }
  where
    by : 1 ≤ k → a ≤ s → (a < s → a + n ≤ s) → (s ≤ a → s + k ≤ a) → a + n ≤ s
    by l x f g = ⊎_elim (λ (y : a < s). f y) (λ (y : s ≤ a). let z = g y in absurd (omega arith)) (cases_lt a s)

pub mark_is_byte : (signed : Bool) (x : ℕ) → x < 256 → mark_of signed x < 256
mark_is_byte true x l = fill_is_byte x l
mark_is_byte false x l = omega arith

-- ---- the runs

-- what is there before the loop: the count in R30, the byte of the sign in R31, and n of the work bytes changed
pub record IsBefore (v u : View) (s n d bits byte : ℕ) : Type 0 where
  pub count : u.at 30 ≡ v.at d % bits
  pub sign : u.at 31 ≡ byte
  pub keeps : KeepsBut v u s n
  pub numbers : HoldsNumbers u

module _ (e : Env) (signed : Bool) (p c q w : Location) (n m a d b s : ℕ) (v : View) (slots : AreSlots e p c q w (suc n) m a d b s)
    (some : 1 ≤ m) (wide : IsWidth (suc n)) (numbers : HoldsNumbers v) where
  abbrev bits : ℕ
  bits = 8 * suc n

  abbrev byte : ℕ
  byte = mark_of signed (v.at (a + n))

  abbrev counted : View
  counted = block e (count_code c bits) v

  abbrev marked : View
  marked = block e (mark_code signed p (suc n)) counted

  abbrev entered : Bool → View
  entered left = block e (enter_code left p w (suc n)) marked

  entered_is : (left : Bool) → block e (before_code signed left p c w (suc n)) v ≡ entered left
  entered_is left =
      block-append e (count_code c bits) (mark_code signed p (suc n) ++ enter_code left p w (suc n)) v
      ∙ block-append e (mark_code signed p (suc n)) (enter_code left p w (suc n)) counted

  count_there : Counts v counted d bits
  count_there = counts e c m (suc n) d v some slots.count slots.clear.1 wide

  counted_same : (j : ℕ) → j < suc n → counted.at (a + j) ≡ v.at (a + j)
  counted_same j l =
      let f = clear_byte a (suc n) j slots.clear.0 slots.operand.clear l in
      count_there.same (a + j) f.0 f.2

  counted_numbers : HoldsNumbers counted
  counted_numbers j l =
      let small : v.at d % bits < bits = mod_below (v.at d) bits (omega arith) in
      let most = wide.most in
      let here = count_there.count in
      ⊎_elim (λ (x : j ≡ 30). rw (x, here) (omega (arith, small, most)))
      (λ (x : j ≢ 30). rw (count_there.same j (λ t. omega arith) x) (numbers j l)) (cases_eq j 30)

  mark_there : Signs counted marked byte
  mark_there =
      let two = slots.operand.clear in
      let same = counted_same n (omega arith) in
      let l : v.at (a + n) < 256 = numbers (a + n) (omega arith) in
      subst (λ x. Signs counted marked (mark_of signed x)) same
      (marks e signed p n (a + n) counted (slots.operand.at n (omega arith)) (slots.operand.kind n (omega arith)) (rw same l))

  byte_small : byte < 256
  byte_small = let two = slots.operand.clear in mark_is_byte signed (v.at (a + n)) (numbers (a + n) (omega arith))

  keeps_all : (u : View) (k : ℕ) → KeepsBut counted u s k → KeepsBut v u s k
  keeps_all u k h = record {
    same = λ j x y z t o. h.same j x y z t o ∙ count_there.same j x z;
    inputs = h.inputs ∙ count_there.inputs;
    safe = h.safe ∙ count_there.safe;
    seen = h.seen ∙ count_there.seen;
  }

  -- ---- to the left

  pub record IsWidened (u : View) : Type 0 where
    pub before : IsBefore v u s (2 * suc n) d bits byte
    pub low : (j : ℕ) → j < suc n → u.at (s + j) ≡ v.at (a + j)
    pub high : (j : ℕ) → suc n ≤ j → j < 2 * suc n → u.at (s + j) ≡ byte

  widened_there : Extends counted a s (2 * suc n) (suc n) byte (entered true)
  widened_there =
      let most = wide.most in
      widens e p w n a s byte counted marked slots.operand (part_stands e w 40 (2 * suc n) s (omega arith) slots.work)
      (apart_part a (suc n) s (2 * suc n) 40 (omega arith) slots.apart.2) slots.clear.0
      (clear_part s (2 * suc n) 40 (omega arith) slots.clear.3) mark_there

  widened : IsWidened (entered true)
  widened =
      let x = widened_there in
      let low = λ (j : ℕ) (l : j < suc n). (let o : (entered true).at (s + j) ≡ v.at (a + j) = x.low j l ∙ counted_same j l in o) in
      let two = slots.operand.clear in
      let first : (entered true).at 30 < 256 = rw x.other (counted_numbers 30 (omega arith)) in
      let second : (entered true).at 31 < 256 = rw x.sign byte_small in
      record {
        before = record {
          count = x.other ∙ count_there.count;
          sign = x.sign;
          keeps = keeps_all (entered true) (2 * suc n) x.keeps;
          numbers = numbers_after counted (entered true) s (2 * suc n) counted_numbers x.keeps.same first second
              (λ j l. ⊎_elim (λ (y : j < suc n). rw (low j y) (numbers (a + j) (omega arith)))
              (λ (y : suc n ≤ j). rw (x.high j y l) byte_small) (cases_lt j (suc n)));
        };
        low = low;
        high = x.high;
      }

  pub begins_left : IsWidened (block e (before_code signed true p c w (suc n)) v)
  begins_left = subst IsWidened (sym (entered_is true)) widened

  -- ---- to the right

  pub record IsTurned (u : View) : Type 0 where
    pub before : IsBefore v u s (suc n) d bits byte
    pub plus : byte ≡ 0 → value u.at s (suc n) ≡ value v.at a (suc n)
    pub minus : byte ≡ 255 → (t : ℕ) × (t ≤ 1) × (value u.at s (suc n) + value v.at a (suc n) ≡ t * 256 ^ suc n)

  marked_numbers : HoldsNumbers marked
  marked_numbers j l =
      let here = mark_there.sign in
      ⊎_elim (λ (x : j ≡ 31). rw (x, here) byte_small)
      (λ (x : j ≢ 31). rw (mark_there.same j (λ t. omega arith) x) (counted_numbers j l)) (cases_eq j 31)

  marked_same : (j : ℕ) → j < suc n → marked.at (a + j) ≡ v.at (a + j)
  marked_same j l =
      let f = clear_byte a (suc n) j slots.clear.0 slots.operand.clear l in
      mark_there.same (a + j) f.0 f.3 ∙ counted_same j l

  turned_there : TurnsTo marked a s byte (suc n) (entered false)
  turned_there =
      let most = wide.most in
      turns e p w (suc n) a s byte marked slots.operand (part_stands e w 40 (suc n) s (omega arith) slots.work)
      (apart_part a (suc n) s (suc n) 40 (omega arith) slots.apart.2).first (clear_part s (suc n) 40 (omega arith) slots.clear.3)
      marked_numbers mark_there.sign

  turned : IsTurned (entered false)
  turned =
      let u = entered false in
      let x = turned_there in
      let most = wide.most in
      let clear = clear_part s (suc n) 40 (omega arith) slots.clear.3 in
      let out30 = beside s (suc n) 30 clear refl in
      let out31 = beside_more s (suc n) clear in
      let old = value-same marked.at v.at a (suc n) marked_same in
      let at30 : u.at 30 ≡ counted.at 30 =
      x.keeps.same 30 (omega arith) (omega arith) out30 ∙ mark_there.same 30 (omega arith) (omega arith) in
      let at31 : u.at 31 ≡ byte = x.keeps.same 31 (omega arith) (omega arith) out31 ∙ mark_there.sign in
      let first : u.at 30 < 256 = rw at30 (counted_numbers 30 (omega arith)) in
      let second : u.at 31 < 256 = rw at31 byte_small in
      record {
        before = record {
          count = at30 ∙ count_there.count;
          sign = at31;
          keeps = record {
            same = λ j y z i o f. x.keeps.same j y z f ∙ mark_there.same j y o ∙ count_there.same j y i;
            inputs = x.keeps.inputs ∙ mark_there.inputs ∙ count_there.inputs;
            safe = x.keeps.safe ∙ mark_there.safe ∙ count_there.safe;
            seen = x.keeps.seen ∙ mark_there.seen ∙ count_there.seen;
          };
          numbers = numbers_after marked u s (suc n) marked_numbers (λ j y z i o f. x.keeps.same j y z f) first second x.held;
        };
        plus = λ z. (x.plus z).0 ∙ old;
        minus = λ z. (_, x.bit, ap (λ t. value u.at s (suc n) + t) (sym old) ∙ x.minus z);
      }
    where
      beside : (s n k : ℕ) → IsClearOfEnds s n → k ≡ 30 → Outside s n k
      beside s n k c e l =
          ⊎_elim (λ (x : s < 30). let y = c.below x in omega arith)
          (λ (x : 30 ≤ s). let y = c.above x in absurd (omega arith)) (cases_lt s 30)

      beside_more : (s n : ℕ) → IsClearOfEnds s n → Outside s n 31
      beside_more s n c l =
          ⊎_elim (λ (x : s < 30). let y = c.below x in omega arith)
          (λ (x : 30 ≤ s). let y = c.above x in absurd (omega arith)) (cases_lt s 30)

  pub begins_right : IsTurned (block e (before_code signed false p c w (suc n)) v)
  begins_right = subst IsTurned (sym (entered_is false)) turned
