-- The start of a division, whole.
use Rattle.std.proofs.Common.{◌≡◌, ◌≢◌, ℕ, suc, ◌+◌, ◌-◌, ◌*◌, ◌^◌, ◌<◌, ◌≤◌, ⊎_elim, Bool, [], ◌∷◌, ◌++◌, bit_xor, refl, sym, ap, ◌∙◌}
use Rattle.std.proofs.Common.{subst, arith}
use Rattle.std.proofs.lemmas.Bool.{cases_eq, cases_lt}
use Rattle.std.proofs.lemmas.Nat.{xor_of_8}
use Rattle.ec_isa.specs.declared.instructions.Instr.TheVariants.{Mov, Eor, Ldi}
use Rattle.ec_asm.specs.declared.items.AsmItem.TheVariants.{Plain}
use Rattle.ec_asm.specs.declared.pieces.Location.{Location}
use Rattle.ec_asm.specs.View.{View}
use Rattle.ec_asm.specs.Change.{Env, change}
use Rattle.ec_asm.specs.Items.{block}
use Rattle.ec_asm.specs.Pieces.{value}
use Rattle.ec_asm.specs.PieceLaws.{HoldsNumbers}
use Rattle.ec_asm.proofs.Bytes.{put_here, put_other}
use Rattle.ec_asm.proofs.Hoare.{block-append}
use Rattle.ec_asm.proofs.Sum.{value-same}
use Rattle.ec_fxcode.specs.ClampLaws.{IsClearOfEnds}
use Rattle.ec_fxcode.proofs.Alike.{zeros}
use Rattle.ec_fxcode.proofs.Moves.{clear_byte, part_stands}
use Rattle.ec_fxcode_shifts.specs.Shifts.{mark_code, turned_code}
use Rattle.ec_fxcode_shifts.proofs.Before.{apart_part}
use Rattle.ec_fxcode_shifts.proofs.Entered.{mark_of}
use Rattle.ec_fxcode_shifts.proofs.Right.{IsNegatedBy}
use Rattle.ec_fxcode_quotients.specs.Quotients.{further, clear_code, number_code, divisor_code, ready_code}
use Rattle.ec_fxcode_quotients.specs.QuotientLaws.{AreSlots}
use Rattle.ec_fxcode_quotients.proofs.Ready.{Touches, Clears, cleared, Enters, entered, moved}
use Rattle.ec_fxcode_quotients.proofs.Rows.{further_stands}

-- ---- what is touched

-- two parts of the work bytes one after the other
both_touch : (v u w : View) (s a n b m : ℕ) → s ≤ a → a + n ≤ s + 40 → s ≤ b → b + m ≤ s + 40 → Touches v u a n
    → Touches u w b m → Touches v w s 40
both_touch v u w s a n b m l1 l2 l3 l4 g h = record {
  same = λ k x y i o r. h.same k x y i o (λ t. let z = r (omega arith) in omega arith)
      ∙ g.same k x y i o (λ t. let z = r (omega arith) in omega arith);
  numbers = h.numbers;
  inputs = h.inputs ∙ g.inputs;
  safe = h.safe ∙ g.safe;
  seen = h.seen ∙ g.seen;
}

-- bytes outside what is touched keep their value
kept_value : (v w : View) (a n i m : ℕ) → IsClearOfEnds i m → 2 ≤ i → (i < a → i + m ≤ a) → (a ≤ i → a + n ≤ i)
    → Touches v w a n → value w.at i m ≡ value v.at i m
kept_value v w a n i m c two below above h =
    value-same w.at v.at i m
    (λ j l. let f = clear_byte i m j c two l in
    h.same (i + j) f.0 f.1 f.2 f.3
    (λ t. ⊎_elim (λ (x : i < a). let y = below x in absurd (omega arith)) (λ (x : a ≤ i). let y = above x in omega arith) (cases_lt i a)))

kept_byte : (v w : View) (a n i m k : ℕ) → IsClearOfEnds i m → 2 ≤ i → k < m → (i < a → i + m ≤ a) → (a ≤ i → a + n ≤ i)
    → Touches v w a n → w.at (i + k) ≡ v.at (i + k)
kept_byte v w a n i m k c two l below above h =
    let f = clear_byte i m k c two l in
    h.same (i + k) f.0 f.1 f.2 f.3
    (λ t. ⊎_elim (λ (x : i < a). let y = below x in absurd (omega arith)) (λ (x : a ≤ i). let y = above x in omega arith) (cases_lt i a))

-- ---- the start

-- the sign bytes of the operands, where the highest byte of each is x
pub record IsReady (v u : View) (f g : Bool) (i na j nb s z bits : ℕ) : Type 0 where
  pub divisor : IsNegatedBy (mark_of g (v.at (j + nb))) (256 ^ suc nb) (value v.at j (suc nb)) (value u.at s (suc nb))
  pub top : u.at (s + suc nb) ≡ 0
  pub remainder : value u.at (s + suc (suc nb)) (suc (suc nb)) ≡ 0
  pub zeros_are : value u.at (s + (2 * suc nb + 2)) z ≡ 0
  pub number : IsNegatedBy (mark_of f (v.at (i + na))) (256 ^ suc na) (value v.at i (suc na))
      (value u.at (s + (2 * suc nb + 2 + z)) (suc na))
  pub sign : u.at 31 ≡ bit_xor (mark_of g (v.at (j + nb))) (mark_of f (v.at (i + na)))
  pub count : u.at 30 ≡ bits
  pub touches : Touches v u s 40

module _ (e : Env) (f g : Bool) (p c q w : Location) (na nb k i j o s z bits : ℕ) (v : View)
    (slots : AreSlots e p c q w (suc na) (suc nb) k i j o s) (high : 32 ≤ s) (few : 2 * suc nb + 2 + z + suc na ≤ 40) (small : bits < 256)
    (numbers : HoldsNumbers v) where
  abbrev place : ℕ
  place = s + (2 * suc nb + 2 + z)

  abbrev zeroed : View
  zeroed = block e (clear_code w (suc nb) z) v

  abbrev with_number : View
  with_number = block e (turned_code p (further w (2 * suc nb + 2 + z)) (suc na)) (block e (mark_code f p (suc na)) zeroed)

  abbrev with_sign : View
  with_sign = change e (Mov 30 31) with_number

  abbrev with_divisor : View
  with_divisor = block e (turned_code c w (suc nb)) (block e (mark_code g c (suc nb)) with_sign)

  abbrev crossed : View
  crossed = change e (Eor 31 30) with_divisor

  abbrev started : View
  started = change e (Ldi 30 bits) crossed

  started_is : block e (ready_code f g p c w (suc na) (suc nb) z bits) v ≡ started
  started_is =
      let first = clear_code w (suc nb) z in
      let second = number_code f p w (suc na) (suc nb) z in
      let third = divisor_code g c w (suc nb) bits in
      block-append e first (second ++ third) v
      ∙ block-append e second third zeroed
      ∙ ap (block e third)
      (block-append e (mark_code f p (suc na)) (turned_code p (further w (2 * suc nb + 2 + z)) (suc na) ++ (Plain (Mov 30 31) ∷ [])) zeroed
      ∙ block-append e (turned_code p (further w (2 * suc nb + 2 + z)) (suc na)) (Plain (Mov 30 31) ∷ [])
      (block e (mark_code f p (suc na)) zeroed))
      ∙ block-append e (mark_code g c (suc nb)) (turned_code c w (suc nb) ++ (Plain (Eor 31 30) ∷ Plain (Ldi 30 bits) ∷ [])) with_sign
      ∙ block-append e (turned_code c w (suc nb)) (Plain (Eor 31 30) ∷ Plain (Ldi 30 bits) ∷ [])
      (block e (mark_code g c (suc nb)) with_sign)

  zeros_there : Clears v zeroed (s + suc nb) (2 * suc nb + 2 + z - suc nb)
  zeros_there = cleared e w (suc nb) z s v (omega arith) high slots.work numbers

  number_there : Enters zeroed with_number f i place na
  number_there =
      entered e f p (further w (2 * suc nb + 2 + z)) na i place zeroed slots.number
      (further_stands e w 40 (2 * suc nb + 2 + z) (suc na) s few slots.work) slots.clear.0 (omega arith)
      (record {
        first = λ x. let a = slots.apart.2.first in let b = slots.apart.2.second in
            ⊎_elim (λ (y : i < s). let t = a y in omega arith) (λ (y : s ≤ i). let t = b y in absurd (omega arith)) (cases_lt i s);
        second = λ x. let b = slots.apart.2.second in let t = b (omega arith) in omega arith;
      })
      zeros_there.touches.numbers

  sign_there : Touches zeroed with_sign place (suc na)
  sign_there = moved e zeroed with_number f i place na (omega arith) number_there

  divisor_there : Enters with_sign with_divisor g j s nb
  divisor_there =
      entered e g c w nb j s with_sign slots.divisor (part_stands e w 40 (suc nb) s (omega arith) slots.work) slots.clear.1 high
      (apart_part j (suc nb) s (suc nb) 40 (omega arith) slots.others.1) sign_there.numbers

  before_divisor : Touches v with_sign s 40
  before_divisor =
      both_touch v zeroed with_sign s (s + suc nb) (2 * suc nb + 2 + z - suc nb) place (suc na) (omega arith) (omega arith) (omega arith)
      (omega arith) zeros_there.touches sign_there

  before_end : Touches v with_divisor s 40
  before_end = both_touch v with_sign with_divisor s s 40 s (suc nb) (omega arith) (omega arith) (omega arith)
      (omega arith) before_divisor divisor_there.touches

  -- the last two instructions change R30 and R31 alone
  end_same : (l : ℕ) → l ≢ 30 → l ≢ 31 → started.at l ≡ with_divisor.at l
  end_same l x y = put_other crossed.at 30 bits l x ∙ put_other with_divisor.at 31 _ l y

  end_value : (a n : ℕ) → 32 ≤ a → value started.at a n ≡ value with_divisor.at a n
  end_value a n h = value-same started.at with_divisor.at a n (λ l m. end_same (a + l) (omega arith) (omega arith))

  end_touches : Touches v started s 40
  end_touches = record {
    same = λ l x y i o r. end_same l i o ∙ before_end.same l x y i o r;
    numbers = λ l m.
        ⊎_elim (λ (x : l ≡ 30). rw (put_here crossed.at 30 bits l x) small)
        (λ (x : l ≢ 30).
        ⊎_elim (λ (y : l ≡ 31). rw (
          put_other crossed.at 30 bits l x,
          put_here with_divisor.at 31 (bit_xor (with_divisor.at 31) (with_divisor.at 30)) l y,
        ) (xor_of_8 (with_divisor.at 31) (with_divisor.at 30) (before_end.numbers 31 (omega arith)) (before_end.numbers 30 (omega arith))))
        (λ (y : l ≢ 31). rw (end_same l x y) (before_end.numbers l m)) (cases_eq l 31))
        (cases_eq l 30);
    inputs = before_end.inputs;
    safe = before_end.safe;
    seen = before_end.seen;
  }

  -- what the operands are has not changed before they are read
  number_read : value zeroed.at i (suc na) ≡ value v.at i (suc na)
  number_read =
      let a = slots.apart.2.first in
      let b = slots.apart.2.second in
      kept_value v zeroed (s + suc nb) (2 * suc nb + 2 + z - suc nb) i (suc na) slots.clear.0 slots.number.clear
      (λ x. ⊎_elim (λ (y : i < s). let t = a y in omega arith) (λ (y : s ≤ i). let t = b y in absurd (omega arith)) (cases_lt i s))
      (λ x. let t = b (omega arith) in omega arith) zeros_there.touches

  number_top : zeroed.at (i + na) ≡ v.at (i + na)
  number_top =
      let a = slots.apart.2.first in
      let b = slots.apart.2.second in
      kept_byte v zeroed (s + suc nb) (2 * suc nb + 2 + z - suc nb) i (suc na) na slots.clear.0 slots.number.clear (omega arith)
      (λ x. ⊎_elim (λ (y : i < s). let t = a y in omega arith) (λ (y : s ≤ i). let t = b y in absurd (omega arith)) (cases_lt i s))
      (λ x. let t = b (omega arith) in omega arith) zeros_there.touches

  divisor_read : value with_sign.at j (suc nb) ≡ value v.at j (suc nb)
  divisor_read =
      kept_value v with_sign s 40 j (suc nb) slots.clear.1 slots.divisor.clear slots.others.1.first slots.others.1.second before_divisor

  divisor_top : with_sign.at (j + nb) ≡ v.at (j + nb)
  divisor_top =
      kept_byte v with_sign s 40 j (suc nb) nb slots.clear.1 slots.divisor.clear
      (omega arith) slots.others.1.first slots.others.1.second before_divisor

  zero_kept : (l : ℕ) → s + suc nb ≤ l → l < place → started.at l ≡ 0
  zero_kept l x y =
      let d = zeros_there.zeros (l - (s + suc nb)) (omega arith) in
      let at : s + suc nb + (l - (s + suc nb)) ≡ l = omega arith in
      end_same l (omega arith) (omega arith)
      ∙ divisor_there.touches.same l (omega arith) (omega arith) (omega arith) (omega arith) (λ t. omega arith)
      ∙ sign_there.same l (omega arith) (omega arith) (omega arith) (omega arith) (λ t. absurd (omega arith))
      ∙ subst (λ t. zeroed.at t ≡ 0) at d

  pub ready : IsReady v started f g i na j nb s z bits
  ready =
      let place_kept : value started.at place (suc na) ≡ value with_number.at place (suc na) =
      end_value place (suc na) (omega arith)
      ∙ value-same with_divisor.at with_sign.at place (suc na)
      (λ l m. divisor_there.touches.same (place + l) (omega arith) (omega arith) (omega arith) (omega arith) (λ t. omega arith))
      ∙ value-same with_sign.at with_number.at place (suc na) (λ l m. put_other with_number.at 30 _ (place + l) (omega arith)) in
      let number = subst (λ t. IsNegatedBy (mark_of f (zeroed.at (i + na))) (256 ^ suc na) t (value with_number.at place (suc na)))
      number_read number_there.magnitude in
      let divisor = subst (λ t. IsNegatedBy (mark_of g (with_sign.at (j + nb))) (256 ^ suc nb) t (value with_divisor.at s (suc nb)))
      divisor_read divisor_there.magnitude in
      let sign_a : with_sign.at 30 ≡ mark_of f (v.at (i + na)) = number_there.sign ∙ ap (mark_of f) number_top in
      record {
        divisor = subst (λ t. IsNegatedBy (mark_of g (v.at (j + nb))) (256 ^ suc nb) (value v.at j (suc nb)) t)
            (sym (end_value s (suc nb) high)) (subst
            (λ t. IsNegatedBy (mark_of g t) (256 ^ suc nb) (value v.at j (suc nb)) (value with_divisor.at s (suc nb))) divisor_top divisor);
        top = zero_kept (s + suc nb) (omega arith) (omega arith);
        remainder =
            zeros started.at (s + suc (suc nb)) (suc (suc nb)) (λ l m. zero_kept (s + suc (suc nb) + l) (omega arith) (omega arith));
        zeros_are = zeros started.at (s + (2 * suc nb + 2)) z (λ l m. zero_kept (s + (2 * suc nb + 2) + l) (omega arith) (omega arith));
        number = subst (λ t. IsNegatedBy (mark_of f (v.at (i + na))) (256 ^ suc na) (value v.at i (suc na)) t) (sym place_kept) (subst (λ t.
            IsNegatedBy (mark_of f t) (256 ^ suc na) (value v.at i (suc na)) (value with_number.at place (suc na))) number_top number);
        sign = ap (λ t. bit_xor t (with_divisor.at 30)) (divisor_there.sign ∙ ap (mark_of g) divisor_top)
            ∙ ap (bit_xor (mark_of g (v.at (j + nb)))) (divisor_there.kept ∙ sign_a);
        count = refl;
        touches = end_touches;
      }

  pub starts : IsReady v (block e (ready_code f g p c w (suc na) (suc nb) z bits) v) f g i na j nb s z bits
  starts = subst (λ u. IsReady v u f g i na j nb s z bits) (sym started_is) ready
