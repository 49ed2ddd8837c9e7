-- A number without some of its bits, from registers.
use Rattle.std.proofs.Common.{◌≡◌, ◌≢◌, inl, inr, ℕ, zero, suc, ◌+◌, ◌-◌, ◌*◌, ◌/◌, ◌%◌, ◌^◌, ◌<◌, ◌≤◌, ◌==◌, ⊎_elim, Bool, true}
use Rattle.std.proofs.Common.{bit_xor, false, refl, sym, ap, ◌∙◌, subst, arith, negsuc, ◌++◌}
use Rattle.std.specs.Int.Bits.{xor_self}
use Rattle.std.proofs.lemmas.Bool.{cases_eq, cases_lt, eq-eqb, ne_eqb}
use Rattle.ec_fx.specs.Rounding.{trunc}
use Rattle.ec_isa.specs.declared.instructions.Instr.TheVariants.{Eor}
use Rattle.ec_asm.specs.declared.pieces.Location.{Location}
use Rattle.ec_asm.specs.View.{View}
use Rattle.ec_asm.specs.Change.{Env, Own, change}
use Rattle.ec_asm.specs.Items.{block, code_steps, all_straight}
use Rattle.ec_asm.specs.Pieces.{StandsFrom, Outside, value, operate_code, carry_at}
use Rattle.ec_asm.specs.PieceLaws.{HoldsNumbers}
use Rattle.ec_asm.specs.Takes.{Goes}
use Rattle.ec_asm.specs.declared.pieces.Operator.TheVariants.{Sum}
use Rattle.ec_asm.proofs.Bytes.{put_here, put_other}
use Rattle.ec_asm.proofs.Hoare.{block-append, block_goes, chain_holds}
use Rattle.ec_asm.proofs.Numbers.{value_below}
use Rattle.ec_asm.proofs.Results.{sums_are_right}
use Rattle.ec_asm.proofs.Sum.{value-same, not_here, fewer}
use Rattle.ec_fxcode.specs.ClampLaws.{IsClearOfEnds}
use Rattle.ec_fxcode.proofs.Alike.{value_parts, zeros}
use Rattle.ec_fxcode.proofs.Fits.{plus, minus}
use Rattle.ec_fxcode.proofs.Moves.{clear_byte as clear_of_work}
use Rattle.ec_fxcode.proofs.Parts.{IsSign}
use Rattle.ec_fxcode.proofs.Short.{joined}
use Rattle.ec_fxcode_shifts.specs.Shifts.{mark_code, turned_code}
use Rattle.ec_fxcode_shifts.specs.ShiftLaws.{number_in}
use Rattle.ec_fxcode_shifts.proofs.Before.{mark_is_byte}
use Rattle.ec_fxcode_shifts.proofs.Entered.{mark_of, marks}
use Rattle.ec_fxcode_shifts.proofs.Negated.{turns}
use Rattle.ec_fxcode_shifts.proofs.Right.{magnitude_is, sign_given, no_sign}
use Rattle.ec_fxcode_shifts.proofs.Steps.{mark_short, turned_short}
use Rattle.ec_fxcode_formats.specs.Cuts.{row_from, bytes_below, clear_byte, clear_code, double_code, less_code, cut_code}
use Rattle.ec_fxcode_formats.specs.FormatLaws.{HoldsExact, IsCut, CutsAreRight}
use Rattle.ec_fxcode_formats.proofs.Windows.{IsLow, window, doubled, whole_bytes, seven_more, plus_holds, minus_holds}
use Rattle.ec_fxcode_formats.proofs.Words.{clear_short, double_short}

pub row_stands : (e : Env) (i k : ℕ) → StandsFrom e (row_from i) k (8 + i) Own
row_stands e i k = record { at = λ j l. refl; kind = λ j l. refl; clear = omega arith }

-- ---- bytes are bytes

pub numbers_after : (v w : View) (b k : ℕ) → HoldsNumbers v → ((j : ℕ) → j ≢ 0 → j ≢ 1 → Outside b k j → w.at j ≡ v.at j)
    → ((j : ℕ) → j < k → w.at (b + j) < 256) → HoldsNumbers w
numbers_after v w b k h same held j l =
    ⊎_elim (λ (x : j < b). rw (same j (omega arith) (omega arith) (λ q. absurd (omega arith))) (h j l))
    (λ (x : b ≤ j).
    ⊎_elim
    (λ (y : j < b + k). let z : b + (j - b) ≡ j = omega arith in subst (λ (i : ℕ). w.at i < 256) z (held (j - b) (omega arith)))
    (λ (y : b + k ≤ j). rw (same j (omega arith) (omega arith) (λ q. y)) (h j l)) (cases_lt j (b + k)))
    (cases_lt j b)

-- ---- zeros above the magnitude

pub record ClearsTo (u : View) (a i : ℕ) (v : View) : Type 0 where
  pub there : (j : ℕ) → j < i → v.at (a + j) ≡ 0
  pub same : (k : ℕ) → Outside a i k → v.at k ≡ u.at k
  pub inputs : v.inputs ≡ u.inputs
  pub safe : v.safe ≡ u.safe
  pub seen : v.seen ≡ u.seen

clear_step : (e : Env) (m : ℕ) (u : View) (i : ℕ) (v : View) → ClearsTo u (8 + m) i v
    → ClearsTo u (8 + m) (suc i) (block e (clear_byte (m + i)) v)
clear_step e m u i v h =
    let d = 8 + (m + i) in
    let w = change e (Eor d d) v in
    let at : d ≡ 8 + m + i = omega arith in
    let x = bit_xor (v.at d) (v.at d) in
    let here : (k : ℕ) → k ≡ d → w.at k ≡ 0 = λ k q. put_here v.at d x k q ∙ xor_self (v.at d) in
    let other : (k : ℕ) → k ≢ d → w.at k ≡ v.at k = λ k q. put_other v.at d x k q in
    record {
      there = λ j l. ⊎_elim (λ (q : j ≡ i). here (8 + m + j) (omega arith))
          (λ (q : j ≢ i). other (8 + m + j) (λ z. q (omega arith)) ∙ h.there j (omega arith)) (cases_eq j i);
      same = λ k o. other k (λ z. not_here k (8 + m) i o (z ∙ at)) ∙ h.same k (fewer k (8 + m) i o);
      inputs = h.inputs;
      safe = h.safe;
      seen = h.seen;
    }

pub cleared : (e : Env) (m top : ℕ) (v : View) → ClearsTo v (8 + m) (top - m) (block e (clear_code m top) v)
cleared e m top v =
    chain_holds e (λ i. clear_byte (m + i)) (ClearsTo v (8 + m)) (top - m) (λ i l w h. clear_step e m v i w h) v (record {
      there = λ j l. absurd (omega arith);
      same = λ k o. refl;
      inputs = refl;
      safe = refl;
      seen = refl;
    })

-- ---- the window

-- what is left stands in n bytes of the row, and else only bytes of the row, R0 and R1 have changed
record Leaves (v w : View) (n d M : ℕ) : Type 0 where
  low : IsLow (256 ^ n) (value w.at (8 + bytes_below d) n) (M / 2 ^ d)
  same : (j : ℕ) → j ≢ 0 → j ≢ 1 → Outside 8 6 j → w.at j ≡ v.at j
  numbers : HoldsNumbers w
  inputs : w.inputs ≡ v.inputs
  safe : w.safe ≡ v.safe
  seen : w.seen ≡ v.seen

-- the row has the magnitude below top bytes
record HasRow (v : View) (top M : ℕ) : Type 0 where
  rest : ℕ
  is : M ≡ value v.at 8 top + 256 ^ top * rest
  numbers : HoldsNumbers v

row_held : (v : View) → HoldsNumbers v → (a j : ℕ) → 2 ≤ a → v.at (a + j) < 256
row_held v h a j l = h (a + j) (omega arith)

with_zeros : (e : Env) (m top M : ℕ) (v : View) → HoldsNumbers v → value v.at 8 m ≡ M → HasRow (block e (clear_code m top) v) top M
with_zeros e m top M v h is =
    let w = block e (clear_code m top) v in
    let c = cleared e m top v in
    let numbers = numbers_after v w (8 + m) (top - m) h (λ j x y o. c.same j o) (λ j l. rw (c.there j l) (omega arith)) in
    let kept : value w.at 8 m ≡ M = value-same w.at v.at 8 m (λ j l. c.same (8 + j) (λ q. absurd (omega arith))) ∙ is in
    ⊎_elim
    (λ (less : m < top).
    let e : m + (top - m) ≡ top = omega arith in
    let parts = value_parts w.at 8 m (top - m) in
    let none : value w.at (8 + m) (top - m) ≡ 0 = zeros w.at (8 + m) (top - m) c.there in
    let all : value w.at 8 top ≡ M = subst (λ k. value w.at 8 k ≡ M) e (parts ∙ rw (kept, none) (omega arith)) in
    record { rest = 0; is = omega (arith, all); numbers = numbers })
    (λ (more : top ≤ m).
    let e : top + (m - top) ≡ m = omega arith in
    let parts = value_parts w.at 8 top (m - top) in
    record {
      rest = value w.at (8 + top) (m - top);
      is = sym kept ∙ subst (λ k. value w.at 8 k ≡ value w.at 8 top + 256 ^ top * value w.at (8 + top) (m - top)) e parts;
      numbers = numbers;
    })
    (cases_lt m top)

-- whole bytes
bytes_left : (n d M : ℕ) (e : Env) (v : View) → d % 8 ≡ 0 → HasRow v (bytes_below d + n) M → Leaves v (block e (double_code n d) v) n d M
bytes_left n d M e v even h =
    let q = d / 8 in
    let whole : d ≡ 8 * q = omega (arith, even) in
    let below : bytes_below d ≡ q = omega (arith, whole) in
    let none : (d % 8 == 0) ≡ true = eq-eqb (d % 8) 0 even in
    let is : M ≡ value v.at 8 (q + n) + 256 ^ (q + n) * h.rest =
    subst (λ t. M ≡ value v.at 8 (t + n) + 256 ^ (t + n) * h.rest) below h.is in
    let w = window v.at 8 q n M h.rest (λ j l. row_held v h.numbers 8 j (omega arith)) is in
    let low : IsLow (256 ^ n) (value v.at (8 + bytes_below d) n) (M / 2 ^ d) =
    subst (λ t. IsLow (256 ^ n) (value v.at (8 + t) n) (M / 2 ^ d)) (sym below)
    (subst (λ t. IsLow (256 ^ n) (value v.at (8 + q) n) (M / t)) (sym (whole_bytes d q whole)) w) in
    rw none (record { low = low; same = λ j x y o. refl; numbers = h.numbers; inputs = refl; safe = refl; seen = refl })

-- and 7 bits
bits_left : (n d M : ℕ) (e : Env) (v : View) → d % 8 ≡ 7 → bytes_below d + n ≤ 6 → HasRow v (bytes_below d + n) M
    → Leaves v (block e (double_code n d) v) n d M
bits_left n d M e v odd room h =
    let q = d / 8 in
    let whole : d ≡ 8 * q + 7 = omega (arith, odd) in
    let below : bytes_below d ≡ q + 1 = omega (arith, whole) in
    let some : (d % 8 == 0) ≡ false = ne_eqb (d % 8) 0 (omega (arith, odd)) in
    let size : bytes_below d + n ≡ q + suc n = omega (arith, below) in
    let is : M ≡ value v.at 8 (q + suc n) + 256 ^ (q + suc n) * h.rest =
    subst (λ t. M ≡ value v.at 8 t + 256 ^ t * h.rest) size h.is in
    let first = window v.at 8 q (suc n) M h.rest (λ j l. row_held v h.numbers 8 j (omega arith)) is in
    let code = operate_code Sum (row_from q) (row_from q) (suc n) in
    let w = block e code v in
    let st = row_stands e q (suc n) in
    let r = sums_are_right e (row_from q) (row_from q) (suc n) (8 + q) (8 + q) v st st (λ l. absurd (omega arith)) h.numbers in
    let parts = value_parts w.at (8 + q) 1 n in
    let one : suc n ≡ 1 + n = omega arith in
    let zero_byte : 8 + q + 0 ≡ 8 + q = omega arith in
    let split : value w.at (8 + q) (suc n) ≡ w.at (8 + q) + 256 * value w.at (8 + q + 1) n =
    ap (value w.at (8 + q)) one ∙ parts ∙ rw zero_byte (omega arith) in
    let low =
    doubled n (value v.at (8 + q) (suc n)) (value w.at (8 + q) (suc n)) (w.at (8 + q)) (value w.at (8 + q + 1) n) (M / 256 ^ q) first
    r.1 split (r.0.bytes (8 + q) (omega arith))
    (value_below w.at (8 + q + 1) n (λ j l. r.0.bytes (8 + q + 1 + j) (omega arith))) in
    let there : 8 + bytes_below d ≡ 8 + q + 1 = omega (arith, below) in
    rw some (record {
      low = subst (λ t. IsLow (256 ^ n) (value w.at t n) (M / 2 ^ d)) (sym there)
          (subst (λ t. IsLow (256 ^ n) (value w.at (8 + q + 1) n) t) (seven_more M d q whole) low);
      same = λ j x y o. r.0.keeps.same j x y (λ l. let a = o (omega arith) in omega (arith, below, room));
      numbers = r.0.bytes;
      inputs = r.0.keeps.inputs;
      safe = r.0.keeps.safe;
      seen = r.0.keeps.seen;
    })

left_in_row : (n d M : ℕ) (e : Env) (v : View) → IsCut d → bytes_below d + n ≤ 6 → HasRow v (bytes_below d + n) M
    → Leaves v (block e (double_code n d) v) n d M
left_in_row n d M e v (inl even) room h = bytes_left n d M e v even h
left_in_row n d M e v (inr odd) room h = bits_left n d M e v odd room h

-- ---- the sign

-- M is the magnitude of A, and z what is left of it, R, with the sign of A
signed_holds : (signed : Bool) (m n A d top M R z c t : ℕ) → 1 ≤ n → A < 256 ^ m
    → (signed ≡ true → IsSign A (256 ^ m) (mark_of signed top)) → (signed ≡ false → mark_of signed top ≡ 0)
    → (mark_of signed top ≡ 0 → M ≡ A) → (mark_of signed top ≡ 255 → M + A ≡ c * 256 ^ m) → c ≤ 1
    → IsLow (256 ^ n) R (M / 2 ^ d)
    → (mark_of signed top ≡ 0 → z ≡ R) → (mark_of signed top ≡ 255 → z + R ≡ t * 256 ^ n) → t ≤ 1 → z < 256 ^ n
    → HoldsExact n (trunc (number_in signed m A) (2 ^ d)) z
signed_holds false m n A d top M R z c t some l sign none plus_in minus_in bit_in low plus_out minus_out bit_out below =
    let zero_mark = none refl in
    plus_holds n A (2 ^ d) R z some (subst (λ x. IsLow (256 ^ n) R (x / 2 ^ d)) (plus_in zero_mark) low) (plus_out zero_mark)
signed_holds true m n A d top M R z c t some l sign none plus_in minus_in bit_in low plus_out minus_out bit_out below =
    let N = 256 ^ m in
    let is = sign refl in
    ⊎_elim
    (λ (less : 2 * A < N).
    let zero_mark = is.plus less in
    subst (λ x. HoldsExact n (trunc x (2 ^ d)) z) (sym (plus m A less))
    (plus_holds n A (2 ^ d) R z some (subst (λ x. IsLow (256 ^ n) R (x / 2 ^ d)) (plus_in zero_mark) low) (plus_out zero_mark)))
    (λ (more : N ≤ 2 * A).
    let full = is.minus more in
    let mag : M ≡ N - A = magnitude_is M A N c bit_in (minus_in full) l more in
    let value_is : number_in true m A ≡ negsuc (M - 1) = minus m A more l ∙ ap (λ x. negsuc (x - 1)) (sym mag) in
    subst (λ x. HoldsExact n (trunc x (2 ^ d)) z) (sym value_is)
    (minus_holds n M (2 ^ d) R z t some (omega (arith, mag, l)) low below bit_out (minus_out full)))
    (cases_lt (2 * A) N)

-- ---- the run

cut_short : (signed : Bool) (p q : Location) (m n d : ℕ) → bytes_below d + n ≤ 6 → m ≤ 6
    → (all_straight (cut_code signed p q m n d) ≡ true) × (code_steps (cut_code signed p q m n d) ≤ 100)
cut_short signed p q m n d room few =
    let top = bytes_below d + n in
    let all = joined (mark_code signed p m) (less_code p q m n d) 3 (m * 4 + ((top - m) * 1 + (suc n + n * 4))) 4
    (m * 6 + ((top - m) * 1 + (suc n + n * 6))) (mark_short signed p m)
    (joined (turned_code p (row_from 0) m) (clear_code m top ++ (double_code n d ++ turned_code (row_from (bytes_below d)) q n)) (m * 4)
    ((top - m) * 1 + (suc n + n * 4)) (m * 6) ((top - m) * 1 + (suc n + n * 6)) (turned_short p (row_from 0) m)
    (joined (clear_code m top) (double_code n d ++ turned_code (row_from (bytes_below d)) q n) ((top - m) * 1) (suc n + n * 4)
    ((top - m) * 1) (suc n + n * 6) (clear_short m top)
    (joined (double_code n d) (turned_code (row_from (bytes_below d)) q n) (suc n) (n * 4) (suc n) (n * 6) (double_short n d)
    (turned_short (row_from (bytes_below d)) q n)))) in
    let w = all.steps_are in
    (all.straight, omega (arith, w, room, few))

pub clear_row : (i k : ℕ) → i + k ≤ 6 → IsClearOfEnds (8 + i) k
clear_row i k l = record { below = λ x. omega arith; above = λ x. absurd (omega arith) }

pub cuts_are_right : CutsAreRight
cuts_are_right signed e p q zero n d a b pc end v cut some few some_n room sp sq far_a far_b cp cq held stands = absurd (omega arith)
cuts_are_right signed e p q (suc k) n d a b pc end v cut some few some_n room sp sq far_a far_b cp cq held stands =
    let m = suc k in
    let ua = sp.clear in
    let ub = sq.clear in
    let top = bytes_below d + n in
    let first = mark_code signed p m in
    let second = turned_code p (row_from 0) m in
    let third = clear_code m top in
    let fourth = double_code n d in
    let last = turned_code (row_from (bytes_below d)) q n in
    let byte = mark_of signed (v.at (a + k)) in
    let v1 = block e first v in
    let v2 = block e second v1 in
    let v3 = block e third v2 in
    let v4 = block e fourth v3 in
    let v5 = block e last v4 in
    let top_byte : v.at (a + k) < 256 = held (a + k) (omega arith) in
    let s = marks e signed p k (a + k) v (sp.at k (omega arith)) (sp.kind k (omega arith)) top_byte in
    let small : byte < 256 = mark_is_byte signed (v.at (a + k)) top_byte in
    let numbers1 : HoldsNumbers v1 = λ j l. ⊎_elim (λ (x : j ≡ 31). rw (x, s.sign) small)
    (λ (x : j ≢ 31). rw (s.same j (omega arith) x) (held j l)) (cases_eq j 31) in
    let t =
    turns e p (row_from 0) m a 8 byte v1 sp (row_stands e 0 m) (λ l. let x = far_a.first l in omega arith)
    (clear_row 0 m (omega (arith, few))) numbers1
    s.sign in
    let numbers2 = numbers_after v1 v2 8 m numbers1 (λ j x y o. t.keeps.same j x y o) t.held in
    let row = with_zeros e m top (value v2.at 8 m) v2 numbers2 refl in
    let c = cleared e m top v2 in
    let h = left_in_row n d (value v2.at 8 m) e v3 cut room row in
    let sign4 : v4.at 31 ≡ byte =
    h.same 31 (omega arith) (omega arith) (λ l. omega arith) ∙ c.same 31 (λ l. omega (arith, room, few))
    ∙ t.keeps.same 31 (omega arith) (omega arith) (λ l. omega (arith, few)) ∙ s.sign in
    let below = bytes_below d in
    let u = turns e (row_from below) q n (8 + below) b byte v4 (row_stands e below n) sq
    (λ l. let x = far_b.second (omega arith) in omega (arith, room)) cq h.numbers sign4 in
    let numbers5 = numbers_after v4 v5 b n h.numbers (λ j x y o. u.keeps.same j x y o) u.held in
    let row_a = λ (j : ℕ) (l : j < m). (let w = clear_of_work a m j cp ua l in s.same (a + j) w.0 w.3) in
    let same1 : value v1.at a m ≡ value v.at a m = value-same v1.at v.at a m row_a in
    let held_a = λ (j : ℕ) (l : j < m). (let o : v.at (a + j) < 256 = held (a + j) (omega arith) in o) in
    let short = cut_short signed p q m n d room few in
    let is : block e (cut_code signed p q m n d) v ≡ v5 =
    block-append e first (less_code p q m n d) v ∙ block-append e second (third ++ (fourth ++ last)) v1
    ∙ block-append e third (fourth ++ last) v2 ∙ block-append e fourth last v3 in
    record {
      steps = code_steps (cut_code signed p q m n d);
      at_most = short.1;
      last = v5;
      goes = subst (λ w. Goes e (code_steps (cut_code signed p q m n d)) pc v end w) is
          (block_goes e (cut_code signed p q m n d) pc end v short.0 stands);
      holds = signed_holds signed m n (value v.at a m) d (v.at (a + k)) (value v2.at 8 m) (value v4.at (8 + below) n) (value v5.at b n)
          (carry_at m v2.flags) (carry_at n v5.flags) some_n (value_below v.at a m held_a) (sign_given signed v.at a k held_a)
          (no_sign signed (v.at (a + k))) (λ z. (t.plus z).0 ∙ same1) (λ z. ap (λ x. value v2.at 8 m + x) (sym same1) ∙ t.minus z) t.bit
          h.low (λ z. (u.plus z).0) u.minus u.bit (value_below v5.at b n u.held);
      numbers = numbers5;
      same = λ j x y z o r. u.keeps.same j x y r ∙ h.same j x y o ∙ c.same j (λ l. let g = o (omega arith) in omega (arith, room))
          ∙ t.keeps.same j x y (λ l. let g = o l in omega (arith, few)) ∙ s.same j x z;
      inputs = u.keeps.inputs ∙ h.inputs ∙ c.inputs ∙ t.keeps.inputs ∙ s.inputs;
      safe = u.keeps.safe ∙ h.safe ∙ c.safe ∙ t.keeps.safe ∙ s.safe;
      seen = u.keeps.seen ∙ h.seen ∙ c.seen ∙ t.keeps.seen ∙ s.seen;
    }
