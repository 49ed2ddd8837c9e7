-- The steps and words of the whole code.
use Rattle.std.proofs.Common.{◌≡◌, ℕ, suc, ◌+◌, ◌-◌, ◌*◌, ◌<◌, ◌≤◌, max, ⊎_elim, Bool, [], ◌∷◌, ◌++◌, refl, arith, pos, negsuc}
use Rattle.std.proofs.lemmas.Bool.{cases_lt}
use Rattle.std.proofs.lemmas.List.Sums.{sum_by-append}
use Rattle.std.proofs.lemmas.Nat.{mul-le}
use Rattle.ec_isa.specs.declared.instructions.Instr.TheVariants.{Eor, Mov, Ldi, Dec, Brbs, Rjmp}
use Rattle.ec_fx.specs.declared.formats.Format.{Format}
use Rattle.ec_fx.specs.declared.numbers.Mode.{Mode}
use Rattle.ec_fx.specs.Formats.{IsFormat}
use Rattle.ec_asm.specs.declared.items.AsmItem.TheVariants.{Plain}
use Rattle.ec_asm.specs.declared.pieces.Location.{Location}
use Rattle.ec_asm.specs.declared.pieces.Location.TheVariants.{InRegisters, InMemory}
use Rattle.ec_asm.specs.Items.{code_words, item_words}
use Rattle.ec_fxcode.specs.Clamps.{put_byte, fills_code, clamp_code}
use Rattle.ec_fxcode.proofs.Short.{IsShort, joined, chained, weaker, put_short, clamp_words}
use Rattle.ec_fxcode_shifts.specs.Shifts.{mark_code, turned_code}
use Rattle.ec_fxcode_shifts.specs.ShiftLaws.{most_words}
use Rattle.ec_fxcode_shifts.proofs.Steps.{mark_short, turned_short}
use Rattle.ec_fxcode_quotients.specs.Quotients.{bits_of, quotient_bytes, number_bytes, further, number_at, clear_code, number_code}
use Rattle.ec_fxcode_quotients.specs.Quotients.{divisor_code, ready_code, turn_code, turn_words, turns_code, finish_code, solve_code}
use Rattle.ec_fxcode_quotients.specs.Quotients.{divide_code}
use Rattle.ec_fxcode_quotients.specs.QuotientLaws.{IsOperandFormat, QuotientsHave}
use Rattle.ec_fxcode_quotients.proofs.Sizes.{format_sized, operand_sized, bytes_of}
use Rattle.ec_fxcode_quotients.proofs.Words.{turn_has_words}

clear_short : (w : Location) (b z : ℕ) → IsShort (clear_code w b z) (1 + (2 * b + 2 + z - b) * 1) (1 + (2 * b + 2 + z - b) * 2)
clear_short w b z =
    joined (Plain (Eor 31 31) ∷ []) (fills_code w b (2 * b + 2 + z)) 1 ((2 * b + 2 + z - b) * 1) 1 ((2 * b + 2 + z - b) * 2)
    (record { straight = refl; steps_are = omega arith; words_are = omega arith })
    (chained (λ i. put_byte 31 w (b + i)) (2 * b + 2 + z - b) 1 2 (λ i. put_short 31 w (b + i)))

number_short : (signed : Bool) (p w : Location) (a b z : ℕ) → IsShort (number_code signed p w a b z) (3 + (a * 4 + 1)) (4 + (a * 6 + 1))
number_short signed p w a b z =
    joined (mark_code signed p a) (turned_code p (further w (2 * b + 2 + z)) a ++ (Plain (Mov 30 31) ∷ [])) 3 (a * 4 + 1) 4 (a * 6 + 1)
    (mark_short signed p a)
    (joined (turned_code p (further w (2 * b + 2 + z)) a) (Plain (Mov 30 31) ∷ []) (a * 4) 1 (a * 6) 1
    (turned_short p (further w (2 * b + 2 + z)) a) (record { straight = refl; steps_are = omega arith; words_are = omega arith }))

divisor_short : (signed : Bool) (c w : Location) (b bits : ℕ) → IsShort (divisor_code signed c w b bits) (3 + (b * 4 + 2)) (4 + (b * 6 + 2))
divisor_short signed c w b bits =
    joined (mark_code signed c b) (turned_code c w b ++ (Plain (Eor 31 30) ∷ Plain (Ldi 30 bits) ∷ [])) 3 (b * 4 + 2) 4 (b * 6 + 2)
    (mark_short signed c b)
    (joined (turned_code c w b) (Plain (Eor 31 30) ∷ Plain (Ldi 30 bits) ∷ []) (b * 4) 2 (b * 6) 2 (turned_short c w b)
    (record { straight = refl; steps_are = omega arith; words_are = omega arith }))

pub ready_short : (f g : Bool) (p c w : Location) (a b z bits : ℕ)
    → IsShort (ready_code f g p c w a b z bits) (12 + 5 * b + 4 * a + z) (16 + 8 * b + 6 * a + 2 * z)
ready_short f g p c w a b z bits =
    let r = 2 * b + 2 + z - b in
    weaker (ready_code f g p c w a b z bits) (1 + r * 1 + (3 + (a * 4 + 1) + (3 + (b * 4 + 2)))) (12 + 5 * b + 4 * a + z)
    (1 + r * 2 + (4 + (a * 6 + 1) + (4 + (b * 6 + 2)))) (16 + 8 * b + 6 * a + 2 * z) (omega arith) (omega arith)
    (joined (clear_code w b z) (number_code f p w a b z ++ divisor_code g c w b bits) (1 + r * 1) (3 + (a * 4 + 1) + (3 + (b * 4 + 2)))
    (1 + r * 2) (4 + (a * 6 + 1) + (4 + (b * 6 + 2))) (clear_short w b z)
    (joined (number_code f p w a b z) (divisor_code g c w b bits) (3 + (a * 4 + 1)) (3 + (b * 4 + 2)) (4 + (a * 6 + 1)) (4 + (b * 6 + 2))
    (number_short f p w a b z) (divisor_short g c w b bits)))

-- ---- words

pub turn_most : (w : Location) (b n : ℕ) → turn_words w b n ≤ 7 * n + 17 * b + 24
turn_most (InRegisters r) b n = omega arith
turn_most (InMemory o k) b n = omega arith

turns_words : (w : Location) (b n : ℕ) → code_words (turns_code w b n) ≤ 7 * n + 17 * b + 28
turns_words w b n =
    let tail = Plain (Dec 30) ∷ Plain (Brbs 2 (pos 1)) ∷ Plain (Rjmp (negsuc (turn_words w b n + 2))) ∷ [] in
    let m = turn_most w b n in
    omega (
      arith,
      sum_by-append item_words (Plain (Rjmp (pos (turn_words w b n))) ∷ []) (turn_code w b n ++ tail),
      sum_by-append item_words (turn_code w b n) tail,
      turn_has_words w b n,
      m,
    )

finish_words : (to : Format) (mode : Mode) (x q : Location) (m k : ℕ)
    → code_words (finish_code to mode x q m k) ≤ 6 * m + 23 + 10 * k + 4 * (m - k)
finish_words to mode x q m k =
    let a = (turned_short x x m).words_are in
    let b = clamp_words to mode x q m k in
    omega (arith, sum_by-append item_words (turned_code x x m) (clamp_code to mode x q m k), a, b)

-- ---- sizes beside the bytes of the operands and of the result

pub record IsRoomy (a b k bits n m w : ℕ) : Type 0 where
  pub some : 1 ≤ w
  pub number : a ≤ w
  pub divisor : b ≤ w
  pub result : k ≤ w
  pub bits_are : bits ≤ 24 * w
  pub shared : n ≤ 3 * w + 1
  pub quotient : m ≤ 3 * w + 1

pub roomy : (f g to : Format) (a b k : ℕ) → IsOperandFormat f → f.bits ≡ 8 * a → IsOperandFormat g → g.bits ≡ 8 * b
    → IsFormat to → to.bits ≡ 8 * k
    → IsRoomy a b k (bits_of f g to a) (number_bytes a (bits_of f g to a)) (quotient_bytes (bits_of f g to a)) (max a (max b k))
roomy f g to a b k hf fb hg gb ht tb =
    let x = operand_sized f hf in
    let y = (operand_sized g hg).inside in
    let z = (format_sized to ht).inside in
    let one = (bytes_of f.bits f.frac a x fb).0 in
    let T = bits_of f g to a in
    let w = max a (max b k) in
    let most : T ≤ 24 * w = omega (arith, y, z, gb, tb) in
    record {
      some = omega (arith, one);
      number = omega arith;
      divisor = omega arith;
      result = omega arith;
      bits_are = most;
      shared = omega (arith, most, one);
      quotient = omega (arith, most);
    }

-- so many words are enough
enough_words : (w : ℕ) → 1 ≤ w → 86 + 92 * w ≤ most_words w
enough_words w l =
    ⊎_elim (λ (x : w < 2). let e : w ≡ 1 = omega arith in rw e (omega arith))
    (λ (x : 2 ≤ w). let m : 2 * w ≤ w * w = mul-le 2 w w w x (omega arith) in omega (arith, m)) (cases_lt w 2)

pub quotients_have : QuotientsHave
quotients_have f g to mode p c q w a b k hf fb hg gb ht tb =
    let T = bits_of f g to a in
    let n = number_bytes a T in
    let m = quotient_bytes T in
    let r = roomy f g to a b k hf fb hg gb ht tb in
    let some = r.some in
    let r1 = r.number in
    let r2 = r.divisor in
    let r3 = r.result in
    let r4 = r.shared in
    let r5 = r.quotient in
    let x = (ready_short f.signed g.signed p c w a b (n - a) T).words_are in
    let y = turns_words w b n in
    let z = finish_words to mode (number_at w b) q m k in
    let t = enough_words (max a (max b k)) some in
    total (code_words (divide_code f g to mode p c q w a b k)) (code_words (ready_code f.signed g.signed p c w a b (n - a) T))
    (code_words (turns_code w b n)) (code_words (finish_code to mode (number_at w b) q m k)) a b k n m (max a (max b k))
    (most_words (max a (max b k)))
    (omega (
      arith,
      sum_by-append item_words (ready_code f.signed g.signed p c w a b (n - a) T) (solve_code to mode w q b n m k),
      sum_by-append item_words (turns_code w b n) (finish_code to mode (number_at w b) q m k),
    ))
    x y z r1 r2 r3 r4 r5 (omega arith) t
  where
    total : (all x y z a b k n m w most : ℕ) → all ≤ x + y + z → x ≤ 16 + 8 * b + 6 * a + 2 * (n - a) → y ≤ 7 * n + 17 * b + 28
        → z ≤ 6 * m + 23 + 10 * k + 4 * (m - k) → a ≤ w → b ≤ w → k ≤ w → n ≤ 3 * w + 1 → m ≤ 3 * w + 1 → a ≤ n
        → 86 + 92 * w ≤ most → all ≤ most
    total all x y z a b k n m w most h hx hy hz ha hb hk hn hm l t = omega (arith, h, hx, hy, hz, ha, hb, hk, hn, hm, l, t)

-- so many steps are few enough
pub steps_bound : (a b k T n m w z first loop third clamp : ℕ) → IsRoomy a b k T n m w → z ≤ n
    → first ≤ 12 + 5 * b + 4 * a + z → loop ≤ 3 + T * (4 * n + 10 * suc b + 8) → third ≤ m * 4 → clamp ≤ 60 + 20 * max m k
    → first + loop + third + clamp ≤ 64 * most_words w
steps_bound a b k T n m w z first loop third clamp r lz h1 h2 h3 h4 =
    let some = r.some in
    let r1 = r.number in
    let r2 = r.divisor in
    let r3 = r.result in
    let r4 = r.shared in
    let r5 = r.quotient in
    let r6 = r.bits_are in
    let q : T * (4 * n + 10 * suc b + 8) ≤ 24 * w * (22 * w + 22) =
    mul-le T (4 * n + 10 * suc b + 8) (24 * w) (22 * w + 22) r6 (omega (arith, r4, r2)) in
    omega (arith, q, some, r1, r2, r3, r4, r5, lz, h1, h2, h3, h4)
