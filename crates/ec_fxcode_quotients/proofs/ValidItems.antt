-- The items of the code are valid, and have no labels.
use Rattle.std.proofs.Common.{◌≡◌, ℕ, zero, suc, ◌+◌, ◌-◌, ◌*◌, ◌<◌, ◌≤◌, ◌==◌, Bool, true, false, [], ◌∷◌, ◌++◌, refl, sym, ap, ◌∙◌, subst}
use Rattle.std.proofs.Common.{arith, pos, negsuc}
use Rattle.std.specs.Prelude.{nat_lt, count_by, cond}
use Rattle.std.specs.List.{list_all}
use Rattle.std.proofs.lemmas.Bool.{lt-ltb, eqb-true}
use Rattle.std.proofs.lemmas.List.Folds.{sum_by-zero}
use Rattle.ec_isa.specs.declared.instructions.Instr.TheVariants.{Add, Adc, Sbc, Eor, Mov, Inc, Ldi, Dec, Brbs, Brbc, Rjmp}
use Rattle.ec_fx.specs.declared.formats.Format.{Format}
use Rattle.ec_fx.specs.declared.numbers.Mode.{Mode}
use Rattle.ec_asm.specs.declared.items.AsmItem.{AsmItem}
use Rattle.ec_asm.specs.declared.items.AsmItem.TheVariants.{Plain}
use Rattle.ec_asm.specs.declared.pieces.Location.{Location}
use Rattle.ec_asm.specs.declared.pieces.Location.TheVariants.{InRegisters, InMemory}
use Rattle.ec_asm.specs.declared.pieces.Operator.{Operator}
use Rattle.ec_asm.specs.declared.pieces.Operator.TheVariants.{Sum, Difference, BitAnd, BitOr, BitXor}
use Rattle.ec_asm.specs.Pieces.{instruction, operate_byte, operate_code, compares, compare_byte, compare_code}
use Rattle.ec_asm.specs.Valid.{Sizes, is_offset, is_valid_item, used_label, is_label, is_placed}
use Rattle.ec_select_quotients.specs.Quotients.{mark_code as lowest_code}
use Rattle.ec_fxcode.specs.Clamps.{take_byte, put_byte, fills_code, clamp_code}
use Rattle.ec_fxcode.specs.ClampLaws.{HasPlaces}
use Rattle.ec_fxcode.proofs.ValidItems.{both, chain_passes, take_valid, put_valid, clamps_are_valid, clamps_use_no_label}
use Rattle.ec_fxcode.proofs.ValidItems.{clamps_place_no_label}
use Rattle.ec_fxcode_shifts.specs.Shifts.{mark_code, turned_byte, turned_code}
use Rattle.ec_fxcode_shifts.proofs.ValidItems.{less_valid, part_places, PassesPlain}
use Rattle.ec_fxcode_quotients.specs.Quotients.{bits_of, quotient_bytes, number_bytes, further, remainder_at, number_at, clear_code}
use Rattle.ec_fxcode_quotients.specs.Quotients.{number_code, divisor_code, ready_code, rotate_byte, rotate_code, bring_code, take_code}
use Rattle.ec_fxcode_quotients.specs.Quotients.{take_words, skip_code, turn_code, turn_words, turns_code, finish_code, solve_code}
use Rattle.ec_fxcode_quotients.specs.Quotients.{divide_code}
use Rattle.ec_fxcode_quotients.specs.QuotientLaws.{QuotientsAreValid, QuotientsUseNoLabel, QuotientsPlaceNoLabel}
use Rattle.ec_fxcode_quotients.proofs.Sizes.{operand_sized, format_sized, bytes_of, few_bits}
use Rattle.ec_fxcode_quotients.proofs.Steps.{turn_most}

-- a test that each piece of the code passes, where the number has n bytes with the quotient, which has m
record Passes (t : AsmItem → Bool) (to : Format) (mode : Mode) (p c q w : Location) (a b k n m z T : ℕ) : Type 0 where
  from : (i : ℕ) → i < a → list_all t (take_byte p i) ≡ true
  by_ : (i : ℕ) → i < b → list_all t (take_byte c i) ≡ true
  sign : list_all t (Plain (Add 0 0) ∷ Plain (Sbc 31 31) ∷ []) ≡ true
  none : list_all t (Plain (Eor 31 31) ∷ []) ≡ true
  move : list_all t (Plain (Mov 30 31) ∷ []) ≡ true
  cross : list_all t (Plain (Eor 31 30) ∷ Plain (Ldi 30 T) ∷ []) ≡ true
  less : (i : ℕ) → list_all t (Plain (Eor 0 31) ∷ Plain (instruction Difference i 0 31) ∷ []) ≡ true
  fill : (i : ℕ) → i < 2 * b + 2 + z → list_all t (put_byte 31 w i) ≡ true
  number_in : (i : ℕ) → i < a → list_all t (put_byte 0 (further w (2 * b + 2 + z)) i) ≡ true
  divisor_in : (i : ℕ) → i < b → list_all t (put_byte 0 w i) ≡ true
  double : (i : ℕ) → i < n → list_all t (operate_byte Sum (number_at w b) (number_at w b) i) ≡ true
  rest_out : (i : ℕ) → i < suc b → list_all t (take_byte (remainder_at w b) i) ≡ true
  carry : list_all t (Plain (Adc 0 0) ∷ []) ≡ true
  rest_in : (i : ℕ) → i < suc b → list_all t (put_byte 0 (remainder_at w b) i) ≡ true
  compare : (i : ℕ) → i < suc b → list_all t (compare_byte w (remainder_at w b) i) ≡ true
  skip : list_all t (skip_code w (suc b)) ≡ true
  differ : (i : ℕ) → i < suc b → list_all t (operate_byte Difference w (remainder_at w b) i) ≡ true
  lowest : list_all t (lowest_code (number_at w b)) ≡ true
  jump : list_all t (Plain (Rjmp (pos (turn_words w b n))) ∷ []) ≡ true
  again : list_all t (Plain (Dec 30) ∷ Plain (Brbs 2 (pos 1)) ∷ Plain (Rjmp (negsuc (turn_words w b n + 2))) ∷ []) ≡ true
  out : (i : ℕ) → i < m → list_all t (take_byte (number_at w b) i) ≡ true
  back : (i : ℕ) → i < m → list_all t (put_byte 0 (number_at w b) i) ≡ true
  clamp : list_all t (clamp_code to mode (number_at w b) q m k) ≡ true

module _ (t : AsmItem → Bool) (to : Format) (mode : Mode) (p c q w : Location) (a b k n m z T : ℕ) (some : 1 ≤ a) (many : 1 ≤ b)
    (h : Passes t to mode p c q w a b k n m z T) where
  turned_passes : (p q : Location) (k : ℕ) → ((i : ℕ) → i < k → list_all t (take_byte p i) ≡ true)
      → ((i : ℕ) → i < k → list_all t (put_byte 0 q i) ≡ true) → list_all t (turned_code p q k) ≡ true
  turned_passes p q k f g =
      chain_passes t (turned_byte p q) k
      (λ i l. both t (take_byte p i) (Plain (Eor 0 31) ∷ Plain (instruction Difference i 0 31) ∷ put_byte 0 q i) (f i l)
      (both t (Plain (Eor 0 31) ∷ Plain (instruction Difference i 0 31) ∷ []) (put_byte 0 q i) (h.less i) (g i l)))

  mark_passes : (signed : Bool) (p : Location) (k : ℕ) → 1 ≤ k → ((i : ℕ) → i < k → list_all t (take_byte p i) ≡ true)
      → list_all t (mark_code signed p k) ≡ true
  mark_passes true p k l f = both t (take_byte p (k - 1)) (Plain (Add 0 0) ∷ Plain (Sbc 31 31) ∷ []) (f (k - 1) (omega arith)) h.sign
  mark_passes false p k l f = h.none

  clear_passes : list_all t (clear_code w b z) ≡ true
  clear_passes =
      both t (Plain (Eor 31 31) ∷ []) (fills_code w b (2 * b + 2 + z)) h.none
      (chain_passes t (λ i. put_byte 31 w (b + i)) (2 * b + 2 + z - b) (λ i l. h.fill (b + i) (omega arith)))

  ready_passes : (f g : Bool) → list_all t (ready_code f g p c w a b z T) ≡ true
  ready_passes f g =
      both t (clear_code w b z) (number_code f p w a b z ++ divisor_code g c w b T) clear_passes
      (both t (number_code f p w a b z) (divisor_code g c w b T)
      (both t (mark_code f p a) (turned_code p (further w (2 * b + 2 + z)) a ++ (Plain (Mov 30 31) ∷ [])) (mark_passes f p a some h.from)
      (both t (turned_code p (further w (2 * b + 2 + z)) a) (Plain (Mov 30 31) ∷ [])
      (turned_passes p (further w (2 * b + 2 + z)) a h.from h.number_in) h.move))
      (both t (mark_code g c b) (turned_code c w b ++ (Plain (Eor 31 30) ∷ Plain (Ldi 30 T) ∷ [])) (mark_passes g c b many h.by_)
      (both t (turned_code c w b) (Plain (Eor 31 30) ∷ Plain (Ldi 30 T) ∷ []) (turned_passes c w b h.by_ h.divisor_in) h.cross)))

  rotate_passes : list_all t (rotate_code (remainder_at w b) (suc b)) ≡ true
  rotate_passes =
      let r = remainder_at w b in
      chain_passes t (rotate_byte r) (suc b)
      (λ i l. both t (take_byte r i) (Plain (Adc 0 0) ∷ put_byte 0 r i) (h.rest_out i l)
      (both t (Plain (Adc 0 0) ∷ []) (put_byte 0 r i) h.carry (h.rest_in i l)))

  turn_passes : list_all t (turn_code w b n) ≡ true
  turn_passes =
      let r = remainder_at w b in
      let x = number_at w b in
      both t (bring_code w r x (suc b) n) (skip_code w (suc b) ++ take_code w r x (suc b))
      (both t (operate_code Sum x x n) (rotate_code r (suc b) ++ compare_code w r (suc b))
      (chain_passes t (operate_byte Sum x x) n h.double)
      (both t (rotate_code r (suc b)) (compare_code w r (suc b)) rotate_passes (chain_passes t (compare_byte w r) (suc b) h.compare)))
      (both t (skip_code w (suc b)) (take_code w r x (suc b)) h.skip
      (both t (operate_code Difference w r (suc b)) (lowest_code x)
      (chain_passes t (operate_byte Difference w r) (suc b) h.differ) h.lowest))

  quotient_passes : (f g : Bool) → list_all t (ready_code f g p c w a b z T ++ solve_code to mode w q b n m k) ≡ true
  quotient_passes f g =
      let x = number_at w b in
      let tail = Plain (Dec 30) ∷ Plain (Brbs 2 (pos 1)) ∷ Plain (Rjmp (negsuc (turn_words w b n + 2))) ∷ [] in
      both t (ready_code f g p c w a b z T) (solve_code to mode w q b n m k) (ready_passes f g)
      (both t (turns_code w b n) (finish_code to mode x q m k)
      (both t (Plain (Rjmp (pos (turn_words w b n))) ∷ []) (turn_code w b n ++ tail) h.jump
      (both t (turn_code w b n) tail turn_passes h.again))
      (both t (turned_code x x m) (clamp_code to mode x q m k) (turned_passes x x m h.out h.back) h.clamp))

-- ---- fields

-- places further up
pub further_places : (sizes : Sizes) (w : Location) (i n m : ℕ) → i + n ≤ m → HasPlaces sizes w m → HasPlaces sizes (further w i) n
further_places sizes (InRegisters r) i n m l h = omega (arith, h)
further_places sizes (InMemory o k) i n m l h =
    λ j x. subst (λ y. is_offset sizes o y ≡ true) (let e : k + (i + j) ≡ k + i + j = omega arith in e) (h (i + j) (omega arith))

instruction_valid : (sizes : Sizes) (op : Operator) (i d r : ℕ) → (nat_lt d 32 ≡ true) → (nat_lt r 32 ≡ true)
    → is_valid_item sizes (Plain (instruction op i d r)) ≡ true
instruction_valid sizes Sum zero d r e f = rw (e, f) refl
instruction_valid sizes Sum (suc i) d r e f = rw (e, f) refl
instruction_valid sizes Difference zero d r e f = rw (e, f) refl
instruction_valid sizes Difference (suc i) d r e f = rw (e, f) refl
instruction_valid sizes BitAnd i d r e f = rw (e, f) refl
instruction_valid sizes BitOr i d r e f = rw (e, f) refl
instruction_valid sizes BitXor i d r e f = rw (e, f) refl

pub operate_valid : (sizes : Sizes) (op : Operator) (p q : Location) (n i : ℕ) → HasPlaces sizes p n → HasPlaces sizes q n → i < n
    → list_all (is_valid_item sizes) (operate_byte op p q i) ≡ true
operate_valid sizes op (InRegisters r) (InRegisters s) n i h g l =
    let x : r + i < 32 = omega (arith, h, l) in
    let y : s + i < 32 = omega (arith, g, l) in
    rw (instruction_valid sizes op i (s + i) (r + i) (lt-ltb (s + i) 32 y) (lt-ltb (r + i) 32 x)) refl
operate_valid sizes op (InMemory o k) (InRegisters s) n i h g l =
    let y : s + i < 32 = omega (arith, g, l) in
    rw (h i l, instruction_valid sizes op i (s + i) 0 (lt-ltb (s + i) 32 y) refl) refl
operate_valid sizes op (InRegisters r) (InMemory o k) n i h g l =
    let x : r + i < 32 = omega (arith, h, l) in
    rw (g i l, instruction_valid sizes op i 0 (r + i) refl (lt-ltb (r + i) 32 x)) refl
operate_valid sizes op (InMemory o k) (InMemory o' k') n i h g l =
    rw (h i l, g i l, instruction_valid sizes op i 0 1 refl refl) refl

compares_valid : (sizes : Sizes) (i d r : ℕ) → (nat_lt d 32 ≡ true) → (nat_lt r 32 ≡ true)
    → is_valid_item sizes (Plain (compares i d r)) ≡ true
compares_valid sizes zero d r e f = rw (e, f) refl
compares_valid sizes (suc i) d r e f = rw (e, f) refl

pub compare_valid : (sizes : Sizes) (p q : Location) (n i : ℕ) → HasPlaces sizes p n → HasPlaces sizes q n → i < n
    → list_all (is_valid_item sizes) (compare_byte p q i) ≡ true
compare_valid sizes (InRegisters r) (InRegisters s) n i h g l =
    let x : r + i < 32 = omega (arith, h, l) in
    let y : s + i < 32 = omega (arith, g, l) in
    rw (compares_valid sizes i (s + i) (r + i) (lt-ltb (s + i) 32 y) (lt-ltb (r + i) 32 x)) refl
compare_valid sizes (InMemory o k) (InRegisters s) n i h g l =
    let y : s + i < 32 = omega (arith, g, l) in
    rw (h i l, compares_valid sizes i (s + i) 0 (lt-ltb (s + i) 32 y) refl) refl
compare_valid sizes (InRegisters r) (InMemory o k) n i h g l =
    let x : r + i < 32 = omega (arith, h, l) in
    rw (g i l, compares_valid sizes i 0 (r + i) refl (lt-ltb (r + i) 32 x)) refl
compare_valid sizes (InMemory o k) (InMemory o' k') n i h g l =
    rw (h i l, g i l, compares_valid sizes i 0 1 refl refl) refl

lowest_valid : (sizes : Sizes) (x : Location) (n : ℕ) → 1 ≤ n → HasPlaces sizes x n
    → list_all (is_valid_item sizes) (lowest_code x) ≡ true
lowest_valid sizes (InRegisters r) n l h = let y : r + 0 < 32 = omega (arith, h, l) in rw (lt-ltb (r + 0) 32 y) refl
lowest_valid sizes (InMemory o k) n l h = rw (h 0 l) refl

take_most : (w : Location) (m : ℕ) → take_words w m ≤ 7 * m + 5
take_most (InRegisters r) m = omega arith
take_most (InMemory o k) m = omega arith

pub quotients_are_valid : QuotientsAreValid
quotients_are_valid sizes f g to mode p c q w a b k hf fb hg gb ht tb hp hc hq hw =
    let T = bits_of f g to a in
    let n = number_bytes a T in
    let m = quotient_bytes T in
    let la = bytes_of f.bits f.frac a (operand_sized f hf) fb in
    let lb = bytes_of g.bits g.frac b (operand_sized g hg) gb in
    let lk = bytes_of to.bits to.frac k (format_sized to ht) tb in
    let a1 = la.0 in
    let a8 = la.1 in
    let b1 = lb.0 in
    let b8 = lb.1 in
    let few = few_bits f g to a hf fb hg ht in
    let ln : n ≤ 13 = omega (arith, few, a8) in
    let lm : m ≤ n = omega arith in
    let two : 2 * b + 2 + (n - a) + a ≤ 40 = omega (arith, ln, b8) in
    let hx = further_places sizes w (2 * b + 2) n 40 (omega (arith, ln, b8)) hw in
    let hm = further_places sizes w (2 * b + 2) m 40 (omega (arith, ln, lm, b8)) hw in
    let hr = further_places sizes w (suc b) (suc b) 40 (omega (arith, b8)) hw in
    let hd = part_places sizes w (suc b) 40 (omega (arith, b8)) hw in
    let ha = further_places sizes w (2 * b + 2 + (n - a)) a 40 two hw in
    let words = turn_most w b n in
    let taken = take_most w (suc b) in
    quotient_passes (is_valid_item sizes) to mode p c q w a b k n m (n - a) T a1 b1
    (record {
      from = λ i l. take_valid sizes p a i hp l;
      by_ = λ i l. take_valid sizes c b i hc l;
      sign = refl;
      none = refl;
      move = refl;
      cross = rw (lt-ltb T 256 (omega (arith, few))) refl;
      less = less_valid sizes;
      fill = λ i l. put_valid sizes 31 w 40 i refl hw (omega (arith, l, two));
      number_in = λ i l. put_valid sizes 0 (further w (2 * b + 2 + (n - a))) a i refl ha l;
      divisor_in = λ i l. put_valid sizes 0 w 40 i refl hw (omega (arith, l, b8));
      double = λ i l. operate_valid sizes Sum (number_at w b) (number_at w b) n i hx hx l;
      rest_out = λ i l. take_valid sizes (remainder_at w b) (suc b) i hr l;
      carry = refl;
      rest_in = λ i l. put_valid sizes 0 (remainder_at w b) (suc b) i refl hr l;
      compare = λ i l. compare_valid sizes w (remainder_at w b) (suc b) i hd hr l;
      skip = rw (lt-ltb (take_words w (suc b)) 2048 (omega (arith, taken, b8))) refl;
      differ = λ i l. operate_valid sizes Difference w (remainder_at w b) (suc b) i hd hr l;
      lowest = lowest_valid sizes (number_at w b) n (omega arith) hx;
      jump = rw (lt-ltb (turn_words w b n) 2048 (omega (arith, words, ln, b8))) refl;
      again = rw (lt-ltb (turn_words w b n + 2) 2048 (omega (arith, words, ln, b8))) refl;
      out = λ i l. take_valid sizes (number_at w b) m i hm l;
      back = λ i l. put_valid sizes 0 (number_at w b) m i refl hm l;
      clamp = clamps_are_valid sizes to mode (number_at w b) q m k (omega arith) lk.0 hm hq;
    })
    f.signed g.signed

-- ---- labels

passes_plain : (t : AsmItem → Bool) (to : Format) (mode : Mode) (p c q w : Location) (a b k n m z T : ℕ) → PassesPlain t
    → list_all t (clamp_code to mode (number_at w b) q m k) ≡ true → Passes t to mode p c q w a b k n m z T
passes_plain t to mode p c q w a b k n m z T h clamp = record {
  from = λ i l. takes p i;
  by_ = λ i l. takes c i;
  sign = rw (h.plain (Add 0 0), h.plain (Sbc 31 31)) refl;
  none = rw (h.plain (Eor 31 31)) refl;
  move = rw (h.plain (Mov 30 31)) refl;
  cross = rw (h.plain (Eor 31 30), h.plain (Ldi 30 T)) refl;
  less = λ i. rw (h.plain (Eor 0 31), h.plain (instruction Difference i 0 31)) refl;
  fill = λ i l. puts 31 w i;
  number_in = λ i l. puts 0 (further w (2 * b + 2 + z)) i;
  divisor_in = λ i l. puts 0 w i;
  double = λ i l. operates Sum (number_at w b) (number_at w b) i;
  rest_out = λ i l. takes (remainder_at w b) i;
  carry = rw (h.plain (Adc 0 0)) refl;
  rest_in = λ i l. puts 0 (remainder_at w b) i;
  compare = λ i l. compared w (remainder_at w b) i;
  skip = rw (h.plain (Brbc 0 (pos 1)), h.plain (Rjmp (pos (take_words w (suc b))))) refl;
  differ = λ i l. operates Difference w (remainder_at w b) i;
  lowest = lowered (number_at w b);
  jump = rw (h.plain (Rjmp (pos (turn_words w b n)))) refl;
  again = rw (h.plain (Dec 30), h.plain (Brbs 2 (pos 1)), h.plain (Rjmp (negsuc (turn_words w b n + 2)))) refl;
  out = λ i l. takes (number_at w b) i;
  back = λ i l. puts 0 (number_at w b) i;
  clamp = clamp;
}
  where
    takes : (p : Location) (i : ℕ) → list_all t (take_byte p i) ≡ true
    takes (InRegisters r) i = rw (h.plain (Mov 0 (r + i))) refl
    takes (InMemory o j) i = rw (h.load 0 o (j + i)) refl

    puts : (s : ℕ) (p : Location) (i : ℕ) → list_all t (put_byte s p i) ≡ true
    puts s (InRegisters r) i = rw (h.plain (Mov (r + i) s)) refl
    puts s (InMemory o j) i = rw (h.store o (j + i) s) refl

    operates : (op : Operator) (p q : Location) (i : ℕ) → list_all t (operate_byte op p q i) ≡ true
    operates op (InRegisters r) (InRegisters s) i = rw (h.plain (instruction op i (s + i) (r + i))) refl
    operates op (InMemory o j) (InRegisters s) i = rw (h.load 0 o (j + i), h.plain (instruction op i (s + i) 0)) refl
    operates op (InRegisters r) (InMemory o j) i = rw (h.load 0 o (j + i), h.plain (instruction op i 0 (r + i)), h.store o (j + i) 0) refl
    operates op (InMemory o j) (InMemory o' j') i =
        rw (h.load 1 o (j + i), h.load 0 o' (j' + i), h.plain (instruction op i 0 1), h.store o' (j' + i) 0) refl

    compared : (p q : Location) (i : ℕ) → list_all t (compare_byte p q i) ≡ true
    compared (InRegisters r) (InRegisters s) i = rw (h.plain (compares i (s + i) (r + i))) refl
    compared (InMemory o j) (InRegisters s) i = rw (h.load 0 o (j + i), h.plain (compares i (s + i) 0)) refl
    compared (InRegisters r) (InMemory o j) i = rw (h.load 0 o (j + i), h.plain (compares i 0 (r + i))) refl
    compared (InMemory o j) (InMemory o' j') i = rw (h.load 1 o (j + i), h.load 0 o' (j' + i), h.plain (compares i 0 1)) refl

    lowered : (x : Location) → list_all t (lowest_code x) ≡ true
    lowered (InRegisters r) = rw (h.plain (Inc (r + 0))) refl
    lowered (InMemory o j) = rw (h.load 0 o (j + 0), h.plain (Inc 0), h.store o (j + 0) 0) refl

pub quotients_use_no_label : QuotientsUseNoLabel
quotients_use_no_label items f g to mode p c q w a b k some many most =
    let T = bits_of f g to a in
    let n = number_bytes a T in
    let m = quotient_bytes T in
    let t = λ (item : AsmItem). is_placed items (used_label item) in
    quotient_passes t to mode p c q w a b k n m (n - a) T some many
    (passes_plain t to mode p c q w a b k n m (n - a) T (record { plain = λ i. refl; load = λ d o j. refl; store = λ o j r. refl })
    (clamps_use_no_label items to mode (number_at w b) q m k (omega arith) most)) f.signed g.signed

pub quotients_place_no_label : QuotientsPlaceNoLabel
quotients_place_no_label f g to mode p c q w a b k l some many most =
    let T = bits_of f g to a in
    let n = number_bytes a T in
    let m = quotient_bytes T in
    let x = number_at w b in
    let number : AsmItem → ℕ = λ item. cond (is_label l item) 1 0 in
    let t : AsmItem → Bool = λ item. number item == 0 in
    let none_there : count_by (is_label l) (clamp_code to mode x q m k) ≡ 0 = clamps_place_no_label to mode x q m k l (omega arith) most in
    let clamp : list_all t (clamp_code to mode x q m k) ≡ true =
    sym (sum_by-zero number (clamp_code to mode x q m k)) ∙ ap (λ (i : ℕ). i == 0) none_there in
    let none = quotient_passes t to mode p c q w a b k n m (n - a) T some many (passes_plain t to mode p c q w a b k n m (n - a) T
    (record { plain = λ i. refl; load = λ d o j. refl; store = λ o j r. refl }) clamp) f.signed g.signed in
    eqb-true (count_by (is_label l) (divide_code f g to mode p c q w a b k)) 0
    (sum_by-zero number (divide_code f g to mode p c q w a b k) ∙ none)
