-- A text is read as a line exactly where it is that line's.
use Rattle.std.proofs.Common.{◌≡◌, ◌↔◌, ◌<◌, ℕ, ◌+◌, ◌*◌, ◌/◌, ◌%◌, Bool, true, false, List, drop, Option, Some, None, Result, Ok, Err}
use Rattle.std.proofs.Common.{refl, sym, ap, ◌∙◌, subst, arith}
use Rattle.std.specs.Prelude.{bytes_eq, nat_le, if◌then◌else◌, IfOk, slice_index}
use Rattle.std.specs.Char.{digit_value, is_digit}
use Rattle.std.specs.Cmp.Lexicographic.{same_text}
use Rattle.std.proofs.lemmas.Bool.{ltb-true}
use Rattle.ec_space.specs.declared.seq.NoMemory.{NoMemory}
use Rattle.ec_isa.specs.declared.instructions.Instr.{Instr}
use Rattle.ec_hex.specs.Bytes.{digit}
use Rattle.ec_list.specs.Texts.{text, instruction_text}
use Rattle.ec_list.specs.Reading.{instruction_of}
use Rattle.ec_list.specs.Lines.{item_text, line_text, IsInRange}
use Rattle.ec_list.specs.ReadingLines.{digit_guess, address_guess, item_by, item_guess, line_guess, line_of, IsLineOf}
use Rattle.ec_list.specs.declared.line.Item.{Item}
use Rattle.ec_list.specs.declared.line.Item.TheVariants.{Byte, Instruction}
use Rattle.ec_list.specs.declared.line.Line.{Line}
use Rattle.ec_list.proofs.Patterns.{pattern_letter}
use Rattle.ec_list.proofs.Rows.{sound}
use Rattle.ec_list.proofs.Exact.{chosen, itself, instruction_of_is}

digit_value-digit : (n : ℕ) → n < 16 → digit_value (digit n) ≡ n
digit_value-digit n below = grind arith

is_digit-digit : (n : ℕ) → n < 16 → is_digit (digit n) 16 ≡ true
is_digit-digit n below = rw (digit_value-digit n below) (grind arith)

digit_back : (n : ℕ) → n < 16 → digit_guess (digit n) ≡ n
digit_back n below = rw (is_digit-digit n below) (digit_value-digit n below)

pub digit_below : (c : ℕ) → digit_guess c < 16
digit_below c = by_test (is_digit c 16) (λ h. ltb-true (digit_value c) 16 h)
  where
    by_test : (b : Bool) → (b ≡ true → digit_value c < 16) → (if b then digit_value c else 0) < 16
    by_test true h = h refl
    by_test false h = omega arith

-- ---- the item

item_back : (item : Item) → IsInRange item → item_guess (item_text item) ≡ item
item_back (Instruction i) h = ap (λ o. item_by o (instruction_text i)) ((instruction_of_is (instruction_text i) i).1 (h, refl))
item_back (Byte b) h = by_read (instruction_of (item_text (Byte b))) refl
  where
    by_read : (o : Option Instr) → instruction_of (item_text (Byte b)) ≡ o → item_by o (item_text (Byte b)) ≡ Byte b
    by_read None e =
        let high = digit_back (b / 16) (omega (arith, h)) in
        let low = digit_back (b % 16) (omega arith) in
        let same : 16 * (b / 16) + b % 16 ≡ b = omega arith in rw (high, low) (ap Byte same)
    by_read (Some i) e =
        let c = (instruction_of_is (item_text (Byte b)) i).0 e in
        let first : nat_le 65 46 ≡ true =
        ap (λ t. nat_le 65 (slice_index t 0)) c.1 ∙ pattern_letter (text i).pattern (text i).first (text i).second (sound i) in cc

item_in_range : (o : Option Instr) (line : List ℕ) → instruction_of line ≡ o → IsInRange (item_by o line)
item_in_range (Some i) line e = ((instruction_of_is line i).0 e).0
item_in_range None line e =
    let a = digit_below (slice_index line 6) in let b = digit_below (slice_index line 7) in omega (arith, a, b)

-- ---- the line

abbrev line : ℕ → Item → Line
line at item = record { at = at; item = item }

line_same : (a b : ℕ) (x y : Item) → a ≡ b → x ≡ y → line a x ≡ line b y
line_same a b x y e f = ap (λ z. line z x) e ∙ ap (λ z. line b z) f

guess_back : (l : Line) → l.at < 1048576 → IsInRange l.item → line_guess (line_text l) ≡ l
guess_back l small h =
    let a = digit_back (l.at / 65536 % 16) (omega arith) in
    let b = digit_back (l.at / 4096 % 16) (omega arith) in
    let c = digit_back (l.at / 256 % 16) (omega arith) in
    let d = digit_back (l.at / 16 % 16) (omega arith) in
    let e = digit_back (l.at % 16) (omega arith) in
    let same : 65536 * (l.at / 65536 % 16) + 4096 * (l.at / 4096 % 16) + 256 * (l.at / 256 % 16) + 16 * (l.at / 16 % 16)
    + l.at % 16 ≡ l.at = omega (arith, small) in
    let address : address_guess (line_text l) ≡ l.at = rw (a, b, c, d, e) same in
    line_same (address_guess (line_text l)) l.at (item_guess (item_text l.item)) l.item address (item_back l.item h)

pub line_is : (text : List ℕ) (l : Line) → (line_of text ≡ Some l) ↔ IsLineOf text l
line_is text l = (forth, back)
  where
    forth : line_of text ≡ Some l → IsLineOf text l
    forth h =
        let c = chosen (bytes_eq (line_text (line_guess text)) text) l (line_guess text) h in
        let guessed : IsLineOf text (line_guess text) = record {
          address =
              let a = digit_below (slice_index text 0) in let b = digit_below (slice_index text 1) in
              let d = digit_below (slice_index text 2) in
              let e = digit_below (slice_index text 3) in let f = digit_below (slice_index text 4) in omega (arith, a, b, d, e, f);
          range = item_in_range (instruction_of (drop 7 text)) (drop 7 text) refl;
          text_is = sym (same_text (line_text (line_guess text)) text (sym c.0));
        } in
        subst (IsLineOf text) c.1 guessed

    back : IsLineOf text l → line_of text ≡ Some l
    back h =
        let guessed : line_guess text ≡ l = ap line_guess h.text_is ∙ guess_back l h.address h.range in
        let equal : bytes_eq (line_text l) text ≡ true = ap (λ t. bytes_eq (line_text l) t) h.text_is ∙ itself (line_text l) in
        subst (λ m. (if bytes_eq (line_text m) text then Some m else None) ≡ Some l) (sym guessed) (rw equal refl)

-- as clauses say it
pub exact_of : (r : Result (Option Line) NoMemory) (text : List ℕ) → IfOk r (λ o. o ≡ line_of text)
    → IfOk r (λ o. (l : Line) → (o ≡ Some l) ↔ IsLineOf text l)
exact_of (Ok o) text h = λ l. rw h (line_is text l)
exact_of (Err x) text h = h
