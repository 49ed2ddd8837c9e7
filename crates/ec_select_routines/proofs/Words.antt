-- The words of routines and of their calls.
use Rattle.std.proofs.Common.{◌≡◌, ℕ, ◌+◌, ◌*◌, ◌≤◌, List, [], ◌∷◌, ◌++◌, arith}
use Rattle.std.proofs.lemmas.List.Sums.{sum_by-append}
use Rattle.ec_isa.specs.declared.instructions.Instr.TheVariants.{Ret}
use Rattle.ec_asm.specs.declared.items.AsmItem.{AsmItem}
use Rattle.ec_asm.specs.declared.items.AsmItem.TheVariants.{Plain, Label, CallTo}
use Rattle.ec_asm.specs.declared.pieces.Location.{Location}
use Rattle.ec_asm.specs.declared.pieces.Location.TheVariants.{InRegisters, InMemory}
use Rattle.ec_asm.specs.Items.{code_words, item_words}
use Rattle.ec_asm.specs.Pieces.{copy_byte, copy_code}
use Rattle.ec_asm.proofs.ItemWords.{chain_words_below, words_cons}
use Rattle.ec_select_fixed.specs.FixedLaws.{FixedBinariesHave, FixedUnariesHave, FixedConversionsHave}
use Rattle.ec_routines.specs.Routines.{routine_code}
use Rattle.ec_select_routines.specs.Codes.{work_place, answer_place, first_place, second_place, binary_body, unary_body}
use Rattle.ec_select_routines.specs.Codes.{conversion_body}
use Rattle.ec_select_routines.specs.Laws.{BinaryRoutinesHave, UnaryRoutinesHave, ConversionRoutinesHave, CallsHave}

byte_words : (p q : Location) (i : ℕ) → code_words (copy_byte p q i) ≤ 4
byte_words (InRegisters a) (InRegisters b) i = omega arith
byte_words (InMemory o k) (InRegisters b) i = omega arith
byte_words (InRegisters a) (InMemory o k) i = omega arith
byte_words (InMemory o k) (InMemory u j) i = omega arith

copy_words : (p q : Location) (n : ℕ) → code_words (copy_code p q n) ≤ n * 4
copy_words p q n = chain_words_below (copy_byte p q) n 4 (byte_words p q)

-- the label has none, and the return one
routine_words : (l : ℕ) (body : List AsmItem) → code_words (routine_code l body) ≡ code_words body + 1
routine_words l body =
    let a = words_cons (Label l) (body ++ Plain Ret ∷ []) in
    let b = sum_by-append item_words body (Plain Ret ∷ []) in
    omega (arith, a, b)

pub binary_routines_have : FixedBinariesHave → BinaryRoutinesHave
binary_routines_have short op ty aty bty mode l types =
    let a = routine_words l (binary_body op ty aty bty mode) in
    let b = short op ty aty bty mode first_place second_place answer_place work_place types in
    omega (arith, a, b)

pub unary_routines_have : FixedUnariesHave → UnaryRoutinesHave
unary_routines_have short op ty mode l types =
    let a = routine_words l (unary_body op ty mode) in
    let b = short op ty mode first_place answer_place work_place types in
    omega (arith, a, b)

pub conversion_routines_have : FixedConversionsHave → ConversionRoutinesHave
conversion_routines_have short ty aty mode l types =
    let a = routine_words l (conversion_body ty aty mode) in
    let b = short ty aty mode first_place answer_place work_place types in
    omega (arith, a, b)

pub calls_have : CallsHave
calls_have = record {
  one = λ p n l. (let a = copy_words p first_place n in
      let b = sum_by-append item_words (copy_code p first_place n) (CallTo l ∷ []) in
      omega (arith, a, b));
  two = λ p q n m l. (let a = copy_words p first_place n in
      let b = copy_words q second_place m in
      let c = sum_by-append item_words (copy_code p first_place n) (copy_code q second_place m ++ CallTo l ∷ []) in
      let d = sum_by-append item_words (copy_code q second_place m) (CallTo l ∷ []) in
      omega (arith, a, b, c, d));
}
