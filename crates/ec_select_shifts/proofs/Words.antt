-- The words of the code of shifts.
use Rattle.std.proofs.Common.{◌≡◌, ℕ, zero, suc, Bool, true, false, ◌++◌, refl, arith}
use Rattle.std.proofs.lemmas.List.Sums.{sum_by-append}
use Rattle.ec_asm.specs.declared.pieces.Location.{Location}
use Rattle.ec_asm.specs.declared.pieces.Location.TheVariants.{InRegisters, InMemory}
use Rattle.ec_asm.specs.declared.pieces.Operator.TheVariants.{Sum}
use Rattle.ec_asm.specs.Items.{code_words, item_words}
use Rattle.ec_asm.specs.Pieces.{operate_byte, halve_byte}
use Rattle.ec_asm.proofs.ItemWords.{chain_words, sum_words, sum_words_far}
use Rattle.ec_select_shifts.specs.declared.shifts.Direction.{Direction}
use Rattle.ec_select_shifts.specs.declared.shifts.Direction.TheVariants.{Left, Right}
use Rattle.ec_select_shifts.specs.Shifts.{turn_code, turn_words, jump_code, end_code}
use Rattle.ec_select_shifts.specs.Laws.{ShiftsHaveWords}

half_words : (signed : Bool) (r n i : ℕ) → code_words (halve_byte signed (InRegisters r) n i) ≡ 1
half_words true r n zero = refl
half_words false r n zero = refl
half_words true r n (suc i) = refl
half_words false r n (suc i) = refl

half_words_far : (signed : Bool) (o k n i : ℕ) → code_words (halve_byte signed (InMemory o k) n i) ≡ 5
half_words_far true o k n zero = refl
half_words_far false o k n zero = refl
half_words_far true o k n (suc i) = refl
half_words_far false o k n (suc i) = refl

pub turn_has_words : (s : Direction) (p : Location) (n : ℕ) → code_words (turn_code s p n) ≡ turn_words s p n
turn_has_words Left (InRegisters r) n = chain_words (operate_byte Sum (InRegisters r) (InRegisters r)) n 1 (sum_words r)
turn_has_words Left (InMemory o k) n = chain_words (operate_byte Sum (InMemory o k) (InMemory o k)) n 7 (sum_words_far o k)
turn_has_words (Right signed) (InRegisters r) n = chain_words (halve_byte signed (InRegisters r) n) n 1 (half_words signed r n)
turn_has_words (Right signed) (InMemory o k) n = chain_words (halve_byte signed (InMemory o k) n) n 5 (half_words_far signed o k n)

pub shifts_have_words : ShiftsHaveWords
shifts_have_words s p n =
    let t = turn_has_words s p n in
    omega (
      arith,
      sum_by-append item_words (jump_code s p n) (turn_code s p n ++ end_code s p n),
      sum_by-append item_words (turn_code s p n) (end_code s p n),
      t,
    )
