-- The words of the code of products.
use Rattle.std.proofs.Common.{◌≡◌, ℕ, ◌+◌, ◌≤◌, Bool, true, false, [], ◌∷◌, ◌++◌, arith}
use Rattle.std.proofs.lemmas.List.Sums.{sum_by-append}
use Rattle.ec_isa.specs.declared.instructions.Instr.TheVariants.{Mul}
use Rattle.ec_asm.specs.declared.items.AsmItem.TheVariants.{Plain}
use Rattle.ec_asm.specs.declared.pieces.Location.{Location}
use Rattle.ec_asm.specs.declared.pieces.Location.TheVariants.{InRegisters, InMemory}
use Rattle.ec_asm.specs.Items.{code_words, item_words}
use Rattle.ec_asm.specs.Pieces.{copy_code}
use Rattle.ec_asm.proofs.ItemWords.{chain_words_below}
use Rattle.ec_select_products.specs.Products.{factors_code, less_code, corrected_code, multiply_code, put_byte, puts_code}
use Rattle.ec_select_products.specs.Laws.{ProductsHaveWords}

copy_words : (p : Location) (r : ℕ) → code_words (copy_code p (InRegisters r) 1) ≤ 2
copy_words (InRegisters a) r = omega arith
copy_words (InMemory o k) r = omega arith

less_words : (signed : Bool) (f o : ℕ) → code_words (less_code signed f o) ≤ 2
less_words true f o = omega arith
less_words false f o = omega arith

put_words : (p : Location) (i : ℕ) → code_words (put_byte p i) ≤ 2
put_words (InRegisters r) i = omega arith
put_words (InMemory o k) i = omega arith

factors_words : (p q : Location) → code_words (factors_code p q) ≤ 5
factors_words p q =
    let a = copy_words p 30 in
    let b = copy_words q 31 in
    omega (
      arith,
      sum_by-append item_words (copy_code p (InRegisters 30) 1) (copy_code q (InRegisters 31) 1 ++ Plain (Mul 30 31) ∷ []),
      sum_by-append item_words (copy_code q (InRegisters 31) 1) (Plain (Mul 30 31) ∷ []),
      a,
      b,
    )

pub products_have_words : ProductsHaveWords
products_have_words sx sz p q to n =
    let a = factors_words p q in
    let b = less_words sx 30 31 in
    let c = less_words sz 31 30 in
    let d = chain_words_below (put_byte to) n 2 (put_words to) in
    omega (
      arith,
      sum_by-append item_words (multiply_code sx sz p q) (puts_code to n),
      sum_by-append item_words (factors_code p q) (corrected_code sx sz),
      sum_by-append item_words (less_code sx 30 31) (less_code sz 31 30),
      a,
      b,
      c,
      d,
    )
