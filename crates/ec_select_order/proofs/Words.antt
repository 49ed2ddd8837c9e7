-- The words of the code of relations.
use Rattle.std.proofs.Common.{ℕ, zero, suc, ◌≤◌, Bool, arith}
use Rattle.std.proofs.lemmas.List.Sums.{sum_by-append}
use Rattle.ec_asm.specs.declared.pieces.Location.{Location}
use Rattle.ec_asm.specs.declared.pieces.Location.TheVariants.{InRegisters, InMemory}
use Rattle.ec_asm.specs.Items.{code_words, item_words}
use Rattle.ec_asm.specs.Pieces.{compare_byte, compare_code}
use Rattle.ec_asm.proofs.ItemWords.{chain_words_below}
use Rattle.ec_select_order.specs.declared.relations.Relation.{Relation}
use Rattle.ec_select_order.specs.declared.relations.Relation.TheVariants.{Less, NotLess, Equal, NotEqual}
use Rattle.ec_select_order.specs.Relations.{truth_code}
use Rattle.ec_select_order.specs.Laws.{RelationsHaveWords}

byte_words : (p q : Location) (i : ℕ) → code_words (compare_byte p q i) ≤ 5
byte_words (InRegisters a) (InRegisters b) zero = omega arith
byte_words (InRegisters a) (InRegisters b) (suc i) = omega arith
byte_words (InMemory o k) (InRegisters b) zero = omega arith
byte_words (InMemory o k) (InRegisters b) (suc i) = omega arith
byte_words (InRegisters a) (InMemory o k) zero = omega arith
byte_words (InRegisters a) (InMemory o k) (suc i) = omega arith
byte_words (InMemory o k) (InMemory u j) zero = omega arith
byte_words (InMemory o k) (InMemory u j) (suc i) = omega arith

truth_words : (r : Relation) (signed : Bool) → code_words (truth_code r signed) ≤ 3
truth_words Less signed = omega arith
truth_words NotLess signed = omega arith
truth_words Equal signed = omega arith
truth_words NotEqual signed = omega arith

pub relations_have_words : RelationsHaveWords
relations_have_words r signed left right n =
    let c = chain_words_below (compare_byte right left) n 5 (byte_words right left) in
    let t = truth_words r signed in
    omega (arith, sum_by-append item_words (compare_code right left n) (truth_code r signed), c, t)
