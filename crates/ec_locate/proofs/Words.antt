-- The words of items, and items that have words.
use Rattle.std.proofs.Common.{◌≡◌, ◌*◌, ◌≤◌, true, ◌&&◌, nat_le, List, [], ◌∷◌, length, refl, arith}
use Rattle.std.specs.Prelude.{nat_lt}
use Rattle.std.proofs.lemmas.Bool.{and_parts}
use Rattle.ec_asm.proofs.ItemWords.{item_below, words_cons}
use Rattle.ec_asm.specs.Items.{code_words}
use Rattle.ec_asm.specs.Valid.{Sizes, is_offset, is_valid_item}
use Rattle.ec_asm.specs.declared.items.AsmItem.{AsmItem}
use Rattle.ec_asm.specs.declared.items.AsmItem.TheVariants.{Plain, Label, JumpTo, CallTo, BranchTo, LoadPart, LoadObj, StoreObj}
use Rattle.ec_locate.specs.Code.{has_words}

-- an item has three words at most
pub code_below : (items : List AsmItem) → code_words items ≤ 3 * length items
code_below [] = omega arith
code_below (i ∷ is) =
    let more = words_cons i is in
    let here = item_below i in
    let rest = code_below is in
    omega (arith, more, here, rest)

-- a valid item has words
pub valid_words : (sizes : Sizes) (item : AsmItem) → is_valid_item sizes item ≡ true → has_words item ≡ true
valid_words sizes (Plain i) h = h
valid_words sizes (Label l) h = refl
valid_words sizes (JumpTo l) h = refl
valid_words sizes (CallTo l) h = refl
valid_words sizes (BranchTo set flag l) h = h
valid_words sizes (LoadPart d o k part) h = (and_parts (nat_le 16 d && nat_lt d 32 && nat_le part 2) (is_offset sizes o k) h).0
valid_words sizes (LoadObj d o k) h = (and_parts (nat_lt d 32) (is_offset sizes o k) h).0
valid_words sizes (StoreObj o k r) h = (and_parts (nat_lt r 32) (is_offset sizes o k) h).0
