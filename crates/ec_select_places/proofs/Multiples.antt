-- The code by which a number of elements is multiplied, by their size.
use Rattle.std.proofs.Common.{◌≡◌, ℕ, ◌<◌, ◌==◌, Bool, true, false, List, refl}
use Rattle.std.specs.Prelude.{if◌then◌else◌, nat_lt, Some, None}
use Rattle.std.proofs.lemmas.Bool.{ltb-true}
use Rattle.ec_asm.specs.declared.items.AsmItem.{AsmItem}
use Rattle.ec_select_places.specs.Steps.{product_code, byte_product_code, doublings_code, scale_by, scale_code}

-- what holds of each of them holds of that for a size
pub of_each : (P : List AsmItem → Type 0) (size : ℕ) → P (doublings_code 0) → P (doublings_code 1) → P (doublings_code 2)
    → P (doublings_code 3) → (size < 256 → P (byte_product_code size)) → P (product_code size) → P (scale_code size)
of_each P size none one two three byte word = by_tests (size == 1) (size == 2) (size == 4) (size == 8)
  where
    by_tests : (b c d f : Bool)
        → P (scale_by (if b then Some 0 else (if c then Some 1 else (if d then Some 2 else (if f then Some 3 else None)))) size)
    by_tests true c d f = none
    by_tests false true d f = one
    by_tests false false true f = two
    by_tests false false false true = three
    by_tests false false false false = by_width (nat_lt size 256) refl
      where
        by_width : (b : Bool) → nat_lt size 256 ≡ b → P (if b then byte_product_code size else product_code size)
        by_width true r = byte (ltb-true size 256 r)
        by_width false r = word
