-- The code of a store to a named object. A known number is made in R30 byte by byte, and a byte that is that of the one
-- before is there.
use Rattle.std.specs.Prelude.{ℕ, ◌+◌, ◌-◌, ◌==◌, nat_lt, Bool, ◌&&◌, if◌then◌else◌, ℤ, List, [], ◌∷◌, Option, Some, None}
use Rattle.ec_isa.specs.declared.instructions.Instr.TheVariants.{Ldi, Mov}
use Rattle.ec_asm.specs.declared.items.AsmItem.{AsmItem}
use Rattle.ec_asm.specs.declared.items.AsmItem.TheVariants.{Plain, StoreObj}
use Rattle.ec_asm.specs.declared.pieces.Location.{Location}
use Rattle.ec_asm.specs.declared.pieces.Location.TheVariants.{InRegisters, InMemory}
use Rattle.ec_asm.specs.Items.{chain}
use Rattle.ec_asm.specs.Pieces.{copy_code}
use Rattle.ec_ir.specs.Temporaries.{low_bytes}
use Rattle.ec_select_bytes.specs.Values.{byte_of}

-- byte i of a number is the one before it
abbrev pub is_repeated : (number i : ℕ) → Bool
is_repeated number i = nat_lt 0 i && byte_of number (i - 1) == byte_of number i

-- R30 goes to byte i of a place
abbrev pub work_stored : Location → ℕ → AsmItem
work_stored (InRegisters r) i = Plain (Mov (r + i) 30)
work_stored (InMemory o k) i = StoreObj o (k + i) 30

abbrev pub number_byte_code : Location → (number i : ℕ) → List AsmItem
number_byte_code to number i =
    if is_repeated number i then work_stored to i ∷ [] else Plain (Ldi 30 (byte_of number i)) ∷ work_stored to i ∷ []

-- n bytes of a number
abbrev pub store_number_code : Location → (number n : ℕ) → List AsmItem
store_number_code to number n = chain (λ i. number_byte_code to number i) n

-- of a temporary, which may be known to hold a number
abbrev pub store_object_code : Option ℤ → (from to : Location) → (n : ℕ) → List AsmItem
store_object_code None from to n = copy_code from to n
store_object_code (Some k) from to n = store_number_code to (low_bytes 16 k) n
