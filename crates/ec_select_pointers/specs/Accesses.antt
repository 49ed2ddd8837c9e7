-- Pieces of code for loads and stores through pointers, and for loads from places in the flash bank. Z is R31:R30, and
-- it and R0 are work registers.
use Rattle.std.specs.Prelude.{ℕ, ◌+◌, ◌*◌, ◌%◌, ◌==◌, if◌then◌else◌, pos, List, [], ◌∷◌, ◌++◌}
use Rattle.ec_isa.specs.declared.instructions.Instr.TheVariants.{Movw, LddZ, StdZ, LpmZPlus, Rjmp, Sbrs}
use Rattle.ec_asm.specs.declared.items.AsmItem.{AsmItem}
use Rattle.ec_asm.specs.declared.items.AsmItem.TheVariants.{Plain, LoadPart, LoadObj, StoreObj}
use Rattle.ec_asm.specs.declared.pieces.Location.{Location}
use Rattle.ec_asm.specs.declared.pieces.Location.TheVariants.{InRegisters, InMemory}
use Rattle.ec_asm.specs.Items.{chain}
use Rattle.ec_asm.specs.Pieces.{copy_code}

-- Z is set to the address in a pointer: by one MOVW from an even register, and else byte by byte
abbrev pub point_code : Location → List AsmItem
point_code (InRegisters r) =
    if r % 2 == 0 then Plain (Movw 30 r) ∷ [] else copy_code (InRegisters r) (InRegisters 30) 2
point_code (InMemory o k) = copy_code (InMemory o k) (InRegisters 30) 2

-- ---- loads

-- byte i from the data bank, where Z is the address of byte 0
abbrev pub data_byte : Location → ℕ → List AsmItem
data_byte (InRegisters r) i = Plain (LddZ (r + i) i) ∷ []
data_byte (InMemory o k) i = Plain (LddZ 0 i) ∷ StoreObj o (k + i) 0 ∷ []

-- byte i from the flash bank, where Z is its address and goes on to the next one
abbrev pub flash_byte : Location → ℕ → List AsmItem
flash_byte (InRegisters r) i = Plain (LpmZPlus (r + i)) ∷ []
flash_byte (InMemory o k) i = Plain (LpmZPlus 0) ∷ StoreObj o (k + i) 0 ∷ []

-- n bytes by rising address
abbrev pub data_bytes : Location → ℕ → List AsmItem
data_bytes q n = chain (data_byte q) n

abbrev pub flash_bytes : Location → ℕ → List AsmItem
flash_bytes q n = chain (flash_byte q) n

-- n bytes through the pointer at p, put to q
abbrev pub load_data_code : (p q : Location) → ℕ → List AsmItem
load_data_code p q n = point_code p ++ data_bytes q n

abbrev pub load_flash_code : (p q : Location) → ℕ → List AsmItem
load_flash_code p q n = point_code p ++ flash_bytes q n

-- n bytes from a place in the flash bank, put to q: Z is set to its address
abbrev pub load_table_code : (object offset : ℕ) → (q : Location) → ℕ → List AsmItem
load_table_code object offset q n = LoadPart 30 object offset 0 ∷ LoadPart 31 object offset 1 ∷ flash_bytes q n

-- ---- loads by the tag of a pointer

-- the words of a load from either bank
abbrev pub bytes_words : Location → ℕ → ℕ
bytes_words (InRegisters r) n = 1 * n
bytes_words (InMemory o k) n = 3 * n

-- the next word is passed over where the top bit of the tag is 1
abbrev pub tag_test : Location → List AsmItem
tag_test (InRegisters r) = Plain (Sbrs (r + 2) 7) ∷ []
tag_test (InMemory o k) = LoadObj 0 o (k + 2) ∷ Plain (Sbrs 0 7) ∷ []

abbrev pub over : ℕ → List AsmItem
over words = Plain (Rjmp (pos words)) ∷ []

-- from the data bank where that word is passed over, and else from the flash bank
abbrev pub either_bytes : Location → ℕ → List AsmItem
either_bytes q n =
    over (bytes_words q n + 1) ++ (data_bytes q n ++ (over (bytes_words q n) ++ flash_bytes q n))

abbrev pub load_any_code : (p q : Location) → ℕ → List AsmItem
load_any_code p q n = point_code p ++ (tag_test p ++ either_bytes q n)

-- ---- stores

-- byte i of a number, where Z is the address of byte 0
abbrev pub store_byte : Location → ℕ → List AsmItem
store_byte (InRegisters r) i = Plain (StdZ i (r + i)) ∷ []
store_byte (InMemory o k) i = LoadObj 0 o (k + i) ∷ Plain (StdZ i 0) ∷ []

abbrev pub store_bytes : Location → ℕ → List AsmItem
store_bytes p n = chain (store_byte p) n

-- the n bytes at p, by rising address, through the pointer at q
abbrev pub store_data_code : (p q : Location) → ℕ → List AsmItem
store_data_code p q n = point_code q ++ store_bytes p n
