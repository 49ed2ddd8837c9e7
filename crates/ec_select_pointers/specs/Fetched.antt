-- Pieces of code for a pointer that stays in Z: it is brought there, and bytes at a displacement from it are loaded or
-- stored. R0 is a work register, and has the third byte of a pointer until a load.
use Rattle.std.specs.Prelude.{ℕ, ◌+◌, ◌==◌, nat_lt, if◌then◌else◌, List, [], ◌∷◌, ◌++◌}
use Rattle.ec_isa.specs.declared.instructions.Instr.TheVariants.{Mov, LddZ, StdZ, Adiw, Sbrs}
use Rattle.ec_asm.specs.declared.items.AsmItem.{AsmItem}
use Rattle.ec_asm.specs.declared.items.AsmItem.TheVariants.{Plain, LoadObj, StoreObj}
use Rattle.ec_asm.specs.declared.pieces.Location.{Location}
use Rattle.ec_asm.specs.declared.pieces.Location.TheVariants.{InRegisters, InMemory}
use Rattle.ec_asm.specs.Items.{chain}
use Rattle.ec_select_pointers.specs.Accesses.{flash_bytes, bytes_words, over}

-- the register that byte i of a pointer is brought to: the low two bytes to Z, and any other to R0
abbrev pub z_register : ℕ → ℕ
z_register i = if nat_lt i 2 then 30 + i else 0

abbrev pub fetch_byte : Location → ℕ → List AsmItem
fetch_byte (InRegisters r) i = Plain (Mov (z_register i) (r + i)) ∷ []
fetch_byte (InMemory o k) i = LoadObj (z_register i) o (k + i) ∷ []

-- all n bytes of a pointer are read, by rising address, and the low two of them stay in Z
abbrev pub fetch_code : Location → ℕ → List AsmItem
fetch_code p n = chain (fetch_byte p) n

-- byte i of a number that begins at a displacement from Z
abbrev pub member_byte : (displacement : ℕ) → Location → ℕ → List AsmItem
member_byte d (InRegisters r) i = Plain (LddZ (r + i) (d + i)) ∷ []
member_byte d (InMemory o k) i = Plain (LddZ 0 (d + i)) ∷ StoreObj o (k + i) 0 ∷ []

-- n bytes of the data bank at a displacement from Z, put to q
abbrev pub load_member_code : (displacement : ℕ) → (q : Location) → ℕ → List AsmItem
load_member_code d q n = chain (member_byte d q) n

-- Z goes on by an offset below 64, in so many words
abbrev pub go_on_code : (offset : ℕ) → List AsmItem
go_on_code d = if d == 0 then [] else Plain (Adiw 30 d) ∷ []

abbrev pub go_on_words : (offset : ℕ) → ℕ
go_on_words d = if d == 0 then 0 else 1

-- n bytes of the flash bank at an offset from Z, put to q
abbrev pub load_further_code : (offset : ℕ) → (q : Location) → ℕ → List AsmItem
load_further_code d q n = go_on_code d ++ flash_bytes q n

-- from the data bank where the next word is passed over, and else from the flash bank
abbrev pub either_further : (offset : ℕ) → (q : Location) → ℕ → List AsmItem
either_further d q n =
    over (bytes_words q n + 1)
    ++ (load_member_code d q n ++ (over (go_on_words d + bytes_words q n) ++ load_further_code d q n))

-- n bytes at an offset from Z, put to q: from the bank that the tag in R0 tells
abbrev pub load_tagged_code : (offset : ℕ) → (q : Location) → ℕ → List AsmItem
load_tagged_code d q n = Plain (Sbrs 0 7) ∷ either_further d q n

-- byte i of a number is stored where one begins at a displacement from Z
abbrev pub store_member_byte : (displacement : ℕ) → Location → ℕ → List AsmItem
store_member_byte d (InRegisters r) i = Plain (StdZ (d + i) (r + i)) ∷ []
store_member_byte d (InMemory o k) i = LoadObj 0 o (k + i) ∷ Plain (StdZ (d + i) 0) ∷ []

-- the n bytes at q, by rising address, to the data bank at a displacement from Z
abbrev pub store_member_code : (displacement : ℕ) → (q : Location) → ℕ → List AsmItem
store_member_code d q n = chain (store_member_byte d q) n
