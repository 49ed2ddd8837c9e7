-- Pieces of code for a core with RAMPZ, whose flash goes past the first 65,536 bytes. There a pointer of three bytes has
-- the whole address of a byte of the flash bank, or that of a byte of the data bank in its low two bytes and the tag of
-- data above it. ELPM goes by the number in RAMPZ, R31 and R30. R0, R30, R31 and RAMPZ are work registers.
use Rattle.std.specs.Prelude.{ℕ, ◌+◌, ◌-◌, ◌/◌, ◌%◌, ◌==◌, if◌then◌else◌, List, [], ◌∷◌, ◌++◌}
use Rattle.ec_isa.specs.declared.instructions.Instr.TheVariants.{ElpmInc, Sbrs, Out as OutInstr}
use Rattle.ec_asm.specs.declared.items.AsmItem.{AsmItem}
use Rattle.ec_asm.specs.declared.items.AsmItem.TheVariants.{Plain, LoadPart, LoadObj, StoreObj}
use Rattle.ec_asm.specs.declared.pieces.Location.{Location}
use Rattle.ec_asm.specs.declared.pieces.Location.TheVariants.{InRegisters, InMemory}
use Rattle.ec_asm.specs.Items.{chain}
use Rattle.ec_select_pointers.specs.Addresses.{part_byte, subtract_byte}
use Rattle.ec_select_pointers.specs.Accesses.{point_code, data_bytes, bytes_words, over}

-- the address of RAMPZ in OUT
abbrev pub page_port : ℕ
page_port = 0x3B

-- ---- loads

-- RAMPZ is set to the third byte of a pointer, which goes through R0 where it is in memory
abbrev pub page_code : Location → List AsmItem
page_code (InRegisters r) = Plain (OutInstr page_port (r + 2)) ∷ []
page_code (InMemory o k) = LoadObj 0 o (k + 2) ∷ Plain (OutInstr page_port 0) ∷ []

-- byte i from the flash bank, where RAMPZ and Z have its address and go on to the next one
abbrev pub far_byte : Location → ℕ → List AsmItem
far_byte (InRegisters r) i = Plain (ElpmInc (r + i)) ∷ []
far_byte (InMemory o k) i = Plain (ElpmInc 0) ∷ StoreObj o (k + i) 0 ∷ []

-- n bytes by rising address
abbrev pub far_bytes : Location → ℕ → List AsmItem
far_bytes q n = chain (far_byte q) n

-- n bytes through the pointer of three bytes at p, put to q
abbrev pub load_far_code : (p q : Location) → ℕ → List AsmItem
load_far_code p q n = point_code p ++ (page_code p ++ far_bytes q n)

-- n bytes from a place in the flash bank, put to q: RAMPZ and Z are set to its address
abbrev pub load_far_table_code : (object offset : ℕ) → (q : Location) → ℕ → List AsmItem
load_far_table_code object offset q n =
    LoadPart 30 object offset 2 ∷ Plain (OutInstr page_port 30) ∷ LoadPart 30 object offset 0
    ∷ LoadPart 31 object offset 1 ∷ far_bytes q n

-- ---- loads by the top bit of a pointer

-- Behind `page_code`: the next word is passed over where the top bit of the third byte is 1
abbrev pub top_test : Location → List AsmItem
top_test (InRegisters r) = Plain (Sbrs (r + 2) 7) ∷ []
top_test (InMemory o k) = Plain (Sbrs 0 7) ∷ []

-- from the data bank where that word is passed over, and else from the flash bank
abbrev pub either_far_bytes : Location → ℕ → List AsmItem
either_far_bytes q n =
    over (bytes_words q n + 1) ++ (data_bytes q n ++ (over (bytes_words q n) ++ far_bytes q n))

abbrev pub load_any_far_code : (p q : Location) → ℕ → List AsmItem
load_any_far_code p q n = point_code p ++ (page_code p ++ (top_test p ++ either_far_bytes q n))

-- ---- the whole address of a place

abbrev pub far_address_code : (object offset : ℕ) → Location → List AsmItem
far_address_code object offset q =
    part_byte object offset q 0 ++ (part_byte object offset q 1 ++ part_byte object offset q 2)

-- ---- a pointer of three bytes moved by an offset

-- what is missing from an offset to a multiple of 2 to the power of 24
abbrev pub far_rest_of : ℕ → ℕ
far_rest_of offset = 16777216 - offset % 16777216

-- what is missing is subtracted, which adds the offset modulo 2 to the power of 24
abbrev pub field_far_code : Location → (offset : ℕ) → List AsmItem
field_far_code q offset =
    if offset % 16777216 == 0 then []
    else subtract_byte (far_rest_of offset % 256) q 0
    ++ (subtract_byte (far_rest_of offset / 256 % 256) q 1 ++ subtract_byte (far_rest_of offset / 65536) q 2)
