-- Pieces of code for pointers of two bytes that become pointers of three bytes, and back. R0, R1, R30 and R31 are work
-- registers.
use Rattle.std.specs.Prelude.{ℕ, ◌+◌, ◌*◌, ◌==◌, Bool, true, false, if◌then◌else◌, List, [], ◌∷◌, ◌++◌}
use Rattle.ec_isa.specs.declared.instructions.Instr.TheVariants.{Eor, Cp, Cpc, Ror}
use Rattle.ec_asm.specs.declared.items.AsmItem.{AsmItem}
use Rattle.ec_asm.specs.declared.items.AsmItem.TheVariants.{Plain, StoreObj}
use Rattle.ec_asm.specs.declared.pieces.Location.{Location}
use Rattle.ec_asm.specs.declared.pieces.Location.TheVariants.{InRegisters, InMemory}
use Rattle.ec_asm.specs.Pieces.{copy_code}
use Rattle.ec_select_places.specs.Steps.{z_pair}

-- the tags of the two banks
abbrev pub flash_tag : ℕ
flash_tag = 0x00

abbrev pub data_tag : ℕ
data_tag = 0x80

abbrev pub tag_of : Bool → ℕ
tag_of to_data = if to_data then data_tag else flash_tag

-- a number of two bytes as one of three: null stays null
abbrev pub embedded : Bool → ℕ → ℕ
embedded to_data x = if x == 0 then 0 else x + tag_of to_data * 65536

-- C tells whether 0 is less than the pointer of two bytes in two registers, and becomes the top bit of a third one
abbrev pub data_tag_code : (t low high : ℕ) → List AsmItem
data_tag_code t low high = Plain (Eor t t) ∷ Plain (Cp t low) ∷ Plain (Cpc t high) ∷ Plain (Ror t) ∷ []

-- a pointer of two bytes gets its tag behind them. In memory the tag is made in R1
abbrev pub embed_code : Bool → Location → List AsmItem
embed_code true (InRegisters b) = data_tag_code (b + 2) b (b + 1)
embed_code true (InMemory o k) =
    copy_code (InMemory o k) z_pair 2 ++ (data_tag_code 1 30 31 ++ StoreObj o (k + 2) 1 ∷ [])
embed_code false (InRegisters b) = Plain (Eor (b + 2) (b + 2)) ∷ []
embed_code false (InMemory o k) = Plain (Eor 1 1) ∷ StoreObj o (k + 2) 1 ∷ []

abbrev pub narrow_code : (p q : Location) → List AsmItem
narrow_code p q = copy_code p q 2
