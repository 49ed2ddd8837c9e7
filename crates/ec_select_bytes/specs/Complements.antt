-- Pieces of code for the complement and the negation of a number, where it stands. R0 and R1 are work registers.
use Rattle.std.specs.Prelude.{ℕ, ◌+◌, List, [], ◌∷◌, ◌++◌}
use Rattle.ec_isa.specs.declared.instructions.Instr.TheVariants.{Com, Adc, Eor}
use Rattle.ec_asm.specs.declared.items.AsmItem.{AsmItem}
use Rattle.ec_asm.specs.declared.items.AsmItem.TheVariants.{Plain, LoadObj, StoreObj}
use Rattle.ec_asm.specs.declared.pieces.Location.{Location}
use Rattle.ec_asm.specs.declared.pieces.Location.TheVariants.{InRegisters, InMemory}
use Rattle.ec_asm.specs.Items.{chain}

-- ---- the complement, which leaves 1 in C

abbrev pub complement_byte : Location → ℕ → List AsmItem
complement_byte (InRegisters r) i = Plain (Com (r + i)) ∷ []
complement_byte (InMemory o k) i = LoadObj 0 o (k + i) ∷ Plain (Com 0) ∷ StoreObj o (k + i) 0 ∷ []

abbrev pub complement_code : Location → ℕ → List AsmItem
complement_code p n = chain (complement_byte p) n

-- ---- C added, where R1 is 0

abbrev pub carry_byte : Location → ℕ → List AsmItem
carry_byte (InRegisters r) i = Plain (Adc (r + i) 1) ∷ []
carry_byte (InMemory o k) i = LoadObj 0 o (k + i) ∷ Plain (Adc 0 1) ∷ StoreObj o (k + i) 0 ∷ []

abbrev pub carry_code : Location → ℕ → List AsmItem
carry_code p n = chain (carry_byte p) n

-- ---- the negation: one more than the complement

abbrev pub negation_code : Location → ℕ → List AsmItem
negation_code p n = complement_code p n ++ (Plain (Eor 1 1) ∷ carry_code p n)
