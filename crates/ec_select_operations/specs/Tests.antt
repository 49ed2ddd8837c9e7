-- The test whether a number is 0: by R0, or where it stands in registers and nothing is needed of it any more, in the first one
-- of them.
use Rattle.std.specs.Prelude.{ℕ, ◌+◌, ◌-◌, nat_le, Bool, true, false, if◌then◌else◌, List, [], ◌∷◌}
use Rattle.ec_isa.specs.declared.instructions.Instr.TheVariants.{Or}
use Rattle.ec_asm.specs.declared.items.AsmItem.{AsmItem}
use Rattle.ec_asm.specs.declared.items.AsmItem.TheVariants.{Plain}
use Rattle.ec_asm.specs.declared.pieces.Location.{Location}
use Rattle.ec_asm.specs.declared.pieces.Location.TheVariants.{InRegisters, InMemory}
use Rattle.ec_asm.specs.Items.{chain}
use Rattle.ec_select_bytes.specs.Values.{test_code}

-- so many bytes behind the first one are joined to it by OR
abbrev pub join_there : (r i : ℕ) → List AsmItem
join_there r i = Plain (Or r (r + (1 + i))) ∷ []

abbrev pub joined_there_code : (r count : ℕ) → List AsmItem
joined_there_code r count = chain (join_there r) count

-- several bytes in registers are tested where they stand
abbrev pub test_there_code : Location → (n : ℕ) → List AsmItem
test_there_code (InRegisters r) n = if nat_le 2 n then joined_there_code r (n - 1) else test_code (InRegisters r) n
test_there_code (InMemory o k) n = test_code (InMemory o k) n

-- where nothing is needed of the number any more it is free
abbrev pub number_test : (is_free : Bool) → Location → (n : ℕ) → List AsmItem
number_test true p n = test_there_code p n
number_test false p n = test_code p n
