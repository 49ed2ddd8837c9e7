-- The data addresses (Microchip AVR Instruction Set Manual and the data memory maps of the ATmega328P and the
-- ATmega1284P).
use Rattle.std.specs.Prelude.{ℕ, ◌+◌, ◌%◌, ◌==◌, nat_lt, Bool, true, false, not, ◌&&◌, ◌||◌}
use Rattle.ec_space.specs.declared.Core.{Core}
use Rattle.ec_space.specs.declared.Core.TheVariants.{Small, Large}

-- a core with more than 64 KiB of flash has RAMPZ, which extends Z, and ELPM, which loads by both
abbrev pub has_rampz : Core → Bool
has_rampz Small = false
has_rampz Large = true

-- R0 to R31, SPL, SPH, SREG or, where the core has it, RAMPZ: what the core keeps itself
abbrev pub is_core_register : Core → ℕ → Bool
is_core_register core at = nat_lt at 32 || at == 0x5D || at == 0x5E || at == 0x5F || (at == 0x5B && has_rampz core)

-- every other address below 0x0100 is a port
abbrev pub is_port : Core → ℕ → Bool
is_port core at = nat_lt at 256 && not (is_core_register core at)

-- an address, and a pointer, is a number of 16 bits
abbrev pub raised : ℕ → ℕ
raised at = (at + 1) % 65536

abbrev pub lowered : ℕ → ℕ
lowered at = (at + 65535) % 65536
