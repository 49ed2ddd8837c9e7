-- Where a temporary stands, by the number of its place: registers first, and scratch memory for what is deep or wide.
use Rattle.std.specs.Prelude.{ℕ, ◌+◌, ◌-◌, ◌*◌, nat_le, ◌&&◌, if◌then◌else◌}
use Rattle.ec_asm.specs.declared.pieces.Location.{Location}
use Rattle.ec_asm.specs.declared.pieces.Location.TheVariants.{InRegisters, InMemory}

-- the last byte of the registers of a place, counted down from R25, where places have so many bytes in registers
abbrev pub depth_of_place : (width place : ℕ) → ℕ
depth_of_place width place = width * (place + 1)

-- R14 to R25 are for places, from the top
abbrev pub home_of_place : (width scratch place bytes : ℕ) → Location
home_of_place width scratch place bytes =
    if nat_le bytes width && nat_le (depth_of_place width place) 12 then InRegisters (26 - depth_of_place width place)
    else InMemory scratch (16 * place)
