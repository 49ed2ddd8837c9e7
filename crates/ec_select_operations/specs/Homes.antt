-- The home of each temporary of a function: registers first, and scratch memory for what is deep or wide.
use Rattle.std.specs.Prelude.{ℕ, ◌<◌, ◌≤◌, nat_le, if◌then◌else◌}
use Rattle.ec_asm.specs.declared.pieces.Location.{Location}
use Rattle.ec_asm.specs.declared.pieces.Location.TheVariants.{InRegisters}
use Rattle.ec_ir.specs.declared.operations.Temp.{Temp}
use Rattle.ec_select_operations.specs.declared.homes.Homes.{Homes}
use Rattle.ec_select_bytes.specs.Homes.{depth_of_place, home_of_place}

-- a temporary that code has a home for: at one of so many places, and of at most 8 bytes
pub record HasHome (slots : ℕ) (t : Temp) : Type 0 where
  pub within : t.at < slots
  pub some : 1 ≤ t.bytes
  pub most : t.bytes ≤ 8

-- the last byte of the registers of a place, counted down from R25
abbrev pub depth : Homes → Temp → ℕ
depth h t = depth_of_place h.width t.at

-- R14 to R25 are for places, from the top
abbrev pub home : Homes → Temp → Location
home h t = home_of_place h.width h.scratch t.at t.bytes

-- the registers in which a function hands on a result of so many bytes: R25:R24, R25 to R22 or R25 to R18
abbrev pub result_register : ℕ → ℕ
result_register bytes = if nat_le bytes 2 then 24 else if nat_le bytes 4 then 22 else 18

abbrev pub result_location : ℕ → Location
result_location bytes = InRegisters (result_register bytes)
