-- A number in the data memory: its place, its bytes from the lowest on, and whether it is signed.
use Rattle.std.specs.Prelude.{◌≡◌, ℕ, ◌+◌, ◌-◌, ◌==◌, nat_le, ◌⊎◌, Bool, true, false, ◌&&◌, if◌then◌else◌, ℤ, pos}
use Rattle.std.specs.Prelude.{Option, Some, None, length}
use Rattle.std.specs.Int.{w8, w16, w32, w64, cast_signed}
use Rattle.ec_space.specs.Memory.{Memory, number_at}
use Rattle.ec_space.specs.declared.space.Bank.{Bank}
use Rattle.ec_space.specs.declared.space.Bank.TheVariants.{Flash, Data}
use Rattle.ec_avr.specs.declared.machine.Access.{Access}
use Rattle.ec_avr.specs.declared.machine.Access.TheVariants.{Write}
use Rattle.ec_emu_watch.specs.declared.point.WatchPoint.{WatchPoint}

-- how many bytes a number may have
abbrev pub IsWidth : ℕ → Type 0
IsWidth bytes = (bytes ≡ 1) ⊎ ((bytes ≡ 2) ⊎ ((bytes ≡ 4) ⊎ (bytes ≡ 8)))

-- a number of so many bytes as two's complement
abbrev pub signed_number : (bytes n : ℕ) → ℤ
signed_number bytes n =
    if bytes == 1 then cast_signed w8 n
    else if bytes == 2 then cast_signed w16 n
    else if bytes == 4 then cast_signed w32 n
    else cast_signed w64 n

-- the number that some bits make
abbrev pub number_by : (signed : Bool) → (bytes n : ℕ) → ℤ
number_by signed bytes n = if signed then signed_number bytes n else pos n

abbrev pub is_data : Bank → Bool
is_data Flash = false
is_data Data = true

-- all bytes of the number are in the data memory
abbrev pub has_number : WatchPoint → Memory → Bool
has_number p m = is_data p.place.bank && nat_le (p.place.offset + p.bytes) (length m.data)

-- the number that a memory holds there
abbrev pub value_at : WatchPoint → Memory → Option ℤ
value_at p m = if has_number p m then Some (number_by p.signed p.bytes (number_at m p.place p.bytes)) else None

-- the address of its last byte
abbrev pub last_byte : WatchPoint → ℕ
last_byte p = p.place.offset + p.bytes - 1

-- an access writes that byte
abbrev pub writes_last : WatchPoint → Access → Bool
writes_last p (Write at byte) = at == last_byte p
writes_last p _ = false
