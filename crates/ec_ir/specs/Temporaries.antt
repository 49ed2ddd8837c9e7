-- What temporaries hold. A temporary holds bytes: those of a number in two's complement, or those of a pointer to an
-- object, which are not told. The bytes of null are 0. An operation that names a type sees the value of that type which
-- the bytes stand for.
use Rattle.std.specs.Prelude.{ℕ, zero, suc, ◌*◌, ◌/◌, ◌^◌, ◌==◌, nat_le, Bool, false, ◌&&◌, if◌then◌else◌, ℤ, pos}
use Rattle.std.specs.Prelude.{◌-ℤ◌, unsigned_abs, Option, Some, None, option_map, unwrap_or, Result, Ok, slice_get}
use Rattle.std.specs.Int.{int_rem_euclid}
use Rattle.ec_fx.specs.Formats.{format_of}
use Rattle.ec_space.specs.declared.space.SpaceId.{SpaceId}
use Rattle.ec_space.specs.Spaces.{holds}
use Rattle.ec_core.specs.declared.values.ObjectPointer.{ObjectPointer}
use Rattle.ec_core.specs.declared.values.Undefined.{Undefined}
use Rattle.ec_core.specs.declared.values.Undefined.TheVariants.{Unset}
use Rattle.ec_core.specs.declared.values.Value.{Value}
use Rattle.ec_core.specs.declared.values.Value.TheVariants.{Number, Pointer}
use Rattle.ec_core.specs.Operators.{unsuited}
use Rattle.ec_core.specs.Plain.{PlainType, integer, fixed, pointer, PlainProgram}
use Rattle.ec_core.specs.State.{State, Outcome, got, undefined}
use Rattle.ec_ir.specs.declared.operations.Temp.{Temp}

-- ---- bytes

-- bytes as the number that they make, the lowest first, or a pointer to an object
pub data Content : Type 0 where
  bits : (low : ℕ) → Content
  points : ObjectPointer → Content

-- the lowest bytes of a number in two's complement
abbrev pub low_bytes : ℕ → ℤ → ℕ
low_bytes bytes n = unsigned_abs (int_rem_euclid n (pos (256 ^ bytes)))

-- what so many bytes stand for: where they are signed and the top bit is set, a negative number
abbrev pub number_of_bytes : Bool → ℕ → ℕ → ℤ
number_of_bytes signed bytes low =
    if signed && nat_le (256 ^ bytes) (2 * low) then pos low -ℤ pos (256 ^ bytes) else pos low

-- the bytes of a value
abbrev pub content_of : ℕ → Value → Content
content_of bytes (Number n) = bits (low_bytes bytes n)
content_of bytes (Pointer None) = bits 0
content_of bytes (Pointer (Some p)) = points p

-- the value of a type that bytes stand for. Those of a number are no pointer but null, and those of a pointer no number
abbrev pub value_in : PlainType → Content → Result Value Undefined
value_in (integer signed bytes) (bits low) = Ok (Number (number_of_bytes signed bytes low))
value_in (fixed kind saturates) (bits low) =
    Ok (Number (number_of_bytes (format_of kind).signed ((format_of kind).bits / 8) low))
value_in (pointer space const to) (bits zero) = Ok (Pointer None)
value_in (pointer space const to) (bits (suc low)) = unsuited
value_in (pointer space const to) (points p) = Ok (Pointer (Some p))
value_in ty content = unsuited

-- the home of a pointer's object is in a space
abbrev pub is_in_space : PlainProgram → SpaceId → ObjectPointer → Bool
is_in_space program space p =
    unwrap_or (option_map (λ o. holds space o.home) (slice_get program.objects p.object)) false

-- the same in a program, where a pointer is into the space of its type
abbrev pub value_of_type : PlainProgram → PlainType → Content → Result Value Undefined
value_of_type program (pointer space const to) (points p) =
    if is_in_space program space p then Ok (Pointer (Some p)) else unsuited
value_of_type program ty content = value_in ty content

abbrev pub is_zero : Content → Bool
is_zero (bits low) = low == 0
is_zero (points p) = false

-- ---- temporaries

-- what was written at a place, and with how many bytes
pub record Held : Type 0 where
  pub bytes : ℕ
  pub content : Content

-- the temporaries of a function, by their places
abbrev pub Temps : Type 0
Temps = ℕ → Option Held

abbrev pub no_temps : Temps
no_temps place = None

abbrev pub with_held : ℕ → Held → Temps → Temps
with_held at held temps place = if place == at then Some held else temps place

abbrev pub with_content : Temp → Content → Temps → Temps
with_content t content temps = with_held t.at (record { bytes = t.bytes; content = content }) temps

-- a temporary gets a value
abbrev pub with_temp : Temp → Value → Temps → Temps
with_temp t v temps = with_content t (content_of t.bytes v) temps

-- a temporary is read with as many bytes as it was written with
abbrev pub read_held : ℕ → Option Held → State → Outcome Content
read_held bytes None s = undefined Unset s
read_held bytes (Some held) s = if held.bytes == bytes then got held.content s else undefined Unset s

abbrev pub held : Temp → Temps → State → Outcome Content
held t temps s = read_held t.bytes (temps t.at) s
