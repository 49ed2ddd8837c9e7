-- What stands at each address of a placed program.
use Rattle.std.specs.Prelude.{ℕ, ◌+◌, ◌==◌, nat_le, nat_lt, Bool, false, ◌&&◌, ◌||◌, if◌then◌else◌, List, [], ◌∷◌}
use Rattle.std.specs.Prelude.{option_map, unwrap_or, slice_get, slice_index}
use Rattle.ec_space.specs.Memory.{flash_size, data_size}
use Rattle.ec_space.specs.declared.Core.{Core}
use Rattle.ec_space.specs.declared.space.Bank.{Bank}
use Rattle.ec_space.specs.declared.space.Bank.TheVariants.{Flash, Data}
use Rattle.ec_space.specs.Spaces.{bank_of}
use Rattle.ec_space.specs.declared.space.Place.{Place}
use Rattle.ec_avr.specs.State.{has_rampz, is_core_register}
use Rattle.ec_asm.specs.Change.{Env, Kind, Own, Object, Port, Stacked, Page, Barred}
use Rattle.ec_asm.specs.declared.items.AsmProgram.{AsmProgram}
use Rattle.ec_asm_based.specs.Based.{base_set}
use Rattle.ec_core.specs.Layout.{size_of_type}
use Rattle.ec_core.specs.Plain.{PlainStruct, PlainObject, PlainProgram}
use Rattle.ec_map.specs.declared.map.Map.{Map}
use Rattle.ec_locate.specs.Entries.{frame_size, work_size}
use Rattle.ec_locate.specs.Fixed.{same_bank}
use Rattle.ec_locate.specs.Placing.{layout_by}
use Rattle.ec_locate.specs.Stands.{environment}
use Rattle.ec_locate.specs.declared.placing.Located.{Located}
use Rattle.ec_select.specs.Program.{has_initial_bytes}

-- ---- whose byte an address is

abbrev pub is_byte_of : (at size a : ℕ) → Bool
is_byte_of at size a = nat_le at a && nat_lt a (at + size)

-- that of an object which is kept in a bank
abbrev pub is_of_objects : Bank → List PlainStruct → List PlainObject → List Place → ℕ → Bool
is_of_objects bank structs [] places a = false
is_of_objects bank structs (o ∷ os) [] a = false
is_of_objects bank structs (o ∷ os) (q ∷ qs) a =
    (same_bank (bank_of o.home) bank && is_byte_of q.offset (size_of_type structs o.ty) a) || is_of_objects bank structs os qs a

-- one of the initial bytes of a static object
abbrev pub is_of_initials : List PlainStruct → List PlainObject → (initials : List ℕ) → ℕ → Bool
is_of_initials structs [] initials a = false
is_of_initials structs (o ∷ os) [] a = false
is_of_initials structs (o ∷ os) (at ∷ ats) a =
    (has_initial_bytes o.storage o.home && is_byte_of at (size_of_type structs o.ty) a)
    || is_of_initials structs os ats a

-- that of the scratch memory of a function
abbrev pub is_of_scratch : (frames ats : List ℕ) → ℕ → Bool
is_of_scratch [] ats a = false
is_of_scratch (frame ∷ frames) [] a = false
is_of_scratch (frame ∷ frames) (at ∷ ats) a = is_byte_of at (frame_size frame) a || is_of_scratch frames ats a

-- ---- what stands there

-- no code looks at SREG, or at Y's registers by their addresses
abbrev pub is_hidden : ℕ → Bool
is_hidden a = a == 0x5F || (a == 28 || a == 29)

-- the address of RAMPZ, on a core that has it
abbrev pub is_rampz : Core → ℕ → Bool
is_rampz core a = (a == 0x5B) && has_rampz core

-- RAMPZ stands apart. The other registers are code's own, also those that a program names, since their accesses are no
-- events, and so is the stack pointer
abbrev pub register_kind : Core → ℕ → Kind
register_kind core a =
    if is_hidden a then Barred else if is_rampz core a then Page else if is_core_register core a then Own else Port

abbrev pub memory_kind : PlainProgram → Map → AsmProgram → Located → ℕ → Kind
memory_kind p m asm l a =
    if is_of_objects Data p.structs p.objects l.places.items a then Object
    else if is_of_scratch asm.frames.items l.frames.items a || is_byte_of l.work (work_size m.io) a then Own
    else if is_byte_of m.stack.first m.stack.size a then Stacked else Barred

-- what stands at each data address of the core of a map
abbrev pub kinds : PlainProgram → Map → AsmProgram → Located → ℕ → Kind
kinds p m asm l a =
    if nat_lt a 256 then register_kind m.core a
    else if nat_lt a (data_size m.core) then memory_kind p m asm l a else Barred

-- and at each address of its flash, for loads
abbrev pub tables : PlainProgram → Map → AsmProgram → Located → ℕ → Kind
tables p m asm l a =
    if nat_lt a (flash_size m.core)
    then (if is_of_objects Flash p.structs p.objects l.places.items a then Object
    else if is_of_initials p.structs p.objects (layout_by p m asm).initials a then Own else Barred)
    else Barred

-- ---- the whole

-- where its code is placed, with Y as the code sets it
abbrev pub environment_of : PlainProgram → Map → AsmProgram → Located → (kind table : ℕ → Kind) → Env
environment_of p m asm l kind table = record (environment p m asm l kind table) { base = base_set asm.items.items }

abbrev pub placed : PlainProgram → Map → AsmProgram → Located → Env
placed p m asm l = environment_of p m asm l (kinds p m asm l) (tables p m asm l)

-- the address of each object
abbrev pub place_of : Located → ℕ → ℕ
place_of l o = unwrap_or (option_map (λ q. q.offset) (slice_get l.places.items o)) 0

-- The address of the scratch memory of each function. One that has no temporaries has none, which may stand behind all
-- else
abbrev pub scratch_of : AsmProgram → Located → ℕ → ℕ
scratch_of asm l f =
    if slice_index asm.frames.items f == 0 then data_size l.image.core else slice_index l.frames.items f
