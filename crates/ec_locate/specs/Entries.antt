-- What is asked of the objects of a program to place them, and how many bytes of the regions they need.
use Rattle.std.specs.Prelude.{ℕ, ◌+◌, ◌*◌, Bool, true, false, if◌then◌else◌, List, map, Option, Some, None}
use Rattle.std.specs.Prelude.{length, option_map, sum_by, slice_index}
use Rattle.std.specs.List.{find}
use Rattle.std.specs.Str.{bytes_eq}
use Rattle.ec_space.specs.declared.space.Home.{Home}
use Rattle.ec_space.specs.declared.space.Home.TheVariants.{Flash, Far, Data}
use Rattle.ec_core.specs.Layout.{size_of_type}
use Rattle.ec_core.specs.Plain.{PlainStruct, PlainStorage, static, local, param, register, PlainObject, PlainProgram}
use Rattle.ec_iohw.specs.declared.table.IoTable.{IoTable}
use Rattle.ec_map.specs.declared.map.Fixed1.{Fixed1}
use Rattle.ec_overlay.specs.Frames.{need_of}
use Rattle.ec_overlay.specs.Objects.{Owned, frame_bytes}
use Rattle.ec_locate.specs.declared.entries.Entry.{Entry}
use Rattle.ec_locate.specs.declared.entries.Kept.{Kept}
use Rattle.ec_locate.specs.declared.entries.Kept.TheVariants.{Register, Fixed, Packed, InFrame}

-- ---- objects

-- where the map puts an object of a name
abbrev pub fixed_place : List Fixed1 → List ℕ → Option ℕ
fixed_place places name = option_map (λ p. p.at) (find (λ p. bytes_eq p.name.items name) places)

abbrev pub fixed_or_packed : Option ℕ → Kept
fixed_or_packed None = Packed
fixed_or_packed (Some at) = Fixed at

-- a named register is kept in its registers, an external object that the map names where it says, and a parameter or local
-- in the frame of its function
abbrev pub kept_by : List Fixed1 → (external : Bool) → (name : List ℕ) → PlainStorage → Kept
kept_by places external name (static inits) = if external then fixed_or_packed (fixed_place places name) else Packed
kept_by places external name (local f) = InFrame f
kept_by places external name (param f) = InFrame f
kept_by places external name (register first) = Register first

abbrev pub is_static : PlainStorage → Bool
is_static (static inits) = true
is_static (local f) = false
is_static (param f) = false
is_static (register first) = false

abbrev pub entry_of : List PlainStruct → List Fixed1 → PlainObject → Entry
entry_of structs places o = record {
  size = size_of_type structs o.ty;
  home = o.home;
  is_static = is_static o.storage;
  kept = kept_by places o.external o.name o.storage;
}

abbrev pub entries : List Fixed1 → PlainProgram → List Entry
entries places p = map (entry_of p.structs places) p.objects

-- ---- bytes

abbrev pub packed_flash : Kept → Home → ℕ → ℕ
packed_flash Packed Flash size = size
packed_flash _ _ size = 0

abbrev pub packed_far : Kept → Home → ℕ → ℕ
packed_far Packed Far size = size
packed_far _ _ size = 0

abbrev pub packed_data : Kept → Home → ℕ → ℕ
packed_data Packed Data size = size
packed_data _ _ size = 0

abbrev pub initial_bytes : (is_static : Bool) → Home → ℕ → ℕ
initial_bytes true Data size = size
initial_bytes _ _ size = 0

-- the bytes of an object in the region of its home, 0 where it is kept elsewhere
abbrev pub flash_size : Entry → ℕ
flash_size e = packed_flash e.kept e.home e.size

abbrev pub far_size : Entry → ℕ
far_size e = packed_far e.kept e.home e.size

abbrev pub data_size : Entry → ℕ
data_size e = packed_data e.kept e.home e.size

-- the initial bytes of a static object of the home data, wherever it is kept
abbrev pub initial_size : Entry → ℕ
initial_size e = initial_bytes e.is_static e.home e.size

abbrev pub flash_sizes : List Entry → ℕ
flash_sizes es = sum_by flash_size es

abbrev pub far_sizes : List Entry → ℕ
far_sizes es = sum_by far_size es

abbrev pub data_sizes : List Entry → ℕ
data_sizes es = sum_by data_size es

abbrev pub initial_sizes : List Entry → ℕ
initial_sizes es = sum_by initial_size es

-- ---- frames

-- the function in whose frame an object is kept
abbrev pub frame_of : Kept → Option ℕ
frame_of (InFrame f) = Some f
frame_of Packed = None
frame_of (Fixed at) = None
frame_of (Register first) = None

abbrev pub owned_of : Entry → Owned
owned_of e = record { owner = frame_of e.kept; size = e.size }

-- the bytes of the parameters and locals of function f
abbrev pub local_size : List Entry → (f : ℕ) → ℕ
local_size es f = frame_bytes f (map owned_of es)

-- the bytes of the scratch memory of a function, by its sixteenth part
abbrev pub frame_size : ℕ → ℕ
frame_size frame = 16 * frame

abbrev pub scratch_size : (frames : List ℕ) → (f : ℕ) → ℕ
scratch_size frames f = frame_size (slice_index frames f)

-- ---- the work bytes

-- 64, and behind them a byte for each dynamic group of the map
abbrev pub work_size : IoTable → ℕ
work_size io = 64 + length io.dynamics.items

-- ---- needs

-- of region `tables`: free objects of home flash, and the initial bytes of all static data objects
abbrev pub table_need : List Entry → ℕ
table_need es = flash_sizes es + initial_sizes es

-- of region `far`: free objects of home far
abbrev pub far_need : List Entry → ℕ
far_need es = far_sizes es

-- of region `data`: free static data objects, the parameters and locals of each function and its scratch memory, both
-- overlaid by the calls, and the work bytes
abbrev pub data_need : (work : ℕ) → (rows : List (List ℕ)) → List Entry → (frames : List ℕ) → ℕ
data_need work rows es frames =
    data_sizes es + need_of rows (local_size es) + need_of rows (scratch_size frames) + work
