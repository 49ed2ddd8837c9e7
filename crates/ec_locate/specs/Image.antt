-- The contents of the flash: the initial values of static objects, and the code.
use Rattle.std.specs.Prelude.{ℕ, ◌+◌, Bool, true, List, [], ◌∷◌, ◌++◌, map, replicate, Option, Some, None}
use Rattle.std.specs.Prelude.{option_map, unwrap_or, slice_get, slice_index, false}
use Rattle.std.specs.Int.{w128, cast_unsigned}
use Rattle.ec_space.specs.Bytes.{little_endian}
use Rattle.ec_space.specs.Memory.{flash_size}
use Rattle.ec_space.specs.declared.Core.{Core}
use Rattle.ec_space.specs.declared.space.Home.{Home}
use Rattle.ec_space.specs.declared.space.Home.TheVariants.{Flash, Far, Data}
use Rattle.ec_space.specs.declared.space.Place.{Place}
use Rattle.ec_space.specs.declared.space.SpaceId.{SpaceId}
use Rattle.ec_space.specs.declared.space.SpaceId.TheVariants.{Generic}
use Rattle.ec_avr.specs.declared.image.Image.{Image}
use Rattle.ec_asm.specs.Placed.{code_image}
use Rattle.ec_asm.specs.declared.items.AsmItem.{AsmItem}
use Rattle.ec_core.specs.Layout.{PlainLeaf, scalar_size, leaves_of_type}
use Rattle.ec_core.specs.Plain.{PlainStruct, PlainType, pointer, PlainObject}
use Rattle.ec_core.specs.Plain.{PlainStorage, static, local, param, register, PlainProgram}
use Rattle.ec_core.specs.declared.programs.LeafInit.{LeafInit}
use Rattle.ec_core.specs.declared.programs.LeafInit.TheVariants.{Number, Null, Address}
pub use Rattle.ec_locate.specs.Pointers.{pointer_to}
use Rattle.ec_locate.specs.Code.{overwritten, resolved}
use Rattle.ec_locate.specs.Layout.{LayoutView}

-- ---- initial values

-- the bytes of a flash, and which of them are written
pub record FlashView : Type 0 where
  pub bytes : List ℕ
  pub written : List Bool

abbrev pub flash_of : Image → FlashView
flash_of image = record { bytes = image.bytes.items; written = image.written.items }

-- the space of a pointer type
abbrev pub space_of : PlainType → SpaceId
space_of (pointer space const to) = space
space_of ty = Generic

-- the number that the bytes of an initial value make, in two's complement
abbrev pub value_number : List Place → PlainType → LeafInit → ℕ
value_number places ty (Number n) = cast_unsigned w128 n
value_number places ty Null = 0
value_number places ty (Address o offset) = pointer_to (space_of ty) (slice_get places o) offset

abbrev pub value_bytes : List Place → PlainType → Option LeafInit → List ℕ
value_bytes places ty None = []
value_bytes places ty (Some init) = little_endian (scalar_size ty) (value_number places ty init)

-- the initial values of leaves, the first of which is number i
abbrev pub leaf_bytes : List Place → ℕ → List PlainLeaf → List LeafInit → List ℕ
leaf_bytes places i [] inits = []
leaf_bytes places i (leaf ∷ leaves) inits =
    value_bytes places leaf.ty (slice_get inits i) ++ leaf_bytes places (i + 1) leaves inits

abbrev pub object_bytes : List Place → List PlainStruct → PlainType → List LeafInit → List ℕ
object_bytes places structs ty inits = leaf_bytes places 0 (leaves_of_type structs ty) inits

-- ---- what is written

-- bytes from an address on, which are written then
abbrev pub with_bytes : FlashView → ℕ → List ℕ → FlashView
with_bytes f at bytes = record {
  bytes = overwritten f.bytes at bytes;
  written = overwritten f.written at (map (λ byte. true) bytes);
}

-- the flash address of the initial values of object i
abbrev pub values_at : LayoutView → ℕ → Home → ℕ
values_at y i Flash = unwrap_or (option_map (λ p. p.offset) (slice_get y.places i)) 0
values_at y i Far = unwrap_or (option_map (λ p. p.offset) (slice_get y.places i)) 0
values_at y i Data = slice_index y.initials i

abbrev pub with_values : List PlainStruct → LayoutView → ℕ → PlainObject → PlainStorage → FlashView → FlashView
with_values structs y i o (static inits) f =
    with_bytes f (values_at y i o.home) (object_bytes y.places structs o.ty inits)
with_values structs y i o (local g) f = f
with_values structs y i o (param g) f = f
with_values structs y i o (register first) f = f

-- the initial values of all static objects, the first of which is number i
abbrev pub with_objects : List PlainStruct → LayoutView → ℕ → List PlainObject → FlashView → FlashView
with_objects structs y i [] f = f
with_objects structs y i (o ∷ os) f = with_objects structs y (i + 1) os (with_values structs y i o o.storage f)

-- an erased flash of a core
abbrev pub blank : Core → FlashView
blank core = record { bytes = replicate (flash_size core) 255; written = replicate (flash_size core) false }

-- the initial values, and then the code from address 0 on; everything else is not written
abbrev pub image : Core → PlainProgram → LayoutView → (last : ℕ) → List AsmItem → FlashView
image core p y last items =
    with_bytes (with_objects p.structs y 0 p.objects (blank core)) 0 (code_image (resolved items y last) items)
