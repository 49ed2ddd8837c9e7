-- The initial values of a placed program stand in its image, and nothing else is written there but the code.
use Rattle.std.specs.Prelude.{ℕ, ◌≡◌, ◌+◌, ◌*◌, ◌<◌, ◌≤◌, true, false, List, Some, length, slice_get}
use Rattle.ec_space.specs.Bytes.{little_endian}
use Rattle.ec_space.specs.Memory.{flash_size}
use Rattle.ec_space.specs.declared.space.Home.TheVariants.{Flash as FlashHome, Data as DataHome}
use Rattle.ec_asm.specs.Items.{code_words}
use Rattle.ec_asm.specs.Placed.{HoldsFrom}
use Rattle.ec_asm.specs.declared.items.AsmProgram.{AsmProgram}
use Rattle.ec_core.specs.Layout.{PlainLeaf, scalar_size, size_of_type, leaves_of_type}
use Rattle.ec_core.specs.Plain.{PlainObject, static, PlainProgram}
use Rattle.ec_core.specs.Valid.{Valid}
use Rattle.ec_core.specs.declared.programs.LeafInit.{LeafInit}
use Rattle.ec_map.specs.Cores.{home_end}
use Rattle.ec_map.specs.Maps.{ValidMap}
use Rattle.ec_map.specs.declared.map.Map.{Map}
use Rattle.ec_locate.specs.Image.{value_number, object_bytes, values_at}
use Rattle.ec_locate.specs.Placing.{IsLocated, layout_by}
use Rattle.ec_locate.specs.declared.placing.Located.{Located}

-- object i is static, and has these initial values
pub record IsInitialised (p : PlainProgram) (i : ℕ) (o : PlainObject) (inits : List LeafInit) : Type 0 where
  pub is_object : slice_get p.objects i ≡ Some o
  pub is_static : o.storage ≡ static inits

-- the flash address of the initial values of object i: its own place, or its bytes in region `tables`
abbrev pub values_of : PlainProgram → Map → AsmProgram → ℕ → PlainObject → ℕ
values_of p m asm i o = values_at (layout_by p m asm) i o.home

-- The bytes of the initial values of object i stand there, as many as the object has, and so the value of each leaf
-- stands at the leaf's offset. Those of an object of home data end where objects of home flash can end
pub record ValuesStand (p : PlainProgram) (m : Map) (asm : AsmProgram) (l : Located) (i : ℕ) (o : PlainObject)
    (inits : List LeafInit) : Type 0 where
  pub size : length (object_bytes l.places.items p.structs o.ty inits) ≡ size_of_type p.structs o.ty
  pub stand : HoldsFrom l.image.bytes.items (values_of p m asm i o) (object_bytes l.places.items p.structs o.ty inits)
  pub each : (k : ℕ) (leaf : PlainLeaf) (init : LeafInit) → slice_get (leaves_of_type p.structs o.ty) k ≡ Some leaf
      → slice_get inits k ≡ Some init
      → HoldsFrom l.image.bytes.items (values_of p m asm i o + leaf.at)
      (little_endian (scalar_size leaf.ty) (value_number l.places.items leaf.ty init))
  pub ends : o.home ≡ DataHome → values_of p m asm i o + size_of_type p.structs o.ty ≤ home_end FlashHome m.core

-- an address of the code, or of the initial values of a static object
pub data IsPut (p : PlainProgram) (m : Map) (asm : AsmProgram) : ℕ → Type 0 where
  of_code : (a : ℕ) → a < 2 * code_words asm.items.items → IsPut p m asm a
  of_values : (a i : ℕ) (o : PlainObject) (inits : List LeafInit) → IsInitialised p i o inits
      → values_of p m asm i o ≤ a → a < values_of p m asm i o + size_of_type p.structs o.ty → IsPut p m asm a

pub record InitialValues (p : PlainProgram) (m : Map) (asm : AsmProgram) (l : Located) : Type 0 where
  pub values : (i : ℕ) (o : PlainObject) (inits : List LeafInit) → IsInitialised p i o inits
      → ValuesStand p m asm l i o inits
  pub written : (a : ℕ) → IsPut p m asm a → slice_get l.image.written.items a ≡ Some true
  pub unwritten : (a : ℕ) → a < flash_size m.core → ¬ IsPut p m asm a → slice_get l.image.written.items a ≡ Some false

abbrev pub InitialValuesStand : Type 0
InitialValuesStand =
    (p : PlainProgram) (m : Map) (asm : AsmProgram) (l : Located) → Valid p m.io → ValidMap m → IsLocated p m asm l
    → InitialValues p m asm l
