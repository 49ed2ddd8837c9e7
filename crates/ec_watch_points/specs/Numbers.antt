-- The numbers of the static objects of a program that other units can name (ISO/IEC 9899:1999, 6.2.2 and 6.2.4), in the
-- data bank: each leaf of such an object whose type is arithmetic.
use Rattle.std.specs.Prelude.{ℕ, ◌+◌, ◌≤◌, ◌≡◌, Bool, true, false, ◌&&◌, IsTrue, List, length, Option, Some, None}
use Rattle.std.specs.Prelude.{slice_get}
use Rattle.std.specs.Str.{bytes_eq}
use Rattle.ec_fx.specs.Formats.{format_of}
use Rattle.ec_iohw.specs.declared.table.IoTable.{IoTable}
use Rattle.ec_space.specs.declared.space.Bank.TheVariants.{Data}
use Rattle.ec_space.specs.declared.space.Place.{Place}
use Rattle.ec_core.specs.declared.arithmetic_types.Arithmetic.{Arithmetic}
use Rattle.ec_core.specs.declared.arithmetic_types.Arithmetic.TheVariants.{Integer, Fixed}
use Rattle.ec_core.specs.ArithmeticTypes.{arithmetic_of}
use Rattle.ec_core.specs.Layout.{PlainLeaf, scalar_size, size_of_type, leaves_of_type}
use Rattle.ec_core.specs.Plain.{PlainStorage, static, local, param, register, PlainObject, PlainProgram}
use Rattle.ec_core.specs.Valid.{Valid}
use Rattle.ec_emu_watch.specs.Points.{is_data}
use Rattle.ec_space.specs.Spaces.{bank_of}
use Rattle.ec_emu_watch.specs.declared.point.WatchPoint.{WatchPoint}

-- it is valid beside the ports of some map
abbrev pub IsValid : PlainProgram → Type 0
IsValid p = (io : IoTable) × Valid p io

abbrev pub is_static : PlainStorage → Bool
is_static (static inits) = true
is_static (local f) = false
is_static (param f) = false
is_static (register first) = false

-- an external static object of a name, which is kept in the data bank
abbrev pub is_named : List ℕ → PlainObject → Bool
is_named name object = ((object.external && is_static object.storage) && is_data (bank_of object.home)) && bytes_eq object.name name

-- leaf k of object o, which has such a name, is a number of a type
pub record IsNumber (p : PlainProgram) (name : List ℕ) (k o : ℕ) (leaf : PlainLeaf) (ty : Arithmetic) : Type 0 where
  pub object : PlainObject
  pub is_object : slice_get p.objects o ≡ Some object
  pub named : IsTrue (is_named name object)
  pub is_leaf : slice_get (leaves_of_type p.structs object.ty) k ≡ Some leaf
  pub arithmetic : arithmetic_of leaf.ty ≡ Some ty

abbrev pub is_signed : Arithmetic → Bool
is_signed (Integer t) = t.signed
is_signed (Fixed t) = (format_of t.kind).signed

-- what is told of that number, where the objects have these places
pub record IsPointOf (p : PlainProgram) (places : List Place) (name : List ℕ) (k : ℕ) (point : WatchPoint) : Type 0
  where
    pub leaf : PlainLeaf
    pub ty : Arithmetic
    pub is_number : IsNumber p name k point.object leaf ty
    pub same_leaf : point.leaf ≡ k
    pub object_place : Place
    pub stands : slice_get places point.object ≡ Some object_place
    pub place : point.place ≡ record { bank = Data; offset = object_place.offset + leaf.at }
    pub signed : point.signed ≡ is_signed ty
    pub bytes : point.bytes ≡ scalar_size leaf.ty

-- the point of the number, or none where there is no such number
abbrev pub IsPoint : PlainProgram → List Place → (name : List ℕ) → (k : ℕ) → Option WatchPoint → Type 0
IsPoint p places name k None = (o : ℕ) (leaf : PlainLeaf) (ty : Arithmetic) → IsNumber p name k o leaf ty → ⊥
IsPoint p places name k (Some point) = IsPointOf p places name k point

-- each object has a place, and the static ones of the data bank lie below 65,536 there
pub record HavePlaces (p : PlainProgram) (places : List Place) : Type 0 where
  pub each : length places ≡ length p.objects
  pub low : (o : ℕ) (object : PlainObject) (place : Place) → slice_get p.objects o ≡ Some object
      → IsTrue (is_static object.storage) → IsTrue (is_data (bank_of object.home)) → slice_get places o ≡ Some place
      → place.offset + size_of_type p.structs object.ty ≤ 65536
