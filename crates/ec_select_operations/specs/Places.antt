-- Where temporaries and objects stand.
use Rattle.std.specs.Prelude.{◌≡◌, ◌≢◌, ◌⊎◌, ⊤, ℕ, ◌+◌, ◌<◌, ◌≤◌, List, Option, Some, None}
use Rattle.std.specs.Prelude.{option_map, unwrap_or, slice_get}
use Rattle.ec_space.specs.declared.space.Bank.{Bank}
use Rattle.ec_space.specs.declared.space.Bank.TheVariants.{Data as DataBank}
use Rattle.ec_space.specs.Spaces.{bank_of}
use Rattle.ec_asm.specs.declared.pieces.Location.{Location}
use Rattle.ec_asm.specs.declared.pieces.Location.TheVariants.{InRegisters, InMemory}
use Rattle.ec_asm.specs.Change.{Env, Kind, Own, Object}
use Rattle.ec_asm.specs.Pieces.{StandsFrom}
use Rattle.ec_asm.specs.PieceLaws.{IsReadFirst}
use Rattle.ec_core.specs.Layout.{scalar_size, leaves_of_type}
use Rattle.ec_core.specs.Plain.{PlainType, integer, fixed, PlainStorage, static, local, param, register, PlainObject}
use Rattle.ec_core.specs.Plain.{PlainProgram}
use Rattle.ec_ir.specs.declared.operations.Temp.{Temp}
use Rattle.ec_ir.specs.Operations.{PlainIrProgram}
use Rattle.ec_ir.specs.Valid.{CallsTo}
use Rattle.ec_select_operations.specs.Homes.{HasHome, result_register}

-- ---- objects

-- a named register stands at its number, and any other object in memory
abbrev pub location_in : PlainStorage → (object offset : ℕ) → Location
location_in (static inits) o offset = InMemory o offset
location_in (local f) o offset = InMemory o offset
location_in (param f) o offset = InMemory o offset
location_in (register first) o offset = InRegisters (first + offset)

-- accesses of a named register are not noted
abbrev pub kind_in : PlainStorage → Kind
kind_in (static inits) = Object
kind_in (local f) = Object
kind_in (param f) = Object
kind_in (register first) = Own

-- the byte at an offset in an object
abbrev pub object_location : List PlainObject → (object offset : ℕ) → Location
object_location objects o offset =
    unwrap_or (option_map (λ d. location_in d.storage o offset) (slice_get objects o)) (InMemory o offset)

-- an integer type, or a fixed-point type
abbrev pub IsNumeric : PlainType → Type 0
IsNumeric (integer signed bytes) = ⊤
IsNumeric (fixed kind saturates) = ⊤
IsNumeric ty = ⊥

-- a leaf of so many bytes of an object that is kept in a bank
pub record ObjectLeaf (p : PlainProgram) (bank : Bank) : Type 0 where
  pub object : ℕ
  pub number : ℕ
  pub declared : PlainObject
  pub ty : PlainType
  pub bytes : ℕ
  pub at : ℕ
  pub is_object : slice_get p.objects object ≡ Some declared
  pub is_leaf : slice_get (leaves_of_type p.structs declared.ty) number ≡ Some (record { ty = ty; at = at })
  pub size : scalar_size ty ≡ bytes
  pub home : bank_of declared.home ≡ bank

-- ---- objects that can be live at one moment

-- the function whose parameter or local an object is
abbrev pub owner_of : PlainStorage → Option ℕ
owner_of (static inits) = None
owner_of (local f) = Some f
owner_of (param f) = Some f
owner_of (register first) = None

-- functions on one chain of calls: they are one, or one of them calls the other, itself or through others
abbrev pub Chained : PlainIrProgram → (f g : ℕ) → Type 0
Chained p f g = (f ≡ g) ⊎ (CallsTo p g f ⊎ CallsTo p f g)

-- An object of no function is live throughout, and a parameter or local while its function is active. All functions
-- that are active at one moment are on one chain of calls
abbrev pub CanBeLiveTogether : PlainIrProgram → PlainStorage → PlainStorage → Type 0
CanBeLiveTogether p s t = (f g : ℕ) → owner_of s ≡ Some f → owner_of t ≡ Some g → Chained p f g

-- ---- apartness

-- m bytes from a and n bytes from b have no byte in common
pub record Apart (a m b n : ℕ) : Type 0 where
  pub left : a < b → a + m ≤ b
  pub right : b ≤ a → b + n ≤ a

abbrev pub AreDifferent : (p : PlainProgram) → ObjectLeaf p DataBank → ObjectLeaf p DataBank → Type 0
AreDifferent p l k = (l.object ≢ k.object) ⊎ (l.number ≢ k.number)

-- ---- a layout: `home` is the location of each temporary, `base` its address, and `place` the address of each object

-- n bytes stand apart from the work registers R8 to R13 and R26 to R31
pub record IsClear (a n : ℕ) : Type 0 where
  pub low : Apart a n 8 6
  pub high : Apart a n 26 6

-- The temporaries stand in bytes of their own, and so do leaves of objects that can be live together. Two temporaries
-- at one place begin at one address, or are apart. R0, R1, R8 to R13 and R26 to R31 are work registers, and a result is
-- handed on in registers below R26
pub record Layout (p : PlainProgram) (AreTogether : PlainStorage → PlainStorage → Type 0) (e : Env) (slots : ℕ)
    (home : Temp → Location) (base : Temp → ℕ) (place : ℕ → ℕ) : Type 0 where
  pub temps_at : (t : Temp) → HasHome slots t → StandsFrom e (home t) t.bytes (base t) Own
  pub temps_work : (t : Temp) → HasHome slots t → IsClear (base t) t.bytes
  pub temps_apart : (t u : Temp) → HasHome slots t → HasHome slots u → t.at ≢ u.at
      → Apart (base t) t.bytes (base u) u.bytes
  pub temps_again : (t u : Temp) → HasHome slots t → HasHome slots u → t.at ≡ u.at
      → (base t ≡ base u) ⊎ Apart (base t) t.bytes (base u) u.bytes
  pub temps_result : (t : Temp) → HasHome slots t → IsReadFirst (base t) (result_register t.bytes) t.bytes
  pub temps_taken : (t : Temp) → HasHome slots t → IsReadFirst (result_register t.bytes) (base t) t.bytes
  pub leaves_at : (l : ObjectLeaf p DataBank)
      → StandsFrom e (location_in l.declared.storage l.object l.at) l.bytes (place l.object + l.at)
      (kind_in l.declared.storage)
  pub leaves_work : (l : ObjectLeaf p DataBank) → IsClear (place l.object + l.at) l.bytes
  pub leaves_apart : (l k : ObjectLeaf p DataBank) → AreDifferent p l k
      → AreTogether l.declared.storage k.declared.storage
      → Apart (place l.object + l.at) l.bytes (place k.object + k.at) k.bytes
  pub temp_leaf : (t : Temp) (l : ObjectLeaf p DataBank) → HasHome slots t
      → Apart (base t) t.bytes (place l.object + l.at) l.bytes
  pub leaf_temp : (l : ObjectLeaf p DataBank) (t : Temp) → HasHome slots t
      → Apart (place l.object + l.at) l.bytes (base t) t.bytes
