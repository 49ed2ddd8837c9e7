-- The objects that a body declares, behind those that a program has so far.
use Rattle.std.specs.Prelude.{ℕ, ◌≡◌, ◌≤◌, false, Some, List, ◌++◌, length, slice_get}
use Rattle.std.specs.List.{AllByRecursion}
use Rattle.ec_space.specs.declared.space.Home.TheVariants.{Data}
use Rattle.ec_space.specs.declared.space.SpaceId.TheVariants.{Generic}
use Rattle.ec_core.specs.Layout.{IsObjectType, size_of_type}
use Rattle.ec_core.specs.Plain.{PlainType, PlainStruct, PlainObject, local}
use Rattle.ec_check_forms.specs.Validity.{IsPlaceType}

-- the type of an object that is declared, by the structs that are known there and by all structs of the program: it has
-- from 1 to 32,767 bytes
pub record IsDeclaredType (some all : List PlainStruct) (ty : PlainType) : Type 0 where
  pub known : IsObjectType (length some) ty
  pub placed : IsPlaceType all ty
  pub small : size_of_type all ty ≤ 32_767

-- a local object of the function with number f, of a unit: it has from 1 to 32,767 bytes, stands in the generic space,
-- and is kept in the data bank
pub record IsLocal (structs : List PlainStruct) (unit f : ℕ) (x : PlainObject) : Type 0 where
  pub kind : IsPlaceType structs x.ty
  pub small : size_of_type structs x.ty ≤ 32_767
  pub declared_in : x.unit ≡ unit
  pub internal : x.external ≡ false
  pub spaced : x.space ≡ Generic
  pub home : x.home ≡ Data
  pub storage : x.storage ≡ local f

-- some objects, and others behind them, of which this holds
pub record AreAppended (P : PlainObject → Type 0) (before after : List PlainObject) : Type 0 where
  pub declared : List PlainObject
  pub whole : after ≡ before ++ declared
  pub each : AllByRecursion P declared

-- the first objects of a program are these
abbrev pub AreFirst : List PlainObject → List PlainObject → Type 0
AreFirst some all = (i : ℕ) (x : PlainObject) → slice_get some i ≡ Some x → slice_get all i ≡ Some x
