-- What names at file scope stand for: what they were declared as, with the number of their definition.
use Rattle.std.specs.Prelude.{ℕ, ◌≡◌, ◌+◌, ◌≤◌, true, false, ⊤, Option, Some, IfSome, IsSomeAnd, List, [], slice_get, Contains}
use Rattle.std.specs.List.{AllByRecursion}
use Rattle.ec_space.specs.declared.space.SpaceId.{SpaceId}
use Rattle.ec_space.specs.declared.space.SpaceId.TheVariants.{Generic}
use Rattle.ec_core.specs.Layout.{size_of_type}
use Rattle.ec_core.specs.Plain.{PlainType, struct, PlainStruct, PlainObject, PlainProgram}
use Rattle.ec_core.specs.Typing.{int}
use Rattle.ec_core.specs.Valid.{IsScalarOrVoid, IsStatic}
use Rattle.ec_check_names.specs.Definitions.{Definition, number_of}
use Rattle.ec_check_names.specs.Names as names
use Rattle.ec_check_names.specs.Names.{Named}
use Rattle.ec_check_names.specs.Spellings.{is_main}
use Rattle.ec_check_forms.specs.Constraints.{IsArithmetic}
use Rattle.ec_check_forms.specs.Validity.{IsUsable, IsPlaceType}
use Rattle.ec_check_expression_laws.specs.Suits.{IsPassed}
use Rattle.ec_check_file_scope.specs.FileNames.{FileKind, an_object, a_register, a_function, FileName}
use Rattle.ec_check_file_scope.specs.FileObjects.{home_of}
use Rattle.ec_check_file_scope.specs.States.{State}

-- ---- meanings

abbrev pub meaning_by : (object function : Option ℕ) → FileKind → Named
meaning_by o f (an_object ty konst space) = names.an_object o ty konst space false
meaning_by o f (a_register first ty konst) = names.an_object o ty konst Generic true
meaning_by o f (a_function returns count params) = names.a_function f returns params

-- what a declared name stands for
abbrev pub meaning : List Definition → FileName → Named
meaning ds e =
    meaning_by (number_of e.name e.unit e.linkage false ds) (number_of e.name e.unit e.linkage true ds) e.kind

-- it is what one of the declared names stands for
abbrev pub IsMeant : List Definition → List FileName → Named → Type 0
IsMeant ds declared what = (e : FileName) × (Contains declared e × (meaning ds e ≡ what))

-- a static object of a type, in a space
pub record IsStaticObject (ty : PlainType) (space : SpaceId) (x : PlainObject) : Type 0 where
  pub typed : x.ty ≡ ty
  pub spaced : x.space ≡ space
  pub home : x.home ≡ home_of space
  pub storage : IsStatic x.storage

-- a name stands for a static object, where it stands for an object that is in no register
abbrev pub IsStaticName : PlainProgram → Named → Type 0
IsStaticName p (names.an_object (Some n) (Some ty) konst space false) =
    IsSomeAnd (slice_get p.objects n) (IsStaticObject ty space)
IsStaticName p what = ⊤

-- ---- types that fit a program of structs

-- a type of objects
pub record IsFileType (all : List PlainStruct) (ty : PlainType) : Type 0 where
  pub placed : IsPlaceType all ty
  pub small : size_of_type all ty ≤ 32_767

-- a type of objects in named registers
pub record IsRegisterType (all : List PlainStruct) (first : Option ℕ) (ty : PlainType) : Type 0 where
  pub placed : IsPlaceType all ty
  pub arithmetic : IsArithmetic ty
  pub within : IfSome first (λ n. (2 ≤ n) × (n + size_of_type all ty ≤ 8))

-- a type of results
abbrev pub IsResult : List PlainStruct → PlainType → Type 0
IsResult all ty = IsScalarOrVoid ty × IsUsable all ty

abbrev pub IsPlacedKind : List PlainStruct → FileKind → Type 0
IsPlacedKind all (an_object ty konst space) = IfSome ty (IsFileType all)
IsPlacedKind all (a_register first ty konst) = IfSome ty (IsRegisterType all first)
IsPlacedKind all (a_function returns count params) =
    IfSome returns (IsResult all) × IfSome params (λ tys. AllByRecursion (IsPassed all) tys)

-- what `main` may be declared as
abbrev pub IsMainKind : FileKind → Type 0
IsMainKind (an_object ty konst space) = ⊥
IsMainKind (a_register first ty konst) = ⊥
IsMainKind (a_function returns count params) = IfSome returns (λ ty. ty ≡ int) × IfSome params (λ tys. tys ≡ [])

pub record IsPlacedName (all : List PlainStruct) (e : FileName) : Type 0 where
  pub kind : IsPlacedKind all e.kind
  pub main : is_main e.name ≡ true → IsMainKind e.kind

-- what is known between two steps is of these structs
pub record ArePlaced (all : List PlainStruct) (ds : List Definition) (s : State) : Type 0 where
  pub tags : AllByRecursion (λ e. IfSome e.1 (λ i. IsPlaceType all (struct i))) s.tags
  pub members : AllByRecursion (λ x. AllByRecursion (λ m. IsPlaceType all m.ty) x.members) s.structs
  pub declared : AllByRecursion (IsPlacedName all) s.declared
  pub names : AllByRecursion (λ e. IsMeant ds s.declared e.1) s.scope.names.outside

-- the program that a state is
abbrev pub program_in : State → (main : ℕ) → PlainProgram
program_in s main = record { structs = s.structs; objects = s.scope.objects; functions = s.functions; main = main }
