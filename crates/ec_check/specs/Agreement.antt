-- The numbers that definitions are given before the walk over all units are those of what the walk makes.
use Rattle.std.specs.Prelude.{ℕ, ◌≡◌, ◌<◌, ◌≤◌, Bool, true, false, Option, Some, IsSomeAnd, List, [], map, length}
use Rattle.std.specs.Prelude.{slice_get, option_map, AllPairs, Contains}
use Rattle.std.specs.List.{AllByRecursion}
use Rattle.ec_iohw.specs.declared.table.IoTable.{IoTable}
use Rattle.ec_space.specs.declared.space.Home.TheVariants.{Data as DataHome}
use Rattle.ec_space.specs.declared.space.SpaceId.{SpaceId}
use Rattle.ec_space.specs.declared.space.SpaceId.TheVariants.{Generic}
use Rattle.ec_core.specs.Layout.{struct_layouts}
use Rattle.ec_core.specs.Plain.{PlainType, PlainStruct, PlainObject, PlainFunction, register}
use Rattle.ec_core.specs.Valid.{IsStatic}
use Rattle.ec_check_names.specs.declared.numbering.Defined.{Defined}
use Rattle.ec_check_names.specs.declared.numbering.Defined.TheVariants.{Object, Register, Function as FunctionKind}
use Rattle.ec_check_names.specs.declared.specifiers.StorageWord.{StorageWord}
use Rattle.ec_check_names.specs.Definitions as numbering
use Rattle.ec_check_names.specs.Definitions.{Definition, Numbering, link_in}
use Rattle.ec_check_names.specs.Linkage.{linkage_of}
use Rattle.ec_check_expression_laws.specs.Suits.{HasTypes}
use Rattle.ec_check_file_scope.specs.FileNames.{FileKind, an_object, a_register, a_function, FileName, conflict, earlier_link}
use Rattle.ec_check_file_scope.specs.FileNames.{is_external, is_registered}
use Rattle.ec_check_file_scope.specs.FileObjects.{home_of}
use Rattle.ec_check_file_scope.specs.States.{State, known_of, IsSoundState}

-- ---- what definitions make

-- an object of the program at file scope, with the name, the unit and the linkage of its definition, and of what it was
-- declared as
pub record IsFileObject (d : Definition) (ty : PlainType) (konst : Bool) (space : SpaceId)
    (x : PlainObject) : Type 0 where
  pub name : x.name ≡ d.name
  pub unit : x.unit ≡ d.unit
  pub external : x.external ≡ is_external d.linkage
  pub typed : x.ty ≡ ty
  pub constness : x.const ≡ konst
  pub spaced : x.space ≡ space
  pub home : x.home ≡ home_of space
  pub storage : IsStatic x.storage

-- an object of the program in named registers from one on
pub record IsFileRegister (d : Definition) (first : ℕ) (ty : PlainType) (konst : Bool) (x : PlainObject) : Type 0 where
  pub name : x.name ≡ d.name
  pub unit : x.unit ≡ d.unit
  pub external : x.external ≡ true
  pub typed : x.ty ≡ ty
  pub constness : x.const ≡ konst
  pub spaced : x.space ≡ Generic
  pub home : x.home ≡ DataHome
  pub storage : x.storage ≡ register first

-- a function of the program, whose parameters are objects of these types
pub record IsFileFunction (objects : List PlainObject) (d : Definition) (returns : PlainType) (params : List PlainType)
    (g : PlainFunction) : Type 0 where
  pub name : g.name ≡ d.name
  pub unit : g.unit ≡ d.unit
  pub returned : g.returns ≡ returns
  pub typed : map (λ o. option_map (λ x. x.ty) (slice_get objects o)) g.params ≡ map Some params

-- the object or the function with the number of the definition is what was declared
abbrev pub IsMade : State → Definition → Defined → FileKind → Type 0
IsMade s d Object (an_object (Some ty) konst space) =
    IsSomeAnd (slice_get s.scope.objects d.number) (IsFileObject d ty konst space)
IsMade s d Register (a_register (Some first) (Some ty) konst) =
    IsSomeAnd (slice_get s.scope.objects d.number) (IsFileRegister d first ty konst)
IsMade s d FunctionKind (a_function (Some returns) count (Some params)) =
    IsSomeAnd (slice_get s.functions d.number) (IsFileFunction s.scope.objects d returns params)
IsMade s d kind declared = ⊥

-- a declaration at file scope is the definition, and made what has its number
pub record IsDefinedBy (s : State) (d : Definition) (e : FileName) : Type 0 where
  pub defines : e.defines ≡ true
  pub name : e.name ≡ d.name
  pub unit : e.unit ≡ d.unit
  pub linkage : e.linkage ≡ d.linkage
  pub made : IsMade s d d.kind e.kind

-- one of the declarations at file scope is the definition
abbrev pub IsDefined : State → Definition → Type 0
IsDefined s d = (e : FileName) × (Contains s.declared e × IsDefinedBy s d e)

-- ---- agreement

-- each struct has a byte at least
abbrev pub AreFilled : List PlainStruct → Type 0
AreFilled structs = (i : ℕ) → i < length structs → 1 ≤ (struct_layouts structs i).size

-- What is numbered and what is known so far in the unit with a number, where no rule is broken: as many objects and
-- functions; the linkage that the next declaration of a name has; the names of named registers; and each definition has
-- the number of what its declaration made. No two declarations conflict, none is of a later unit, all have types, and
-- each struct has a byte at least.
pub record Agrees (io : IoTable) (unit : ℕ) (n : Numbering) (s : State) : Type 0 where
  pub whole : s.whole ≡ true
  pub objects : length s.scope.objects ≡ n.objects
  pub functions : length s.functions ≡ n.functions
  pub links : (storage : Option StorageWord) (callable : Bool) (name : List ℕ)
      → link_in storage callable name n ≡ linkage_of storage callable (earlier_link name unit s.declared)
  pub registered : (name : List ℕ)
      → numbering.is_registered name n.definitions ≡ is_registered name s.declared
  pub made : AllByRecursion (IsDefined s) n.definitions
  pub clear : AllPairs (λ e d. conflict d e ≡ false) s.declared
  pub units : AllByRecursion (λ e. e.unit ≤ unit) s.declared
  pub types : HasTypes (known_of io s)
  pub closed : s.scope.names.inside ≡ []
  pub sound : IsSoundState s
  pub filled : AreFilled s.structs
