-- What must hold of what is known at a place, so that the expressions there mean what a valid program asks for, or
-- mean something at all.
use Rattle.std.specs.Prelude.{ℕ, ◌≡◌, ◌⊎◌, ◌<◌, Bool, true, false, ⊤, pos, Some, IsSome, IsSomeAnd, IfSome}
use Rattle.std.specs.Prelude.{option_map, List, map, length, slice_get}
use Rattle.std.specs.List.{AllByRecursion}
use Rattle.ec_iohw.specs.declared.table.IoTable.{IoTable}
use Rattle.ec_space.specs.declared.space.SpaceId.{SpaceId}
use Rattle.ec_grammar.specs.Tokens.{Lexeme, whole, fixed}
use Rattle.ec_grammar.specs.Trees.{Leaf}
use Rattle.ec_core.specs.declared.arithmetic_types.Arithmetic.TheVariants.{Integer, Fixed}
use Rattle.ec_core.specs.ArithmeticValues.{HoldsNumber}
use Rattle.ec_core.specs.Layout.{IsScalar, AreStructs}
use Rattle.ec_core.specs.Plain.{PlainType, struct, PlainStruct, PlainObject, PlainFunction, PlainProgram}
use Rattle.ec_core.specs.Valid.{IsNamedIn, IsAddressable, IsScalarOrVoid}
use Rattle.ec_check_names.specs.declared.tags.TagState.{TagState}
use Rattle.ec_check_names.specs.declared.tags.TagState.TheVariants.{Undefined, Broken, Struct}
use Rattle.ec_check_names.specs.Names.{Named, an_object, a_function, found}
use Rattle.ec_check_names.specs.Tags.{tag_state}
use Rattle.ec_check_operands.specs.Operands.{Operand}
use Rattle.ec_check_forms.specs.Constraints.{IsArithmetic, IsStruct}
use Rattle.ec_check_forms.specs.Meanings.{HasNullType, IsNoStructValue}
use Rattle.ec_check_forms.specs.Validity.{IsUsable, IsPlaceType, HaveMembers}
use Rattle.ec_check_expressions.specs.Known.{Known}

-- ---- constants

-- a token that is a constant stands for a number of its type
abbrev pub IsHeld : Lexeme → Type 0
IsHeld (whole n signed bytes) = HoldsNumber (Integer (record { signed = signed; bytes = bytes })) (pos n)
IsHeld (fixed kind n) = HoldsNumber (Fixed (record { kind = kind; sat = false })) n
IsHeld x = ⊤

abbrev pub AreHeld : List Leaf → Type 0
AreHeld leaves = AllByRecursion (λ leaf. IsHeld leaf.lexeme) leaves

-- ---- what names stand for

-- An object of a program is of this type, in this space, const or not, and can be named in the function with number f;
-- but for a number in a named register it has an address
pub record IsObjectKnown (p : PlainProgram) (f : ℕ) (ty : PlainType) (konst : Bool) (space : SpaceId) (register : Bool)
    (x : PlainObject) : Type 0 where
  pub typed : x.ty ≡ ty
  pub constness : x.const ≡ konst
  pub spaced : x.space ≡ space
  pub kind : IsPlaceType p.structs ty
  pub nameable : IsNamedIn f x.storage
  pub addressed : IsAddressable x.storage ⊎ ((register ≡ true) × IsArithmetic ty)

-- a value of the type can be passed
abbrev pub IsPassed : List PlainStruct → PlainType → Type 0
IsPassed structs ty = IsScalar ty × IsUsable structs ty

-- a function of a program has this result, and parameters of these types
pub record IsFunctionKnown (p : PlainProgram) (returns : PlainType) (params : List PlainType)
    (g : PlainFunction) : Type 0 where
  pub returned : g.returns ≡ returns
  pub scalar : IsScalarOrVoid returns
  pub usable : IsUsable p.structs returns
  pub typed : map (λ o. option_map (λ x. x.ty) (slice_get p.objects o)) g.params ≡ map Some params
  pub passed : AllByRecursion (IsPassed p.structs) params

-- what a name stands for in the function with number f is the program's, where it has a number and types
abbrev pub IsOf : PlainProgram → ℕ → Named → Type 0
IsOf p f (an_object (Some n) (Some ty) konst space register) =
    IsSomeAnd (slice_get p.objects n) (IsObjectKnown p f ty konst space register)
IsOf p f (a_function (Some n) (Some returns) (Some params)) =
    IsSomeAnd (slice_get p.functions n) (IsFunctionKnown p returns params)
IsOf p f what = ⊤

-- What is known at a place of the function with number f is of the program: what names stand for, the structs that
-- tags stand for, the structs that are known, by their numbers, and the ports
pub record Suits (p : PlainProgram) (io : IoTable) (f : ℕ) (k : Known) : Type 0 where
  pub names : (n : List ℕ) → IfSome (found n k.names) (IsOf p f)
  pub tags : (n : List ℕ) (i : ℕ) → tag_state n k.tags ≡ Struct i → IsPlaceType p.structs (struct i)
  pub structs : (i : ℕ) (s : PlainStruct) → slice_get k.structs i ≡ Some s → slice_get p.structs i ≡ Some s
  pub small : AreStructs k.structs
  pub members : HaveMembers p.structs
  pub ports : k.ports ≡ io

-- ---- what means something

-- an operand of which a form means something where it breaks no rule: the null constant is an integer, and a struct is
-- no value
pub record IsProper (x : Operand) : Type 0 where
  pub null : HasNullType x
  pub whole : IsNoStructValue x

-- ---- declarations that broke no rule

-- a name has its types; no function returns a struct
abbrev pub IsWhole : Named → Type 0
IsWhole (an_object number ty konst space register) = IsSome ty
IsWhole (a_function number returns params) = IsSomeAnd returns (λ ty. ¬ IsStruct ty) × IsSome params

-- a tag stands for no broken definition, and for one of so many structs where it stands for one
abbrev pub IsWholeTag : (structs : ℕ) → TagState → Type 0
IsWholeTag structs Undefined = ⊤
IsWholeTag structs Broken = ⊥
IsWholeTag structs (Struct i) = i < structs

-- what is known was declared without a broken rule
pub record HasTypes (k : Known) : Type 0 where
  pub names : (n : List ℕ) → IfSome (found n k.names) IsWhole
  pub tags : (n : List ℕ) → IsWholeTag (length k.structs) (tag_state n k.tags)
