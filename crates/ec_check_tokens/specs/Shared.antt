-- What the walk and the relations share of operators, names, type names, parameters, names at file scope, parts of objects, addresses and
-- operands of ports, in words of its own.
use Rattle.std.specs.Prelude.{ℕ, ◌+◌, ◌<◌, ◌≤◌, ◌≡◌, ◌↔◌, ◌⊎◌, Bool, true, false, IsTrue, Option, Some, None, List, [], ◌∷◌, length}
use Rattle.std.specs.Prelude.{slice_get}
use Rattle.ec_space.specs.declared.space.SpaceId.{SpaceId}
use Rattle.ec_grammar.specs.declared.Spot.{Spot}
use Rattle.ec_grammar.specs.declared.token.PunctKind.{PunctKind}
use Rattle.ec_grammar.specs.declared.token.PunctKind.TheVariants as p
use Rattle.ec_grammar.specs.Trees as t
use Rattle.ec_core.specs.declared.expressions.BinOp.{BinOp}
use Rattle.ec_core.specs.declared.expressions.BinOp.TheVariants as op
use Rattle.ec_core.specs.Layout.{size_of_type}
use Rattle.ec_core.specs.Plain.{PlainType, void, array, struct, PlainStruct}
use Rattle.ec_core.specs.PortOperations.{PortOperation, takes_value}
use Rattle.ec_core.specs.Typing.{unsigned_int, port_value, type_of_member}
use Rattle.ec_check_forms.specs.declared.calls.Meant.TheVariants as meant
use Rattle.ec_check_forms.specs.declared.prefixes.PrefixOp.{PrefixOp}
use Rattle.ec_check_forms.specs.declared.prefixes.PrefixOp.TheVariants as prefixes
use Rattle.ec_check_forms.specs.Calls.{operand_type}
use Rattle.ec_check_forms.specs.Constraints.{IsArithmetic}
use Rattle.ec_check_names.specs.declared.linkage.Linkage.{Linkage}
use Rattle.ec_check_names.specs.declared.linkage.Linkage.TheVariants.{External}
use Rattle.ec_check_names.specs.Firsts.{first_specs}
use Rattle.ec_check_names.specs.Names.{an_object, a_function}
use Rattle.ec_check_names.specs.Tags.{Tags}
use Rattle.ec_check_expressions.specs.Names.{what_is_meant}
use Rattle.ec_check_expressions.specs.Tokens.{operator_of, is_and, compound_operator, prefix_operator, is_up, is_arrow}
use Rattle.ec_check_expressions.specs.TypeNames.{said_type, void_said}
use Rattle.ec_check_initialisers.specs.declared.places.StaticAddress.{StaticAddress}
use Rattle.ec_check_initialisers.specs.Parts.{part_of, part_count}
use Rattle.ec_check_initialisers.specs.Places.{moved, start_of}
use Rattle.ec_check_declarations.specs.Declarators.{ObjectDeclared}
use Rattle.ec_check_declarations.specs.Functions.{FunctionDeclared, param_types}
use Rattle.ec_check_declarations.specs.Params.{ParamDeclared, param_at}
use Rattle.ec_check_declarations.specs.Registers.{RegisterDeclared}
use Rattle.ec_check_file_scope.specs.FileFunctions.{function_name}
use Rattle.ec_check_file_scope.specs.FileNames.{an_object as object_kind, a_register as register_kind, a_function as function_kind}
use Rattle.ec_check_file_scope.specs.FileNames.{FileName, is_external, is_register, is_registered}
use Rattle.ec_check_file_scope.specs.FileObjects.{object_name, register_name, number_size}
use Rattle.ec_check_file_scope.specs.States.{Setting}
use Rattle.ec_check_parts.specs.TypeWords.{Name}
use Rattle.ec_check_parts.specs.Types.{SayType}
use Rattle.ec_check_parts.specs.Units.{word_in}
use Rattle.ec_check_tokens.specs.Definers.{word_of}

-- ---- operators

-- the operator of a binary expression, by its token (ISO/IEC 9899:1999, 6.5.5 to 6.5.12)
pub data IsOperator : PunctKind → BinOp → Type 0 where
  multiplied : IsOperator p.Star op.Mul
  divided : IsOperator p.Slash op.Div
  left_over : IsOperator p.Percent op.Rem
  added : IsOperator p.Plus op.Add
  subtracted : IsOperator p.Minus op.Sub
  shifted_left : IsOperator p.ShiftLeft op.Shl
  shifted_right : IsOperator p.ShiftRight op.Shr
  less : IsOperator p.Less op.Lt
  greater : IsOperator p.Greater op.Gt
  at_most : IsOperator p.LessEqual op.Le
  at_least : IsOperator p.GreaterEqual op.Ge
  equal : IsOperator p.Equal op.Eq
  unequal : IsOperator p.NotEqual op.Ne
  all_of : IsOperator p.Ampersand op.And
  one_of : IsOperator p.Caret op.Xor
  any_of : IsOperator p.Bar op.Or

-- that of a compound assignment (6.5.16.2)
pub data IsCompound : PunctKind → BinOp → Type 0 where
  by_product : IsCompound p.StarAssign op.Mul
  by_quotient : IsCompound p.SlashAssign op.Div
  by_remainder : IsCompound p.PercentAssign op.Rem
  by_sum : IsCompound p.PlusAssign op.Add
  by_difference : IsCompound p.MinusAssign op.Sub
  by_shift_left : IsCompound p.ShiftLeftAssign op.Shl
  by_shift_right : IsCompound p.ShiftRightAssign op.Shr
  by_and : IsCompound p.AmpersandAssign op.And
  by_exclusive_or : IsCompound p.CaretAssign op.Xor
  by_or : IsCompound p.BarAssign op.Or

-- that of a unary expression (6.5.3)
pub data IsPrefix : PunctKind → PrefixOp → Type 0 where
  address : IsPrefix p.Ampersand prefixes.Address
  pointed : IsPrefix p.Star prefixes.Deref
  promoted : IsPrefix p.Plus prefixes.Plus
  negated : IsPrefix p.Minus prefixes.Minus
  inverted : IsPrefix p.Tilde prefixes.Invert
  denied : IsPrefix p.Not prefixes.Not

-- the operators of terms are those of their tokens
pub record OperatorsAreRead : Type 0 where
  pub binary : (x : PunctKind) (o : BinOp) → operator_of x ≡ Some o ↔ IsOperator x o
  pub compound : (x : PunctKind) (o : BinOp) → compound_operator x ≡ Some o ↔ IsCompound x o
  pub prefix : (x : PunctKind) (o : PrefixOp) → IsPrefix x o → prefix_operator x ≡ o
  pub and : (x : PunctKind) → is_and x ≡ true ↔ x ≡ p.AndAnd
  pub up : (x : PunctKind) → is_up x ≡ true ↔ x ≡ p.Increment
  pub arrow : (x : PunctKind) → is_arrow x ≡ true ↔ x ≡ p.Arrow

-- ---- names, type names and parameters

-- what a name means where no call is (6.5.1): an object that no unit defines has no number
pub record NamesAreMeant : Type 0 where
  pub undeclared : what_is_meant None ≡ meant.Undeclared
  pub undefined : (ty : Option PlainType) (konst : Bool) (space : SpaceId) (register : Bool)
      → what_is_meant (Some (an_object None ty konst space register)) ≡ meant.Undefined
  pub object : (number : ℕ) (ty : Option PlainType) (konst : Bool) (space : SpaceId) (register : Bool)
      → what_is_meant (Some (an_object (Some number) ty konst space register)) ≡ meant.Object
  pub function : (number : Option ℕ) (returns : Option PlainType) (params : Option (List PlainType))
      → what_is_meant (Some (a_function number returns params)) ≡ meant.Function

-- a type name says the type that its specifiers and stars say (6.7.6), and void where the specifiers name it
pub record TypeNamesAreSaid : Type 0 where
  pub types : (tags : Tags) (ss : t.Specs) (stars : List t.Star) (ty : PlainType)
      → said_type tags (t.type_name ss stars) ≡ Some ty ↔ SayType tags ss stars ty
  pub voids : (tags : Tags) (ss : t.Specs) (stars : List t.Star)
      → void_said tags (t.type_name ss stars) ≡ None ↔ (¬ Name tags ss void)

-- what is told of a parameter itself is told at its name, and else at its first token; and the storage word of specifiers is the
-- first among them
pub record DeclarationsAreRead : Type 0 where
  pub named : (ty : t.TypeName) (at : Spot) (n : List ℕ) → param_at (t.param ty (Some (t.identifier at n))) ≡ at.index
  pub nameless : (ss : t.Specs) (stars : List t.Star) → param_at (t.param (t.type_name ss stars) None) ≡ first_specs ss
  pub words : (ss : t.Specs) → word_in ss ≡ word_of ss

-- ---- names at file scope

-- the types of parameters, where all are known
pub data HaveTypes : List ParamDeclared → List PlainType → Type 0 where
  no_param : HaveTypes [] []
  a_param : {p : ParamDeclared} {ps : List ParamDeclared} {ty : PlainType} {tys : List PlainType} → p.ty ≡ Some ty → HaveTypes ps tys
      → HaveTypes (p ∷ ps) (ty ∷ tys)

-- the name is declared as that of an object in a named register
abbrev pub IsOfRegister : List ℕ → List FileName → Type 0
IsOfRegister n [] = ⊥
IsOfRegister n (d ∷ ds) = (IsTrue (is_register d.kind) × (d.name ≡ n)) ⊎ IsOfRegister n ds

-- what is kept of a declaration at file scope: its name, its unit, its linkage, whether it defines, and what it declares
pub record FileNamesAreKept : Type 0 where
  pub objects : (r : Setting) (n : List ℕ) (l : Linkage) (defines : Bool) (x : ObjectDeclared)
      → object_name r n l defines x
      ≡ record { name = n; unit = r.unit; linkage = l; defines = defines; kind = object_kind x.ty x.konst x.space }
  pub functions : (r : Setting) (n : List ℕ) (l : Linkage) (defines : Bool) (f : FunctionDeclared)
      → function_name r n l defines f
      ≡ record { name = n; unit = r.unit; linkage = l; defines = defines; kind = function_kind f.returns (length f.params) (param_types f.params) }
  pub registers : (r : Setting) (n : List ℕ) (x : RegisterDeclared)
      → register_name r n x
      ≡ record { name = n; unit = r.unit; linkage = External; defines = true; kind = register_kind x.first x.ty x.konst }
  pub params : (ps : List ParamDeclared) (tys : List PlainType) → param_types ps ≡ Some tys ↔ HaveTypes ps tys
  pub external : (l : Linkage) → is_external l ≡ true ↔ l ≡ External
  pub registered : (n : List ℕ) (ds : List FileName) → is_registered n ds ≡ true ↔ IsOfRegister n ds

-- ---- parts of objects, and addresses

-- the part of an array or a struct with a number: an element, or a member
pub data IsPart (structs : List PlainStruct) : PlainType → ℕ → PlainType → Type 0 where
  element : {of : PlainType} {len i : ℕ} → i < len → IsPart structs (array of len) i of
  member : {index i : ℕ} {ty : PlainType} → type_of_member structs (struct index) i ≡ Some ty → IsPart structs (struct index) i ty

-- how many parts it has
pub data HasParts (structs : List PlainStruct) : PlainType → ℕ → Type 0 where
  elements : {of : PlainType} {len : ℕ} → HasParts structs (array of len) len
  members : {index : ℕ} {d : PlainStruct} → slice_get structs index ≡ Some d → HasParts structs (struct index) (length d.members)

-- the address so many bytes further in an object of a size, or at its end (6.5.6)
pub data IsFurther (size : ℕ) : Option StaticAddress → (bytes : ℕ) → Option StaticAddress → Type 0 where
  nowhere : {bytes : ℕ} → IsFurther size None bytes None
  inside : {a : StaticAddress} {bytes : ℕ} → a.offset + bytes ≤ size
      → IsFurther size (Some a) bytes (Some (record { object = a.object; offset = a.offset + bytes }))
  outside : {a : StaticAddress} {bytes : ℕ} → size < a.offset + bytes → IsFurther size (Some a) bytes None

pub record PartsAreFound : Type 0 where
  pub types : (structs : List PlainStruct) (ty : PlainType) (i : ℕ) (part : PlainType)
      → part_of structs (Some ty) i ≡ Some part ↔ IsPart structs ty i part
  pub counts : (structs : List PlainStruct) (ty : PlainType) (n : ℕ) → HasParts structs ty n → part_count structs ty ≡ n
  pub moved : (size : ℕ) (a : Option StaticAddress) (bytes : ℕ) → IsFurther size a bytes (moved size a bytes)
  pub began : (number : ℕ) → start_of (Some number) ≡ Some (record { object = number; offset = 0 })
  -- the bytes of a number in named registers are those of its type
  pub numbers : (structs : List PlainStruct) (ty : PlainType) → IsArithmetic ty → number_size ty ≡ size_of_type structs ty

-- ---- ports

-- the type of an operand behind the port, by its number: an index stands before a value (ISO/IEC TR 18037:2008, 6.2)
pub data IsOperandType (o : PortOperation) : ℕ → PlainType → Type 0 where
  an_index : o.indexed ≡ true → IsOperandType o 0 unsigned_int
  value_alone : o.indexed ≡ false → takes_value o ≡ true → IsOperandType o 0 (port_value o)
  value_behind : o.indexed ≡ true → takes_value o ≡ true → IsOperandType o 1 (port_value o)

abbrev pub OperandsAreTyped : Type 0
OperandsAreTyped = (o : PortOperation) (i : ℕ) (ty : PlainType) → operand_type o i ≡ Some ty ↔ IsOperandType o i ty

-- ---- all of them

pub record SharedWordsAreSaid : Type 0 where
  pub operators : OperatorsAreRead
  pub names : NamesAreMeant
  pub type_names : TypeNamesAreSaid
  pub declarations : DeclarationsAreRead
  pub file_names : FileNamesAreKept
  pub parts : PartsAreFound
  pub operands : OperandsAreTyped
