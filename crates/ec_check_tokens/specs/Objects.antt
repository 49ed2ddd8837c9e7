-- Which declarators give the objects of a program, and which definitions its structs (ISO/IEC 9899:1999, 6.7 to 6.9; named registers:
-- ISO/IEC TR 18037:2008, 5.2.2), in the order in which they stand in the units; and that the program has them in this order.
use Rattle.std.specs.Prelude.{ℕ, ◌+◌, ◌≡◌, ◌⊎◌, ⊤, Option, Some, None, List, [], ◌∷◌, ◌++◌}
use Rattle.ec_grammar.specs.Trees as t
use Rattle.ec_iohw.specs.declared.table.IoTable.{IoTable}
use Rattle.ec_core.specs.Plain.{PlainStruct, PlainObject, PlainStorage, static, register, param, local, PlainProgram}
use Rattle.ec_check_names.specs.declared.specifiers.StorageWord.{StorageWord}
use Rattle.ec_check_names.specs.declared.specifiers.StorageWord.TheVariants.{Extern}
use Rattle.ec_check_expressions.specs.Known.{Known}
use Rattle.ec_check_parts.specs.Functions.{params_in}
use Rattle.ec_check_parts.specs.Structures.{DeclareStruct}
use Rattle.ec_check_typed.specs.Statements.{others}
use Rattle.ec_check_typed.specs.Units.{IsAmong}
use Rattle.ec_check.specs.Answers.{IsTyped}
use Rattle.ec_check_tokens.specs.Definers.{Definer, word_of, AreInOrder}

-- ---- objects

-- how an object is declared
pub data Kept : Type 0 where
  at_file_scope : Kept
  in_register : Kept
  as_parameter : Kept
  in_block : Kept

-- a declarator in a block, and declarators
abbrev pub local_in : (unit : ℕ) → t.InitDeclarator → List (Definer Kept) → List (Definer Kept)
local_in unit (t.init_declarator (t.declarator stars (t.identifier at n) shape) start) rest =
    record { unit = unit; at = at.index; name = n; kind = in_block } ∷ rest

abbrev pub locals_in : (unit : ℕ) → List t.InitDeclarator → List (Definer Kept) → List (Definer Kept)
locals_in unit [] rest = rest
locals_in unit (d ∷ ds) rest = local_in unit d (locals_in unit ds rest)

abbrev pub declared_in : (unit : ℕ) → t.Declaration → List (Definer Kept) → List (Definer Kept)
declared_in unit (t.declaration ss d ds e) rest = locals_in unit (d ∷ others ds) rest

abbrev pub first_in : (unit : ℕ) → t.First → List (Definer Kept) → List (Definer Kept)
first_in unit (t.first_declared d) rest = declared_in unit d rest
first_in unit (t.first_evaluated x e) rest = rest

abbrev mutual
  pub statement_in : (unit : ℕ) → t.Statement → List (Definer Kept) → List (Definer Kept)
  statement_in unit (t.block (t.compound l ps xs r)) rest = items_in unit xs rest
  statement_in unit (t.simple x e) rest = rest
  statement_in unit (t.if_then at c a) rest = statement_in unit a rest
  statement_in unit (t.if_else at c a w b) rest = statement_in unit a (statement_in unit b rest)
  statement_in unit (t.while_loop at c a) rest = statement_in unit a rest
  statement_in unit (t.do_loop at a w c e) rest = statement_in unit a rest
  statement_in unit (t.for_loop at (t.heading l first x s y e) a) rest = first_in unit first (statement_in unit a rest)
  statement_in unit (t.break_loop at e) rest = rest
  statement_in unit (t.continue_loop at e) rest = rest
  statement_in unit (t.return_value at x e) rest = rest

  pub item_in : (unit : ℕ) → t.Item → List (Definer Kept) → List (Definer Kept)
  item_in unit (t.declared d) rest = declared_in unit d rest
  item_in unit (t.stated x) rest = statement_in unit x rest

  pub items_in : (unit : ℕ) → t.Items → List (Definer Kept) → List (Definer Kept)
  items_in unit t.no_items rest = rest
  items_in unit (t.items x xs) rest = item_in unit x (items_in unit xs rest)

abbrev pub body_in : (unit : ℕ) → t.Compound → List (Definer Kept) → List (Definer Kept)
body_in unit (t.compound l ps xs r) rest = items_in unit xs rest

-- the parameters of a definition
abbrev pub param_in : (unit : ℕ) → t.Param → List (Definer Kept) → List (Definer Kept)
param_in unit (t.param ty None) rest = rest
param_in unit (t.param ty (Some (t.identifier at n))) rest =
    record { unit = unit; at = at.index; name = n; kind = as_parameter } ∷ rest

abbrev pub all_params_in : (unit : ℕ) → List t.Param → List (Definer Kept) → List (Definer Kept)
all_params_in unit [] rest = rest
all_params_in unit (p ∷ ps) rest = param_in unit p (all_params_in unit ps rest)

-- an object at file scope behind a storage word or none: a declaration with `extern` gives none
abbrev pub unless_extern : Option StorageWord → Definer Kept → List (Definer Kept) → List (Definer Kept)
unless_extern (Some Extern) d rest = rest
unless_extern word d rest = d ∷ rest

abbrev pub static_in : (unit : ℕ) → Option StorageWord → t.InitDeclarator → List (Definer Kept) → List (Definer Kept)
static_in unit word (t.init_declarator (t.declarator stars n (t.function_shape l ps r)) start) rest = rest
static_in unit word (t.init_declarator (t.declarator stars (t.identifier at n) shape) start) rest =
    unless_extern word (record { unit = unit; at = at.index; name = n; kind = at_file_scope }) rest

abbrev pub statics_in : (unit : ℕ) → Option StorageWord → List t.InitDeclarator → List (Definer Kept) → List (Definer Kept)
statics_in unit word [] rest = rest
statics_in unit word (d ∷ ds) rest = static_in unit word d (statics_in unit word ds rest)

abbrev pub external_in : (unit : ℕ) → t.External → List (Definer Kept) → List (Definer Kept)
external_in unit (t.pragma_item p) rest = rest
external_in unit (t.structure_item d) rest = rest
external_in unit (t.register_item (t.register_object w reg ss (t.identifier at n) e)) rest =
    record { unit = unit; at = at.index; name = n; kind = in_register } ∷ rest
external_in unit (t.declaration_item (t.declaration ss d ds e)) rest = statics_in unit (word_of ss) (d ∷ others ds) rest
external_in unit (t.function_item (t.function ty n l ps r b)) rest = all_params_in unit (params_in ps) (body_in unit b rest)

abbrev pub externals_in : (unit : ℕ) → List t.External → List (Definer Kept) → List (Definer Kept)
externals_in unit [] rest = rest
externals_in unit (x ∷ xs) rest = external_in unit x (externals_in unit xs rest)

abbrev pub unit_in : (unit : ℕ) → t.Tree → List (Definer Kept) → List (Definer Kept)
unit_in unit (t.tree xs e) rest = externals_in unit xs rest

-- those of units, the first of which has this number
abbrev pub objects_from : (unit : ℕ) → List t.Tree → List (Definer Kept)
objects_from unit [] = []
objects_from unit (u ∷ us) = unit_in unit u (objects_from (unit + 1) us)

-- ---- the objects of a program

abbrev pub IsKept : Kept → PlainStorage → Type 0
IsKept at_file_scope (static leaves) = ⊤
IsKept in_register (register first) = ⊤
IsKept as_parameter (param function) = ⊤
IsKept in_block (local function) = ⊤
IsKept kind storage = ⊥

-- the object of a declarator
pub record IsObjectOf (d : Definer Kept) (x : PlainObject) : Type 0 where
  pub name : x.name ≡ d.name
  pub unit : x.unit ≡ d.unit
  pub kept : IsKept d.kind x.storage

-- an object of this name stands in registers
abbrev pub HasRegister : List ℕ → List PlainObject → Type 0
HasRegister n [] = ⊥
HasRegister n (x ∷ xs) = ((x.name ≡ n) × IsKept in_register x.storage) ⊎ HasRegister n xs

-- behind some objects these declarators give the others of all objects, in order
pub data MakeObjects (all : List PlainObject) : (before : List PlainObject) → List (Definer Kept) → Type 0 where
  all_made : MakeObjects all all []
  -- a named register that was declared before
  made_before : {before : List PlainObject} {d : Definer Kept} {ds : List (Definer Kept)} → d.kind ≡ in_register
      → HasRegister d.name before → MakeObjects all before ds → MakeObjects all before (d ∷ ds)
  an_object : {before : List PlainObject} {d : Definer Kept} {ds : List (Definer Kept)} (x : PlainObject)
      → (d.kind ≡ in_register → ¬ HasRegister d.name before) → IsObjectOf d x → MakeObjects all (before ++ x ∷ []) ds
      → MakeObjects all before (d ∷ ds)

-- the names of these declarators stand among the tokens of their units, in order, and the program has their objects in this order
pub record ObjectsAreInOrder : Type 0 where
  pub order : AreInOrder (λ unit u. unit_in unit u [])
  pub objects : (us : List t.Tree) (io : IoTable) (p : PlainProgram) → IsTyped us io p → MakeObjects p.objects [] (objects_from 0 us)

-- ---- structs

-- a definition of a struct, by its tag
abbrev pub struct_of : (unit : ℕ) → t.Structure → Definer t.Structure
struct_of unit (t.structure w (t.identifier at tag) l first more r semicolon) =
    record {
      unit = unit;
      at = at.index;
      name = tag;
      kind = t.structure w (t.identifier at tag) l first more r semicolon;
    }

abbrev pub structs_in : (unit : ℕ) → List t.External → List (Definer t.Structure) → List (Definer t.Structure)
structs_in unit [] rest = rest
structs_in unit (t.structure_item d ∷ xs) rest = struct_of unit d ∷ structs_in unit xs rest
structs_in unit (x ∷ xs) rest = structs_in unit xs rest

abbrev pub unit_structs : (unit : ℕ) → t.Tree → List (Definer t.Structure) → List (Definer t.Structure)
unit_structs unit (t.tree xs e) rest = structs_in unit xs rest

abbrev pub structs_from : (unit : ℕ) → List t.Tree → List (Definer t.Structure)
structs_from unit [] = []
structs_from unit (u ∷ us) = unit_structs unit u (structs_from (unit + 1) us)

-- behind some structs these definitions give the others of all structs, in order: the struct that is declared stands at the first
-- of all definitions of it, and one that breaks a constraint adds none
pub data MakeStructs (all : List PlainStruct) : (before : List PlainStruct) → List (Definer t.Structure) → Type 0 where
  all_defined : MakeStructs all all []
  a_struct : {before : List PlainStruct} {d : Definer t.Structure} {ds : List (Definer t.Structure)} (k : Known) (s : PlainStruct)
      → k.structs ≡ before → DeclareStruct k d.kind s → ¬ IsAmong s before → MakeStructs all (before ++ s ∷ []) ds
      → MakeStructs all before (d ∷ ds)
  again : {before : List PlainStruct} {d : Definer t.Structure} {ds : List (Definer t.Structure)} (k : Known) (s : PlainStruct)
      → k.structs ≡ before → DeclareStruct k d.kind s → IsAmong s before → MakeStructs all before ds → MakeStructs all before (d ∷ ds)
  no_struct : {before : List PlainStruct} {d : Definer t.Structure} {ds : List (Definer t.Structure)} (k : Known)
      → k.structs ≡ before → ((s : PlainStruct) → ¬ DeclareStruct k d.kind s) → MakeStructs all before ds
      → MakeStructs all before (d ∷ ds)

pub record StructsAreInOrder : Type 0 where
  pub order : AreInOrder (λ unit u. unit_structs unit u [])
  pub structs : (us : List t.Tree) (io : IoTable) (p : PlainProgram) → IsTyped us io p → MakeStructs p.structs [] (structs_from 0 us)
