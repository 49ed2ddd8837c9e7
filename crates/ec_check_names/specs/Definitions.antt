-- The definitions of all units by name (ISO/IEC 9899:1999, 6.9), numbered in the order in which they stand. An object's
-- number is that of objects before it, parameters and those of blocks included, and a function's is that of functions.
use Rattle.std.specs.Prelude.{ℕ, ◌+◌, ◌==◌, Bool, true, false, not, ◌&&◌, ◌||◌, if◌then◌else◌, option_map}
use Rattle.std.specs.Prelude.{Option, Some, None, List, [], ◌∷◌, ◌++◌, map}
use Rattle.std.specs.Str.{bytes_eq}
use Rattle.ec_grammar.specs.Trees.{identifier, Specs, type_name, declarator}
use Rattle.ec_grammar.specs.Trees.{InitDeclarator, init_declarator, NextInitDeclarator, next_init_declarator}
use Rattle.ec_grammar.specs.Trees.{Declaration, declaration, RegisterObject, register_object, Function, function}
use Rattle.ec_grammar.specs.Trees.{External, pragma_item, structure_item, register_item, declaration_item}
use Rattle.ec_grammar.specs.Trees.{function_item, Tree, tree}
use Rattle.ec_check_names.specs.declared.numbering.Definition as definition
use Rattle.ec_check_names.specs.declared.numbering.Defined.{Defined}
use Rattle.ec_check_names.specs.declared.numbering.Defined.TheVariants.{Object, Register, Function as FunctionKind}
use Rattle.ec_check_names.specs.declared.numbering.Numbering as numbering
use Rattle.ec_check_names.specs.declared.linkage.Linkage.{Linkage}
use Rattle.ec_check_names.specs.declared.linkage.Linkage.TheVariants.{Internal, External as ExternalLinkage}
use Rattle.ec_check_names.specs.declared.specifiers.StorageWord.{StorageWord}
use Rattle.ec_check_names.specs.declared.specifiers.StorageWord.TheVariants.{Extern, Static}
use Rattle.ec_check_names.specs.Counts.{is_function, objects_in_function}
use Rattle.ec_check_names.specs.Linkage.{linkage_of}
use Rattle.ec_check_names.specs.Specifiers.{storages_of}
use Rattle.ec_check_names.specs.Tables.{Table, table_of, at_name, with_name}

pub record Definition : Type 0 where
  pub name : List ℕ
  pub unit : ℕ
  pub linkage : Linkage
  pub kind : Defined
  pub number : ℕ

-- the definitions so far, the linkages of the names that the unit has declared so far, and how many objects and
-- functions there are so far
pub record Numbering : Type 0 where
  pub definitions : List Definition
  pub links : Table Linkage
  pub objects : ℕ
  pub functions : ℕ

abbrev pub plain_definition : definition.Definition → Definition
plain_definition d =
    record { name = d.name.items; unit = d.unit; linkage = d.linkage; kind = d.kind; number = d.number }

abbrev pub plain_definitions : List definition.Definition → List Definition
plain_definitions ds = map plain_definition ds

abbrev pub plain_numbering : numbering.Numbering → Numbering
plain_numbering n =
    record {
      definitions = plain_definitions n.definitions.items;
      links = table_of (λ linkage. linkage) n.links.entries;
      objects = n.counts.objects;
      functions = n.counts.functions;
    }

abbrev pub nothing_numbered : Numbering
nothing_numbered = record { definitions = []; links = []; objects = 0; functions = 0 }

-- the first storage word of specifiers
abbrev pub storage_of : Specs → Option StorageWord
storage_of ss = option_map (λ s. s.word) (storages_of ss).first

-- a declaration of an object without `extern` is its definition: there are no tentative ones
abbrev pub is_defined : Option StorageWord → (callable : Bool) → Bool
is_defined storage true = false
is_defined None false = true
is_defined (Some Static) false = true
is_defined (Some Extern) false = false

-- a name is declared with a linkage
abbrev pub with_link : List ℕ → Linkage → Numbering → Numbering
with_link n linkage s =
    record {
      definitions = s.definitions;
      links = with_name n linkage s.links;
      objects = s.objects;
      functions = s.functions;
    }

-- an object is defined
abbrev pub with_object : (unit : ℕ) → List ℕ → Linkage → Defined → Numbering → Numbering
with_object unit n linkage kind s =
    record {
      definitions =
          s.definitions ++ record { name = n; unit = unit; linkage = linkage; kind = kind; number = s.objects } ∷ [];
      links = s.links;
      objects = s.objects + 1;
      functions = s.functions;
    }

-- a function is defined, and with it so many objects
abbrev pub with_function : (unit : ℕ) → List ℕ → Linkage → (objects : ℕ) → Numbering → Numbering
with_function unit n linkage objects s =
    record {
      definitions =
          s.definitions
          ++ record { name = n; unit = unit; linkage = linkage; kind = FunctionKind; number = s.functions } ∷ [];
      links = s.links;
      objects = s.objects + objects;
      functions = s.functions + 1;
    }

-- the linkage of a name that is declared behind others
abbrev pub link_in : Option StorageWord → (callable : Bool) → List ℕ → Numbering → Linkage
link_in storage callable n s = linkage_of storage callable (at_name n s.links)

-- a name is declared with a linkage, and defined as an object or only declared
abbrev pub declared_as : (defined : Bool) → (unit : ℕ) → List ℕ → Linkage → Numbering → Numbering
declared_as false unit n linkage s = with_link n linkage s
declared_as true unit n linkage s = with_object unit n linkage Object (with_link n linkage s)

abbrev pub numbered_declarator : (unit : ℕ) → Option StorageWord → InitDeclarator → Numbering → Numbering
numbered_declarator unit storage (init_declarator (declarator stars (identifier at n) shape) start) s =
    declared_as (is_defined storage (is_function shape)) unit n (link_in storage (is_function shape) n s) s

abbrev pub numbered_more : (unit : ℕ) → Option StorageWord → List NextInitDeclarator → Numbering → Numbering
numbered_more unit storage [] s = s
numbered_more unit storage (next_init_declarator comma d ∷ ds) s =
    numbered_more unit storage ds (numbered_declarator unit storage d s)

abbrev pub numbered_declaration : (unit : ℕ) → Declaration → Numbering → Numbering
numbered_declaration unit (declaration ss first more semicolon) s =
    numbered_more unit (storage_of ss) more (numbered_declarator unit (storage_of ss) first s)

abbrev pub is_register : Defined → Bool
is_register Object = false
is_register Register = true
is_register FunctionKind = false

-- a definition is that of an object of this name in a named register
abbrev pub is_registered : List ℕ → List Definition → Bool
is_registered n [] = false
is_registered n (d ∷ ds) = is_register d.kind && bytes_eq d.name n || is_registered n ds

-- an object in a named register is one object in all units that declare its name
abbrev pub registered_as : (before : Bool) → (unit : ℕ) → List ℕ → Numbering → Numbering
registered_as true unit n s = s
registered_as false unit n s = with_object unit n ExternalLinkage Register s

abbrev pub numbered_register : (unit : ℕ) → RegisterObject → Numbering → Numbering
numbered_register unit (register_object w register ss (identifier at n) semicolon) s =
    registered_as (is_registered n s.definitions) unit n s

abbrev pub numbered_function : (unit : ℕ) → Function → Numbering → Numbering
numbered_function unit (function (type_name ss stars) (identifier at n) l ps r body) s =
    with_function unit n (link_in (storage_of ss) true n s)
    (objects_in_function (function (type_name ss stars) (identifier at n) l ps r body))
    (with_link n (link_in (storage_of ss) true n s) s)

abbrev pub numbered_external : (unit : ℕ) → External → Numbering → Numbering
numbered_external unit (pragma_item p) s = s
numbered_external unit (structure_item d) s = s
numbered_external unit (register_item r) s = numbered_register unit r s
numbered_external unit (declaration_item d) s = numbered_declaration unit d s
numbered_external unit (function_item f) s = numbered_function unit f s

abbrev pub numbered_externals : (unit : ℕ) → List External → Numbering → Numbering
numbered_externals unit [] s = s
numbered_externals unit (x ∷ xs) s = numbered_externals unit xs (numbered_external unit x s)

-- a unit begins with no name declared
abbrev pub unlinked : Numbering → Numbering
unlinked s = record { definitions = s.definitions; links = []; objects = s.objects; functions = s.functions }

abbrev pub numbered_unit : (unit : ℕ) → Tree → Numbering → Numbering
numbered_unit unit (tree xs end) s = numbered_externals unit xs (unlinked s)

abbrev pub numbered_from : (unit : ℕ) → List Tree → Numbering → Numbering
numbered_from unit [] s = s
numbered_from unit (u ∷ us) s = numbered_from (unit + 1) us (numbered_unit unit u s)

-- the definitions of all units, the first of which has number 0
abbrev pub definitions : List Tree → List Definition
definitions us = (numbered_from 0 us nothing_numbered).definitions

-- ---- which definition a name is

abbrev pub same_linkage : Linkage → Linkage → Bool
same_linkage Internal Internal = true
same_linkage ExternalLinkage ExternalLinkage = true
same_linkage a b = false

abbrev pub is_internal : Linkage → Bool
is_internal Internal = true
is_internal ExternalLinkage = false

abbrev pub is_function_kind : Defined → Bool
is_function_kind Object = false
is_function_kind Register = false
is_function_kind FunctionKind = true

abbrev pub same_kind : (callable : Bool) → Defined → Bool
same_kind true kind = is_function_kind kind
same_kind false kind = not (is_function_kind kind)

-- a definition is that of a name of a unit with this linkage: an internal name is the unit's own
abbrev pub defines : List ℕ → (unit : ℕ) → Linkage → (callable : Bool) → Definition → Bool
defines n unit linkage callable d =
    bytes_eq d.name n && same_linkage d.linkage linkage && same_kind callable d.kind &&
    (not (is_internal linkage) || d.unit == unit)

-- the number of a name's first definition, if a unit defines it
abbrev pub number_of : List ℕ → (unit : ℕ) → Linkage → (callable : Bool) → List Definition → Option ℕ
number_of n unit linkage callable [] = None
number_of n unit linkage callable (d ∷ ds) =
    if defines n unit linkage callable d then Some d.number else number_of n unit linkage callable ds
