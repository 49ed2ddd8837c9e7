-- Where the parts of units stand, and with which names known (ISO/IEC 9899:1999, 6.2.1, 6.2.2 and 6.9): what stands at file scope is
-- known to the end of its unit, and the declarations of all units before it are those that it may conflict with.
use Rattle.std.specs.Prelude.{ℕ, zero, suc, ◌+◌, ◌≡◌, ◌⊎◌, Bool, true, false, not, if◌then◌else◌, nat_lt, Option, Some, None}
use Rattle.std.specs.Prelude.{List, [], ◌∷◌, ◌++◌, length}
use Rattle.ec_iohw.specs.declared.table.IoTable.{IoTable}
use Rattle.ec_space.specs.declared.space.SpaceId.TheVariants.{Generic}
use Rattle.ec_grammar.specs.Trees as t
use Rattle.ec_core.specs.Plain.{PlainType, PlainStruct, PlainObject}
use Rattle.ec_check_operands.specs.declared.operands.Modes.{Modes}
use Rattle.ec_check_names.specs.declared.linkage.Linkage.{Linkage}
use Rattle.ec_check_names.specs.declared.linkage.Linkage.TheVariants.{External}
use Rattle.ec_check_names.specs.declared.specifiers.StorageWord.{StorageWord}
use Rattle.ec_check_names.specs.Definitions.{Definition, definitions, is_defined}
use Rattle.ec_check_names.specs.Names.{Names, no_names, Named, an_object, a_function, with_outside}
use Rattle.ec_check_names.specs.Specifiers.{storages_of}
use Rattle.ec_check_names.specs.Tables.{with_name as with_tag}
use Rattle.ec_check_names.specs.Tags.{Tags}
use Rattle.ec_check_expressions.specs.Known.{Known}
use Rattle.ec_check_declarations.specs.Declarators.{ObjectDeclared}
use Rattle.ec_check_declarations.specs.Functions.{FunctionDeclared, param_types}
use Rattle.ec_check_declarations.specs.Params.{ParamDeclared}
use Rattle.ec_check_declarations.specs.Registers.{RegisterDeclared}
use Rattle.ec_check_declarations.specs.Scopes.{Context, known_in}
use Rattle.ec_check_declarations.specs.Structures.{struct_number, with_struct}
use Rattle.ec_check_file_scope.specs.FileFunctions.{function_name as name_of_function}
use Rattle.ec_check_file_scope.specs.FileNames.{FileName, is_registered}
use Rattle.ec_check_file_scope.specs.FileObjects.{word_of, object_name as name_of_object, object_made, initial_leaves}
use Rattle.ec_check_file_scope.specs.FileObjects.{register_name as name_of_register, register_made}
use Rattle.ec_check_file_scope.specs.States.{Setting, default_modes}
use Rattle.ec_check_statements.specs.Around.{with_pragma}
use Rattle.ec_check_parts.specs.Parts.{Part, specifiers, object, started, static_initialiser, function, structure, register}
use Rattle.ec_check_parts.specs.Parts.{object_name, function_name, register_name, end}
use Rattle.ec_check_parts.specs.Readings.{Reading, Reads}
use Rattle.ec_check_parts.specs.Places.{Inside, with_object, behind_body, Surroundings, StandsInBody}

-- ---- what is known

-- Between external declarations: the names and the tags of the unit, the structs of the program so far, the overflow states, and
-- the declarations at file scope so far, of all units. No constraint speaks of how many objects the program has so far.
pub record Outside : Type 0 where
  pub names : Names
  pub tags : Tags
  pub structs : List PlainStruct
  pub modes : Modes
  pub declared : List FileName
  pub made : ℕ

abbrev pub context_at : Setting → Outside → Context
context_at r o = record { tags = o.tags; structs = o.structs; ports = r.ports; modes = o.modes }

abbrev pub known_at : Setting → Outside → Known
known_at r o = known_in (context_at r o) o.names

-- a name is declared, and stands for this
abbrev pub naming : List ℕ → Named → FileName → Outside → Outside
naming n what d o = record o { names = with_outside n what o.names; declared = o.declared ++ d ∷ [] }

-- one object more, where this is a definition, what it makes is known, and a number of 16 bits is left for it
abbrev pub made_by : (defined : Bool) → Option PlainObject → ℕ → ℕ
made_by false x n = n
made_by true None n = n
made_by true (Some x) n = if nat_lt n 65_536 then n + 1 else n

-- the storage word that stands first among specifiers
abbrev pub word_in : t.Specs → Option StorageWord
word_in ss = word_of (storages_of ss).first

-- the parameters of a definition are known in its body
abbrev pub behind_param : Option (List ℕ) → ParamDeclared → Inside → Inside
behind_param None p s = s
behind_param (Some n) p s = with_object n p.ty p.konst s

abbrev pub behind_params : List ParamDeclared → Inside → Inside
behind_params [] s = s
behind_params (p ∷ ps) s = behind_params ps (behind_param p.name p s)

abbrev pub inside_at : Outside → Inside
inside_at o = record { names = o.names; made = o.made }

-- ---- units

abbrev pub nothing_known : Outside
nothing_known =
    record { names = no_names; tags = []; structs = []; modes = default_modes; declared = []; made = 0 }

-- a unit begins with no name, no tag and the default states
abbrev pub unit_begins : Outside → Outside
unit_begins o = record o { names = no_names; tags = []; modes = default_modes }

abbrev pub setting_in : List Definition → IoTable → (unit : ℕ) → Setting
setting_in ds io unit = record { definitions = ds; ports = io; unit = unit }

abbrev pub is_last : List t.Tree → Bool
is_last [] = true
is_last (u ∷ us) = false

-- ---- around a part

abbrev pub StandsInStart : Known → Option t.Start → Option PlainType → Part → Type 0
StandsInStart k None ty p = ⊥
StandsInStart k (Some (t.start equals i)) ty p = p ≡ static_initialiser k ty i

-- what stands around the body of a function, whose names are those of its parameters and its own alone
abbrev pub surroundings : FunctionDeclared → Outside → Surroundings
surroundings d o = record { in_loop = false; result = d.returns; first = length o.names.inside }

-- ---- behind a part, and which parts stand in it

-- by a reading of declarators
module _ (q : Reading) where
  -- the linkage of a declaration of a name, of a function or of an object
  abbrev pub link_in : Setting → t.Specs → (callable : Bool) → List ℕ → Outside → Linkage
  link_in r ss callable n o = q.linkage n r.unit o.declared (word_in ss) callable

  -- ---- objects at file scope

  -- what a declarator declares, with its name, and behind that
  abbrev pub object_at : Setting → t.Specs → t.Declarator → Option t.Start → Outside → ObjectDeclared
  object_at r ss d start o = q.object (known_at r o) ss d start

  abbrev pub object_name_at : Setting → t.Specs → List ℕ → ObjectDeclared → Outside → FileName
  object_name_at r ss n x o = name_of_object r n (link_in r ss false n o) (is_defined (word_in ss) false) x

  abbrev pub behind_name : Setting → t.Specs → List ℕ → ObjectDeclared → Outside → Outside
  behind_name r ss n x o =
      naming n (an_object (q.number n r.unit (link_in r ss false n o) false r.definitions) x.ty x.konst x.space false)
      (object_name_at r ss n x o) o

  abbrev pub behind_object : Setting → t.Specs → t.Declarator → Option t.Start → Outside → Outside
  behind_object r ss (t.declarator stars (t.identifier at n) shape) start o =
      let x = object_at r ss (t.declarator stars (t.identifier at n) shape) start o in
      let named = behind_name r ss n x o in
      record named {
        made =
            made_by (is_defined (word_in ss) false)
            (object_made r n (link_in r ss false n o) x x.ty (initial_leaves (known_at r named) start x.ty)) o.made;
      }

  -- ---- functions

  abbrev pub function_at : t.Specs → List t.Star → t.Params → Outside → FunctionDeclared
  function_at ss stars ps o = q.function o.tags (length o.structs) ss stars ps

  abbrev pub function_name_at : Setting → t.Specs → List ℕ → (defined : Bool) → FunctionDeclared → Outside → FileName
  function_name_at r ss n defined d o = name_of_function r n (link_in r ss true n o) defined d

  abbrev pub behind_function : Setting → t.Specs → List ℕ → (defined : Bool) → FunctionDeclared → Outside → Outside
  behind_function r ss n defined d o =
      naming n (a_function (q.number n r.unit (link_in r ss true n o) true r.definitions) d.returns (param_types d.params))
      (function_name_at r ss n defined d o) o

  -- ---- external declarations

  abbrev pub behind_declarator : Setting → t.Specs → t.InitDeclarator → Outside → Outside
  behind_declarator r ss (t.init_declarator (t.declarator stars (t.identifier at n) (t.function_shape l ps e)) start) o =
      behind_function r ss n false (function_at ss stars ps o) o
  behind_declarator r ss (t.init_declarator d start) o = behind_object r ss d start o

  abbrev pub behind_declarators : Setting → t.Specs → List t.NextInitDeclarator → Outside → Outside
  behind_declarators r ss [] o = o
  behind_declarators r ss (t.next_init_declarator comma d ∷ ds) o = behind_declarators r ss ds (behind_declarator r ss d o)

  abbrev pub behind_declaration : Setting → t.Declaration → Outside → Outside
  behind_declaration r (t.declaration ss first more e) o = behind_declarators r ss more (behind_declarator r ss first o)

  abbrev pub register_at : Setting → t.RegisterObject → Outside → RegisterDeclared
  register_at r d o = q.register (known_at r o) d

  abbrev pub behind_register : Setting → t.RegisterObject → Outside → Outside
  behind_register r (t.register_object w reg ss (t.identifier at n) e) o =
      let x = register_at r (t.register_object w reg ss (t.identifier at n) e) o in
      let number = q.number n r.unit External false r.definitions in
      let named = naming n (an_object number x.ty x.konst Generic true) (name_of_register r n x) o in
      record named { made = made_by (not (is_registered n o.declared)) (register_made r n x x.first x.ty) o.made }

  -- a tag is known behind the `}` of its definition
  abbrev pub behind_structure : Setting → t.Structure → Outside → Outside
  behind_structure r (t.structure w (t.identifier at tag) l first more e semicolon) o =
      let d = q.structure (known_at r o) (t.structure w (t.identifier at tag) l first more e semicolon) in
      record o { tags = with_tag tag (struct_number d o.structs) o.tags; structs = with_struct d o.structs }

  -- no name of a body is known behind it
  abbrev pub behind_definition : Setting → t.Function → Outside → Outside
  behind_definition r (t.function (t.type_name ss stars) (t.identifier at n) l ps e body) o =
      let d = function_at ss stars ps o in
      let named = behind_function r ss n true d o in
      record named { made = (behind_body q (context_at r named) body (behind_params d.params (inside_at named))).made }

  abbrev pub behind_external : Setting → t.External → Outside → Outside
  behind_external r (t.pragma_item p) o = record o { modes = with_pragma p o.modes }
  behind_external r (t.structure_item d) o = behind_structure r d o
  behind_external r (t.register_item d) o = behind_register r d o
  behind_external r (t.declaration_item d) o = behind_declaration r d o
  behind_external r (t.function_item f) o = behind_definition r f o

  abbrev pub behind_externals : Setting → List t.External → Outside → Outside
  behind_externals r [] o = o
  behind_externals r (x ∷ xs) o = behind_externals r xs (behind_external r x o)

  -- ---- whole units

  abbrev pub behind_unit : Setting → t.Tree → Outside → Outside
  behind_unit r (t.tree xs e) o = behind_externals r xs (unit_begins o)

  -- ---- which parts stand there

  -- a declarator of an object, and its initialiser, in which its name is known
  abbrev pub StandsInObject : Setting → t.Specs → t.Declarator → Option t.Start → Outside → Part → Type 0
  StandsInObject r ss (t.declarator stars (t.identifier at n) shape) start o p =
      let x = object_at r ss (t.declarator stars (t.identifier at n) shape) start o in
      (p ≡ object (known_at r o) ss stars at.index shape start)
      ⊎ ((p ≡ started ss start)
      ⊎ ((p ≡ object_name o.declared (object_name_at r ss n x o) (word_in ss) at.index)
      ⊎ StandsInStart (known_at r (behind_name r ss n x o)) start x.ty p))

  abbrev pub StandsInFunction : Setting → t.Specs → List t.Star → (at : ℕ) → List ℕ → t.Params → Option t.Start → Outside → Part → Type 0
  StandsInFunction r ss stars at n ps start o p =
      (p ≡ function o.tags false ss stars at ps)
      ⊎ ((p ≡ started ss start)
      ⊎ (p ≡ function_name o.declared (function_name_at r ss n false (function_at ss stars ps o) o) (word_in ss) start at))

  abbrev pub StandsInDeclarator : Setting → t.Specs → t.InitDeclarator → Outside → Part → Type 0
  StandsInDeclarator r ss (t.init_declarator (t.declarator stars (t.identifier at n) (t.function_shape l ps e)) start) o p =
      StandsInFunction r ss stars at.index n ps start o p
  StandsInDeclarator r ss (t.init_declarator d start) o p = StandsInObject r ss d start o p

  abbrev pub StandsInDeclarators : Setting → t.Specs → List t.NextInitDeclarator → Outside → Part → Type 0
  StandsInDeclarators r ss [] o p = ⊥
  StandsInDeclarators r ss (t.next_init_declarator comma d ∷ ds) o p =
      StandsInDeclarator r ss d o p ⊎ StandsInDeclarators r ss ds (behind_declarator r ss d o) p

  abbrev pub StandsInDeclaration : Setting → t.Declaration → Outside → Part → Type 0
  StandsInDeclaration r (t.declaration ss first more e) o p =
      (p ≡ specifiers o.tags ss)
      ⊎ (StandsInDeclarator r ss first o p ⊎ StandsInDeclarators r ss more (behind_declarator r ss first o) p)

  abbrev pub StandsInRegister : Setting → t.RegisterObject → Outside → Part → Type 0
  StandsInRegister r (t.register_object w (t.identifier at reg) ss (t.identifier name_at n) e) o p =
      let d = name_of_register r n (register_at r (t.register_object w (t.identifier at reg) ss (t.identifier name_at n) e) o) in
      (p ≡ register (known_at r o) at.index reg ss)
      ⊎ ((p ≡ register_name o.declared d at.index) ⊎ (p ≡ object_name o.declared d None name_at.index))

  abbrev pub StandsInStructure : Setting → t.Structure → Outside → Part → Type 0
  StandsInStructure r (t.structure w (t.identifier at tag) l first more e semicolon) o p =
      p ≡ structure (known_at r o) at.index tag first more

  abbrev pub StandsInDefinition : Setting → t.Function → Outside → Part → Type 0
  StandsInDefinition r (t.function (t.type_name ss stars) (t.identifier at n) l ps e body) o p =
      let d = function_at ss stars ps o in
      let named = behind_function r ss n true d o in
      (p ≡ specifiers o.tags ss)
      ⊎ ((p ≡ function o.tags true ss stars at.index ps)
      ⊎ ((p ≡ function_name o.declared (function_name_at r ss n true d o) (word_in ss) None at.index)
      ⊎ StandsInBody q (context_at r named) (surroundings d named) body (behind_params d.params (inside_at named)) p))

  abbrev pub StandsInExternal : Setting → t.External → Outside → Part → Type 0
  StandsInExternal r (t.pragma_item q) o p = ⊥
  StandsInExternal r (t.structure_item d) o p = StandsInStructure r d o p
  StandsInExternal r (t.register_item d) o p = StandsInRegister r d o p
  StandsInExternal r (t.declaration_item d) o p = StandsInDeclaration r d o p
  StandsInExternal r (t.function_item f) o p = StandsInDefinition r f o p

  abbrev pub StandsInExternals : Setting → List t.External → Outside → Part → Type 0
  StandsInExternals r [] o p = ⊥
  StandsInExternals r (x ∷ xs) o p = StandsInExternal r x o p ⊎ StandsInExternals r xs (behind_external r x o) p

  -- the end of a unit is a part where the unit is the last one
  abbrev pub StandsInUnit : Setting → (last : Bool) → t.Tree → Outside → Part → Type 0
  StandsInUnit r last (t.tree xs e) o p =
      StandsInExternals r xs (unit_begins o) p ⊎ ((last ≡ true) × (p ≡ end r.definitions e.index))

  -- a part of the unit with a number among units, the first of which has the number `first`
  abbrev pub StandsAmong : List Definition → IoTable → (first : ℕ) → List t.Tree → Outside → (unit : ℕ) → Part → Type 0
  StandsAmong ds io first [] o unit p = ⊥
  StandsAmong ds io first (u ∷ us) o zero p = StandsInUnit (setting_in ds io first) (is_last us) u o p
  StandsAmong ds io first (u ∷ us) o (suc unit) p =
      StandsAmong ds io (first + 1) us (behind_unit (setting_in ds io first) u o) unit p

-- a part stands in the unit with a number, by the reading of all declarators
abbrev pub Stands : List t.Tree → IoTable → (unit : ℕ) → Part → Type 0
Stands us io unit p = (q : Reading) × Reads q × StandsAmong q (definitions us) io 0 us nothing_known unit p
