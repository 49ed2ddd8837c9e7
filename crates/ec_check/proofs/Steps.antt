-- The walk over all units in steps: a unit begins, a declarator, or another external declaration.
use Rattle.std.proofs.Common.{◌≡◌, ◌≤◌, ℕ, Bool, true, false, ◌&&◌, List, [], ◌∷◌, ◌++◌, length}
use Rattle.std.specs.Prelude.{Option, Some, None, Contains}
use Rattle.std.proofs.lemmas.Bool.{false≢true}
use Rattle.std.proofs.lemmas.List.Elements.{Contains-append_left}
use Rattle.ec_iohw.specs.declared.table.IoTable.{IoTable}
use Rattle.ec_grammar.specs.declared.Pragma.{Pragma}
use Rattle.ec_grammar.specs.Spelling.{of_compound}
use Rattle.ec_grammar.specs.Trees as t
use Rattle.ec_grammar.specs.Trees.{Leaf}
use Rattle.ec_core.specs.Plain.{PlainStruct, PlainObject, PlainFunction}
use Rattle.ec_check_names.specs.declared.specifiers.Specified.{Specified}
use Rattle.ec_check_names.specs.declared.specifiers.Storage.{Storage}
use Rattle.ec_check_names.specs.Definitions.{Definition, is_defined}
use Rattle.ec_check_names.specs.Names.{Named}
use Rattle.ec_check_names.specs.Specifiers.{specified}
use Rattle.ec_check_names.specs.Spellings.{is_main}
use Rattle.ec_check_names.specs.Structs.{struct_place}
use Rattle.ec_check_expression_laws.specs.Suits.{AreHeld, HasTypes}
use Rattle.ec_check_declarations.specs.Functions.{FunctionDeclared, function_declared}
use Rattle.ec_check_declarations.specs.Params.{ParamDeclared}
use Rattle.ec_check_declarations.specs.Registers.{register_declared}
use Rattle.ec_check_declarations.specs.Scopes.{Context, Scope, has_room}
use Rattle.ec_check_declarations.specs.Structures.{struct_defined, appended, with_struct}
use Rattle.ec_check_statements.specs.Around.{with_pragma}
use Rattle.ec_check_statements.specs.Statements.{after_body}
use Rattle.ec_check_statements.specs.Laws.{ObjectsStay, InnerObjectsKeepSuiting}
use Rattle.ec_check_statements.proofs.Choices.{if_both}
use Rattle.ec_check_file_scope.specs.FileFunctions.{function_link, function_name, is_other_main, after_function}
use Rattle.ec_check_file_scope.specs.FileNames.{FileName, conflicts}
use Rattle.ec_check_file_scope.specs.FileObjects.{object_name, object_of, link_of, word_of, named_in, register_name, register_named}
use Rattle.ec_check_file_scope.specs.FileObjects.{shares_register, with_object, with_defined, after_object, after_register}
use Rattle.ec_check_file_scope.specs.FileScope.{after_structure}
use Rattle.ec_check_file_scope.specs.States.{Setting, State, known_of, context_of, with_scope, broken, with_name, with_modes, in_unit}
use Rattle.ec_check_file_scope.specs.States.{IsSoundState}
use Rattle.ec_check.specs.Definitions.{has_number, with_param, with_params, with_function, params_in, body_in, definition_declared}
use Rattle.ec_check.specs.Definitions.{definition_word, named_definition, after_definition}
use Rattle.ec_check.specs.Units.{setting_of}
use Rattle.ec_check.proofs.Firsts.{First, first_appended}

-- ---- names that declarators declare

abbrev pub name_of_object : Setting → Specified → Option Storage → t.InitDeclarator → State → FileName
name_of_object r said storage (t.init_declarator (t.declarator stars (t.identifier at n) shape) start) s =
    object_name r n (link_of r (word_of storage) n s) (is_defined (word_of storage) false)
    (object_of r said (t.init_declarator (t.declarator stars (t.identifier at n) shape) start) s)

abbrev pub name_of_register : Setting → t.RegisterObject → State → FileName
name_of_register r (t.register_object w reg ss (t.identifier at n) semicolon) s =
    register_name r n (register_declared (known_of r.ports s) (t.register_object w reg ss (t.identifier at n) semicolon))

-- the states behind such names alone
abbrev pub with_object_name : Setting → Specified → Option Storage → t.InitDeclarator → State → State
with_object_name r said storage (t.init_declarator (t.declarator stars (t.identifier at n) shape) start) s =
    named_in r n (link_of r (word_of storage) n s) (is_defined (word_of storage) false)
    (object_of r said (t.init_declarator (t.declarator stars (t.identifier at n) shape) start) s) s

abbrev pub with_register_name : Setting → t.RegisterObject → State → State
with_register_name r (t.register_object w reg ss (t.identifier at n) semicolon) s =
    with_name n
    (register_named r n (register_declared (known_of r.ports s) (t.register_object w reg ss (t.identifier at n) semicolon)))
    (name_of_register r (t.register_object w reg ss (t.identifier at n) semicolon) s) s

abbrev pub declared_function : Specified → t.InitDeclarator → t.Params → State → FunctionDeclared
declared_function said (t.init_declarator (t.declarator stars name shape) start) ps s =
    function_declared s.tags (length s.structs) said stars ps

abbrev pub name_of_function : Setting → Specified → Option Storage → t.InitDeclarator → t.Params → State → FileName
name_of_function r said storage (t.init_declarator (t.declarator stars (t.identifier at n) shape) start) ps s =
    function_name r n (function_link r (word_of storage) n s) false
    (declared_function said (t.init_declarator (t.declarator stars (t.identifier at n) shape) start) ps s)

abbrev pub name_of_definition : Setting → t.Function → State → FileName
name_of_definition r (t.function ty (t.identifier at n) l ps e body) s =
    function_name r n (function_link r (definition_word (t.function ty (t.identifier at n) l ps e body)) n s) true
    (definition_declared (t.function ty (t.identifier at n) l ps e body) s)

abbrev pub body_of_definition : t.Function → t.Compound
body_of_definition (t.function ty n l ps e body) = body

-- ---- steps

-- a name is declared that conflicts with none before it, and is no `main`
pub record IsOwnName (d : FileName) (s : State) : Type 0 where
  pub clear : conflicts d s.declared ≡ false
  pub other : is_main d.name ≡ false

-- a function is declared that conflicts with no name before it, and is no other `main`
pub record IsOwnFunction (d : FileName) (other : Bool) (s : State) : Type 0 where
  pub clear : conflicts d s.declared ≡ false
  pub main : (is_main d.name && other) ≡ false

-- the tokens of a body and those behind it are held, and are at most 65,535
pub record HasTokens (b : t.Compound) (rest : List Leaf) : Type 0 where
  pub held : AreHeld (of_compound b rest)
  pub few : length (of_compound b rest) ≤ 65_535

pub data Step (r : Setting) (s : State) : State → Type 0 where
  begins : Step r s (in_unit s)
  pragma : (p : Pragma) → Step r s (with_modes (with_pragma p s.modes) s)
  structure : (d : t.Structure) → Step r s (after_structure r d s)
  register : (d : t.RegisterObject) → IsOwnName (name_of_register r d s) s
      → shares_register (name_of_register r d s) s.declared ≡ false → Step r s (after_register r d s)
  object : (said : Specified) (ss : t.Specs) (storage : Option Storage) (d : t.InitDeclarator) → said ≡ specified s.tags ss
      → IsOwnName (name_of_object r said storage d s) s → Step r s (after_object r said storage d s)
  function : (said : Specified) (ss : t.Specs) (storage : Option Storage) (d : t.InitDeclarator) (ps : t.Params)
      → said ≡ specified s.tags ss
      → IsOwnFunction (name_of_function r said storage d ps s) (is_other_main (word_of storage) (declared_function said d ps s)) s
      → Step r s (after_function r said storage d ps s)
  definition : (f : t.Function) (rest : List Leaf)
      → IsOwnFunction (name_of_definition r f s) (is_other_main (definition_word f) (definition_declared f s)) s
      → HasTokens (body_of_definition f) rest → Step r s (after_definition r f s)

-- where the walk stands between two steps, and no rule was broken: names and tags have types, no block is open, and the
-- structs are those of a program
pub record IsClear (io : IoTable) (s : State) : Type 0 where
  pub types : HasTypes (known_of io s)
  pub closed : s.scope.names.inside ≡ []
  pub sound : IsSoundState s

-- steps one after another
pub data Steps (ds : List Definition) (io : IoTable) : State → State → Type 0 where
  done : {s : State} → Steps ds io s s
  onward : {s : State} (unit : ℕ) (m z : State) → IsClear io s → Step (setting_of ds io unit) s m → Steps ds io m z → Steps ds io s z

-- ---- what a later state has

-- what stands in the first state stands in the second one
pub record IsBefore (s z : State) : Type 0 where
  pub structs : First s.structs z.structs
  pub objects : First s.scope.objects z.scope.objects
  pub functions : First s.functions z.functions
  pub declared : (d : FileName) → Contains s.declared d → Contains z.declared d
  pub whole : z.whole ≡ true → s.whole ≡ true

pub before_itself : (s : State) → IsBefore s s
before_itself s = record {
  structs = λ i x e. e;
  objects = λ i x e. e;
  functions = λ i x e. e;
  declared = λ d h. h;
  whole = λ e. e;
}

pub before_then : (a b c : State) → IsBefore a b → IsBefore b c → IsBefore a c
before_then a b c h k = record {
  structs = λ i x e. k.structs i x (h.structs i x e);
  objects = λ i x e. k.objects i x (h.objects i x e);
  functions = λ i x e. k.functions i x (h.functions i x e);
  declared = λ d g. k.declared d (h.declared d g);
  whole = λ e. h.whole (k.whole e);
}

pub before_broken : (s : State) → IsBefore s (broken s)
before_broken s = record {
  structs = λ i x e. e;
  objects = λ i x e. e;
  functions = λ i x e. e;
  declared = λ d h. h;
  whole = λ e. absurd (false≢true e);
}

pub before_named : (n : List ℕ) (what : Named) (d : FileName) (s : State) → IsBefore s (with_name n what d s)
before_named n what d s = record {
  structs = λ i x e. e;
  objects = λ i x e. e;
  functions = λ i x e. e;
  declared = λ e h. Contains-append_left s.declared (d ∷ []) e h;
  whole = λ e. e;
}

before_scope : (v : Scope) (s : State) → First s.scope.objects v.objects → IsBefore s (with_scope v s)
before_scope v s h = record {
  structs = λ i x e. e;
  objects = h;
  functions = λ i x e. e;
  declared = λ d h. h;
  whole = λ e. e;
}

before_object : (o : Option PlainObject) (s : State) → IsBefore s (with_object o s)
before_object None s = before_broken s
before_object (Some o) s =
    if_both (IsBefore s) (has_room s.scope.objects)
    (with_scope (record { names = s.scope.names; objects = s.scope.objects ++ o ∷ [] }) s) (broken s)
    (λ e. before_scope (record { names = s.scope.names; objects = s.scope.objects ++ o ∷ [] }) s (first_appended s.scope.objects (o ∷ [])))
    (λ e. before_broken s)

pub before_defined : (b : Bool) (o : Option PlainObject) (s : State) → IsBefore s (with_defined b o s)
before_defined false o s = before_itself s
before_defined true o s = before_object o s

before_more : (f : PlainFunction) (s : State) → IsBefore s (record s { functions = s.functions ++ f ∷ [] })
before_more f s = record {
  structs = λ i x e. e;
  objects = λ i x e. e;
  functions = first_appended s.functions (f ∷ []);
  declared = λ d h. h;
  whole = λ e. e;
}

pub before_function : (f : Option PlainFunction) (s : State) → IsBefore s (with_function f s)
before_function None s = before_broken s
before_function (Some f) s =
    if_both (IsBefore s) (has_number s.functions) (record s { functions = s.functions ++ f ∷ [] }) (broken s) (λ e. before_more f s)
    (λ e. before_broken s)

-- ---- structs

first_struct_by : (place : Option ℕ) (x : PlainStruct) (structs : List PlainStruct) → First structs (appended place x structs)
first_struct_by None x structs = first_appended structs (x ∷ [])
first_struct_by (Some i) x structs = λ i x e. e

first_struct : (d : Option PlainStruct) (structs : List PlainStruct) → First structs (with_struct d structs)
first_struct None structs = λ i x e. e
first_struct (Some x) structs = first_struct_by (struct_place x structs) x structs

before_structure : (r : Setting) (d : t.Structure) (s : State) → IsBefore s (after_structure r d s)
before_structure r (t.structure w (t.identifier at tag) l first more e semicolon) s = record {
  structs = first_struct (struct_defined (known_of r.ports s) (t.structure w (t.identifier at tag) l first more e semicolon)) s.structs;
  objects = λ i x e. e;
  functions = λ i x e. e;
  declared = λ d h. h;
  whole = λ e. e;
}

-- ---- bodies

module _ (inner : InnerObjectsKeepSuiting) (stay : ObjectsStay) where
  first_param : (c : Context) (unit f : ℕ) (n : Option (List ℕ)) (p : ParamDeclared) (v : Scope)
      → First v.objects (with_param unit f n p v).objects
  first_param c unit f None p v = λ i x e. e
  first_param c unit f (Some n) p v = (inner c unit n p.ty p.konst _ v).stay

  pub first_params : (c : Context) (unit f : ℕ) (ps : List ParamDeclared) (v : Scope) → First v.objects (with_params unit f ps v).objects
  first_params c unit f [] v = λ i x e. e
  first_params c unit f (p ∷ ps) v = λ i x e.
      first_params c unit f ps (with_param unit f p.name p v) i x (first_param c unit f p.name p v i x e)

  before_definition : (r : Setting) (f : t.Function) (s : State) → IsBefore s (after_definition r f s)
  before_definition r (t.function ty (t.identifier at n) l ps e body) s =
      let d = definition_declared (t.function ty (t.identifier at n) l ps e body) s in
      let m = named_definition r (t.function ty (t.identifier at n) l ps e body) s d in
      let c = context_of r.ports m in
      let v = after_body c (body_in r d m) body (params_in r d m) in
      before_then s m _ (before_named n _ _ s)
      (before_then m (with_scope v m) _
      (before_scope v m (λ i x e. stay c (body_in r d m) body (params_in r d m) i x (first_params c r.unit _ d.params m.scope i x e)))
      (before_function _ (with_scope v m)))

  -- ---- one step, and all

  pub before_step : (r : Setting) (s m : State) → Step r s m → IsBefore s m
  before_step r s _ begins = record {
    structs = λ i x e. e;
    objects = λ i x e. e;
    functions = λ i x e. e;
    declared = λ d h. h;
    whole = λ e. e;
  }
  before_step r s _ (pragma p) = record {
    structs = λ i x e. e;
    objects = λ i x e. e;
    functions = λ i x e. e;
    declared = λ d h. h;
    whole = λ e. e;
  }
  before_step r s _ (structure d) = before_structure r d s
  before_step r s _ (register (t.register_object w (t.identifier at reg) ss (t.identifier name_at n) semicolon) own apart) =
      before_then s _ _ (before_named n _ _ s) (before_defined _ _ _)
  before_step r s _ (object said ss storage (t.init_declarator (t.declarator stars (t.identifier at n) shape) start) same own) =
      before_then s _ _ (before_named n _ _ s) (before_defined _ _ _)
  before_step r s _ (function said ss storage (t.init_declarator (t.declarator stars (t.identifier at n) shape) start) ps same own) =
      before_named n _ _ s
  before_step r s _ (definition f rest own tokens) = before_definition r f s

  pub before_all : (ds : List Definition) (io : IoTable) (s z : State) → Steps ds io s z → IsBefore s z
  before_all ds io s _ done = before_itself s
  before_all ds io s _ (onward unit m z clear step more) =
      before_then s m z (before_step (setting_of ds io unit) s m step) (before_all ds io m z more)
