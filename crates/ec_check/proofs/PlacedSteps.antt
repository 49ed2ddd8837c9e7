-- All that is declared so far is of types that fit the structs of the whole program.
use Rattle.std.proofs.Common.{◌≡◌, ◌∙◌, ◌++◌, ℕ, Bool, true, false, List, [], ◌∷◌, length, refl, sym, subst}
use Rattle.std.specs.Prelude.{Option, Some, None}
use Rattle.std.specs.List.{AllByRecursion}
use Rattle.std.proofs.lemmas.Bool.{both_ways}
use Rattle.ec_iohw.specs.declared.table.IoTable.{IoTable}
use Rattle.ec_grammar.specs.Trees as t
use Rattle.ec_core.specs.Layout.{AreStructs}
use Rattle.ec_core.specs.Plain.{PlainStruct, PlainObject, PlainFunction}
use Rattle.ec_check_names.specs.declared.linkage.Linkage.{Linkage}
use Rattle.ec_check_names.specs.declared.specifiers.Specified.{Specified}
use Rattle.ec_check_names.specs.declared.specifiers.Storage.{Storage}
use Rattle.ec_check_names.specs.Definitions.{Definition}
use Rattle.ec_check_names.specs.Spellings.{is_main}
use Rattle.ec_check_names.specs.Specifiers.{specified}
use Rattle.ec_check_declarations.specs.Functions.{FunctionDeclared, function_declared}
use Rattle.ec_check_declarations.specs.Params.{params_declared}
use Rattle.ec_check_declarations.specs.Scopes.{Scope, has_room}
use Rattle.ec_check_statements.specs.Statements.{after_body}
use Rattle.ec_check_statements.proofs.Choices.{if_both}
use Rattle.ec_check_file_scope.specs.FileFunctions.{function_name, is_other_main, after_function}
use Rattle.ec_check_file_scope.specs.FileNames.{FileName}
use Rattle.ec_check_file_scope.specs.FileObjects.{with_object, with_defined, word_of}
use Rattle.ec_check_file_scope.specs.States.{Setting, State, context_of, with_scope, broken}
use Rattle.ec_check.specs.Definitions.{has_number, with_function, params_in, body_in, definition_declared, definition_word}
use Rattle.ec_check.specs.Definitions.{named_definition, with_definition}
use Rattle.ec_check.specs.Units.{setting_of}
use Rattle.ec_check.proofs.Below.{Laws}
use Rattle.ec_check.proofs.Firsts.{First}
use Rattle.ec_check.proofs.Meanings.{IsMeant, IsPlacedKind, IsMainKind, ArePlaced}
use Rattle.ec_check.proofs.Outside.{params_keep, body_keeps}
use Rattle.ec_check.proofs.Placed.{name_placed, object_file, structure_placed, params_fit, params_pass, result_fits, register_fits}
use Rattle.ec_check.proofs.Placed.{main_kind}
use Rattle.ec_check.proofs.Steps.{Step, begins, pragma, structure, register, object, function, definition, Steps, done, onward, IsClear}
use Rattle.ec_check.proofs.Steps.{IsOwnName, IsOwnFunction}
use Rattle.ec_check.proofs.Steps.{name_of_object, name_of_register, declared_function, name_of_function, name_of_definition}
use Rattle.ec_check.proofs.Steps.{with_object_name, with_register_name, before_step, before_all}

module _ (all : List PlainStruct) (ds : List Definition) where
  placed_broken : (s : State) → ArePlaced all ds s → ArePlaced all ds (broken s)
  placed_broken s h = record { tags = h.tags; members = h.members; declared = h.declared; names = h.names }

  placed_scope : (v : Scope) (s : State) → v.names.outside ≡ s.scope.names.outside → ArePlaced all ds s → ArePlaced all ds (with_scope v s)
  placed_scope v s e h = record {
    tags = h.tags;
    members = h.members;
    declared = h.declared;
    names = subst (λ es. AllByRecursion (λ x. IsMeant ds s.declared x.1) es) (sym e) h.names;
  }

  placed_object : (o : Option PlainObject) (s : State) → ArePlaced all ds s → ArePlaced all ds (with_object o s)
  placed_object None s h = placed_broken s h
  placed_object (Some o) s h =
      if_both (ArePlaced all ds) (has_room s.scope.objects) _ (broken s) (λ e. placed_scope _ s refl h) (λ e. placed_broken s h)

  pub placed_defined : (b : Bool) (o : Option PlainObject) (s : State) → ArePlaced all ds s → ArePlaced all ds (with_defined b o s)
  placed_defined false o s h = h
  placed_defined true o s h = placed_object o s h

  placed_more : (f : PlainFunction) (s : State) → ArePlaced all ds s → ArePlaced all ds (record s { functions = s.functions ++ f ∷ [] })
  placed_more f s h = record { tags = h.tags; members = h.members; declared = h.declared; names = h.names }

  placed_function : (f : Option PlainFunction) (s : State) → ArePlaced all ds s → ArePlaced all ds (with_function f s)
  placed_function None s h = placed_broken s h
  placed_function (Some f) s h =
      if_both (ArePlaced all ds) (has_number s.functions) _ (broken s) (λ e. placed_more f s h) (λ e. placed_broken s h)

  no_main : (d : FileName) → is_main d.name ≡ false → is_main d.name ≡ true → IsMainKind d.kind
  no_main d e q = absurd (both_ways (is_main d.name) e q)

module _ (laws : Laws) (all : List PlainStruct) (whole : AreStructs all) (ds : List Definition) (io : IoTable) where
  -- a name is declared
  module _ (unit : ℕ) (s : State) (clear : IsClear io s) (same : First s.structs all) (h : ArePlaced all ds s) where
    abbrev r : Setting
    r = setting_of ds io unit

    pub object_placed : (ss : t.Specs) (z : Specified) → z ≡ specified s.tags ss → (storage : Option Storage) (d : t.InitDeclarator)
        → IsOwnName (name_of_object r z storage d s) s → ArePlaced all ds (with_object_name r z storage d s)
    object_placed ss z e storage (t.init_declarator (t.declarator stars (t.identifier at n) shape) start) own =
        let d = name_of_object r z storage (t.init_declarator (t.declarator stars (t.identifier at n) shape) start) s in
        name_placed all ds n _ d s refl
        (record {
          kind = object_file laws all whole ds io s clear same h ss z e (t.declarator stars (t.identifier at n) shape) start;
          main = no_main all ds d own.other;
        }) h

    pub register_placed : (d : t.RegisterObject) → IsOwnName (name_of_register r d s) s → ArePlaced all ds (with_register_name r d s)
    register_placed (t.register_object w (t.identifier at reg) ss (t.identifier name_at n) semicolon) own =
        let d = name_of_register r (t.register_object w (t.identifier at reg) ss (t.identifier name_at n) semicolon) s in
        name_placed all ds n _ d s refl
        (record {
          kind = register_fits laws all whole ds io s clear same h
              (t.register_object w (t.identifier at reg) ss (t.identifier name_at n) semicolon);
          main = no_main all ds d own.other;
        }) h

    function_kind : (ss : t.Specs) (z : Specified) → z ≡ specified s.tags ss
        → (stars : List t.Star) (ps : t.Params) (linkage : Linkage) (defined : Bool) (n : List ℕ)
        → IsPlacedKind all (function_name r n linkage defined (function_declared s.tags (length s.structs) z stars ps)).kind
    function_kind ss z e stars ps linkage defined n = (
      result_fits laws all whole ds io s clear same h ss z e stars ps,
      params_pass all (params_declared s.tags (length s.structs) ps) (params_fit laws all whole ds io s clear same h (length s.structs) ps),
    )

    pub function_placed : (ss : t.Specs) (z : Specified) → z ≡ specified s.tags ss
        → (storage : Option Storage) (d : t.InitDeclarator) (ps : t.Params)
        → IsOwnFunction (name_of_function r z storage d ps s) (is_other_main (word_of storage) (declared_function z d ps s)) s
        → ArePlaced all ds (after_function r z storage d ps s)
    function_placed ss z e storage (t.init_declarator (t.declarator stars (t.identifier at n) shape) start) ps own =
        let d = name_of_function r z storage (t.init_declarator (t.declarator stars (t.identifier at n) shape) start) ps s in
        name_placed all ds n _ d s refl
        (record {
          kind = function_kind ss z e stars ps d.linkage false n;
          main = λ q. main_kind (is_main n) (word_of storage) (function_declared s.tags (length s.structs) z stars ps) own.main q;
        }) h

    pub definition_placed : (f : t.Function)
        → IsOwnFunction (name_of_definition r f s) (is_other_main (definition_word f) (definition_declared f s)) s
        → ArePlaced all ds (named_definition r f s (definition_declared f s))
    definition_placed (t.function (t.type_name ss stars) (t.identifier at n) l ps e body) own =
        let d = name_of_definition r (t.function (t.type_name ss stars) (t.identifier at n) l ps e body) s in
        name_placed all ds n _ d s refl
        (record {
          kind = function_kind ss (specified s.tags ss) refl stars ps d.linkage true n;
          main = λ q. main_kind (is_main n) (definition_word (t.function (t.type_name ss stars) (t.identifier at n) l ps e body))
              (function_declared s.tags (length s.structs) (specified s.tags ss) stars ps) own.main q;
        }) h

  body_placed : (unit : ℕ) (f : t.Function) (s : State) (d : FunctionDeclared)
      → ArePlaced all ds (named_definition (setting_of ds io unit) f s d)
      → ArePlaced all ds (with_definition (setting_of ds io unit) f s d)
  body_placed unit (t.function ty (t.identifier at n) l ps e body) s d h =
      let r = setting_of ds io unit in
      let m = named_definition r (t.function ty (t.identifier at n) l ps e body) s d in
      let v = after_body (context_of io m) (body_in r d m) body (params_in r d m) in
      placed_function all ds _ (with_scope v m)
      (placed_scope all ds v m (body_keeps (context_of io m) (body_in r d m) body (params_in r d m) v refl
      ∙ params_keep unit _ d.params m.scope (params_in r d m) refl) h)

  pub placed_step : (unit : ℕ) (s m : State) → IsClear io s → Step (setting_of ds io unit) s m → First s.structs all → First m.structs all
      → ArePlaced all ds s
      → ArePlaced all ds m
  placed_step unit s _ clear begins same later h = record { tags = tt; members = h.members; declared = h.declared; names = tt }
  placed_step unit s _ clear (pragma p) same later h = record { tags = h.tags; members = h.members; declared = h.declared; names = h.names }
  placed_step unit s _ clear (structure d) same later h = structure_placed laws all whole ds io s clear same h unit d later
  placed_step unit s _ clear (register (t.register_object w reg ss (t.identifier name_at n) semicolon) own apart) same later h =
      placed_defined all ds _ _
      (with_register_name (setting_of ds io unit) (t.register_object w reg ss (t.identifier name_at n) semicolon) s)
      (register_placed unit s clear same h (t.register_object w reg ss (t.identifier name_at n) semicolon) own)
  placed_step unit s _ clear
      (object z ss storage (t.init_declarator (t.declarator stars (t.identifier at n) shape) start) e own) same later h =
      placed_defined all ds _ _
      (with_object_name (setting_of ds io unit) z storage (t.init_declarator (t.declarator stars (t.identifier at n) shape) start) s)
      (object_placed unit s clear same h ss z e storage (t.init_declarator (t.declarator stars (t.identifier at n) shape) start) own)
  placed_step unit s _ clear (function z ss storage d ps e own) same later h = function_placed unit s clear same h ss z e storage d ps own
  placed_step unit s _ clear (definition f rest own tokens) same later h =
      body_placed unit f s (definition_declared f s) (definition_placed unit s clear same h f own)

  pub placed_all : (s z : State) → Steps ds io s z → First z.structs all → ArePlaced all ds s → ArePlaced all ds z
  placed_all s _ done same h = h
  placed_all s _ (onward unit m z clear step more) same h =
      let first = before_all laws.inner laws.stay ds io m z more in
      let next = before_step laws.inner laws.stay (setting_of ds io unit) s m step in
      placed_all m z more same
      (placed_step unit s m clear step (λ i x e. same i x (first.structs i x (next.structs i x e)))
      (λ i x e. same i x (first.structs i x e)) h)
