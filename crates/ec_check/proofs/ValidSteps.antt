-- All that the program has so far is as a valid program asks.
use Rattle.std.proofs.Common.{◌≡◌, ◌<◌, ℕ, true, false, List, length, refl, sym, subst}
use Rattle.std.specs.Prelude.{Option, Some, None, IfSome}
use Rattle.ec_iohw.specs.declared.table.IoTable.{IoTable}
use Rattle.ec_grammar.specs.Trees as t
use Rattle.ec_grammar.specs.Trees.{Leaf}
use Rattle.ec_core.specs.Layout.{IsObjectType}
use Rattle.ec_core.specs.Plain.{PlainType, PlainProgram}
use Rattle.ec_check_names.specs.declared.specifiers.Specified.{Specified}
use Rattle.ec_check_names.specs.declared.specifiers.Storage.{Storage}
use Rattle.ec_check_names.specs.Definitions.{Definition, is_defined}
use Rattle.ec_check_names.specs.Specifiers.{specified}
use Rattle.ec_check_initialisers.specs.Places.{IsNamedObject}
use Rattle.ec_check_declarations.specs.Declarators.{object_declared}
use Rattle.ec_check_declarations.specs.Registers.{register_declared}
use Rattle.ec_check_statements.specs.Statements.{after_body, body_of}
use Rattle.ec_check_statements.specs.Objects.{IsDeclaredType}
use Rattle.ec_check_file_scope.specs.FileFunctions.{is_other_main}
use Rattle.ec_check_file_scope.specs.FileObjects.{object_of, link_of, word_of, after_object}
use Rattle.ec_check_file_scope.specs.States.{Setting, State, known_of, context_of, with_scope}
use Rattle.ec_check_file_scope.proofs.Sound.{named_with}
use Rattle.ec_check.specs.Definitions.{with_function, function_made, params_in, numbers_in, body_in, number_in, definition_declared}
use Rattle.ec_check.specs.Definitions.{definition_word, named_definition, after_definition}
use Rattle.ec_check.specs.Units.{setting_of}
use Rattle.ec_check.proofs.Below.{Laws}
use Rattle.ec_check.proofs.FileObjects.{static_valid, register_valid}
use Rattle.ec_check.proofs.FunctionsAreValid.{definition_valid}
use Rattle.ec_check.proofs.Growing.{AreValid, valid_named}
use Rattle.ec_check.proofs.InitialValues.{initial_values}
use Rattle.ec_check.proofs.Meanings.{ArePlaced, program_in}
use Rattle.ec_check.proofs.Placed.{object_fits, params_fit, result_fits, register_fits}
use Rattle.ec_check.proofs.PlacedSteps.{object_placed, definition_placed, placed_step}
use Rattle.ec_check.proofs.Steps.{Step, begins, pragma, structure, register, object, function, definition, Steps, done, onward, IsClear}
use Rattle.ec_check.proofs.Steps.{IsOwnName, IsOwnFunction, HasTokens}
use Rattle.ec_check.proofs.Steps.{name_of_object, name_of_definition, body_of_definition, with_object_name, IsBefore, before_then}
use Rattle.ec_check.proofs.Steps.{before_defined, before_function, before_step, before_all}
use Rattle.ec_check.proofs.Suiting.{IsFinished, all_static, suits_at}

module _ (laws : Laws) (ds : List Definition) (io : IoTable) (whole : State) (main : ℕ) where
  abbrev p : PlainProgram
  p = program_in whole main

  module _ (finished : IsFinished ds whole.declared p) (room : length p.objects < 65_536) (kept : whole.whole ≡ true) where
    module _ (unit : ℕ) (s : State) (clear : IsClear io s) (first : IsBefore s whole) (placed : ArePlaced p.structs ds s)
        (h : AreValid p io s) where
      abbrev r : Setting
      r = setting_of ds io unit

      -- objects
      fits : (ss : t.Specs) (z : Specified) → z ≡ specified s.tags ss → (d : t.Declarator) (start : Option t.Start)
          → IfSome (object_declared (known_of io s) z d start).ty (IsDeclaredType s.structs p.structs)
      fits ss z e d start =
          subst (λ (z : Specified). IfSome (object_declared (known_of io s) z d start).ty (IsDeclaredType s.structs p.structs)) (sym e)
          (object_fits laws p.structs finished.structs ds io s clear first.structs placed ss d start)

      known_type : (ty : PlainType) → IsDeclaredType s.structs p.structs ty → IsObjectType (length s.structs) ty
      known_type ty k = k.known

      known_types : (o : Option PlainType) → IfSome o (IsDeclaredType s.structs p.structs) → IfSome o (IsObjectType (length s.structs))
      known_types None k = tt
      known_types (Some ty) k = known_type ty k

      pub object_valid : (ss : t.Specs) (z : Specified) → z ≡ specified s.tags ss → (storage : Option Storage) (d : t.InitDeclarator)
          → IsOwnName (name_of_object r z storage d s) s → IsBefore (after_object r z storage d s) whole
          → AreValid p io (after_object r z storage d s)
      object_valid ss z e storage (t.init_declarator (t.declarator stars (t.identifier at n) shape) start) own later =
          let o = object_of r z (t.init_declarator (t.declarator stars (t.identifier at n) shape) start) s in
          let v = with_object_name r z storage (t.init_declarator (t.declarator stars (t.identifier at n) shape) start) s in
          let k = fits ss z e (t.declarator stars (t.identifier at n) shape) start in
          let after = before_then v (after_object r z storage (t.init_declarator (t.declarator stars (t.identifier at n) shape) start) s)
          whole (before_defined _ _ v) later in
          let there = object_placed laws p.structs finished.structs ds io unit s clear first.structs placed ss z e storage
          (t.init_declarator (t.declarator stars (t.identifier at n) shape) start) own in
          static_valid p io r n (link_of r (word_of storage) n s) o s h (is_defined (word_of storage) false)
          (known_of io v) start own.clear k
          (λ q ty leaves known made. initial_values laws.layouts p (known_of io v) finished.structs clear.sound.structs first.structs
          (all_static ds whole.declared p finished v after.declared there)
          (named_with (IsNamedObject (length s.structs)) n _ s.scope.names.outside (known_types o.ty k) clear.sound.named) laws.values start
          ty leaves known made)

      -- definitions of functions
      pub definition_step : (x : t.Function) (rest : List Leaf)
          → IsOwnFunction (name_of_definition r x s) (is_other_main (definition_word x) (definition_declared x s)) s
          → HasTokens (body_of_definition x) rest → IsBefore (after_definition r x s) whole → AreValid p io (after_definition r x s)
      definition_step (t.function (t.type_name ss stars) (t.identifier at n) l ps e body) rest own tokens later =
          let x = t.function (t.type_name ss stars) (t.identifier at n) l ps e body in
          let d = definition_declared x s in
          let m = named_definition r x s d in
          let c = context_of io m in
          let v = after_body c (body_in r d m) body (params_in r d m) in
          let o = function_made unit n d.returns (numbers_in r d m) (body_of c (body_in r d m) body (params_in r d m)) in
          let there = definition_placed laws p.structs finished.structs ds io unit s clear first.structs placed x own in
          let made = before_then (with_scope v m) (with_function o (with_scope v m)) whole (before_function o (with_scope v m)) later in
          definition_valid laws.inner laws.stay laws.append laws.bodies laws.needs p io finished.structs room r n d body rest m
          (suits_at ds whole.declared p finished m made.declared there io
          (number_in m.functions) clear.closed clear.sound.structs first.structs)
          (params_fit laws p.structs finished.structs ds io s clear first.structs placed (length s.structs) ps)
          (result_fits laws p.structs finished.structs ds io s clear first.structs placed ss (specified s.tags ss) refl stars ps)
          tokens made.objects later.functions (later.whole kept) (valid_named p io n _ _ s h)

    pub valid_step : (unit : ℕ) (s m : State) → IsClear io s → Step (setting_of ds io unit) s m → IsBefore s m → IsBefore m whole
        → ArePlaced p.structs ds s
        → AreValid p io s → AreValid p io m
    valid_step unit s _ clear begins next later placed h = record {
      objects = h.objects;
      declared = h.declared;
      registers = h.registers;
      externals = h.externals;
      functions = h.functions;
    }
    valid_step unit s _ clear (pragma q) next later placed h = record {
      objects = h.objects;
      declared = h.declared;
      registers = h.registers;
      externals = h.externals;
      functions = h.functions;
    }
    valid_step unit s _ clear (structure (t.structure w (t.identifier at tag) l first more e semicolon)) next later placed h = record {
      objects = h.objects;
      declared = h.declared;
      registers = h.registers;
      externals = h.externals;
      functions = h.functions;
    }
    valid_step unit s _ clear
        (register (t.register_object w (t.identifier at reg) ss (t.identifier name_at n) semicolon) own apart) next later placed h =
        register_valid p io (setting_of ds io unit) n
        (register_declared (known_of io s) (t.register_object w (t.identifier at reg) ss (t.identifier name_at n) semicolon)) s
        h own.clear apart
        (register_fits laws p.structs finished.structs ds io s clear
        (before_then s _ whole next later).structs placed (t.register_object w (t.identifier at reg) ss (t.identifier name_at n) semicolon))
    valid_step unit s _ clear (object z ss storage d e own) next later placed h =
        object_valid unit s clear (before_then s _ whole next later) placed h ss z e storage d own later
    valid_step unit s _ clear
        (function z ss storage (t.init_declarator (t.declarator stars (t.identifier at n) shape) start) ps e own) next later placed h =
        valid_named p io n _ _ s h
    valid_step unit s _ clear (definition f rest own tokens) next later placed h =
        definition_step unit s clear (before_then s _ whole next later) placed h f rest own tokens later

    pub valid_all : (s z : State) → Steps ds io s z → IsBefore z whole → ArePlaced p.structs ds s → AreValid p io s → AreValid p io z
    valid_all s _ done later placed h = h
    valid_all s z (onward unit m _ clear step more) later placed h =
        let next = before_step laws.inner laws.stay (setting_of ds io unit) s m step in
        let after = before_then m z whole (before_all laws.inner laws.stay ds io m z more) later in
        let first = before_then s m whole next after in
        valid_all m z more later
        (placed_step laws p.structs finished.structs ds io unit s m clear step first.structs after.structs placed)
        (valid_step unit s m clear step next after placed h)
