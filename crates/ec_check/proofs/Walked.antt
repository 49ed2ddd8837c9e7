-- Where no rule is told, the walk over all units goes in steps.
use Rattle.std.proofs.Common.{◌≡◌, ◌∙◌, ◌≤◌, ◌+◌, ℕ, Bool, true, false, ◌&&◌, List, [], ◌∷◌, length, refl, subst, arith}
use Rattle.std.specs.Prelude.{is_none, Option, None}
use Rattle.std.specs.List.{AllByRecursion}
use Rattle.ec_check_operands.specs.Faults.{rule}
use Rattle.ec_grammar.specs.declared.token.PunctKind.TheVariants.{RightParenthesis}
use Rattle.ec_grammar.specs.Spelling.{mark, of_compound, of_list, of_external, of_tree}
use Rattle.ec_grammar.specs.Trees as t
use Rattle.ec_grammar.specs.Trees.{Leaf}
use Rattle.ec_iohw.specs.declared.table.IoTable.{IoTable}
use Rattle.ec_check_names.specs.declared.specifiers.Storage.{Storage}
use Rattle.ec_check_names.specs.Counts.{objects_in_more, objects_in_declaration, objects_in_external, objects_in_externals, objects_in_unit}
use Rattle.ec_check_names.specs.Counts.{objects_declared}
use Rattle.ec_check_names.specs.Counts.{functions_in_externals, functions_in_unit, functions_defined}
use Rattle.ec_check_names.specs.Definitions.{Definition, Numbering, unlinked, numbered_declarator, numbered_external, numbered_unit}
use Rattle.ec_check_names.specs.Specifiers.{specified, specs_rules, storages_of}
use Rattle.ec_check_names.specs.Tags.{Tags}
use Rattle.ec_check_expression_laws.specs.Laws.{AreUnbroken}
use Rattle.ec_check_expression_laws.specs.Suits.{AreHeld}
use Rattle.ec_check_declarations.specs.Functions.{function_declared}
use Rattle.ec_check_declarations.specs.Sites.{Site, on, told}
use Rattle.ec_check_file_scope.specs.FileFunctions.{declared_function_sites, file_function_sites}
use Rattle.ec_check_file_scope.specs.FileObjects.{word_of, object_of, declared_sites, file_register_sites}
use Rattle.ec_check_file_scope.specs.FileScope.{after_declarator, declarator_sites, after_more, more_sites, after_declaration}
use Rattle.ec_check_file_scope.specs.FileScope.{declaration_sites}
use Rattle.ec_check_file_scope.specs.States.{Setting, State, known_of, in_unit}
use Rattle.ec_check_statements.proofs.Unbroken.{kept_of, told_of}
use Rattle.ec_check.specs.Agreement.{Agrees}
use Rattle.ec_check.specs.Definitions.{definition_declared, definition_body_sites, definition_sites}
use Rattle.ec_check.specs.Laws.{structs_in_externals, structs_in_unit, most_structs, structs_defined, AreShort}
use Rattle.ec_check.specs.Units.{after_external, external_sites, after_externals, externals_sites, main_of, after_unit, unit_fault}
use Rattle.ec_check.specs.Units.{setting_of, is_last, after_units, first_fault}
use Rattle.ec_check.proofs.Agreeing.{Laws, declarator_goes_on, external_goes_on}
use Rattle.ec_check.proofs.Counted.{declarator_counts, external_counts}
use Rattle.ec_check.proofs.KeptFunctions.{function_there}
use Rattle.ec_check.proofs.Programs.{later_none, unit_begins, unit_agrees}
use Rattle.ec_check.proofs.Steps.{Step, begins, pragma, structure, register, object, function, definition, Steps, done, onward, IsClear}
use Rattle.ec_check.proofs.Steps.{HasTokens}
use Rattle.ec_check.proofs.Tokens.{before_body, past_external}

-- ---- tokens

-- tokens that are held, and at most 65,536
abbrev pub AreFewHeld : List Leaf → Type 0
AreFewHeld xs = AreHeld xs × (length xs ≤ 65_536)

skip : (x : Leaf) (xs : List Leaf) → AreFewHeld (x ∷ xs) → AreFewHeld xs
skip x xs h = let few = h.1 in (h.0.1, omega (arith, few))

has_tokens : (x : Leaf) (b : t.Compound) (rest : List Leaf) → AreFewHeld (x ∷ of_compound b rest) → HasTokens b rest
has_tokens x b rest h = let few = h.1 in record { held = h.0.1; few = omega (arith, few) }

-- ---- steps

clear_at : (io : IoTable) (unit : ℕ) (n : Numbering) (s : State) → Agrees io unit n s → IsClear io s
clear_at io unit n s h = record { types = h.types; closed = h.closed; sound = h.sound }

module _ (laws : Laws) (ds : List Definition) (io : IoTable) (unit : ℕ) where
  abbrev r : Setting
  r = setting_of ds io unit

  one_step : (ss : t.Specs) (storage : Option Storage) (d : t.InitDeclarator) (n : Numbering) (s : State) (rest : List Site)
      → Agrees io unit n s
      → AreUnbroken (specs_rules s.tags true ss []) → told None (declarator_sites r (specified s.tags ss) storage d s rest) ≡ None
      → Step r s (after_declarator r (specified s.tags ss) storage d s)
  one_step ss storage (t.init_declarator (t.declarator stars (t.identifier at n) t.object) start) num s rest h unbroken q =
      let d = t.init_declarator (t.declarator stars (t.identifier at n) t.object) start in
      let behind = declared_sites r storage d s (object_of r (specified s.tags ss) d s) rest in
      let a = laws.objects (known_of io s) true true ss [] stars (t.identifier at n) t.object start behind h.types unbroken refl q in
      let u = kept_of behind a.1 in
      object (specified s.tags ss) ss storage d refl (record { clear = u.1.0.0; other = u.1.0.1.0 })
  one_step ss storage (t.init_declarator (t.declarator stars (t.identifier at n) (t.array l size e)) start) num s rest h unbroken q =
      let d = t.init_declarator (t.declarator stars (t.identifier at n) (t.array l size e)) start in
      let behind = declared_sites r storage d s (object_of r (specified s.tags ss) d s) rest in
      let a =
      laws.objects (known_of io s) true true ss [] stars (t.identifier at n) (t.array l size e) start behind h.types unbroken refl q in
      let u = kept_of behind a.1 in
      object (specified s.tags ss) ss storage d refl (record { clear = u.1.0.0; other = u.1.0.1.0 })
  one_step ss storage (t.init_declarator (t.declarator stars (t.identifier at n) (t.function_shape l ps e)) start) num s rest h unbroken q =
      let d = t.init_declarator (t.declarator stars (t.identifier at n) (t.function_shape l ps e)) start in
      let f = function_declared s.tags (length s.structs) (specified s.tags ss) stars ps in
      let behind = declared_function_sites r storage d s f rest in
      let a = function_there laws.functions r num s h false ss stars at.index ps behind unbroken
      (kept_of (file_function_sites r (specified s.tags ss) storage d ps s rest) q) in
      function (specified s.tags ss) ss storage d ps refl (record { clear = a.1.1.0.0; main = a.1.1.0.1.1.0 })

  -- where the tags are those that the specifiers were read with
  declarator_step : (ss : t.Specs) (storage : Option Storage) (d : t.InitDeclarator) (n : Numbering) (s : State) (rest : List Site)
      → Agrees io unit n s
      → (tags : Tags) → s.tags ≡ tags → AreUnbroken (specs_rules tags true ss [])
      → told None (declarator_sites r (specified tags ss) storage d s rest) ≡ None
      → Step r s (after_declarator r (specified tags ss) storage d s)
  declarator_step ss storage d n s rest h tags e =
      subst
      (λ (ts : Tags). AreUnbroken (specs_rules ts true ss []) → told None (declarator_sites r (specified ts ss) storage d s rest) ≡ None
      → Step r s (after_declarator r (specified ts ss) storage d s)) e
      (one_step ss storage d n s rest h)

  more_steps : (ss : t.Specs) (storage : Option Storage) (xs : List t.NextInitDeclarator) (n : Numbering) (s : State) (rest : List Site)
      → Agrees io unit n s
      → n.objects + objects_in_more xs ≤ 65_536 → (tags : Tags) → s.tags ≡ tags → AreUnbroken (specs_rules tags true ss [])
      → told None (more_sites r (specified tags ss) storage xs s rest) ≡ None
      → (z : State) → Steps ds io (after_more r (specified tags ss) storage xs s) z → Steps ds io s z
  more_steps ss storage [] n s rest h room tags e unbroken q z more = more
  more_steps ss storage (t.next_init_declarator comma d ∷ xs) n s rest h room tags e unbroken q z more =
      let said = specified tags ss in
      let next = after_declarator r said storage d s in
      let behind = more_sites r said storage xs next rest in
      let a = declarator_goes_on laws r ss storage d n s behind h (omega (arith, room)) tags e unbroken q in
      let count = declarator_counts unit (word_of storage) d n in
      let objects = count.objects in
      onward unit next z (clear_at io unit n s h) (declarator_step ss storage d n s behind h tags e unbroken q)
      (more_steps ss storage xs (numbered_declarator unit (word_of storage) d n) next rest a.agrees (omega (arith, room, objects)) tags
      (a.tags ∙ e) unbroken
      (told_of behind a.kept) z more)

  declaration_steps : (d : t.Declaration) (n : Numbering) (s : State) (rest : List Site) → Agrees io unit n s
      → n.objects + objects_in_declaration d ≤ 65_536
      → told None (declaration_sites r d s rest) ≡ None → (z : State) → Steps ds io (after_declaration r d s) z → Steps ds io s z
  declaration_steps (t.declaration ss first more semicolon) n s rest h room q z behind =
      let u = kept_of (declaration_sites r (t.declaration ss first more semicolon) s rest) q in
      let all = t.next_init_declarator semicolon first ∷ more in
      more_steps ss (storages_of ss).first all n s rest h (omega (arith, room)) s.tags refl u.0
      (told_of (more_sites r (specified s.tags ss) (storages_of ss).first all s rest) u.1) z behind

  register_step : (d : t.RegisterObject) (s : State) (rest : List Site) → told None (file_register_sites r d s rest) ≡ None
      → Step r s (after_external r (t.register_item d) s)
  register_step (t.register_object w (t.identifier at reg) ss (t.identifier name_at n) semicolon) s rest q =
      let d = t.register_object w (t.identifier at reg) ss (t.identifier name_at n) semicolon in
      let u = kept_of (file_register_sites r d s rest) q in
      register d (record { clear = u.1.1.1.1.0.0; other = u.1.1.1.1.0.1.0 }) u.1.1.1.0.0

  definition_step : (x : t.Function) (n : Numbering) (s : State) (rest : List Site) (leaves : List Leaf) → Agrees io unit n s
      → told None (definition_sites r x s rest) ≡ None
      → AreFewHeld (of_external (t.function_item x) leaves) → Step r s (after_external r (t.function_item x) s)
  definition_step (t.function (t.type_name ss stars) (t.identifier at n) l ps e body) num s rest leaves h q tokens =
      let x = t.function (t.type_name ss stars) (t.identifier at n) l ps e body in
      let tail = definition_body_sites r x s (definition_declared x s) rest in
      let u = kept_of (definition_sites r x s rest) q in
      let a = function_there laws.functions r num s h true ss stars at.index ps tail u.0 u.1 in
      definition x leaves (record { clear = a.1.0.0; main = a.1.0.1.1.0 })
      (has_tokens (mark e RightParenthesis) body leaves
      (before_body AreFewHeld skip (t.type_name ss stars) (t.identifier at n) l e ps body leaves tokens))

  external_steps : (x : t.External) (n : Numbering) (s : State) (rest : List Site) (leaves : List Leaf) → Agrees io unit n s
      → n.objects + objects_in_external x ≤ 65_536 → told None (external_sites r x s rest) ≡ None → AreFewHeld (of_external x leaves)
      → (z : State) → Steps ds io (after_external r x s) z → Steps ds io s z
  external_steps (t.pragma_item p) n s rest leaves h room q tokens z more = onward unit _ z (clear_at io unit n s h) (pragma p) more
  external_steps (t.structure_item d) n s rest leaves h room q tokens z more = onward unit _ z (clear_at io unit n s h) (structure d) more
  external_steps (t.register_item d) n s rest leaves h room q tokens z more =
      onward unit _ z (clear_at io unit n s h) (register_step d s rest q) more
  external_steps (t.declaration_item d) n s rest leaves h room q tokens z more = declaration_steps d n s rest h room q z more
  external_steps (t.function_item x) n s rest leaves h room q tokens z more =
      onward unit _ z (clear_at io unit n s h) (definition_step x n s rest leaves h q tokens) more

  externals_steps : (xs : List t.External) (n : Numbering) (s : State) (rest : List Site) (leaves : List Leaf) → Agrees io unit n s
      → n.objects + objects_in_externals xs ≤ 65_536 → n.functions + functions_in_externals xs ≤ 65_536
      → length s.structs + structs_in_externals xs ≤ most_structs → told None (externals_sites r xs s rest) ≡ None
      → AreFewHeld (of_list of_external xs leaves) → (z : State) → Steps ds io (after_externals r xs s) z → Steps ds io s z
  externals_steps [] n s rest leaves h room few small q tokens z more = more
  externals_steps (x ∷ xs) n s rest leaves h room few small q tokens z more =
      let m = numbered_external unit x n in
      let next = after_external r x s in
      let behind = externals_sites r xs next rest in
      let a = external_goes_on laws r x n s behind h (omega (arith, room)) (omega (arith, few)) (omega (arith, small)) q in
      let count = external_counts unit x n in
      let objects = count.objects in
      let functions = count.functions in
      let structs = a.structs in
      external_steps x n s behind (of_list of_external xs leaves) h (omega (arith, room)) q tokens z
      (externals_steps xs m next rest leaves a.agrees (omega (arith, room, objects)) (omega (arith, few, functions))
      (omega (arith, small, structs)) a.told
      (past_external AreFewHeld skip x (of_list of_external xs leaves) tokens) z more)

-- ---- units

module _ (laws : Laws) (ds : List Definition) (io : IoTable) where
  unit_steps : (u : t.Tree) (unit : ℕ) (last : Bool) (n : Numbering) (s : State) → Agrees io unit (unlinked n) (in_unit s)
      → n.objects + objects_in_unit u ≤ 65_536 → n.functions + functions_in_unit u ≤ 65_536
      → length s.structs + structs_in_unit u ≤ most_structs
      → unit_fault (setting_of ds io unit) last u s ≡ None → AreHeld (of_tree u []) → length (of_tree u []) ≤ 65_536 → (z : State)
      → Steps ds io (after_unit (setting_of ds io unit) u s) z
      → Steps ds io (in_unit s) z
  unit_steps (t.tree xs end) unit last n s h room few small q held short z more =
      externals_steps laws ds io unit xs (unlinked n) (in_unit s)
      (on (rule 18 (last && is_none (main_of ds)) end.index ∷ []) ∷ []) _ h room few small q
      (held, short) z more

  pub units_steps : (us : List t.Tree) (unit : ℕ) (n : Numbering) (s : State) → IsClear io s → Agrees io unit (unlinked n) (in_unit s)
      → n.objects + objects_declared us ≤ 65_536 → n.functions + functions_defined us ≤ 65_536
      → length s.structs + structs_defined us ≤ most_structs
      → first_fault ds io unit us s ≡ None → AllByRecursion (λ u. AreHeld (of_tree u [])) us → AreShort us
      → Steps ds io s (after_units ds io unit us s)
  units_steps [] unit n s clear h room few small q held short = done
  units_steps (u ∷ us) unit n s clear h room few small q held short =
      let next = after_unit (setting_of ds io unit) u s in
      let m = numbered_unit unit u n in
      let e = later_none unit (unit_fault (setting_of ds io unit) (is_last us) u s) (first_fault ds io (unit + 1) us next) q in
      let a = unit_agrees laws ds io u unit (is_last us) n s h (omega (arith, room)) (omega (arith, few)) (omega (arith, small)) e.0 in
      let objects = a.1.objects in
      let functions = a.1.functions in
      let structs = a.2 in
      onward unit (in_unit s) (after_units ds io (unit + 1) us next) clear begins
      (unit_steps u unit (is_last us) n s h (omega (arith, room)) (omega (arith, few)) (omega (arith, small)) e.0 held.0 short.0
      (after_units ds io (unit + 1) us next)
      (units_steps us (unit + 1) m next (clear_at io unit m next a.0) (unit_begins io unit m next a.0) (omega (arith, room, objects))
      (omega (arith, few, functions))
      (omega (arith, small, structs)) e.1 held.1 short.1))
