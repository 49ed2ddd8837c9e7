-- The walk over external declarations agrees with what is numbered.
use Rattle.std.proofs.Common.{◌≡◌, ◌∙◌, ◌≤◌, ◌+◌, ℕ, true, List, [], ◌∷◌, length, refl, sym, ap, subst, arith}
use Rattle.std.specs.Prelude.{Option, None, slice_get, Contains}
use Rattle.ec_grammar.specs.Trees as t
use Rattle.ec_iohw.specs.declared.table.IoTable.{IoTable}
use Rattle.ec_core.specs.Plain.{PlainStruct}
use Rattle.ec_core.specs.TypeLaws.{StructsAreLaidOut}
use Rattle.ec_check_names.specs.declared.specifiers.Storage.{Storage}
use Rattle.ec_check_names.specs.Counts.{objects_in_declarator, objects_in_more, objects_in_declaration, objects_in_external}
use Rattle.ec_check_names.specs.Counts.{objects_in_externals, functions_in_external, functions_in_externals}
use Rattle.ec_check_names.specs.Definitions.{Numbering, numbered_declarator, numbered_more, numbered_declaration, numbered_external}
use Rattle.ec_check_names.specs.Definitions.{numbered_externals}
use Rattle.ec_check_names.specs.Specifiers.{specified, specs_rules, storages_of}
use Rattle.ec_check_names.specs.Tags.{Tags}
use Rattle.ec_check_operands.specs.declared.operands.Modes.{Modes}
use Rattle.ec_check_forms.specs.Meanings.{KeptFormsHaveMeanings}
use Rattle.ec_check_expression_laws.specs.Laws.{AreUnbroken, DeclarationsKeepSuiting, DefinitionsKeepSuiting, KeptExpressionsHaveMeanings}
use Rattle.ec_check_expression_laws.specs.Laws.{KeptTypesAreSaid}
use Rattle.ec_check_initialisers.specs.Laws.{SizesAreValues}
use Rattle.ec_check_declarations.specs.Sites.{Site, told}
use Rattle.ec_check_statements.specs.Around.{with_pragma}
use Rattle.ec_check_statements.specs.Laws.{KeptObjectsHaveTypes, KeptMembersHaveTypes, KeptFunctionsHaveTypes}
use Rattle.ec_check_statements.specs.Laws.{InnerObjectsKeepSuiting, ObjectsStay, ScopesEnd}
use Rattle.ec_check_statements.specs.Laws.{KeptBodiesHaveMeanings}
use Rattle.ec_check_statements.proofs.Unbroken.{kept_of, told_of}
use Rattle.ec_check_file_scope.specs.FileObjects.{word_of, after_register}
use Rattle.ec_check_file_scope.specs.FileScope.{after_declarator, declarator_sites, after_more, more_sites, after_declaration}
use Rattle.ec_check_file_scope.specs.FileScope.{declaration_sites}
use Rattle.ec_check_file_scope.specs.States.{Setting, State, with_modes}
use Rattle.ec_check.specs.Agreement.{IsDefined, Agrees}
use Rattle.ec_check.specs.Definitions.{after_definition}
use Rattle.ec_check.specs.Laws.{structs_in_external, structs_in_externals}
use Rattle.ec_check.specs.Units.{after_external, external_sites, after_externals, externals_sites}
use Rattle.ec_check.proofs.Counted.{Counts, declarator_counts, external_counts}
use Rattle.ec_check.proofs.Grown.{Grows, defined_kept}
use Rattle.ec_check.proofs.KeptDefinitions.{definition_goes_on}
use Rattle.ec_check.proofs.KeptFunctions.{function_goes_on}
use Rattle.ec_check.proofs.KeptObjects.{GoesOn, object_goes_on}
use Rattle.ec_check.proofs.KeptRegisters.{register_goes_on}
use Rattle.ec_check.proofs.KeptStructs.{structure_goes_on}
use Rattle.ec_check.proofs.Lists.{all_through}

-- the laws of the crates below that the walk's agreement stands on
pub record Laws : Type 0 where
  pub laid_out : StructsAreLaidOut
  pub sizes : SizesAreValues
  pub said : KeptTypesAreSaid
  pub forms : KeptFormsHaveMeanings
  pub meanings : KeptExpressionsHaveMeanings
  pub names : DeclarationsKeepSuiting
  pub tags : DefinitionsKeepSuiting
  pub objects : KeptObjectsHaveTypes
  pub members : KeptMembersHaveTypes
  pub functions : KeptFunctionsHaveTypes
  pub inner : InnerObjectsKeepSuiting
  pub stay : ObjectsStay
  pub ends : ScopesEnd
  pub bodies : KeptBodiesHaveMeanings

-- ---- states that differ in what definitions do not make

pub same_grows : (s v : State) → v.declared ≡ s.declared → v.scope.objects ≡ s.scope.objects → v.functions ≡ s.functions → Grows s v
same_grows s v d o f = record {
  declared = λ e h. subst (λ ds. Contains ds e) (sym d) h;
  objects = λ i x e. ap (λ xs. slice_get xs i) o ∙ e;
  functions = λ i g e. ap (λ xs. slice_get xs i) f ∙ e;
}

pub modes_agree : (io : IoTable) (unit : ℕ) (n : Numbering) (s : State) (m : Modes) → Agrees io unit n s → Agrees io unit n (with_modes m s)
modes_agree io unit n s m h =
    let v = with_modes m s in
    record {
      whole = h.whole;
      objects = h.objects;
      functions = h.functions;
      links = h.links;
      registered = h.registered;
      made = all_through (IsDefined s) (IsDefined v) n.definitions (λ d. defined_kept s v (same_grows s v refl refl refl) d) h.made;
      clear = h.clear;
      units = h.units;
      types = record { names = h.types.names; tags = h.types.tags };
      closed = h.closed;
      sound = record { structs = h.sound.structs; counted = h.sound.counted; named = h.sound.named };
      filled = h.filled;
    }

-- what external declarations leave: what agrees, so many structs more at most, and nothing told behind them
pub record Continues (r : Setting) (n : Numbering) (before after : State) (most : ℕ) (rest : List Site) : Type 0 where
  pub agrees : Agrees r.ports r.unit n after
  pub structs : length after.structs ≤ length before.structs + most
  pub told : told None rest ≡ None

module _ (laws : Laws) (r : Setting) where
  -- ---- declarators

  one_goes_on : (ss : t.Specs) (storage : Option Storage) (d : t.InitDeclarator) (n : Numbering) (s : State) (rest : List Site)
      → Agrees r.ports r.unit n s
      → n.objects + objects_in_declarator d ≤ 65_536 → AreUnbroken (specs_rules s.tags true ss [])
      → told None (declarator_sites r (specified s.tags ss) storage d s rest) ≡ None
      → GoesOn r (numbered_declarator r.unit (word_of storage) d n) s (after_declarator r (specified s.tags ss) storage d s) rest
  one_goes_on ss storage (t.init_declarator (t.declarator stars x t.object) start) n s rest h room unbroken q =
      object_goes_on laws.meanings laws.forms laws.objects laws.names r ss storage
      (t.init_declarator (t.declarator stars x t.object) start) n s rest h
      unbroken refl (omega (arith, room)) q
  one_goes_on ss storage (t.init_declarator (t.declarator stars x (t.array l size e)) start) n s rest h room unbroken q =
      object_goes_on laws.meanings laws.forms laws.objects laws.names r ss storage
      (t.init_declarator (t.declarator stars x (t.array l size e)) start) n s rest h
      unbroken refl (omega (arith, room)) q
  one_goes_on ss storage (t.init_declarator (t.declarator stars x (t.function_shape l ps e)) start) n s rest h room unbroken q =
      function_goes_on laws.functions laws.names r ss storage stars x l ps e start n s rest h unbroken q

  -- a declarator, where the tags are those that the specifiers were read with
  pub declarator_goes_on : (ss : t.Specs) (storage : Option Storage) (d : t.InitDeclarator) (n : Numbering) (s : State) (rest : List Site)
      → Agrees r.ports r.unit n s
      → n.objects + objects_in_declarator d ≤ 65_536 → (tags : Tags) → s.tags ≡ tags → AreUnbroken (specs_rules tags true ss [])
      → told None (declarator_sites r (specified tags ss) storage d s rest) ≡ None
      → GoesOn r (numbered_declarator r.unit (word_of storage) d n) s (after_declarator r (specified tags ss) storage d s) rest
  declarator_goes_on ss storage d n s rest h room tags e =
      subst
      (λ (ts : Tags). AreUnbroken (specs_rules ts true ss []) → told None (declarator_sites r (specified ts ss) storage d s rest) ≡ None
      → GoesOn r (numbered_declarator r.unit (word_of storage) d n) s (after_declarator r (specified ts ss) storage d s) rest) e
      (one_goes_on ss storage d n s rest h room)

  more_go_on : (ss : t.Specs) (storage : Option Storage) (ds : List t.NextInitDeclarator) (n : Numbering) (s : State) (rest : List Site)
      → Agrees r.ports r.unit n s
      → n.objects + objects_in_more ds ≤ 65_536 → (tags : Tags) → s.tags ≡ tags → AreUnbroken (specs_rules tags true ss [])
      → told None (more_sites r (specified tags ss) storage ds s rest) ≡ None
      → GoesOn r (numbered_more r.unit (word_of storage) ds n) s (after_more r (specified tags ss) storage ds s) rest
  more_go_on ss storage [] n s rest h room tags e unbroken q = record { agrees = h; tags = refl; structs = refl; kept = kept_of rest q }
  more_go_on ss storage (t.next_init_declarator comma d ∷ ds) n s rest h room tags e unbroken q =
      let said = specified tags ss in
      let next = after_declarator r said storage d s in
      let behind = more_sites r said storage ds next rest in
      let a = declarator_goes_on ss storage d n s behind h (omega (arith, room)) tags e unbroken q in
      let count = declarator_counts r.unit (word_of storage) d n in
      let objects = count.objects in
      let b = more_go_on ss storage ds (numbered_declarator r.unit (word_of storage) d n) next rest a.agrees
      (omega (arith, room, objects)) tags (a.tags ∙ e) unbroken
      (told_of behind a.kept) in
      record { agrees = b.agrees; tags = b.tags ∙ a.tags; structs = b.structs ∙ a.structs; kept = b.kept }

  pub declaration_goes_on : (d : t.Declaration) (n : Numbering) (s : State) (rest : List Site) → Agrees r.ports r.unit n s
      → n.objects + objects_in_declaration d ≤ 65_536 → told None (declaration_sites r d s rest) ≡ None
      → GoesOn r (numbered_declaration r.unit d n) s (after_declaration r d s) rest
  declaration_goes_on (t.declaration ss first more semicolon) n s rest h room q =
      let storage = (storages_of ss).first in
      let said = specified s.tags ss in
      let next = after_declarator r said storage first s in
      let behind = more_sites r said storage more next rest in
      let u = kept_of (declaration_sites r (t.declaration ss first more semicolon) s rest) q in
      let a = declarator_goes_on ss storage first n s behind h (omega (arith, room)) s.tags refl u.0
      (told_of (declarator_sites r said storage first s behind) u.1) in
      let count = declarator_counts r.unit (word_of storage) first n in
      let objects = count.objects in
      let b = more_go_on ss storage more (numbered_declarator r.unit (word_of storage) first n) next rest a.agrees
      (omega (arith, room, objects)) s.tags a.tags u.0
      (told_of behind a.kept) in
      record { agrees = b.agrees; tags = b.tags ∙ a.tags; structs = b.structs ∙ a.structs; kept = b.kept }

  -- ---- external declarations

  as_many : (before after : List PlainStruct) → after ≡ before → length after ≤ length before + 0
  as_many before after e = let same = ap (λ (xs : List PlainStruct). length xs) e in omega (arith, same)

  pub external_goes_on : (x : t.External) (n : Numbering) (s : State) (rest : List Site) → Agrees r.ports r.unit n s
      → n.objects + objects_in_external x ≤ 65_536
      → n.functions + functions_in_external x ≤ 65_536 → length s.structs + structs_in_external x ≤ 4_294_967_296
      → told None (external_sites r x s rest) ≡ None
      → Continues r (numbered_external r.unit x n) s (after_external r x s) (structs_in_external x) rest
  external_goes_on (t.pragma_item p) n s rest h room few small q =
      record { agrees = modes_agree r.ports r.unit n s (with_pragma p s.modes) h; structs = omega arith; told = q }
  external_goes_on (t.structure_item d) n s rest h room few small q =
      let a = structure_goes_on laws.members laws.said laws.sizes laws.laid_out laws.tags r d n s rest h (omega (arith, small)) q in
      record { agrees = a.agrees; structs = a.structs; told = told_of rest a.kept }
  external_goes_on (t.register_item d) n s rest h room few small q =
      let a = register_goes_on laws.said laws.names r d n s rest h (omega (arith, room)) q in
      record { agrees = a.agrees; structs = as_many s.structs (after_register r d s).structs a.structs; told = told_of rest a.kept }
  external_goes_on (t.declaration_item d) n s rest h room few small q =
      let a = declaration_goes_on d n s rest h room q in
      record { agrees = a.agrees; structs = as_many s.structs (after_declaration r d s).structs a.structs; told = told_of rest a.kept }
  external_goes_on (t.function_item f) n s rest h room few small q =
      let a = definition_goes_on laws.functions laws.inner laws.stay laws.ends laws.bodies laws.names r f n s rest h room
      (omega (arith, few)) q in
      record { agrees = a.agrees; structs = as_many s.structs (after_definition r f s).structs a.structs; told = told_of rest a.kept }

  pub externals_go_on : (xs : List t.External) (n : Numbering) (s : State) (rest : List Site) → Agrees r.ports r.unit n s
      → n.objects + objects_in_externals xs ≤ 65_536
      → n.functions + functions_in_externals xs ≤ 65_536 → length s.structs + structs_in_externals xs ≤ 4_294_967_296
      → told None (externals_sites r xs s rest) ≡ None
      → Continues r (numbered_externals r.unit xs n) s (after_externals r xs s) (structs_in_externals xs) rest
      × Counts n (numbered_externals r.unit xs n) (objects_in_externals xs) (functions_in_externals xs)
  externals_go_on [] n s rest h room few small q =
      (record { agrees = h; structs = omega arith; told = q }, record { objects = omega arith; functions = omega arith })
  externals_go_on (x ∷ xs) n s rest h room few small q =
      let m = numbered_external r.unit x n in
      let next = after_external r x s in
      let a =
      external_goes_on x n s (externals_sites r xs next rest) h (omega (arith, room)) (omega (arith, few)) (omega (arith, small)) q in
      let count = external_counts r.unit x n in
      let objects = count.objects in
      let functions = count.functions in
      let structs = a.structs in
      let b = externals_go_on xs m next rest a.agrees (omega (arith, room, objects)) (omega (arith, few, functions))
      (omega (arith, small, structs)) a.told in
      let more = b.0.structs in
      let other_objects = b.1.objects in
      let other_functions = b.1.functions in (
        record { agrees = b.0.agrees; structs = omega (arith, structs, more); told = b.0.told },
        record { objects = omega (arith, objects, other_objects); functions = omega (arith, functions, other_functions) },
      )
