-- The structs of a program stand in the order of their definitions.
use Rattle.std.proofs.Common.{◌≡◌, ◌∙◌, ◌+◌, ℕ, Bool, true, false, not, List, [], ◌∷◌, ◌++◌, refl, sym, subst}
use Rattle.std.specs.Prelude.{if◌then◌else◌, Option, Some, None}
use Rattle.ec_grammar.specs.Spelling as spell
use Rattle.ec_grammar.specs.Tokens as tokens
use Rattle.ec_grammar.specs.Trees as t
use Rattle.ec_grammar.specs.Trees.{Leaf}
use Rattle.ec_iohw.specs.declared.table.IoTable.{IoTable}
use Rattle.ec_core.specs.Plain.{PlainStruct, PlainObject, PlainFunction}
use Rattle.ec_check_names.specs.declared.specifiers.Specified.{Specified}
use Rattle.ec_check_names.specs.declared.specifiers.Storage.{Storage}
use Rattle.ec_check_names.specs.Definitions.{Definition, definitions, is_defined}
use Rattle.ec_check_names.specs.Laws.{EqualStructsAreOne}
use Rattle.ec_check_names.specs.Specifiers.{specified, storages_of}
use Rattle.ec_check_names.specs.Structs.{struct_place}
use Rattle.ec_check_declarations.specs.Declarators.{ObjectDeclared}
use Rattle.ec_check_declarations.specs.Functions.{FunctionDeclared}
use Rattle.ec_check_declarations.specs.Registers.{register_declared}
use Rattle.ec_check_declarations.specs.Scopes.{has_room}
use Rattle.ec_check_declarations.specs.Structures.{struct_defined, appended, with_struct}
use Rattle.ec_check_statements.specs.Statements.{body_of, after_body}
use Rattle.ec_check_file_scope.specs.FileNames.{is_registered}
use Rattle.ec_check_file_scope.specs.FileObjects.{with_object, with_defined, with_declared, initial_leaves, named_in, link_of, word_of, object_of, object_made}
use Rattle.ec_check_file_scope.specs.FileObjects.{after_register, register_made, register_named, register_name}
use Rattle.ec_check_file_scope.specs.FileScope.{after_declarator, after_more, after_declaration}
use Rattle.ec_check_file_scope.specs.States.{Setting, State, known_of, context_of, with_scope, broken, nothing_declared}
use Rattle.ec_check_file_scope.specs.States as states
use Rattle.ec_check_parts.specs.Said.{StructsAreDeclared}
use Rattle.ec_check_parts.specs.Structures.{DeclareStruct}
use Rattle.ec_check_typed.proofs.FileScope.{found_is, not_found}
use Rattle.ec_check.specs.Laws.{ProgramsAreTyped}
use Rattle.ec_check.specs.Definitions.{has_number, with_function, function_made, numbers_in, params_in, body_in, defined_in, definition_declared}
use Rattle.ec_check.specs.Definitions.{named_definition, after_definition}
use Rattle.ec_check.specs.Units.{after_external, after_externals, after_unit, setting_of, after_units, main_of}
use Rattle.ec_check_tokens.specs.Definers.{Definer, StandInOrder, ended, passed, named}
use Rattle.ec_check_tokens.specs.Objects.{struct_of, structs_in, unit_structs, structs_from, MakeStructs, all_defined, a_struct, again}
use Rattle.ec_check_tokens.specs.Objects.{no_struct, StructsAreInOrder}
use Rattle.ec_check_tokens.proofs.Functions.{program_has}
use Rattle.ec_check_tokens.proofs.Order as among

-- ---- what leaves the structs as they are

object_kept : (o : Option PlainObject) (s : State) → (with_object o s).structs ≡ s.structs
object_kept None s = refl
object_kept (Some o) s = by (has_room s.scope.objects)
  where
    by : (b : Bool)
        → (if b then with_scope (record { names = s.scope.names; objects = s.scope.objects ++ o ∷ [] }) s else broken s).structs ≡ s.structs
    by true = refl
    by false = refl

defined_kept : (b : Bool) (o : Option PlainObject) (s : State) → (with_defined b o s).structs ≡ s.structs
defined_kept false o s = refl
defined_kept true o s = object_kept o s

declared_kept : (r : Setting) (storage : Option Storage) (d : t.InitDeclarator) (s : State) (o : ObjectDeclared)
    → (with_declared r storage d s o).structs ≡ s.structs
declared_kept r storage (t.init_declarator (t.declarator stars (t.identifier at n) shape) start) s o =
    let known = named_in r n (link_of r (word_of storage) n s) (is_defined (word_of storage) false) o s in
    defined_kept (is_defined (word_of storage) false)
    (object_made r n (link_of r (word_of storage) n s) o o.ty (initial_leaves (known_of r.ports known) start o.ty)) known

declarator_kept : (r : Setting) (said : Specified) (word : Option Storage) (d : t.InitDeclarator) (s : State)
    → (after_declarator r said word d s).structs ≡ s.structs
declarator_kept r said word (t.init_declarator (t.declarator stars (t.identifier at n) t.object) start) s =
    let d = t.init_declarator (t.declarator stars (t.identifier at n) t.object) start in
    declared_kept r word d s (object_of r said d s)
declarator_kept r said word (t.init_declarator (t.declarator stars (t.identifier at n) (t.array l c e)) start) s =
    let d = t.init_declarator (t.declarator stars (t.identifier at n) (t.array l c e)) start in
    declared_kept r word d s (object_of r said d s)
declarator_kept r said word (t.init_declarator (t.declarator stars (t.identifier at n) (t.function_shape l ps e)) start) s = refl

more_kept : (r : Setting) (said : Specified) (word : Option Storage) (ds : List t.NextInitDeclarator) (s : State)
    → (after_more r said word ds s).structs ≡ s.structs
more_kept r said word [] s = refl
more_kept r said word (t.next_init_declarator comma d ∷ ds) s =
    more_kept r said word ds (after_declarator r said word d s) ∙ declarator_kept r said word d s

declaration_kept : (r : Setting) (d : t.Declaration) (s : State) → (after_declaration r d s).structs ≡ s.structs
declaration_kept r (t.declaration ss first more e) s =
    more_kept r (specified s.tags ss) (storages_of ss).first more (after_declarator r (specified s.tags ss) (storages_of ss).first first s)
    ∙ declarator_kept r (specified s.tags ss) (storages_of ss).first first s

register_kept : (r : Setting) (d : t.RegisterObject) (s : State) → (after_register r d s).structs ≡ s.structs
register_kept r (t.register_object w reg ss (t.identifier at n) e) s =
    let o = register_declared (known_of r.ports s) (t.register_object w reg ss (t.identifier at n) e) in
    defined_kept (not (is_registered n s.declared)) (register_made r n o o.first o.ty)
    (states.with_name n (register_named r n o) (register_name r n o) s)

function_kept : (f : Option PlainFunction) (s : State) → (with_function f s).structs ≡ s.structs
function_kept None s = refl
function_kept (Some f) s = by (has_number s.functions)
  where
    by : (b : Bool) → (if b then record s { functions = s.functions ++ f ∷ [] } else broken s).structs ≡ s.structs
    by true = refl
    by false = refl

body_kept : (r : Setting) (n : List ℕ) (f : FunctionDeclared) (body : t.Compound) (s : State)
    → (defined_in r n f body s).structs ≡ s.structs
body_kept r n f body s =
    function_kept
    (function_made r.unit n f.returns (numbers_in r f s)
    (body_of (context_of r.ports s) (body_in r f s) body (params_in r f s)))
    (with_scope (after_body (context_of r.ports s) (body_in r f s) body (params_in r f s)) s)

definition_kept : (r : Setting) (f : t.Function) (s : State) → (after_definition r f s).structs ≡ s.structs
definition_kept r (t.function ty (t.identifier at n) l ps e b) s =
    let d = definition_declared (t.function ty (t.identifier at n) l ps e b) s in
    body_kept r n d b (named_definition r (t.function ty (t.identifier at n) l ps e b) s d)

-- ---- structs

module _ (one : EqualStructsAreOne) (declared : StructsAreDeclared) (all : List PlainStruct) where
  abbrev Give : List PlainStruct → List (Definer t.Structure) → Type 0
  Give before ds = MakeStructs all before ds

  kind_is : (unit : ℕ) (d : t.Structure) → (struct_of unit d).kind ≡ d
  kind_is unit (t.structure w (t.identifier at tag) l first more r semicolon) = refl

  structure_gives : (r : Setting) (d : t.Structure) (s : State) (rest : List (Definer t.Structure))
      → Give (with_struct (struct_defined (known_of r.ports s) d) s.structs) rest → Give s.structs (struct_of r.unit d ∷ rest)
  structure_gives r d s rest h = by (struct_defined (known_of r.ports s) d) refl h
    where
      found : (x : PlainStruct) → struct_defined (known_of r.ports s) d ≡ Some x
          → DeclareStruct (known_of r.ports s) (struct_of r.unit d).kind x
      found x e =
          subst (λ (z : t.Structure). DeclareStruct (known_of r.ports s) z x) (sym (kind_is r.unit d))
          ((declared (known_of r.ports s) d x).0 e)

      placed : (x : PlainStruct) → struct_defined (known_of r.ports s) d ≡ Some x → (p : Option ℕ) → struct_place x s.structs ≡ p
          → Give (appended p x s.structs) rest → Give s.structs (struct_of r.unit d ∷ rest)
      placed x e None q h = a_struct (known_of r.ports s) x refl (found x e) (not_found one 0 x s.structs q) h
      placed x e (Some i) q h = again (known_of r.ports s) x refl (found x e) (found_is one 0 i x s.structs q) h

      by : (o : Option PlainStruct) → struct_defined (known_of r.ports s) d ≡ o → Give (with_struct o s.structs) rest
          → Give s.structs (struct_of r.unit d ∷ rest)
      by None e h =
          no_struct (known_of r.ports s) refl
          (λ x g. nothing x (sym e ∙ (declared (known_of r.ports s) d x).1
          (subst (λ (z : t.Structure). DeclareStruct (known_of r.ports s) z x) (kind_is r.unit d) g))) h
        where
          nothing : (x : PlainStruct) → ◌≡◌ {A = Option PlainStruct} None (Some x) → ⊥
          nothing x e = cc
      by (Some x) e h = placed x e (struct_place x s.structs) refl h

  kept_gives : (s z : State) (rest : List (Definer t.Structure)) → z.structs ≡ s.structs → Give z.structs rest → Give s.structs rest
  kept_gives s z rest e h = subst (λ (y : List PlainStruct). Give y rest) e h

  external_gives : (r : Setting) (x : t.External) (xs : List t.External) (s : State) (rest : List (Definer t.Structure))
      → Give (after_external r x s).structs (structs_in r.unit xs rest) → Give s.structs (structs_in r.unit (x ∷ xs) rest)
  external_gives r (t.pragma_item p) xs s rest h = h
  external_gives r (t.structure_item (t.structure w (t.identifier at tag) l first more e semicolon)) xs s rest h =
      structure_gives r (t.structure w (t.identifier at tag) l first more e semicolon) s (structs_in r.unit xs rest) h
  external_gives r (t.register_item d) xs s rest h = kept_gives s (after_register r d s) (structs_in r.unit xs rest) (register_kept r d s) h
  external_gives r (t.declaration_item d) xs s rest h = kept_gives s (after_declaration r d s) (structs_in r.unit xs rest) (declaration_kept r d s) h
  external_gives r (t.function_item f) xs s rest h = kept_gives s (after_definition r f s) (structs_in r.unit xs rest) (definition_kept r f s) h

  externals_give : (r : Setting) (xs : List t.External) (s : State) (rest : List (Definer t.Structure))
      → Give (after_externals r xs s).structs rest → Give s.structs (structs_in r.unit xs rest)
  externals_give r [] s rest h = h
  externals_give r (x ∷ xs) s rest h = external_gives r x xs s rest (externals_give r xs (after_external r x s) rest h)

  units_give : (ds : List Definition) (io : IoTable) (unit : ℕ) (us : List t.Tree) (s : State)
      → (after_units ds io unit us s).structs ≡ all → Give s.structs (structs_from unit us)
  units_give ds io unit [] s e = subst (λ (z : List PlainStruct). MakeStructs all z []) (sym e) all_defined
  units_give ds io unit (t.tree xs z ∷ us) s e =
      let r = setting_of ds io unit in
      externals_give r xs (states.in_unit s) (structs_from (unit + 1) us)
      (units_give ds io (unit + 1) us (after_unit r (t.tree xs z) s) e)

-- ---- their order

structs_stand : (unit : ℕ) (xs : List t.External) (ds : List (Definer t.Structure)) (rest : List Leaf) → StandInOrder ds rest
    → StandInOrder (structs_in unit xs ds) (spell.of_list spell.of_external xs rest)
structs_stand unit [] ds rest h = h
structs_stand unit (t.pragma_item p ∷ xs) ds rest h = passed (structs_stand unit xs ds rest h)
structs_stand unit (t.structure_item (t.structure w (t.identifier at tag) l first more r e) ∷ xs) ds rest h =
    let ls = spell.of_list spell.of_external xs rest in
    passed (named refl refl (passed (among.member _ first _ (among.each _ spell.of_member (among.member _) more _
    (passed (passed (structs_stand unit xs ds rest h)))))))
structs_stand unit (t.register_item d ∷ xs) ds rest h = among.register_object _ d _ (structs_stand unit xs ds rest h)
structs_stand unit (t.declaration_item d ∷ xs) ds rest h = among.declaration _ d _ (structs_stand unit xs ds rest h)
structs_stand unit (t.function_item f ∷ xs) ds rest h = among.function _ f _ (structs_stand unit xs ds rest h)

unit_stands : (unit : ℕ) (u : t.Tree) → StandInOrder (unit_structs unit u []) (spell.of_tree u [])
unit_stands unit (t.tree xs e) = structs_stand unit xs [] (spell.leaf e tokens.end ∷ []) ended

pub structs_are_in_order : ProgramsAreTyped → EqualStructsAreOne → StructsAreDeclared → StructsAreInOrder
structs_are_in_order typed one declared = record {
  order = record {
    named = unit_stands;
    rising = λ ts unit u h. among.rise ts 0 (spell.of_tree u []) (unit_structs unit u []) (sym h.0) (unit_stands unit u);
  };
  structs = λ us io p said.
      let z = after_units (definitions us) io 0 us nothing_declared in
      let has = program_has (main_of (definitions us)) z p ((typed.walked us io p).0 said) in
      units_give one declared p.structs (definitions us) io 0 us nothing_declared has.2;
}
