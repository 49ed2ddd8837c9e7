-- Declarations at file scope by two tables whose ports have the same names.
use Rattle.std.specs.Prelude.{ℕ, Bool, false, Option, Some, None, List, [], ◌∷◌}
use Rattle.ec_core.specs.Plain.{PlainType}
use Rattle.ec_check_names.specs.declared.linkage.Linkage.{Linkage}
use Rattle.ec_check_names.specs.declared.specifiers.Specified.{Specified}
use Rattle.ec_check_names.specs.declared.specifiers.Storage.{Storage}
use Rattle.ec_check_names.specs.Definitions.{is_defined}
use Rattle.ec_check_expressions.specs.Known.{Known}
use Rattle.ec_check_declarations.specs.Declarators.{ObjectDeclared}
use Rattle.ec_check_file_scope.specs.States.{Setting, State, known_of}
use Rattle.ec_check_file_scope.specs.FileObjects.{with_defined, initial_leaves, object_made, word_of, named_in, initialised_in}
use Rattle.ec_check_file_scope.specs.FileObjects.{link_of, with_declared, object_of, after_object, after_register}
use Rattle.ec_check_file_scope.specs.FileFunctions.{after_function}
use Rattle.ec_check_names.specs.Specifiers.{specified, storages_of}
use Rattle.ec_check_names.specs.Tables.{with_name as with_tag}
use Rattle.ec_check_declarations.specs.Structures.{struct_number, with_struct}
use Rattle.ec_check_file_scope.specs.FileScope.{after_shape, shape_of, after_declarator, after_more, after_declaration, after_structure}
use Rattle.std.proofs.Common.{◌≡◌, refl}
use Rattle.ec_iohw.specs.declared.table.IoTable.{IoTable}
use Rattle.ec_check_ports.specs.Ports.{LookAlike}
use Rattle.ec_check_ports.proofs.Tables.{known_by, setting_by}
use Rattle.ec_check_ports.proofs.Initialisers.{static_leaves_same}
use Rattle.ec_check_ports.proofs.Declarations.{object_declared_same, struct_defined_same}
use Rattle.ec_grammar.specs.Trees as t

module _ (here there : IoTable) (same : LookAlike here there) where
  pub initial_leaves_same : (k : Known) (start : Option t.Start) (ty : Option PlainType)
      → initial_leaves (known_by here k) start ty ≡ initial_leaves (known_by there k) start ty
  initial_leaves_same k None ty = refl
  initial_leaves_same k (Some (t.start equals i)) ty = λ j. static_leaves_same here there same k i ty j

  pub initialised_in_same : (r : Setting) (n : List ℕ) (linkage : Linkage) (defined : Bool) (o : ObjectDeclared) (start : Option t.Start)
      (s : State)
      → initialised_in (setting_by here r) n linkage defined o start s ≡ initialised_in (setting_by there r) n linkage defined o start s
  initialised_in_same r n linkage defined o start s =
      λ j. with_defined defined (object_made r n linkage o o.ty (initial_leaves_same (known_of r.ports s) start o.ty j)) s

  pub with_declared_same : (r : Setting) (storage : Option Storage) (initdeclarator : t.InitDeclarator) (s : State) (o : ObjectDeclared)
      → with_declared (setting_by here r) storage initdeclarator s o ≡ with_declared (setting_by there r) storage initdeclarator s o
  with_declared_same r storage (t.init_declarator (t.declarator stars (t.identifier at n) shape) start) s o =
      λ j. initialised_in_same r n (link_of r (word_of storage) n s) (is_defined (word_of storage) false) o start (named_in r n (link_of r
      (word_of storage) n s) (is_defined (word_of storage) false) o s) j

  pub object_of_same : (r : Setting) (said : Specified) (initdeclarator : t.InitDeclarator) (s : State)
      → object_of (setting_by here r) said initdeclarator s ≡ object_of (setting_by there r) said initdeclarator s
  object_of_same r said (t.init_declarator d start) s = λ j. object_declared_same here there same (known_of r.ports s) said d start j

  pub after_object_same : (r : Setting) (said : Specified) (storage : Option Storage) (d : t.InitDeclarator) (s : State)
      → after_object (setting_by here r) said storage d s ≡ after_object (setting_by there r) said storage d s
  after_object_same r said storage d s = λ j. with_declared_same r storage d s (object_of_same r said d s j) j

  pub after_register_same : (r : Setting) (d : t.RegisterObject) (s : State)
      → after_register (setting_by here r) d s ≡ after_register (setting_by there r) d s
  after_register_same r (t.register_object w (t.identifier at reg) ss (t.identifier name_at n) semicolon) s = refl

  pub after_function_same : (r : Setting) (said : Specified) (storage : Option Storage) (initdeclarator : t.InitDeclarator) (ps :
      t.Params) (s : State)
      → after_function (setting_by here r) said storage initdeclarator ps s
      ≡ after_function (setting_by there r) said storage initdeclarator ps s
  after_function_same r said storage (t.init_declarator (t.declarator stars (t.identifier at n) shape) start) ps s = refl

  pub after_shape_same : (r : Setting) (said : Specified) (storage : Option Storage) (shape : t.Shape) (d : t.InitDeclarator) (s : State)
      → after_shape (setting_by here r) said storage shape d s ≡ after_shape (setting_by there r) said storage shape d s
  after_shape_same r said storage t.object d s = λ j. after_object_same r said storage d s j
  after_shape_same r said storage (t.array l size e) d s = λ j. after_object_same r said storage d s j
  after_shape_same r said storage (t.function_shape l ps e) d s = λ j. after_function_same r said storage d ps s j

  pub after_declarator_same : (r : Setting) (said : Specified) (storage : Option Storage) (d : t.InitDeclarator) (s : State)
      → after_declarator (setting_by here r) said storage d s ≡ after_declarator (setting_by there r) said storage d s
  after_declarator_same r said storage d s = λ j. after_shape_same r said storage (shape_of d) d s j

  pub after_more_same : (r : Setting) (said : Specified) (storage : Option Storage) (nextinitdeclarators : List t.NextInitDeclarator) (s :
      State)
      → after_more (setting_by here r) said storage nextinitdeclarators s
      ≡ after_more (setting_by there r) said storage nextinitdeclarators s
  after_more_same r said storage [] s = refl
  after_more_same r said storage (t.next_init_declarator comma d ∷ ds) s =
      λ j. after_more_same r said storage ds (after_declarator_same r said storage d s j) j

  pub after_declaration_same : (r : Setting) (declaration : t.Declaration) (s : State)
      → after_declaration (setting_by here r) declaration s ≡ after_declaration (setting_by there r) declaration s
  after_declaration_same r (t.declaration ss first more semicolon) s =
      λ j. after_more_same r (specified s.tags ss) (storages_of ss).first more (after_declarator_same r (specified s.tags ss) (storages_of
      ss).first first s j) j

  pub after_structure_same : (r : Setting) (structure : t.Structure) (s : State)
      → after_structure (setting_by here r) structure s ≡ after_structure (setting_by there r) structure s
  after_structure_same r (t.structure w (t.identifier at tag) l first more e semicolon) s =
      λ j. let d = struct_defined_same here there same (known_of r.ports s) (t.structure w (t.identifier at tag) l first more e semicolon)
      j in record s { tags = with_tag tag (struct_number d s.structs) s.tags; structs = with_struct d s.structs }
