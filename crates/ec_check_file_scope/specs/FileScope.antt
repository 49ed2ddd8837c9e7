-- Declarations and definitions of structs at file scope (ISO/IEC 9899:1999, 6.7 and 6.9).
use Rattle.std.specs.Prelude.{true, Option, List, [], ◌∷◌}
use Rattle.ec_grammar.specs.Trees as t
use Rattle.ec_check_names.specs.declared.specifiers.Specified.{Specified}
use Rattle.ec_check_names.specs.declared.specifiers.Storage.{Storage}
use Rattle.ec_check_names.specs.Specifiers.{specified, specs_rules, storages_of}
use Rattle.ec_check_names.specs.Tables.{with_name as with_tag}
use Rattle.ec_check_declarations.specs.Sites.{Site, on}
use Rattle.ec_check_declarations.specs.Structures.{struct_defined, struct_number, with_struct}
use Rattle.ec_check_file_scope.specs.FileFunctions.{after_function, file_function_sites}
use Rattle.ec_check_file_scope.specs.FileObjects.{after_object, file_object_sites}
use Rattle.ec_check_file_scope.specs.States.{Setting, State, known_of}

-- ---- declarations

abbrev pub after_shape : Setting → Specified → Option Storage → t.Shape → t.InitDeclarator → State → State
after_shape r said storage t.object d s = after_object r said storage d s
after_shape r said storage (t.array l size e) d s = after_object r said storage d s
after_shape r said storage (t.function_shape l ps e) d s = after_function r said storage d ps s

abbrev pub shape_of : t.InitDeclarator → t.Shape
shape_of (t.init_declarator (t.declarator stars name shape) start) = shape

abbrev pub after_declarator : Setting → Specified → Option Storage → t.InitDeclarator → State → State
after_declarator r said storage d s = after_shape r said storage (shape_of d) d s

abbrev pub sites_of_shape : Setting → Specified → Option Storage → t.Shape → t.InitDeclarator → State → List Site
    → List Site
sites_of_shape r said storage t.object d s rest = file_object_sites r said storage d s rest
sites_of_shape r said storage (t.array l size e) d s rest = file_object_sites r said storage d s rest
sites_of_shape r said storage (t.function_shape l ps e) d s rest = file_function_sites r said storage d ps s rest

abbrev pub declarator_sites : Setting → Specified → Option Storage → t.InitDeclarator → State → List Site → List Site
declarator_sites r said storage d s rest = sites_of_shape r said storage (shape_of d) d s rest

abbrev pub after_more : Setting → Specified → Option Storage → List t.NextInitDeclarator → State → State
after_more r said storage [] s = s
after_more r said storage (t.next_init_declarator comma d ∷ ds) s =
    after_more r said storage ds (after_declarator r said storage d s)

abbrev pub more_sites : Setting → Specified → Option Storage → List t.NextInitDeclarator → State → List Site → List Site
more_sites r said storage [] s rest = rest
more_sites r said storage (t.next_init_declarator comma d ∷ ds) s rest =
    declarator_sites r said storage d s (more_sites r said storage ds (after_declarator r said storage d s) rest)

abbrev pub after_declaration : Setting → t.Declaration → State → State
after_declaration r (t.declaration ss first more semicolon) s =
    after_more r (specified s.tags ss) (storages_of ss).first more
    (after_declarator r (specified s.tags ss) (storages_of ss).first first s)

abbrev pub declaration_sites : Setting → t.Declaration → State → List Site → List Site
declaration_sites r (t.declaration ss first more semicolon) s rest =
    on (specs_rules s.tags true ss [])
    ∷ declarator_sites r (specified s.tags ss) (storages_of ss).first first s
    (more_sites r (specified s.tags ss) (storages_of ss).first more
    (after_declarator r (specified s.tags ss) (storages_of ss).first first s) rest)

-- ---- structs

abbrev pub after_structure : Setting → t.Structure → State → State
after_structure r (t.structure w (t.identifier at tag) l first more e semicolon) s =
    let d = struct_defined (known_of r.ports s) (t.structure w (t.identifier at tag) l first more e semicolon) in
    record s { tags = with_tag tag (struct_number d s.structs) s.tags; structs = with_struct d s.structs }
