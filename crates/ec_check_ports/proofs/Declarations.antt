-- Declarators and structs by two tables whose ports have the same names.
use Rattle.std.specs.Prelude.{ℕ, Bool, Option, Some, None, List, [], ◌∷◌, length, false, if◌then◌else◌, ◌++◌}
use Rattle.ec_check_names.specs.declared.specifiers.Specified.{Specified}
use Rattle.ec_check_names.specs.Specifiers.{specified, specs_rules}
use Rattle.ec_check_expressions.specs.Known.{Known}
use Rattle.ec_check_declarations.specs.Sites.{Site, on, initialiser_in, is_told}
use Rattle.ec_check_declarations.specs.Declarators.{declared_size, declared_size_sites, shape_size, shape_sites, typed_object}
use Rattle.ec_check_declarations.specs.Declarators.{typed_declarator, sized, object_declared, typed_object_sites, typed_sites}
use Rattle.ec_check_names.specs.Counts.{is_function}
use Rattle.ec_check_declarations.specs.Structures.{is_member, member_rules, with_member, member_sites, with_more_members}
use Rattle.ec_check_declarations.specs.Structures.{more_member_sites, with_declared, declared_sites, with_all_declared}
use Rattle.ec_check_declarations.specs.Structures.{all_declared_sites, known_members, struct_of, member_list_sites, members_of}
use Rattle.ec_check_declarations.specs.Structures.{struct_defined, MemberDeclared}
use Rattle.std.proofs.Common.{◌≡◌, refl}
use Rattle.ec_iohw.specs.declared.table.IoTable.{IoTable}
use Rattle.ec_check_ports.specs.Ports.{LookAlike}
use Rattle.ec_check_ports.proofs.Tables.{known_by}
use Rattle.ec_check_ports.proofs.Initialisers.{size_sites_same, array_size_same}
use Rattle.ec_grammar.specs.Trees as t

module _ (here there : IoTable) (same : LookAlike here there) where
  pub declared_size_same : (k : Known) (conditional : Option t.Conditional) (start : Option t.Start)
      → declared_size (known_by here k) conditional start ≡ declared_size (known_by there k) conditional start
  declared_size_same k None start = refl
  declared_size_same k (Some c) start = λ j. array_size_same here there same k c j

  pub declared_size_sites_same : (k : Known) (conditional : Option t.Conditional) (start : Option t.Start) (at : ℕ) (rest : List Site)
      → declared_size_sites (known_by here k) conditional start at rest ≡ declared_size_sites (known_by there k) conditional start at rest
  declared_size_sites_same k None start at rest = refl
  declared_size_sites_same k (Some c) start at rest = λ j. initialiser_in (size_sites_same here there same k c at [] j) rest

  pub shape_size_same : (k : Known) (shape : t.Shape) (start : Option t.Start)
      → shape_size (known_by here k) shape start ≡ shape_size (known_by there k) shape start
  shape_size_same k t.object start = refl
  shape_size_same k (t.array l size r) start = λ j. declared_size_same k size start j
  shape_size_same k (t.function_shape l ps r) start = refl

  pub shape_sites_same : (k : Known) (shape : t.Shape) (start : Option t.Start) (rest : List Site)
      → shape_sites (known_by here k) shape start rest ≡ shape_sites (known_by there k) shape start rest
  shape_sites_same k t.object start rest = refl
  shape_sites_same k (t.array l size r) start rest = λ j. declared_size_sites_same k size start l.index rest j
  shape_sites_same k (t.function_shape l ps r) start rest = refl

  pub typed_declarator_same : (k : Known) (s : Specified) (declarator : t.Declarator) (start : Option t.Start)
      → typed_declarator (known_by here k) s declarator start ≡ typed_declarator (known_by there k) s declarator start
  typed_declarator_same k s (t.declarator stars name shape) start =
      λ j. typed_object (length k.structs) s (t.declarator stars name shape) (shape_size_same k shape start j)

  pub object_declared_same : (k : Known) (s : Specified) (declarator : t.Declarator) (start : Option t.Start)
      → object_declared (known_by here k) s declarator start ≡ object_declared (known_by there k) s declarator start
  object_declared_same k s (t.declarator stars name shape) start =
      λ j. sized k.structs (typed_declarator_same k s (t.declarator stars name shape) start j)

  pub typed_sites_same : (k : Known) (may_have_space : Bool) (s : Specified) (declarator : t.Declarator) (start : Option t.Start) (rest :
      List Site)
      → typed_sites (known_by here k) may_have_space s declarator start rest
      ≡ typed_sites (known_by there k) may_have_space s declarator start rest
  typed_sites_same k may_have_space s (t.declarator stars name shape) start rest =
      λ j. shape_sites_same k shape start (typed_object_sites may_have_space s (t.declarator stars name shape) rest) j

  pub with_member_same : (k : Known) (s : Specified) (declarator : t.Declarator) (ms : List MemberDeclared)
      → with_member (known_by here k) s declarator ms ≡ with_member (known_by there k) s declarator ms
  with_member_same k s (t.declarator stars (t.identifier at n) shape) ms =
      λ j. ms ++ record { name = n; ty = (typed_declarator_same k s (t.declarator stars (t.identifier at n) shape) None j).ty } ∷ []

  pub member_sites_same : (k : Known) (s : Specified) (declarator : t.Declarator) (ms : List MemberDeclared) (rest : List Site)
      → member_sites (known_by here k) s declarator ms rest ≡ member_sites (known_by there k) s declarator ms rest
  member_sites_same k s (t.declarator stars (t.identifier at n) shape) ms rest =
      λ j. typed_sites_same k false s (t.declarator stars (t.identifier at n) shape) None (on (member_rules (is_member n ms)
      (typed_declarator_same k s (t.declarator stars (t.identifier at n) shape) None j).konst (is_function shape) at.index) ∷ rest) j

  pub with_more_members_same : (k : Known) (s : Specified) (nextdeclarators : List t.NextDeclarator) (ms : List MemberDeclared)
      → with_more_members (known_by here k) s nextdeclarators ms ≡ with_more_members (known_by there k) s nextdeclarators ms
  with_more_members_same k s [] ms = refl
  with_more_members_same k s (t.next_declarator comma d ∷ ds) ms = λ j. with_more_members_same k s ds (with_member_same k s d ms j) j

  pub more_member_sites_same : (k : Known) (s : Specified) (nextdeclarators : List t.NextDeclarator) (ms : List MemberDeclared) (rest :
      List Site)
      → more_member_sites (known_by here k) s nextdeclarators ms rest ≡ more_member_sites (known_by there k) s nextdeclarators ms rest
  more_member_sites_same k s [] ms rest = refl
  more_member_sites_same k s (t.next_declarator comma d ∷ ds) ms rest =
      λ j. member_sites_same k s d ms (more_member_sites_same k s ds (with_member_same k s d ms j) rest j) j

  pub with_declared_same : (k : Known) (member : t.Member) (ms : List MemberDeclared)
      → with_declared (known_by here k) member ms ≡ with_declared (known_by there k) member ms
  with_declared_same k (t.members ss first more semicolon) ms =
      λ j. with_more_members_same k (specified k.tags ss) more (with_member_same k (specified k.tags ss) first ms j) j

  pub declared_sites_same : (k : Known) (member : t.Member) (ms : List MemberDeclared) (rest : List Site)
      → declared_sites (known_by here k) member ms rest ≡ declared_sites (known_by there k) member ms rest
  declared_sites_same k (t.members ss first more semicolon) ms rest =
      λ j. on (specs_rules k.tags false ss []) ∷ member_sites_same k (specified k.tags ss) first ms (more_member_sites_same k (specified
      k.tags ss) more (with_member_same k (specified k.tags ss) first ms j) rest j) j

  pub with_all_declared_same : (k : Known) (members : List t.Member) (ms : List MemberDeclared)
      → with_all_declared (known_by here k) members ms ≡ with_all_declared (known_by there k) members ms
  with_all_declared_same k [] ms = refl
  with_all_declared_same k (d ∷ ds) ms = λ j. with_all_declared_same k ds (with_declared_same k d ms j) j

  pub all_declared_sites_same : (k : Known) (members : List t.Member) (ms : List MemberDeclared) (rest : List Site)
      → all_declared_sites (known_by here k) members ms rest ≡ all_declared_sites (known_by there k) members ms rest
  all_declared_sites_same k [] ms rest = refl
  all_declared_sites_same k (d ∷ ds) ms rest =
      λ j. declared_sites_same k d ms (all_declared_sites_same k ds (with_declared_same k d ms j) rest j) j

  pub member_list_sites_same : (k : Known) (first : t.Member) (more : List t.Member) (rest : List Site)
      → member_list_sites (known_by here k) first more rest ≡ member_list_sites (known_by there k) first more rest
  member_list_sites_same k first more rest =
      λ j. declared_sites_same k first [] (all_declared_sites_same k more (with_declared_same k first [] j) rest j) j

  pub members_of_same : (k : Known) (first : t.Member) (more : List t.Member)
      → members_of (known_by here k) first more ≡ members_of (known_by there k) first more
  members_of_same k first more =
      λ j. if is_told (member_list_sites_same k first more [] j) then None else known_members (with_all_declared_same k more
      (with_declared_same k first [] j) j)

  pub struct_defined_same : (k : Known) (structure : t.Structure)
      → struct_defined (known_by here k) structure ≡ struct_defined (known_by there k) structure
  struct_defined_same k (t.structure w (t.identifier at tag) l first more r semicolon) =
      λ j. struct_of k.structs tag (members_of_same k first more j)
