-- What is known behind declarations at file scope is what the walk knows there.
use Rattle.std.proofs.Common.{◌≡◌, ◌∙◌, ◌+◌, ℕ, Bool, true, false, not, List, [], ◌∷◌, ◌++◌, length, refl, ap, subst}
use Rattle.std.specs.Prelude.{if◌then◌else◌, nat_lt, Option, Some, None}
use Rattle.ec_grammar.specs.Trees as t
use Rattle.ec_core.specs.Plain.{PlainObject}
use Rattle.ec_check_names.specs.declared.specifiers.Specified.{Specified}
use Rattle.ec_check_names.specs.declared.specifiers.Storage.{Storage}
use Rattle.ec_check_names.specs.Definitions.{is_defined}
use Rattle.ec_check_names.specs.Specifiers.{specified, storages_of}
use Rattle.ec_check_names.specs.Tags.{Tags}
use Rattle.ec_check_declarations.specs.Declarators.{ObjectDeclared, object_declared}
use Rattle.ec_check_declarations.specs.Registers.{register_declared}
use Rattle.ec_check_file_scope.specs.FileNames.{is_registered}
use Rattle.ec_check_file_scope.specs.FileObjects.{with_defined, object_made, initial_leaves, named_in, link_of, word_of, after_register}
use Rattle.ec_check_file_scope.specs.FileObjects.{register_name, register_named, register_made}
use Rattle.ec_check_file_scope.specs.FileScope.{after_declarator, after_more, after_declaration}
use Rattle.ec_check_file_scope.specs.States.{Setting, State, known_of, with_name, with_scope, broken}
use Rattle.ec_check_parts.specs.Readings.{walked}
use Rattle.ec_check_parts.specs.Units.{Outside, made_by, behind_declarator, behind_declarators, behind_declaration, behind_register}
use Rattle.ec_check_parts.specs.Laws.{outside_of}
use Rattle.ec_check_parts.proofs.Places.{one_longer}

-- ---- objects

-- so many objects
abbrev with_made : State → ℕ → Outside
with_made s m = record (outside_of s) { made = m }

made_of : (defined : Bool) (x : Option PlainObject) (s : State)
    → outside_of (with_defined defined x s) ≡ with_made s (made_by defined x (length s.scope.objects))
made_of false x s = refl
made_of true None s = refl
made_of true (Some x) s = by (nat_lt (length s.scope.objects) 65_536)
  where
    by : (b : Bool)
        → outside_of (if b then with_scope (record { names = s.scope.names; objects = s.scope.objects ++ x ∷ [] }) s else broken s)
        ≡ with_made s (if b then length s.scope.objects + 1 else length s.scope.objects)
    by true = ap (with_made s) (one_longer s.scope.objects x)
    by false = refl

-- the state where the name of an object is known, and behind its definition
module _ (r : Setting) (ss : t.Specs) (n : List ℕ) (start : Option t.Start) (s : State) (x : ObjectDeclared) where
  abbrev named : State
  named = named_in r n (link_of r (word_of (storages_of ss).first) n s) (is_defined (word_of (storages_of ss).first) false) x s

  object_is : outside_of (with_defined (is_defined (word_of (storages_of ss).first) false)
      (object_made r n (link_of r (word_of (storages_of ss).first) n s) x x.ty (initial_leaves (known_of r.ports named) start x.ty)) named)
      ≡ with_made named (made_by (is_defined (word_of (storages_of ss).first) false)
      (object_made r n (link_of r (word_of (storages_of ss).first) n s) x x.ty (initial_leaves (known_of r.ports named) start x.ty))
      (length named.scope.objects))
  object_is =
      made_of (is_defined (word_of (storages_of ss).first) false)
      (object_made r n (link_of r (word_of (storages_of ss).first) n s) x x.ty (initial_leaves (known_of r.ports named) start x.ty)) named

-- ---- declarators

module _ (r : Setting) (ss : t.Specs) where
  abbrev storage : Option Storage
  storage = (storages_of ss).first

  abbrev declared_as : (said : Specified) (stars : List t.Star) (n : t.Identifier) (shape : t.Shape) (start : Option t.Start) (s : State)
      → ObjectDeclared
  declared_as said stars n shape start s = object_declared (known_of r.ports s) said (t.declarator stars n shape) start

  declarator_is : (d : t.InitDeclarator) (s : State)
      → outside_of (after_declarator r (specified s.tags ss) storage d s) ≡ behind_declarator walked r ss d (outside_of s)
  declarator_is (t.init_declarator (t.declarator stars (t.identifier at n) t.object) start) s =
      object_is r ss n start s (declared_as (specified s.tags ss) stars (t.identifier at n) t.object start s)
  declarator_is (t.init_declarator (t.declarator stars (t.identifier at n) (t.array l size e)) start) s =
      object_is r ss n start s
      (declared_as (specified s.tags ss) stars (t.identifier at n) (t.array l size e) start s)
  declarator_is (t.init_declarator (t.declarator stars (t.identifier at n) (t.function_shape l ps e)) start) s = refl

  tags_stay : (said : Specified) (d : t.InitDeclarator) (s : State) → (after_declarator r said storage d s).tags ≡ s.tags
  tags_stay said (t.init_declarator (t.declarator stars (t.identifier at n) t.object) start) s =
      ap (λ (o : Outside). o.tags) (object_is r ss n start s
      (declared_as said stars (t.identifier at n) t.object start s))
  tags_stay said (t.init_declarator (t.declarator stars (t.identifier at n) (t.array l size e)) start) s =
      ap (λ (o : Outside). o.tags) (object_is r ss n start s
      (declared_as said stars (t.identifier at n) (t.array l size e) start s))
  tags_stay said (t.init_declarator (t.declarator stars (t.identifier at n) (t.function_shape l ps e)) start) s = refl

  -- where tags were known before the declaration
  pub declarator_at : (d : t.InitDeclarator) (tags : Tags) (s : State) → s.tags ≡ tags
      → outside_of (after_declarator r (specified tags ss) storage d s) ≡ behind_declarator walked r ss d (outside_of s)
  declarator_at d tags s e =
      subst (λ (z : Tags). outside_of (after_declarator r (specified z ss) storage d s) ≡ behind_declarator walked r ss d (outside_of s)) e
      (declarator_is d s)

  pub tags_at : (d : t.InitDeclarator) (tags : Tags) (s : State) → s.tags ≡ tags
      → (after_declarator r (specified tags ss) storage d s).tags ≡ tags
  tags_at d tags s e = tags_stay (specified tags ss) d s ∙ e

  declarators_are : (ds : List t.NextInitDeclarator) (tags : Tags) (s : State) → s.tags ≡ tags
      → outside_of (after_more r (specified tags ss) storage ds s) ≡ behind_declarators walked r ss ds (outside_of s)
  declarators_are [] tags s e = refl
  declarators_are (t.next_init_declarator comma d ∷ ds) tags s e =
      declarators_are ds tags (after_declarator r (specified tags ss) storage d s) (tags_at d tags s e)
      ∙ ap (behind_declarators walked r ss ds) (declarator_at d tags s e)

pub declaration_is : (r : Setting) (d : t.Declaration) (s : State)
    → outside_of (after_declaration r d s) ≡ behind_declaration walked r d (outside_of s)
declaration_is r (t.declaration ss first more semicolon) s =
    declarators_are r ss more s.tags (after_declarator r (specified s.tags ss) (storages_of ss).first first s)
    (tags_at r ss first s.tags s refl)
    ∙ ap (behind_declarators walked r ss more) (declarator_at r ss first s.tags s refl)

-- ---- named registers

pub register_is : (r : Setting) (d : t.RegisterObject) (s : State) → outside_of (after_register r d s) ≡ behind_register walked r d (outside_of s)
register_is r (t.register_object w reg ss (t.identifier at n) e) s =
    let x = register_declared (known_of r.ports s) (t.register_object w reg ss (t.identifier at n) e) in
    made_of (not (is_registered n s.declared)) (register_made r n x x.first x.ty)
    (with_name n (register_named r n x) (register_name r n x) s)
