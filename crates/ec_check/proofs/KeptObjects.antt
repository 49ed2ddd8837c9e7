-- Declarators of objects at file scope agree with what is numbered.
use Rattle.std.proofs.Common.{◌≡◌, ◌∙◌, ◌<◌, ℕ, Bool, true, false, List, [], length, refl, sym, subst}
use Rattle.std.specs.Prelude.{Option, Some, None, IsSome, option_map}
use Rattle.std.proofs.lemmas.Bool.{false≢true}
use Rattle.std.proofs.lemmas.List.Elements.{Contains-push}
use Rattle.ec_grammar.specs.Trees as t
use Rattle.ec_core.specs.declared.programs.LeafInit.{LeafInit}
use Rattle.ec_core.specs.Plain.{PlainType, PlainObject, static}
use Rattle.ec_check_forms.specs.Meanings.{KeptFormsHaveMeanings}
use Rattle.ec_check_names.specs.declared.linkage.Linkage.{Linkage}
use Rattle.ec_check_names.specs.declared.numbering.Defined.TheVariants.{Object}
use Rattle.ec_check_names.specs.declared.specifiers.Storage.{Storage}
use Rattle.ec_check_names.specs.Counts.{is_function}
use Rattle.ec_check_names.specs.Definitions.{Definition, Numbering, is_defined, with_link, link_in, declared_as, numbered_declarator}
use Rattle.ec_check_names.specs.Specifiers.{specified, specs_rules}
use Rattle.ec_check_expressions.specs.Known.{Known}
use Rattle.ec_check_expression_laws.specs.Laws.{AreUnbroken, DeclarationsKeepSuiting, KeptExpressionsHaveMeanings}
use Rattle.ec_check_expression_laws.specs.Suits.{HasTypes}
use Rattle.ec_check_initialisers.specs.Items.{zero_leaves}
use Rattle.ec_check_initialisers.specs.Statics.{static_sites}
use Rattle.ec_check_declarations.specs.Declarators.{ObjectDeclared, object_declared}
use Rattle.ec_check_declarations.specs.Scopes.{has_room}
use Rattle.ec_check_declarations.specs.Sites.{Site, told}
use Rattle.ec_check_statements.specs.Laws.{KeptObjectsHaveTypes}
use Rattle.ec_check_statements.proofs.Choices.{if_both}
use Rattle.ec_check_statements.proofs.Unbroken.{AreKept, kept_of, kept_initialiser}
use Rattle.ec_check_file_scope.specs.FileNames.{an_object, is_external}
use Rattle.ec_check_file_scope.specs.FileObjects.{with_object, with_defined, object_name, object_named, home_of, initial_leaves}
use Rattle.ec_check_file_scope.specs.FileObjects.{initial_sites, object_made}
use Rattle.ec_check_file_scope.specs.FileObjects.{word_of, named_in, link_of, declared_sites, after_object, file_object_sites}
use Rattle.ec_check_file_scope.specs.FileScope.{shape_of}
use Rattle.ec_check_file_scope.specs.States.{Setting, State, known_of, broken}
use Rattle.ec_check.specs.Agreement.{IsFileObject, IsMade, IsDefined, Agrees}
use Rattle.ec_check.proofs.KeptStatics.{leaves_there}
use Rattle.ec_check.proofs.Sound.{declared_tested, are_objects_of}
use Rattle.ec_check.proofs.Standing.{IsFine, entry, with_one, name_agrees, with_room, at_last, stands_of, agrees_of, object_stands}
use Rattle.ec_check.proofs.Links.{as_numbered}

-- what a part of a declaration leaves: what agrees, the tags and the structs, and nothing told behind it
pub record GoesOn (r : Setting) (n : Numbering) (before after : State) (rest : List Site) : Type 0 where
  pub agrees : Agrees r.ports r.unit n after
  pub tags : after.tags ≡ before.tags
  pub structs : after.structs ≡ before.structs
  pub kept : AreKept rest

mapped : {A B : Type 0} (f : A → B) (o : Option A) → IsSome o → IsSome (option_map f o)
mapped f None h = absurd (false≢true h)
mapped f (Some x) h = refl

start_meant : KeptExpressionsHaveMeanings → KeptFormsHaveMeanings → (k : Known) → HasTypes k
    → (start : Option t.Start) (ty : Option PlainType) → IsSome ty
    → (rest : List Site) → AreKept (initial_sites k start ty rest) → IsSome (initial_leaves k start ty) × AreKept rest
start_meant meanings forms k h None ty s rest u = (mapped (zero_leaves k.structs) ty s, u)
start_meant meanings forms k h (Some (t.start equals x)) ty s rest u =
    let a = kept_initialiser (static_sites k x ty []) rest u in
    ((leaves_there meanings forms k h x ty s [] a.0).0, a.1)

-- ---- one more object

pub same_tags : (b : Bool) (x : Option PlainObject) (s : State) → (with_defined b x s).tags ≡ s.tags
same_tags false x s = refl
same_tags true None s = refl
same_tags true (Some x) s =
    if_both (λ (v : State). v.tags ≡ s.tags) (has_room s.scope.objects) (with_one x s) (broken s) (λ q. refl) (λ q. refl)

pub same_structs : (b : Bool) (x : Option PlainObject) (s : State) → (with_defined b x s).structs ≡ s.structs
same_structs false x s = refl
same_structs true None s = refl
same_structs true (Some x) s =
    if_both (λ (v : State). v.structs ≡ s.structs) (has_room s.scope.objects) (with_one x s) (broken s) (λ q. refl) (λ q. refl)

module _ (r : Setting) (name : List ℕ) (l : Linkage) (o : ObjectDeclared) (n : Numbering) (s : State) (room : n.objects < 65_536) where
  abbrev defined_name : State
  defined_name = named_in r name l true o s

  object_made_agrees : (ty : PlainType) → o.ty ≡ Some ty → (leaves : List LeafInit)
      → Agrees r.ports r.unit (with_link name l n) defined_name
      → Agrees r.ports r.unit (declared_as true r.unit name l n) (with_object (object_made r name l o (Some ty) (Some leaves)) defined_name)
  object_made_agrees ty e leaves h =
      let d : Definition = record { name = name; unit = r.unit; linkage = l; kind = Object; number = n.objects } in
      let x : PlainObject = record {
        name = name;
        unit = r.unit;
        external = is_external l;
        ty = ty;
        space = o.space;
        home = home_of o.space;
        const = o.konst;
        storage = static leaves;
      } in
      let is_it : IsFileObject d ty o.konst o.space x = record {
        name = refl;
        unit = refl;
        external = refl;
        typed = refl;
        constness = refl;
        spaced = refl;
        home = refl;
        storage = tt;
      } in
      let v = with_one x defined_name in
      let there = at_last (IsFileObject d ty o.konst o.space) s.scope.objects x n.objects h.objects is_it in
      let named = entry r.unit name l true (an_object o.ty o.konst o.space) in
      let defined : IsDefined v d = (
        named,
        (
          Contains-push s.declared named,
          record {
            defines = refl;
            name = refl;
            unit = refl;
            linkage = refl;
            made = subst (λ (ty : Option PlainType). IsMade v d Object (an_object ty o.konst o.space)) (sym e) there;
          },
        ),
      ) in
      with_room (λ v. Agrees r.ports r.unit (declared_as true r.unit name l n) v) defined_name n.objects x h.objects room
      (agrees_of r.ports r.unit (declared_as true r.unit name l n) v
      (object_stands r.ports r.unit n.definitions n.objects n.functions defined_name
      (stands_of r.ports r.unit (with_link name l n) defined_name h) x d defined)
      h.links (λ m. as_numbered m n.definitions d refl ∙ h.registered m))

  some_made : (ty : Option PlainType) → o.ty ≡ ty → IsSome ty → (leaves : Option (List LeafInit)) → IsSome leaves
      → Agrees r.ports r.unit (with_link name l n) defined_name
      → Agrees r.ports r.unit (declared_as true r.unit name l n) (with_object (object_made r name l o ty leaves) defined_name)
  some_made None e there leaves k h = absurd (false≢true there)
  some_made (Some ty) e there None k h = absurd (false≢true k)
  some_made (Some ty) e there (Some leaves) k h = object_made_agrees ty e leaves h

  object_agrees : (b : Bool) → IsSome o.ty → (leaves : Option (List LeafInit)) → IsSome leaves
      → Agrees r.ports r.unit (with_link name l n) (named_in r name l b o s)
      → Agrees r.ports r.unit (declared_as b r.unit name l n)
      (with_defined b (object_made r name l o o.ty leaves) (named_in r name l b o s))
  object_agrees false there leaves k h = h
  object_agrees true there leaves k h = some_made o.ty refl there leaves k h

-- ---- a declarator

pub object_goes_on : KeptExpressionsHaveMeanings → KeptFormsHaveMeanings → KeptObjectsHaveTypes → DeclarationsKeepSuiting
    → (r : Setting) (ss : t.Specs) (storage : Option Storage) (d : t.InitDeclarator) (n : Numbering) (s : State) (rest : List Site)
    → Agrees r.ports r.unit n s
    → AreUnbroken (specs_rules s.tags true ss []) → is_function (shape_of d) ≡ false → n.objects < 65_536
    → told None (file_object_sites r (specified s.tags ss) storage d s rest) ≡ None
    → GoesOn r (numbered_declarator r.unit (word_of storage) d n) s (after_object r (specified s.tags ss) storage d s) rest
object_goes_on meanings forms types keep r ss storage
    (t.init_declarator (t.declarator stars (t.identifier at name) shape) start) n s rest h unbroken object room q =
    let d = t.init_declarator (t.declarator stars (t.identifier at name) shape) start in
    let k = known_of r.ports s in
    let o = object_declared k (specified s.tags ss) (t.declarator stars (t.identifier at name) shape) start in
    let w = word_of storage in
    let l = link_of r w name s in
    let b = is_defined w false in
    let a =
    types k true true ss [] stars (t.identifier at name) shape start (declared_sites r storage d s o rest) h.types unbroken object q in
    let u = kept_of (declared_sites r storage d s o rest) a.1 in
    let next = named_in r name l b o s in
    let fine : IsFine s (object_named r name l o) (object_name r name l b o) = record {
      clear = u.1.0.0;
      typed = a.0;
      object = are_objects_of (length s.structs) o.ty
          (declared_tested k (specified s.tags ss) (t.declarator stars (t.identifier at name) shape) start);
    } in
    let named = name_agrees keep r.ports r.unit n s h name (object_named r name l o) l b (an_object o.ty o.konst o.space) refl fine in
    let leaves = initial_leaves (known_of r.ports next) start o.ty in
    let z = start_meant meanings forms (known_of r.ports next) named.types start o.ty a.0 rest u.1.1 in
    let v = with_defined b (object_made r name l o o.ty leaves) next in
    let done = object_agrees r name l o n s room b a.0 leaves z.0 named in
    let linked = subst (λ (x : Linkage). Agrees r.ports r.unit (declared_as b r.unit name x n) v) (sym (h.links w false name)) done in
    record {
      agrees = subst (λ (f : Bool). Agrees r.ports r.unit (declared_as (is_defined w f) r.unit name (link_in w f name n) n) v)
          (sym object) linked;
      tags = same_tags b (object_made r name l o o.ty leaves) next;
      structs = same_structs b (object_made r name l o o.ty leaves) next;
      kept = z.1;
    }
