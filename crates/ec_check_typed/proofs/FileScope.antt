-- Declarations and structs at file scope add what the walk adds.
use Rattle.std.proofs.Common.{◌≡◌, ◌∙◌, ◌+◌, ℕ, Bool, true, false, not, List, [], ◌∷◌, ◌++◌, length, append_assoc, refl, sym, ap, subst}
use Rattle.std.proofs.Common.{inl, inr}
use Rattle.std.specs.Prelude.{if◌then◌else◌, Option, Some, None}
use Rattle.std.proofs.lemmas.Bool.{true≢false, false≢true}
use Rattle.std.proofs.lemmas.Bool.Decides.{Decides-ltb}
use Rattle.std.proofs.lemmas.List.{append-nil}
use Rattle.ec_space.specs.declared.space.SpaceId.{SpaceId}
use Rattle.ec_grammar.specs.declared.Spot.{Spot}
use Rattle.ec_grammar.specs.Trees as t
use Rattle.ec_core.specs.declared.programs.LeafInit.{LeafInit}
use Rattle.ec_core.specs.Plain.{PlainType, PlainStruct, PlainObject}
use Rattle.ec_check_names.specs.declared.specifiers.Specified.{Specified}
use Rattle.ec_check_names.specs.declared.specifiers.Storage.{Storage}
use Rattle.ec_check_names.specs.declared.specifiers.StorageWord.{StorageWord}
use Rattle.ec_check_names.specs.declared.specifiers.StorageWord.TheVariants.{Extern, Static}
use Rattle.ec_check_names.specs.declared.linkage.Linkage.{Linkage}
use Rattle.ec_check_names.specs.Counts.{is_function}
use Rattle.ec_check_names.specs.Definitions.{is_defined}
use Rattle.ec_check_names.specs.Laws.{EqualStructsAreOne}
use Rattle.ec_check_names.specs.Names.{Named}
use Rattle.ec_check_names.specs.Specifiers.{specified, storages_of}
use Rattle.ec_check_names.specs.Structs.{same_struct, place_from, struct_place}
use Rattle.ec_check_names.specs.Tags.{Tags}
use Rattle.ec_check_declarations.specs.Declarators.{ObjectDeclared, object_declared}
use Rattle.ec_check_declarations.specs.Registers.{RegisterDeclared, register_declared}
use Rattle.ec_check_declarations.specs.Scopes.{has_room}
use Rattle.ec_check_declarations.specs.Structures.{struct_defined, appended, with_struct}
use Rattle.ec_check_file_scope.specs.FileNames.{FileName, is_registered}
use Rattle.ec_check_file_scope.specs.FileObjects.{object_named, object_name, with_object, with_defined, word_of, named_in, link_of}
use Rattle.ec_check_file_scope.specs.FileObjects.{object_made, initial_leaves}
use Rattle.ec_check_file_scope.specs.FileObjects.{after_object, register_name, register_named, register_made, after_register}
use Rattle.ec_check_file_scope.specs.FileScope.{after_declarator, after_more, after_declaration, after_structure}
use Rattle.ec_check_file_scope.specs.States.{Setting, State, known_of, with_name, with_scope, broken}
use Rattle.ec_check_meanings.proofs.Options.{clash, nothing_there}
use Rattle.ec_check_parts.specs.Readings.{walked}
use Rattle.ec_check_parts.specs.Laws.{outside_of, FileScopeIsJudged}
use Rattle.ec_check_parts.specs.Linkages.{LinkagesAreFound}
use Rattle.ec_check_parts.specs.Said.{DeclaratorsAreSaid, StructsAreDeclared}
use Rattle.ec_check_parts.specs.Units.{Outside, behind_declarator}
use Rattle.ec_check_parts.specs.Words.{words_among, own_words}
use Rattle.ec_check_parts.proofs.Types.{same_const, same_space}
use Rattle.ec_check_typed.specs.Laws.{InitialisersAreSaid, IsFurther, place_of, FileScopeIsSaid}
use Rattle.ec_check_typed.specs.Statements.{others}
use Rattle.ec_check_typed.specs.Units as unit
use Rattle.ec_check_typed.specs.Units.{Added, nothing, objects_alone, both, past, IsExtern, static_object, IsObject, AreObjects}
use Rattle.ec_check_typed.specs.Units.{register_object, IsRegister, IsAmong, IsStruct, Adds}
use Rattle.ec_check_typed.proofs.Locals.{longer}

-- ---- what is added

pub nothing_further : (s : State) → IsFurther nothing s s
nothing_further s = record {
  whole = refl;
  structs = sym (append-nil s.structs);
  objects = sym (append-nil s.scope.objects);
  functions = sym (append-nil s.functions);
}

pub further_then : (a b : Added) (s m n : State) → IsFurther a s m → IsFurther b m n → IsFurther (both a b) s n
further_then a b s m n h g = record {
  whole = g.whole ∙ h.whole;
  structs = g.structs ∙ ap (λ z. z ++ b.structs) h.structs ∙ append_assoc s.structs a.structs b.structs;
  objects = g.objects ∙ ap (λ z. z ++ b.objects) h.objects ∙ append_assoc s.scope.objects a.objects b.objects;
  functions = g.functions ∙ ap (λ z. z ++ b.functions) h.functions ∙ append_assoc s.functions a.functions b.functions;
}

-- a name that is declared adds nothing
pub named_further : (n : List ℕ) (what : Named) (d : FileName) (s behind : State) (a : Added) → IsFurther a (with_name n what d s) behind
    → IsFurther a s behind
named_further n what d s behind a h = record {
  whole = h.whole;
  structs = h.structs;
  objects = h.objects;
  functions = h.functions;
}

-- what is known, with so many objects
pub counted : (s next : State) (o : Outside) (os : List PlainObject) → outside_of next ≡ o → next.scope.objects ≡ s.scope.objects ++ os
    → outside_of next ≡ record o { made = length s.scope.objects + length os }
counted s next o os e h =
    ap (λ (z : Outside). record z { made = length next.scope.objects }) e
    ∙ ap (λ (m : ℕ). record o { made = m }) (ap length h ∙ longer s.scope.objects os)

pub place_behind : (s next : State) (o : Outside) (a : Added) → outside_of next ≡ o → IsFurther a s next
    → place_of next ≡ past a o (place_of s)
place_behind s next o a e h =
    ap (λ (z : Outside). record { known = z; functions = length next.functions }) (counted s next o a.objects e h.objects)
    ∙ ap (λ (m : ℕ). record { known = record o { made = length s.scope.objects + length a.objects }; functions = m })
    (ap length h.functions ∙ longer s.functions a.functions)

-- one object more, for which a number is left
object_further : (x : PlainObject) (s : State) → has_room s.scope.objects ≡ true
    → IsFurther (objects_alone (x ∷ [])) s (with_object (Some x) s)
object_further x s h = subst (λ (b : Bool). IsFurther (objects_alone (x ∷ [])) s (by b)) (sym h) there
  where
    by : Bool → State
    by b = if b then with_scope (record { names = s.scope.names; objects = s.scope.objects ++ x ∷ [] }) s else broken s

    there : IsFurther (objects_alone (x ∷ [])) s (by true)
    there = record { whole = refl; structs = sym (append-nil s.structs); objects = refl; functions = sym (append-nil s.functions) }

-- where all has a meaning behind an object, it is there, and a number is left for it
object_there : (x : Option PlainObject) (s : State) → (with_object x s).whole ≡ true
    → (y : PlainObject) × (x ≡ Some y) × (has_room s.scope.objects ≡ true)
object_there None s h = absurd (false≢true h)
object_there (Some x) s h = by (has_room s.scope.objects) refl h
  where
    by : (b : Bool) → has_room s.scope.objects ≡ b
        → (if b then with_scope (record { names = s.scope.names; objects = s.scope.objects ++ x ∷ [] }) s else broken s).whole ≡ true
        → (y : PlainObject) × (Some x ≡ Some y) × (has_room s.scope.objects ≡ true)
    by true e h = (x, refl, e)
    by false e h = absurd (false≢true h)

-- ---- declarators

extern_is : (w : Option StorageWord) → is_defined w false ≡ false → IsExtern w
extern_is None h = absurd (true≢false h)
extern_is (Some Extern) h = tt
extern_is (Some Static) h = absurd (true≢false h)

is_extern : (w : Option StorageWord) → IsExtern w → is_defined w false ≡ false
is_extern None h = absurd h
is_extern (Some Extern) h = refl
is_extern (Some Static) h = absurd h

defined_is : (w : Option StorageWord) → is_defined w false ≡ true → ¬ IsExtern w
defined_is w h = λ e. clash h (is_extern w e)

is_defined_so : (w : Option StorageWord) → ¬ IsExtern w → is_defined w false ≡ true
is_defined_so None n = refl
is_defined_so (Some Extern) n = absurd (n tt)
is_defined_so (Some Static) n = refl

-- a declarator of an object
object_shape : (r : Setting) (said : Specified) (storage : Option Storage) (stars : List t.Star) (n : t.Identifier) (shape : t.Shape)
    (start : Option t.Start) (s : State) → is_function shape ≡ false
    → after_declarator r said storage (t.init_declarator (t.declarator stars n shape) start) s
    ≡ after_object r said storage (t.init_declarator (t.declarator stars n shape) start) s
object_shape r said storage stars n t.object start s h = refl
object_shape r said storage stars n (t.array l size e) start s h = refl
object_shape r said storage stars n (t.function_shape l ps e) start s h = absurd (true≢false h)

pub record FileLaws : Type 0 where
  pub initialisers : InitialisersAreSaid
  pub declarators : DeclaratorsAreSaid
  pub linkages : LinkagesAreFound
  pub structs : StructsAreDeclared
  pub judged : FileScopeIsJudged

module _ (laws : FileLaws) (r : Setting) (ss : t.Specs) where
  abbrev storage : Option Storage
  storage = (storages_of ss).first

  abbrev word : Option StorageWord
  word = word_of storage

  module _ (stars : List t.Star) (n : List ℕ) (at : Spot) (shape : t.Shape) (start : Option t.Start) (s : State) where
    abbrev declared : ObjectDeclared
    declared = object_declared (known_of r.ports s) (specified s.tags ss) (t.declarator stars (t.identifier at n) shape) start

    abbrev named : State
    named = named_in r n (link_of r word n s) (is_defined word false) declared s

    -- the object that it defines
    abbrev static_of : PlainType → List LeafInit → PlainObject
    static_of ty leaves = static_object r n (link_of r word n s) ty declared.konst declared.space leaves

    named_as : (a : Added) (behind : State) → IsFurther a named behind → IsFurther a s behind
    named_as a behind h =
        named_further n (object_named r n (link_of r word n s) declared)
        (object_name r n (link_of r word n s) (is_defined word false) declared) s behind a h

    abbrev object_as : Option PlainType → Option (List LeafInit) → Option PlainObject
    object_as ty leaves = object_made r n (link_of r word n s) declared ty leaves

    abbrev leaves_as : Option PlainType → Option (List LeafInit)
    leaves_as ty = initial_leaves (known_of r.ports named) start ty

    behind_object : after_object r (specified s.tags ss) storage (t.init_declarator (t.declarator stars (t.identifier at n) shape) start) s
        ≡ with_defined (is_defined word false) (object_as declared.ty (leaves_as declared.ty)) named
    behind_object = refl

    defined_further : (ty : PlainType) (leaves : List LeafInit) → is_defined word false ≡ true → declared.ty ≡ Some ty
        → leaves_as (Some ty) ≡ Some leaves → has_room s.scope.objects ≡ true
        → IsFurther (objects_alone (static_of ty leaves ∷ [])) s
        (after_object r (specified s.tags ss) storage (t.init_declarator (t.declarator stars (t.identifier at n) shape) start) s)
    defined_further ty leaves d typed there room =
        let x = static_of ty leaves in
        subst (λ (z : State). IsFurther (objects_alone (x ∷ [])) s z)
        (sym
        (behind_object
        ∙ ap (λ b. with_defined b (object_as declared.ty (leaves_as declared.ty)) named) d
        ∙ ap (λ z. with_object (object_as z (leaves_as z)) named) typed
        ∙ ap (λ z. with_object (object_as (Some ty) z) named) there))
        (named_as (objects_alone (x ∷ [])) (with_object (Some x) named) (object_further x named room))

    only_further : is_defined word false ≡ false
        → IsFurther nothing s
        (after_object r (specified s.tags ss) storage (t.init_declarator (t.declarator stars (t.identifier at n) shape) start) s)
    only_further d =
        subst (λ (z : State). IsFurther nothing s z)
        (sym (behind_object ∙ ap (λ b. with_defined b (object_as declared.ty (leaves_as declared.ty)) named) d))
        (named_as nothing named (nothing_further named))

    abbrev Found : Type 0
    Found =
        (os : List PlainObject)
        × IsObject walked r (outside_of s) ss (t.init_declarator (t.declarator stars (t.identifier at n) shape) start) os

    object_found : is_function shape ≡ false
        → (with_defined (is_defined word false) (object_as declared.ty (leaves_as declared.ty)) named).whole ≡ true → Found
    object_found f h = by (is_defined word false) refl h
      where
        valued : (ty : PlainType) (leaves : Option (List LeafInit)) → declared.ty ≡ Some ty → leaves_as (Some ty) ≡ leaves
            → is_defined word false ≡ true → (with_object (object_as (Some ty) leaves) named).whole ≡ true → Found
        valued ty None e g d h = absurd (false≢true h)
        valued ty (Some leaves) e g d h =
            let room = (object_there (object_as (Some ty) (Some leaves)) named h).2 in (
              static_of ty leaves ∷ [],
              unit.defined f (defined_is word d) ((Decides-ltb (length s.scope.objects) 65_536).0 room)
                  ((laws.linkages n r.unit s.declared word false (link_of r word n s)).1 refl)
                  ((laws.declarators.objects (known_of r.ports s) ss stars (t.identifier at n) shape start ty).0 e)
                  (laws.declarators.constness (known_of r.ports s) ss stars (t.identifier at n) shape start)
                  (laws.declarators.spaces (known_of r.ports s) ss stars (t.identifier at n) shape start)
                  ((laws.initialisers.statics (known_of r.ports named) ty start leaves).1 g),
            )

        typed : (ty : Option PlainType) → declared.ty ≡ ty → is_defined word false ≡ true
            → (with_object (object_as ty (leaves_as ty)) named).whole ≡ true → Found
        typed None e d h = absurd (false≢true h)
        typed (Some ty) e d h = valued ty (leaves_as (Some ty)) e refl d h

        by : (b : Bool) → is_defined word false ≡ b
            → (with_defined b (object_as declared.ty (leaves_as declared.ty)) named).whole ≡ true → Found
        by true d h = typed declared.ty refl d h
        by false d h = ([], unit.declared_only f (extern_is word d))

  -- the declarator of a function adds nothing
  function_further : (stars : List t.Star) (n : t.Identifier) (l : Spot) (ps : t.Params) (e : Spot) (start : Option t.Start) (s : State)
      → IsFurther nothing s
      (after_declarator r (specified s.tags ss) storage
      (t.init_declarator (t.declarator stars n (t.function_shape l ps e)) start) s)
  function_further stars (t.identifier at n) l ps e start s = record {
    whole = refl;
    structs = sym (append-nil s.structs);
    objects = sym (append-nil s.scope.objects);
    functions = sym (append-nil s.functions);
  }

  -- a declarator adds what is said
  object_to : (d : t.InitDeclarator) (s : State) (os : List PlainObject) → IsObject walked r (outside_of s) ss d os
      → IsFurther (objects_alone os) s (after_declarator r (specified s.tags ss) storage d s)
  object_to _ s _ (unit.a_function_name {stars = stars} {n = n} {l = l} {e = e} {ps = ps} {start = start}) =
      function_further stars n l ps e start s
  object_to _ s _ (unit.declared_only {stars = stars} {n = n} {shape = shape} {start = start} f e) =
      subst (λ (z : State). IsFurther nothing s z) (sym (object_shape r (specified s.tags ss) storage stars n shape start s f))
      (named_only n)
    where
      named_only : (n : t.Identifier)
          → IsFurther nothing s (after_object r (specified s.tags ss) storage (t.init_declarator (t.declarator stars n shape) start) s)
      named_only (t.identifier at n) = only_further stars n at shape start s (is_extern word e)
  object_to _ s _ (unit.defined {stars = stars} {at = at} {n = n} {shape = shape} {start = start} {linkage = linkage} {ty = ty}
      {konst = konst} {space = space} {leaves = leaves} f e room link says qualified spaced h) =
      let k = known_of r.ports s in
      let d = declared stars n at shape start s in
      let behind = after_declarator r (specified s.tags ss) storage (t.init_declarator (t.declarator stars (t.identifier at n) shape) start) s in
      let typed = (laws.declarators.objects k ss stars (t.identifier at n) shape start ty).1 says in
      let one =
      subst (λ (z : State). IsFurther (objects_alone (static_of stars n at shape start s ty leaves ∷ [])) s z)
      (sym (object_shape r (specified s.tags ss) storage stars (t.identifier at n) shape start s f))
      (defined_further stars n at shape start s ty leaves (is_defined_so word e) typed
      ((laws.initialisers.statics (known_of r.ports (named stars n at shape start s)) ty start leaves).0 h)
      ((Decides-ltb (length s.scope.objects) 65_536).1 room)) in
      let links = (laws.linkages n r.unit s.declared word false linkage).0 link in
      let consts = same_const d.konst konst (laws.declarators.constness k ss stars (t.identifier at n) shape start) qualified in
      let spaces =
      same_space (own_words (words_among ss) stars) d.space space
      (laws.declarators.spaces k ss stars (t.identifier at n) shape start) spaced in
      subst (λ (z : SpaceId). IsFurther (objects_alone (static_object r n linkage ty konst z leaves ∷ [])) s behind) spaces
      (subst (λ (z : Bool). IsFurther (objects_alone (static_object r n linkage ty z d.space leaves ∷ [])) s behind) consts
      (subst (λ (z : Linkage). IsFurther (objects_alone (static_object r n z ty d.konst d.space leaves ∷ [])) s behind) links one))

  to_object : (d : t.InitDeclarator) (s : State) → (after_declarator r (specified s.tags ss) storage d s).whole ≡ true
      → (os : List PlainObject) × IsObject walked r (outside_of s) ss d os
  to_object (t.init_declarator (t.declarator stars (t.identifier at n) t.object) start) s h =
      object_found stars n at t.object start s refl h
  to_object (t.init_declarator (t.declarator stars (t.identifier at n) (t.array l size e)) start) s h =
      object_found stars n at (t.array l size e) start s refl h
  to_object (t.init_declarator (t.declarator stars (t.identifier at n) (t.function_shape l ps e)) start) s h = ([], unit.a_function_name)

  -- where the specifiers are read with the tags before the declaration
  object_to_at : (tags : Tags) (d : t.InitDeclarator) (s : State) (os : List PlainObject) → s.tags ≡ tags
      → IsObject walked r (outside_of s) ss d os → IsFurther (objects_alone os) s (after_declarator r (specified tags ss) storage d s)
  object_to_at tags d s os e h =
      subst (λ (z : Tags). IsFurther (objects_alone os) s (after_declarator r (specified z ss) storage d s)) e (object_to d s os h)

  to_object_at : (tags : Tags) (d : t.InitDeclarator) (s : State) → s.tags ≡ tags
      → (after_declarator r (specified tags ss) storage d s).whole ≡ true → (os : List PlainObject) × IsObject walked r (outside_of s) ss d os
  to_object_at tags d s e h =
      to_object d s (subst (λ (z : Tags). (after_declarator r (specified z ss) storage d s).whole ≡ true) (sym e) h)

  -- ---- some declarators

  spot : Spot
  spot = record { index = 0; at = 0 }

  known_behind : (d : t.InitDeclarator) (s : State)
      → outside_of (after_declarator r (specified s.tags ss) storage d s) ≡ behind_declarator walked r ss d (outside_of s)
  known_behind d s = laws.judged.behind_declarations r (t.declaration ss d [] spot) s

  tags_behind : (d : t.InitDeclarator) (o : Outside) → (behind_declarator walked r ss d o).tags ≡ o.tags
  tags_behind (t.init_declarator (t.declarator stars (t.identifier at n) t.object) start) o = refl
  tags_behind (t.init_declarator (t.declarator stars (t.identifier at n) (t.array l size e)) start) o = refl
  tags_behind (t.init_declarator (t.declarator stars (t.identifier at n) (t.function_shape l ps e)) start) o = refl

  declarator_at : (d : t.InitDeclarator) (tags : Tags) (s : State) → s.tags ≡ tags
      → outside_of (after_declarator r (specified tags ss) storage d s) ≡ behind_declarator walked r ss d (outside_of s)
  declarator_at d tags s e =
      subst (λ (z : Tags). outside_of (after_declarator r (specified z ss) storage d s) ≡ behind_declarator walked r ss d (outside_of s)) e
      (known_behind d s)

  tags_at : (d : t.InitDeclarator) (tags : Tags) (s : State) → s.tags ≡ tags
      → (after_declarator r (specified tags ss) storage d s).tags ≡ tags
  tags_at d tags s e = ap (λ (o : Outside). o.tags) (declarator_at d tags s e) ∙ tags_behind d (outside_of s) ∙ e

  next_outside : (tags : Tags) (d : t.InitDeclarator) (s : State) (os : List PlainObject) → s.tags ≡ tags
      → IsFurther (objects_alone os) s (after_declarator r (specified tags ss) storage d s)
      → outside_of (after_declarator r (specified tags ss) storage d s)
      ≡ record (behind_declarator walked r ss d (outside_of s)) { made = length s.scope.objects + length os }
  next_outside tags d s os e h =
      counted s (after_declarator r (specified tags ss) storage d s) (behind_declarator walked r ss d (outside_of s)) os
      (declarator_at d tags s e) h.objects

  none_in : (o : Outside) (os : List PlainObject) → AreObjects walked r o ss [] os → os ≡ []
  none_in _ _ unit.no_object = refl

  record IsMore (o : Outside) (d : t.InitDeclarator) (ds : List t.InitDeclarator) (os : List PlainObject) : Type 0 where
    pub first : List PlainObject
    pub rest : List PlainObject
    pub whole : os ≡ first ++ rest
    pub one : IsObject walked r o ss d first
    pub more : AreObjects walked r (record (behind_declarator walked r ss d o) { made = o.made + length first }) ss ds rest

  more_in : (o : Outside) (d : t.InitDeclarator) (ds : List t.InitDeclarator) (os : List PlainObject) → AreObjects walked r o ss (d ∷ ds) os
      → IsMore o d ds os
  more_in _ _ _ _ (unit.more_objects {os = os} {us = us} h m) = record { first = os; rest = us; whole = refl; one = h; more = m }

  objects_to : (ds : List t.NextInitDeclarator) (tags : Tags) (s : State) (o : Outside) (os : List PlainObject) → s.tags ≡ tags
      → outside_of s ≡ o → AreObjects walked r o ss (others ds) os → IsFurther (objects_alone os) s (after_more r (specified tags ss) storage ds s)
  objects_to [] tags s o os e q h =
      subst (λ (z : List PlainObject). IsFurther (objects_alone z) s s) (sym (none_in o os h)) (nothing_further s)
  objects_to (t.next_init_declarator comma d ∷ ds) tags s o os e q h =
      let g = more_in o d (others ds) os h in
      let next = after_declarator r (specified tags ss) storage d s in
      let f = object_to_at tags d s g.first e (subst (λ (z : Outside). IsObject walked r z ss d g.first) (sym q) g.one) in
      let m = objects_to ds tags next (record (behind_declarator walked r ss d o) { made = o.made + length g.first }) g.rest
      (tags_at d tags s e)
      (next_outside tags d s g.first e f
      ∙ ap (λ (z : Outside). record (behind_declarator walked r ss d z) { made = z.made + length g.first }) q) g.more in
      subst (λ (z : List PlainObject). IsFurther (objects_alone z) s (after_more r (specified tags ss) storage ds next)) (sym g.whole)
      (further_then (objects_alone g.first) (objects_alone g.rest) s next (after_more r (specified tags ss) storage ds next) f m)

  -- what has a meaning behind a declarator had one before it
  declarator_whole : (tags : Tags) (d : t.InitDeclarator) (s : State) → s.tags ≡ tags
      → (after_declarator r (specified tags ss) storage d s).whole ≡ true → s.whole ≡ true
  declarator_whole tags d s e h =
      let g = to_object_at tags d s e h in sym (object_to_at tags d s g.0 e g.1).whole ∙ h

  more_whole : (ds : List t.NextInitDeclarator) (tags : Tags) (s : State) → s.tags ≡ tags
      → (after_more r (specified tags ss) storage ds s).whole ≡ true → s.whole ≡ true
  more_whole [] tags s e h = h
  more_whole (t.next_init_declarator comma d ∷ ds) tags s e h =
      declarator_whole tags d s e
      (more_whole ds tags (after_declarator r (specified tags ss) storage d s) (tags_at d tags s e) h)

  to_objects : (ds : List t.NextInitDeclarator) (tags : Tags) (s : State) → s.tags ≡ tags
      → (after_more r (specified tags ss) storage ds s).whole ≡ true
      → (os : List PlainObject) × AreObjects walked r (outside_of s) ss (others ds) os
  to_objects [] tags s e h = ([], unit.no_object)
  to_objects (t.next_init_declarator comma d ∷ ds) tags s e h =
      let next = after_declarator r (specified tags ss) storage d s in
      let t' = tags_at d tags s e in
      let g = to_object_at tags d s e (more_whole ds tags next t' h) in
      let f = object_to_at tags d s g.0 e g.1 in
      let m = to_objects ds tags next t' h in (
        g.0 ++ m.0,
        unit.more_objects g.1
            (subst (λ (z : Outside). AreObjects walked r z ss (others ds) m.0) (next_outside tags d s g.0 e f) m.1),
      )

-- ---- declarations

declaration_more : (r : Setting) (ss : t.Specs) (d : t.InitDeclarator) (ds : List t.NextInitDeclarator) (e : Spot) (s : State)
    → after_declaration r (t.declaration ss d ds e) s
    ≡ after_more r (specified s.tags ss) (storages_of ss).first (t.next_init_declarator e d ∷ ds) s
declaration_more r ss d ds e s = refl

module _ (laws : FileLaws) (r : Setting) where
  declaration_added : (d : t.Declaration) (s : State) (a : Added) → Adds walked r (place_of s) (t.declaration_item d) a
      → IsFurther a s (after_declaration r d s)
  declaration_added _ s _ (unit.by_declaration {ss = ss} {d = d} {ds = ds} {e = e} {os = os} h) =
      objects_to laws r ss (t.next_init_declarator e d ∷ ds) s.tags s (outside_of s) os refl refl h

  declaration_there : (d : t.Declaration) (s : State) → (after_declaration r d s).whole ≡ true
      → (a : Added) × Adds walked r (place_of s) (t.declaration_item d) a
  declaration_there (t.declaration ss d ds e) s h =
      let g = to_objects laws r ss (t.next_init_declarator e d ∷ ds) s.tags s refl h in
      (objects_alone g.0, unit.by_declaration g.1)

-- ---- named registers

module _ (declarators : DeclaratorsAreSaid) (r : Setting) (w : Spot) (reg_at : Spot) (reg : List ℕ) (ss : t.Specs) (at : Spot) (n : List ℕ)
    (semicolon : Spot) (s : State) where
  abbrev registered : RegisterDeclared
  registered = register_declared (known_of r.ports s) (t.register_object w (t.identifier reg_at reg) ss (t.identifier at n) semicolon)

  abbrev register_known : State
  register_known = with_name n (register_named r n registered) (register_name r n registered) s

  register_named_as : (a : Added) (behind : State) → IsFurther a register_known behind → IsFurther a s behind
  register_named_as a behind h = named_further n (register_named r n registered) (register_name r n registered) s behind a h

  abbrev register_as : Option ℕ → Option PlainType → Option PlainObject
  register_as first ty = register_made r n registered first ty

  behind_register : after_register r (t.register_object w (t.identifier reg_at reg) ss (t.identifier at n) semicolon) s
      ≡ with_defined (not (is_registered n s.declared)) (register_as registered.first registered.ty) register_known
  behind_register = refl

  register_again : is_registered n s.declared ≡ true
      → IsFurther nothing s (after_register r (t.register_object w (t.identifier reg_at reg) ss (t.identifier at n) semicolon) s)
  register_again h =
      subst (λ (z : State). IsFurther nothing s z)
      (sym (behind_register ∙ ap (λ b. with_defined (not b) (register_as registered.first registered.ty) register_known) h))
      (register_named_as nothing register_known (nothing_further register_known))

  register_first : (first : ℕ) (ty : PlainType) → is_registered n s.declared ≡ false → registered.first ≡ Some first
      → registered.ty ≡ Some ty → has_room s.scope.objects ≡ true
      → IsFurther (objects_alone (register_object r n registered.konst first ty ∷ [])) s
      (after_register r (t.register_object w (t.identifier reg_at reg) ss (t.identifier at n) semicolon) s)
  register_first first ty h f g room =
      subst (λ (z : State). IsFurther (objects_alone (register_object r n registered.konst first ty ∷ [])) s z)
      (sym
      (behind_register
      ∙ ap (λ b. with_defined (not b) (register_as registered.first registered.ty) register_known) h
      ∙ ap (λ z. with_object (register_as z registered.ty) register_known) f
      ∙ ap (λ z. with_object (register_as (Some first) z) register_known) g))
      (register_named_as (objects_alone (register_object r n registered.konst first ty ∷ []))
      (with_object (Some (register_object r n registered.konst first ty)) register_known)
      (object_further (register_object r n registered.konst first ty) register_known room))

  abbrev RegisterFound : Type 0
  RegisterFound = (os : List PlainObject) × IsRegister r (outside_of s) (t.register_object w (t.identifier reg_at reg) ss (t.identifier at n) semicolon) os

  register_there : (with_defined (not (is_registered n s.declared)) (register_as registered.first registered.ty) register_known).whole ≡ true
      → RegisterFound
  register_there h = by (is_registered n s.declared) refl h
    where
      typed : (first : ℕ) (ty : Option PlainType) → is_registered n s.declared ≡ false → registered.first ≡ Some first → registered.ty ≡ ty
          → (with_object (register_as (Some first) ty) register_known).whole ≡ true → RegisterFound
      typed first None e f g h = absurd (false≢true h)
      typed first (Some ty) e f g h =
          let room = (object_there (register_as (Some first) (Some ty)) register_known h).2 in (
            register_object r n registered.konst first ty ∷ [],
            unit.first_declared e ((Decides-ltb (length s.scope.objects) 65_536).0 room)
                ((declarators.registers (known_of r.ports s) w reg_at reg ss (t.identifier at n) semicolon first ty).0 (f, g))
                (declarators.constness_of_registers (known_of r.ports s) w reg_at reg ss (t.identifier at n) semicolon),
          )

      placed : (first : Option ℕ) → is_registered n s.declared ≡ false → registered.first ≡ first
          → (with_object (register_as first registered.ty) register_known).whole ≡ true → RegisterFound
      placed None e f h = absurd (false≢true h)
      placed (Some first) e f h = typed first registered.ty e f refl h

      by : (b : Bool) → is_registered n s.declared ≡ b
          → (with_defined (not b) (register_as registered.first registered.ty) register_known).whole ≡ true → RegisterFound
      by true e h = ([], unit.declared_before e)
      by false e h = placed registered.first e refl h

module _ (declarators : DeclaratorsAreSaid) (r : Setting) where
  register_to : (d : t.RegisterObject) (s : State) (os : List PlainObject) → IsRegister r (outside_of s) d os
      → IsFurther (objects_alone os) s (after_register r d s)
  register_to _ s _ (unit.declared_before {w = w} {e = e} {reg = t.identifier reg_at reg} {at = at} {name = n} {ss = ss} h) =
      register_again declarators r w reg_at reg ss at n e s h
  register_to _ s _ (unit.first_declared {w = w} {e = e} {reg_at = reg_at} {at = at} {reg = reg} {name = n} {ss = ss} {konst = konst}
      {first = first} {ty = ty} h room says qualified) =
      let k = known_of r.ports s in
      let g = (declarators.registers k w reg_at reg ss (t.identifier at n) e first ty).1 says in
      let d = register_declared k (t.register_object w (t.identifier reg_at reg) ss (t.identifier at n) e) in
      subst (λ (z : Bool). IsFurther (objects_alone (register_object r n z first ty ∷ [])) s
      (after_register r (t.register_object w (t.identifier reg_at reg) ss (t.identifier at n) e) s))
      (same_const d.konst konst (declarators.constness_of_registers k w reg_at reg ss (t.identifier at n) e) qualified)
      (register_first declarators r w reg_at reg ss at n e s first ty h g.0 g.1 ((Decides-ltb (length s.scope.objects) 65_536).1 room))

  register_added : (d : t.RegisterObject) (s : State) (a : Added) → Adds walked r (place_of s) (t.register_item d) a
      → IsFurther a s (after_register r d s)
  register_added _ s _ (unit.by_register {d = d} {os = os} h) = register_to d s os h

  register_said : (d : t.RegisterObject) (s : State) → (after_register r d s).whole ≡ true
      → (a : Added) × Adds walked r (place_of s) (t.register_item d) a
  register_said (t.register_object w (t.identifier reg_at reg) ss (t.identifier at n) e) s h =
      let g = register_there declarators r w reg_at reg ss at n e s h in (objects_alone g.0, unit.by_register g.1)

-- ---- structs

module _ (one : EqualStructsAreOne) where
  pub found_is : (i j : ℕ) (s : PlainStruct) (xs : List PlainStruct) → place_from i s xs ≡ Some j → IsAmong s xs
  found_is i j s [] q = absurd (nothing_there j q)
  found_is i j s (x ∷ xs) q = by (same_struct s x) refl (λ e. found_is (i + 1) j s xs e) q
    where
      by : (b : Bool) → same_struct s x ≡ b → (place_from (i + 1) s xs ≡ Some j → IsAmong s xs)
          → (if b then Some i else place_from (i + 1) s xs) ≡ Some j → IsAmong s (x ∷ xs)
      by true e further q = inl ((one s x).0 e)
      by false e further q = inr (further q)

  pub not_found : (i : ℕ) (s : PlainStruct) (xs : List PlainStruct) → place_from i s xs ≡ None → ¬ IsAmong s xs
  not_found i s [] q = λ h. h
  not_found i s (x ∷ xs) q = by (same_struct s x) refl (λ e. not_found (i + 1) s xs e) q
    where
      neither : same_struct s x ≡ false → ¬ IsAmong s xs → ¬ IsAmong s (x ∷ xs)
      neither e n (inl h) = clash ((one s x).1 h) e
      neither e n (inr h) = n h

      by : (b : Bool) → same_struct s x ≡ b → (place_from (i + 1) s xs ≡ None → ¬ IsAmong s xs)
          → (if b then Some i else place_from (i + 1) s xs) ≡ None → ¬ IsAmong s (x ∷ xs)
      by true e further q = absurd (nothing_there i (sym q))
      by false e further q = neither e (further q)

  struct_added : (s : PlainStruct) (xs : List PlainStruct) → ¬ IsAmong s xs → with_struct (Some s) xs ≡ xs ++ s ∷ []
  struct_added s xs n = by (struct_place s xs) refl
    where
      by : (p : Option ℕ) → struct_place s xs ≡ p → appended p s xs ≡ xs ++ s ∷ []
      by None e = refl
      by (Some i) e = absurd (n (found_is 0 i s xs e))

  struct_kept : (s : PlainStruct) (xs : List PlainStruct) → IsAmong s xs → with_struct (Some s) xs ≡ xs
  struct_kept s xs h = by (struct_place s xs) refl
    where
      by : (p : Option ℕ) → struct_place s xs ≡ p → appended p s xs ≡ xs
      by None e = absurd (not_found 0 s xs e h)
      by (Some i) e = refl

  module _ (defined : StructsAreDeclared) (r : Setting) where
    structs_to : (d : t.Structure) (s : State) (ts : List PlainStruct) → IsStruct r (outside_of s) d ts
        → with_struct (struct_defined (known_of r.ports s) d) s.structs ≡ s.structs ++ ts
    structs_to d s _ (unit.first_defined {s = x} e n) =
        ap (λ z. with_struct z s.structs) ((defined (known_of r.ports s) d x).1 e) ∙ struct_added x s.structs n
    structs_to d s _ (unit.defined_before {s = x} e h) =
        ap (λ z. with_struct z s.structs) ((defined (known_of r.ports s) d x).1 e) ∙ struct_kept x s.structs h ∙ sym (append-nil s.structs)
    structs_to d s _ (unit.not_defined n) =
        ap (λ z. with_struct z s.structs) (by (struct_defined (known_of r.ports s) d) refl) ∙ sym (append-nil s.structs)
      where
        by : (x : Option PlainStruct) → struct_defined (known_of r.ports s) d ≡ x → x ≡ None
        by None e = refl
        by (Some x) e = absurd (n x ((defined (known_of r.ports s) d x).0 e))

    struct_further : (d : t.Structure) (s : State) (ts : List PlainStruct)
        → with_struct (struct_defined (known_of r.ports s) d) s.structs ≡ s.structs ++ ts
        → IsFurther (record { structs = ts; objects = []; functions = [] }) s (after_structure r d s)
    struct_further (t.structure w (t.identifier at tag) l first more e semicolon) s ts h = record {
      whole = refl;
      structs = h;
      objects = sym (append-nil s.scope.objects);
      functions = sym (append-nil s.functions);
    }

    structure_added : (d : t.Structure) (s : State) (a : Added) → Adds walked r (place_of s) (t.structure_item d) a
        → IsFurther a s (after_structure r d s)
    structure_added _ s _ (unit.by_struct {d = d} {ss = ts} h) = struct_further d s ts (structs_to d s ts h)

    struct_said : (d : t.Structure) (s : State) → (ts : List PlainStruct) × IsStruct r (outside_of s) d ts
    struct_said d s = by (struct_defined (known_of r.ports s) d) refl
      where
        among : (x : PlainStruct) → struct_defined (known_of r.ports s) d ≡ Some x → (p : Option ℕ) → struct_place x s.structs ≡ p
            → (ts : List PlainStruct) × IsStruct r (outside_of s) d ts
        among x e None q = (x ∷ [], unit.first_defined ((defined (known_of r.ports s) d x).0 e) (not_found 0 x s.structs q))
        among x e (Some i) q = ([], unit.defined_before ((defined (known_of r.ports s) d x).0 e) (found_is 0 i x s.structs q))

        by : (x : Option PlainStruct) → struct_defined (known_of r.ports s) d ≡ x
            → (ts : List PlainStruct) × IsStruct r (outside_of s) d ts
        by None e = ([], unit.not_defined (λ x h. nothing_there x (sym e ∙ (defined (known_of r.ports s) d x).1 h)))
        by (Some x) e = among x e (struct_place x s.structs) refl

    structure_said : (d : t.Structure) (s : State) → (a : Added) × Adds walked r (place_of s) (t.structure_item d) a
    structure_said d s = let g = struct_said d s in (record { structs = g.0; objects = []; functions = [] }, unit.by_struct g.1)

pub file_scope_is_said : FileLaws → EqualStructsAreOne → FileScopeIsSaid
file_scope_is_said laws one = record {
  declarations = λ r d s. record { added = declaration_added laws r d s; there = declaration_there laws r d s };
  registers = λ r d s.
      record { added = register_added laws.declarators r d s; there = register_said laws.declarators r d s };
  structures = λ r d s. record { added = structure_added one laws.structs r d s; there = λ h. structure_said one laws.structs r d s };
}
