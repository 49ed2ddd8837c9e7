-- What statements add to a scope: objects at the end, and names, which are forgotten where their block ends.
use Rattle.std.proofs.Common.{◌≡◌, ◌∙◌, ◌≤◌, ◌++◌, ℕ, zero, suc, List, [], ◌∷◌, length, append_assoc, refl, sym, ap, subst}
use Rattle.std.specs.Prelude.{false, Option, Some, None, IfSome, unwrap_or, slice_get}
use Rattle.std.specs.List.{AllByRecursion}
use Rattle.std.proofs.lemmas.List.{take-append-le}
use Rattle.ec_grammar.specs.declared.Pragma.{Pragma}
use Rattle.ec_grammar.specs.Trees as t
use Rattle.ec_space.specs.declared.space.SpaceId.TheVariants.{Generic}
use Rattle.ec_core.specs.Plain.{PlainType, PlainObject}
use Rattle.ec_check_names.specs.Laws.{BlocksEnd}
use Rattle.ec_check_names.specs.Names.{Entry, Names, an_object, closed}
use Rattle.ec_check_names.specs.Specifiers.{specified}
use Rattle.ec_check_declarations.specs.Declarators.{object_declared}
use Rattle.ec_check_declarations.specs.Scopes.{Context, Scope, known_in, has_room, made_number, with_object}
use Rattle.ec_check_statements.specs.Around.{Around, looping, within, ended, under}
use Rattle.ec_check_statements.specs.Headings.{after_first, after_heading}
use Rattle.ec_check_statements.specs.Locals.{local_declared, with_local, with_locals, after_declaration}
use Rattle.ec_check_statements.specs.Statements.{after, after_item, after_items, after_body}
use Rattle.ec_check_statements.specs.Objects.{AreAppended, AreFirst}
use Rattle.ec_check_statements.proofs.Choices.{if_both}

-- ---- names

pub record NamesAdded (before after : Names) : Type 0 where
  pub declared : List Entry
  pub whole : after ≡ record { outside = before.outside; inside = before.inside ++ declared }

append_nothing : {X : Type 0} → (xs : List X) → xs ++ [] ≡ xs
append_nothing [] = refl
append_nothing (x ∷ xs) = ap (λ ys. x ∷ ys) (append_nothing xs)

pub no_names_added : (s : Names) → NamesAdded s s
no_names_added s = record {
  declared = [];
  whole = ap (λ (es : List Entry). record { outside = s.outside; inside = es }) (sym (append_nothing s.inside));
}

pub names_added_then : (a b c : Names) → NamesAdded a b → NamesAdded b c → NamesAdded a c
names_added_then a b c h k = record {
  declared = h.declared ++ k.declared;
  whole =
      k.whole
      ∙ ap (λ (z : Names). record { outside = z.outside; inside = z.inside ++ k.declared }) h.whole
      ∙ ap (λ (es : List Entry). record { outside = a.outside; inside = es }) (append_assoc a.inside h.declared k.declared);
}

-- the names behind a block are those before it
pub block_ended : BlocksEnd → (a b : Names) → NamesAdded a b → closed (length a.inside) b ≡ a
block_ended ends a b h = ap (closed (length a.inside)) h.whole ∙ ends a h.declared

-- and so they are where a scope began before
closed_before : (n : ℕ) (a b : Names) → n ≤ length a.inside → NamesAdded a b → closed n b ≡ closed n a
closed_before n a b le h =
    ap (closed n) h.whole
    ∙ ap (λ (es : List Entry). record { outside = a.outside; inside = es }) (take-append-le n a.inside h.declared le)

-- ---- objects

module _ (P : PlainObject → Type 0) where
  pub none_appended : (os : List PlainObject) → AreAppended P os os
  none_appended os = record { declared = []; whole = sym (append_nothing os); each = tt }

  all_both : (xs ys : List PlainObject) → AllByRecursion P xs → AllByRecursion P ys → AllByRecursion P (xs ++ ys)
  all_both [] ys h k = k
  all_both (x ∷ xs) ys h k = (h.0, all_both xs ys h.1 k)

  pub appended_then : (a b c : List PlainObject) → AreAppended P a b → AreAppended P b c → AreAppended P a c
  appended_then a b c h k = record {
    declared = h.declared ++ k.declared;
    whole = k.whole ∙ ap (λ os. os ++ k.declared) h.whole ∙ append_assoc a h.declared k.declared;
    each = all_both h.declared k.declared h.each k.each;
  }

  pub one_appended : (os : List PlainObject) (x : PlainObject) → P x → AreAppended P os (os ++ x ∷ [])
  one_appended os x h = record { declared = x ∷ []; whole = refl; each = (h, tt) }

  pub object_appended : (ty : Option PlainType) (object : PlainType → PlainObject) (os : List PlainObject) → IfSome ty (λ ty. P (object ty))
      → AreAppended P os (with_object ty object os)
  object_appended None object os h = none_appended os
  object_appended (Some ty) object os h =
      if_both (AreAppended P os) (has_room os) (os ++ object ty ∷ []) os (λ e. one_appended os (object ty) h) (λ e. none_appended os)

-- ---- the first objects of a program

at_same : (os more : List PlainObject) (i : ℕ) (x : PlainObject) → slice_get os i ≡ Some x → slice_get (os ++ more) i ≡ Some x
at_same [] more i x e = cc
at_same (o ∷ os) more zero x e = e
at_same (o ∷ os) more (suc i) x e = at_same os more i x e

pub first_before : (P : PlainObject → Type 0) (os more all : List PlainObject) → AreAppended P os more → AreFirst more all → AreFirst os all
first_before P os more all h first i x e =
    first i x (ap (λ (list : List PlainObject). slice_get list i) h.whole ∙ at_same os h.declared i x e)

-- ---- scopes

-- declarations add names and objects; behind a statement the names are those before it
pub record Grows (P : PlainObject → Type 0) (before after : Scope) : Type 0 where
  pub names : NamesAdded before.names after.names
  pub objects : AreAppended P before.objects after.objects

pub record Stays (P : PlainObject → Type 0) (before after : Scope) : Type 0 where
  pub names : after.names ≡ before.names
  pub objects : AreAppended P before.objects after.objects

module _ (P : PlainObject → Type 0) where
  grows_not : (s : Scope) → Grows P s s
  grows_not s = record { names = no_names_added s.names; objects = none_appended P s.objects }

  stays_there : (s : Scope) → Stays P s s
  stays_there s = record { names = refl; objects = none_appended P s.objects }

  grows_then : (a b c : Scope) → Grows P a b → Grows P b c → Grows P a c
  grows_then a b c h k = record {
    names = names_added_then a.names b.names c.names h.names k.names;
    objects = appended_then P a.objects b.objects c.objects h.objects k.objects;
  }

  stays_then : (a b c : Scope) → Stays P a b → Stays P b c → Stays P a c
  stays_then a b c h k = record {
    names = k.names ∙ h.names;
    objects = appended_then P a.objects b.objects c.objects h.objects k.objects;
  }

  pub grows_by : (a b : Scope) → Stays P a b → Grows P a b
  grows_by a b h = record {
    names = subst (NamesAdded a.names) (sym h.names) (no_names_added a.names);
    objects = h.objects;
  }

  block_stays : BlocksEnd → (a b : Scope) → Grows P a b → Stays P a (ended (length a.names.inside) b)
  block_stays ends a b h = record { names = block_ended ends a.names b.names h.names; objects = h.objects }

-- a declarator adds a name
local_names : (c : Context) (r : Around) (ss : t.Specs) (d : t.InitDeclarator) (s : Scope)
    → NamesAdded s.names (with_local c r (specified c.tags ss) d s).names
unfolding with_local local_declared
local_names c r ss (t.init_declarator (t.declarator stars (t.identifier at n) shape) start) s =
    let o = object_declared (known_in c s.names) (specified c.tags ss) (t.declarator stars (t.identifier at n) shape) start in
    record {
      declared = record { name = n; what = an_object (Some (unwrap_or (made_number o.ty s.objects) 0)) o.ty o.konst Generic false } ∷ [];
      whole = refl;
    }

-- ---- statements

-- what holds of each object that a declarator adds holds of all that statements add
module _ (ends : BlocksEnd) (Fine : Context → Type 0) (fine_under : (ps : List Pragma) (c : Context) → Fine c → Fine (under ps c))
    (P : (unit f : ℕ) → PlainObject → Type 0)
    (local_appended : (c : Context) (r : Around) → Fine c → (ss : t.Specs) (d : t.InitDeclarator) (s : Scope)
    → AreAppended (P r.unit r.function) s.objects (with_local c r (specified c.tags ss) d s).objects) where
  pub local_grows : (c : Context) (r : Around) → Fine c → (ss : t.Specs) (d : t.InitDeclarator) (s : Scope)
      → Grows (P r.unit r.function) s (with_local c r (specified c.tags ss) d s)
  local_grows c r h ss d s = record { names = local_names c r ss d s; objects = local_appended c r h ss d s }

  pub locals_grow : (c : Context) (r : Around) → Fine c → (ss : t.Specs) (ds : List t.NextInitDeclarator) (s : Scope)
      → Grows (P r.unit r.function) s (with_locals c r (specified c.tags ss) ds s)
  locals_grow c r h ss [] s = grows_not (P r.unit r.function) s
  locals_grow c r h ss (t.next_init_declarator comma d ∷ ds) s =
      let next = with_local c r (specified c.tags ss) d s in
      grows_then (P r.unit r.function) s next (with_locals c r (specified c.tags ss) ds next) (local_grows c r h ss d s)
      (locals_grow c r h ss ds next)

  declaration_grows : (c : Context) (r : Around) → Fine c → (d : t.Declaration) (s : Scope)
      → Grows (P r.unit r.function) s (after_declaration c r d s)
  unfolding after_declaration
  declaration_grows c r h (t.declaration ss first more e) s =
      let next = with_local c r (specified c.tags ss) first s in
      grows_then (P r.unit r.function) s next (with_locals c r (specified c.tags ss) more next) (local_grows c r h ss first s)
      (locals_grow c r h ss more next)

  first_grows : (c : Context) (r : Around) → Fine c → (x : t.First) (s : Scope) → Grows (P r.unit r.function) s (after_first c r x s)
  unfolding after_first
  first_grows c r h (t.first_declared d) s = declaration_grows c r h d s
  first_grows c r h (t.first_evaluated x e) s = grows_not (P r.unit r.function) s

  pub heading_grows : (c : Context) (r : Around) → Fine c → (x : t.Heading) (s : Scope)
      → Grows (P r.unit r.function) s (after_heading c r x s)
  unfolding after_heading
  heading_grows c r h (t.heading l first x semicolon y e) s = first_grows c r h first s

  -- ---- statements

  mutual
    pub statement_stays : (c : Context) (r : Around) → Fine c → (x : t.Statement) (s : Scope)
        → Stays (P r.unit r.function) s (after c r x s)
    statement_stays c r h (t.block (t.compound l ps xs e)) s =
        block_stays (P r.unit r.function) ends s (after_items (under ps c) (within r s.names) xs s)
        (items_grow (under ps c) (within r s.names) (fine_under ps c h) xs s)
    statement_stays c r h (t.simple x e) s = stays_there (P r.unit r.function) s
    statement_stays c r h (t.if_then at x a) s = statement_stays c r h a s
    statement_stays c r h (t.if_else at x a e b) s =
        let next = after c r a s in
        stays_then (P r.unit r.function) s next (after c r b next) (statement_stays c r h a s) (statement_stays c r h b next)
    statement_stays c r h (t.while_loop at x a) s = statement_stays c (looping r) h a s
    statement_stays c r h (t.do_loop at a w x e) s = statement_stays c (looping r) h a s
    statement_stays c r h (t.for_loop at x a) s =
        let next = after_heading c (within r s.names) x s in
        block_stays (P r.unit r.function) ends s (after c (looping (within r s.names)) a next)
        (grows_then (P r.unit r.function) s next (after c (looping (within r s.names)) a next) (heading_grows c (within r s.names) h x s)
        (grows_by (P r.unit r.function) next (after c (looping (within r s.names)) a next)
        (statement_stays c (looping (within r s.names)) h a next)))
    statement_stays c r h (t.break_loop at e) s = stays_there (P r.unit r.function) s
    statement_stays c r h (t.continue_loop at e) s = stays_there (P r.unit r.function) s
    statement_stays c r h (t.return_value at x e) s = stays_there (P r.unit r.function) s

    pub item_grows : (c : Context) (r : Around) → Fine c → (x : t.Item) (s : Scope) → Grows (P r.unit r.function) s (after_item c r x s)
    item_grows c r h (t.declared d) s = declaration_grows c r h d s
    item_grows c r h (t.stated x) s = grows_by (P r.unit r.function) s (after c r x s) (statement_stays c r h x s)

    pub items_grow : (c : Context) (r : Around) → Fine c → (xs : t.Items) (s : Scope) → Grows (P r.unit r.function) s (after_items c r xs s)
    items_grow c r h t.no_items s = grows_not (P r.unit r.function) s
    items_grow c r h (t.items x xs) s =
        let next = after_item c r x s in
        grows_then (P r.unit r.function) s next (after_items c r xs next) (item_grows c r h x s) (items_grow c r h xs next)

  pub body_grows : (c : Context) (r : Around) → Fine c → (b : t.Compound) (s : Scope)
      → AreAppended (P r.unit r.function) s.objects (after_body c r b s).objects
  unfolding after_body
  body_grows c r h (t.compound l ps xs e) s = (items_grow (under ps c) r (fine_under ps c h) xs s).objects

  pub body_names : (c : Context) (r : Around) → Fine c → (b : t.Compound) (s : Scope) → r.first ≤ length s.names.inside
      → (after_body c r b s).names ≡ closed r.first s.names
  unfolding after_body
  body_names c r h (t.compound l ps xs e) s le =
      closed_before r.first s.names (after_items (under ps c) r xs s).names le (items_grow (under ps c) r (fine_under ps c h) xs s).names
