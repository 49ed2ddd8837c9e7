-- What is known behind the parts of functions is what the walk knows there.
use Rattle.std.proofs.Common.{◌≡◌, ◌∙◌, ◌+◌, ℕ, Bool, true, false, List, [], ◌∷◌, ◌++◌, length, refl, ap, arith}
use Rattle.std.specs.Prelude.{if◌then◌else◌, nat_lt, unwrap_or, Option, Some, None, IfSome, ⊤}
use Rattle.ec_space.specs.declared.space.SpaceId.TheVariants.{Generic}
use Rattle.ec_grammar.specs.Trees as t
use Rattle.ec_core.specs.Plain.{PlainType, PlainObject, PlainStorage}
use Rattle.ec_check_names.specs.Laws.{BlocksEnd}
use Rattle.ec_check_names.specs.Names.{Names, an_object, with_inside}
use Rattle.ec_check_names.specs.Specifiers.{specified}
use Rattle.ec_check_declarations.specs.Declarators.{object_declared}
use Rattle.ec_check_declarations.specs.Scopes.{Context, Scope, known_in, made_number, with_inner, inner_object}
use Rattle.ec_check_declarations.specs.Scopes as scopes
use Rattle.ec_check_statements.specs.Around.{Around, looping, within, under}
use Rattle.ec_check_statements.specs.Headings.{after_first, after_heading}
use Rattle.ec_check_statements.specs.Locals.{local_declared, with_local, with_locals, after_declaration}
use Rattle.ec_check_statements.specs.Statements.{after, after_item, after_items, after_body}
use Rattle.ec_check_statements.specs.Objects.{AreAppended}
use Rattle.ec_check_statements.proofs.Growth as growth
use Rattle.ec_check_statements.proofs.Growth.{object_appended}
use Rattle.ec_check_parts.specs.Readings.{walked}
use Rattle.ec_check_parts.specs.Places.{Inside, made_with, number_for, with_object, behind_declarator, behind_declarators}
use Rattle.ec_check_parts.specs.Places.{behind_declaration, behind_first, behind_heading, behind, made_behind, behind_item, behind_items}
use Rattle.ec_check_parts.specs.Places.{behind_body}
use Rattle.ec_check_parts.specs.Laws.{inside_of}

-- ---- numbers

number_is : (ty : Option PlainType) (os : List PlainObject) → unwrap_or (made_number ty os) 0 ≡ number_for ty (length os)
number_is None os = refl
number_is (Some ty) os = by (nat_lt (length os) 65_536)
  where
    by : (b : Bool) → unwrap_or (if b then Some (length os) else None) 0 ≡ (if b then length os else 0)
    by true = refl
    by false = refl

pub one_longer : (os : List PlainObject) (x : PlainObject) → length (os ++ x ∷ []) ≡ length os + 1
one_longer [] x = refl
one_longer (o ∷ os) x = let h = one_longer os x in omega (arith, h)

made_is : (ty : Option PlainType) (object : PlainType → PlainObject) (os : List PlainObject)
    → length (scopes.with_object ty object os) ≡ made_with ty (length os)
made_is None object os = refl
made_is (Some ty) object os = by (nat_lt (length os) 65_536)
  where
    by : (b : Bool) → length (if b then os ++ object ty ∷ [] else os) ≡ (if b then length os + 1 else length os)
    by true = one_longer os (object ty)
    by false = refl

-- an object that is declared, with its number, and so many objects
abbrev entered : List ℕ → Option PlainType → (konst : Bool) → Names → (number made : ℕ) → Inside
entered n ty konst names number made =
    record { names = with_inside n (an_object (Some number) ty konst Generic false) names; made = made }

pub inner_is : (unit : ℕ) (n : List ℕ) (ty : Option PlainType) (konst : Bool) (storage : PlainStorage) (s : Scope)
    → inside_of (with_inner unit n ty konst storage s) ≡ with_object n ty konst (inside_of s)
inner_is unit n ty konst storage s =
    ap (λ (i : ℕ). entered n ty konst s.names i (length (scopes.with_object ty (inner_object unit n konst storage) s.objects)))
    (number_is ty s.objects)
    ∙ ap (entered n ty konst s.names (number_for ty (length s.objects))) (made_is ty (inner_object unit n konst storage) s.objects)

-- ---- declarations

pub local_is : (c : Context) (r : Around) (ss : t.Specs) (d : t.InitDeclarator) (s : Scope)
    → inside_of (with_local c r (specified c.tags ss) d s) ≡ behind_declarator walked c ss d (inside_of s)
unfolding with_local local_declared
local_is c r ss (t.init_declarator (t.declarator stars (t.identifier at n) shape) start) s =
    let o = object_declared (known_in c s.names) (specified c.tags ss) (t.declarator stars (t.identifier at n) shape) start in
    inner_is r.unit n o.ty o.konst _ s

pub locals_are : (c : Context) (r : Around) (ss : t.Specs) (ds : List t.NextInitDeclarator) (s : Scope)
    → inside_of (with_locals c r (specified c.tags ss) ds s) ≡ behind_declarators walked c ss ds (inside_of s)
locals_are c r ss [] s = refl
locals_are c r ss (t.next_init_declarator comma d ∷ ds) s =
    locals_are c r ss ds (with_local c r (specified c.tags ss) d s) ∙ ap (behind_declarators walked c ss ds) (local_is c r ss d s)

declaration_is : (c : Context) (r : Around) (d : t.Declaration) (s : Scope)
    → inside_of (after_declaration c r d s) ≡ behind_declaration walked c d (inside_of s)
unfolding after_declaration
declaration_is c r (t.declaration ss first more e) s =
    locals_are c r ss more (with_local c r (specified c.tags ss) first s) ∙ ap (behind_declarators walked c ss more) (local_is c r ss first s)

pub first_is : (c : Context) (r : Around) (x : t.First) (s : Scope) → inside_of (after_first c r x s) ≡ behind_first walked c x (inside_of s)
unfolding after_first
first_is c r (t.first_declared d) s = declaration_is c r d s
first_is c r (t.first_evaluated x e) s = refl

pub heading_is : (c : Context) (r : Around) (x : t.Heading) (s : Scope)
    → inside_of (after_heading c r x s) ≡ behind_heading walked c x (inside_of s)
unfolding after_heading
heading_is c r (t.heading l first x semicolon y e) s = first_is c r first s

-- ---- statements

abbrev AnyContext : Context → Type 0
AnyContext c = ⊤

abbrev AnyObject : (unit f : ℕ) → PlainObject → Type 0
AnyObject unit f x = ⊤

any_type : (ty : Option PlainType) → IfSome ty (λ ty. ⊤)
any_type None = tt
any_type (Some ty) = tt

any_appended : (c : Context) (r : Around) → AnyContext c → (ss : t.Specs) (d : t.InitDeclarator) (s : Scope)
    → AreAppended (AnyObject r.unit r.function) s.objects (with_local c r (specified c.tags ss) d s).objects
unfolding with_local local_declared
any_appended c r h ss (t.init_declarator (t.declarator stars (t.identifier at n) shape) start) s =
    let o = object_declared (known_in c s.names) (specified c.tags ss) (t.declarator stars (t.identifier at n) shape) start in
    object_appended (AnyObject r.unit r.function) o.ty (inner_object r.unit n o.konst _) s.objects (any_type o.ty)

module _ (ends : BlocksEnd) where
  stays : (c : Context) (r : Around) (x : t.Statement) (s : Scope) → (after c r x s).names ≡ s.names
  stays c r x s = (growth.statement_stays ends AnyContext (λ ps c h. tt) AnyObject any_appended c r tt x s).names

  abbrev with_made : Names → ℕ → Inside
  with_made names made = record { names = names; made = made }

  mutual
    made_statement : (c : Context) (r : Around) (x : t.Statement) (s : Scope)
        → length (after c r x s).objects ≡ made_behind walked c x (inside_of s)
    made_statement c r (t.block (t.compound l ps xs e)) s = ap (λ (i : Inside). i.made) (items_are (under ps c) (within r s.names) xs s)
    made_statement c r (t.simple x e) s = refl
    made_statement c r (t.if_then at x a) s = made_statement c r a s
    made_statement c r (t.if_else at x a e b) s =
        made_statement c r b (after c r a s)
        ∙ ap (λ (i : Names). made_behind walked c b (with_made i (length (after c r a s).objects))) (stays c r a s)
        ∙ ap (λ (m : ℕ). made_behind walked c b (with_made s.names m)) (made_statement c r a s)
    made_statement c r (t.while_loop at x a) s = made_statement c (looping r) a s
    made_statement c r (t.do_loop at a w x e) s = made_statement c (looping r) a s
    made_statement c r (t.for_loop at h a) s =
        made_statement c (looping (within r s.names)) a (after_heading c (within r s.names) h s)
        ∙ ap (made_behind walked c a) (heading_is c (within r s.names) h s)
    made_statement c r (t.break_loop at e) s = refl
    made_statement c r (t.continue_loop at e) s = refl
    made_statement c r (t.return_value at x e) s = refl

    item_is : (c : Context) (r : Around) (x : t.Item) (s : Scope) → inside_of (after_item c r x s) ≡ behind_item walked c x (inside_of s)
    item_is c r (t.declared d) s = declaration_is c r d s
    item_is c r (t.stated x) s =
        ap (λ (i : Names). with_made i (length (after c r x s).objects)) (stays c r x s)
        ∙ ap (with_made s.names) (made_statement c r x s)

    items_are : (c : Context) (r : Around) (xs : t.Items) (s : Scope) → inside_of (after_items c r xs s) ≡ behind_items walked c xs (inside_of s)
    items_are c r t.no_items s = refl
    items_are c r (t.items x xs) s = items_are c r xs (after_item c r x s) ∙ ap (behind_items walked c xs) (item_is c r x s)

  pub statement_is : (c : Context) (r : Around) (x : t.Statement) (s : Scope) → inside_of (after c r x s) ≡ behind walked c x (inside_of s)
  statement_is c r x s =
      ap (λ (i : Names). with_made i (length (after c r x s).objects)) (stays c r x s) ∙ ap (with_made s.names) (made_statement c r x s)

  pub item_is_behind : (c : Context) (r : Around) (x : t.Item) (s : Scope) → inside_of (after_item c r x s) ≡ behind_item walked c x (inside_of s)
  item_is_behind c r x s = item_is c r x s

  pub body_is : (c : Context) (r : Around) (b : t.Compound) (s : Scope)
      → length (after_body c r b s).objects ≡ (behind_body walked c b (inside_of s)).made
  unfolding after_body
  body_is c r (t.compound l ps xs e) s = ap (λ (i : Inside). i.made) (items_are (under ps c) r xs s)
