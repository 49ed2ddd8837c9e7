-- The objects that statements add are as a valid program asks of local objects.
use Rattle.std.proofs.Common.{◌≡◌, ℕ, Bool, List, refl}
use Rattle.std.specs.Prelude.{Option, Some, None, IfSome, slice_get, ⊤}
use Rattle.ec_grammar.specs.declared.Pragma.{Pragma}
use Rattle.ec_grammar.specs.Trees as t
use Rattle.ec_core.specs.Layout.{AreStructs}
use Rattle.ec_core.specs.Plain.{PlainType, struct, PlainStruct, PlainObject, PlainProgram, local}
use Rattle.ec_core.specs.TypeLaws.{StructsAreLaidOut}
use Rattle.ec_check_names.specs.declared.tags.TagState.TheVariants.{Struct}
use Rattle.ec_check_names.specs.Laws.{BlocksEnd}
use Rattle.ec_check_names.specs.Specifiers.{specified}
use Rattle.ec_check_names.specs.Tags.{tag_state}
use Rattle.ec_check_forms.specs.Validity.{IsPlaceType}
use Rattle.ec_check_expression_laws.specs.Laws.{SaidTypesArePlaced}
use Rattle.ec_check_initialisers.specs.Laws.{SizesAreValues}
use Rattle.ec_check_declarations.specs.Declarators.{object_declared}
use Rattle.ec_check_declarations.specs.Scopes.{Context, Scope, known_in, inner_object}
use Rattle.ec_check_statements.specs.Around.{Around, under}
use Rattle.ec_check_statements.specs.Locals.{local_declared, with_local, with_locals}
use Rattle.ec_check_statements.specs.Statements.{after, after_items, after_body}
use Rattle.ec_check_statements.specs.Laws.{ObjectsStay, ObjectsAreAppended, ScopesEnd}
use Rattle.ec_check_statements.specs.Objects.{IsDeclaredType, IsLocal, AreAppended}
use Rattle.ec_check_statements.proofs.DeclaredTypes.{object_placed}
use Rattle.ec_check_statements.proofs.Growth as growth
use Rattle.ec_check_statements.proofs.Growth.{object_appended, first_before, Grows, Stays}

-- what is known of types suits a program
pub record TypesSuit (p : PlainProgram) (c : Context) : Type 0 where
  pub tags : (n : List ℕ) (i : ℕ) → tag_state n c.tags ≡ Struct i → IsPlaceType p.structs (struct i)
  pub structs : (i : ℕ) (s : PlainStruct) → slice_get c.structs i ≡ Some s → slice_get p.structs i ≡ Some s
  pub small : AreStructs c.structs

pub types_suit_under : (p : PlainProgram) (ps : List Pragma) (c : Context) → TypesSuit p c → TypesSuit p (under ps c)
types_suit_under p ps c h = record { tags = h.tags; structs = h.structs; small = h.small }

module _ (law : StructsAreLaidOut) (said : SaidTypesArePlaced) (sizes : SizesAreValues) (ends : BlocksEnd) (p : PlainProgram)
    (all : AreStructs p.structs) where
  -- ---- declarations

  abbrev pub P : (unit f : ℕ) → PlainObject → Type 0
  P unit f x = IsLocal p.structs unit f x

  is_local : (c : Context) (r : Around) (n : List ℕ) (konst : Bool) (h : TypesSuit p c) (ty : PlainType)
      → IsDeclaredType c.structs p.structs ty → P r.unit r.function (inner_object r.unit n konst (local r.function) ty)
  is_local c r n konst h ty k = record {
    kind = k.placed;
    small = k.small;
    declared_in = refl;
    internal = refl;
    spaced = refl;
    home = refl;
    storage = refl;
  }

  are_local : (c : Context) (r : Around) (n : List ℕ) (konst : Bool) (h : TypesSuit p c) (ty : Option PlainType)
      → IfSome ty (IsDeclaredType c.structs p.structs)
      → IfSome ty (λ ty. P r.unit r.function (inner_object r.unit n konst (local r.function) ty))
  are_local c r n konst h None k = tt
  are_local c r n konst h (Some ty) k = is_local c r n konst h ty k

  local_appended : (c : Context) (r : Around) → TypesSuit p c → (ss : t.Specs) (d : t.InitDeclarator) (s : Scope)
      → AreAppended (P r.unit r.function) s.objects (with_local c r (specified c.tags ss) d s).objects
  unfolding with_local local_declared
  local_appended c r h ss (t.init_declarator (t.declarator stars (t.identifier at n) shape) start) s =
      let o = object_declared (known_in c s.names) (specified c.tags ss) (t.declarator stars (t.identifier at n) shape) start in
      object_appended (P r.unit r.function) o.ty (inner_object r.unit n o.konst (local r.function)) s.objects
      (are_local c r n o.konst h o.ty
      (object_placed law c.structs p.structs h.small all h.structs said sizes c.tags h.tags (known_in c s.names) refl ss
      (t.declarator stars (t.identifier at n) shape) start))

  pub local_grows : (c : Context) (r : Around) → TypesSuit p c → (ss : t.Specs) (d : t.InitDeclarator) (s : Scope)
      → Grows (P r.unit r.function) s (with_local c r (specified c.tags ss) d s)
  local_grows c r h ss d s = growth.local_grows ends (TypesSuit p) (types_suit_under p) P local_appended c r h ss d s

  pub locals_grow : (c : Context) (r : Around) → TypesSuit p c → (ss : t.Specs) (ds : List t.NextInitDeclarator) (s : Scope)
      → Grows (P r.unit r.function) s (with_locals c r (specified c.tags ss) ds s)
  locals_grow c r h ss ds s = growth.locals_grow ends (TypesSuit p) (types_suit_under p) P local_appended c r h ss ds s

  pub statement_stays : (c : Context) (r : Around) → TypesSuit p c → (x : t.Statement) (s : Scope)
      → Stays (P r.unit r.function) s (after c r x s)
  statement_stays c r h x s = growth.statement_stays ends (TypesSuit p) (types_suit_under p) P local_appended c r h x s

  pub items_grow : (c : Context) (r : Around) → TypesSuit p c → (xs : t.Items) (s : Scope)
      → Grows (P r.unit r.function) s (after_items c r xs s)
  items_grow c r h xs s = growth.items_grow ends (TypesSuit p) (types_suit_under p) P local_appended c r h xs s

  body_appends : (c : Context) (r : Around) → TypesSuit p c → (b : t.Compound) (s : Scope)
      → AreAppended (P r.unit r.function) s.objects (after_body c r b s).objects
  body_appends c r h b s = growth.body_grows ends (TypesSuit p) (types_suit_under p) P local_appended c r h b s

pub objects_are_appended : StructsAreLaidOut → SaidTypesArePlaced → SizesAreValues → BlocksEnd → ObjectsAreAppended
objects_are_appended law said sizes ends p io c r b s all h =
    body_appends law said sizes ends p all c r (record { tags = h.tags; structs = h.structs; small = h.small }) b s

-- ---- names alone

abbrev pub AnyContext : Context → Type 0
AnyContext c = ⊤

abbrev pub AnyObject : (unit f : ℕ) → PlainObject → Type 0
AnyObject unit f x = ⊤

pub any_type : (ty : Option PlainType) → IfSome ty (λ ty. ⊤)
any_type None = tt
any_type (Some ty) = tt

pub any_appended : (c : Context) (r : Around) → AnyContext c → (ss : t.Specs) (d : t.InitDeclarator) (s : Scope)
    → AreAppended (AnyObject r.unit r.function) s.objects (with_local c r (specified c.tags ss) d s).objects
unfolding with_local local_declared
any_appended c r h ss (t.init_declarator (t.declarator stars (t.identifier at n) shape) start) s =
    let o = object_declared (known_in c s.names) (specified c.tags ss) (t.declarator stars (t.identifier at n) shape) start in
    object_appended (AnyObject r.unit r.function) o.ty (inner_object r.unit n o.konst (local r.function)) s.objects (any_type o.ty)

pub any_statement_stays : BlocksEnd → (c : Context) (r : Around) (x : t.Statement) (s : Scope) → (after c r x s).names ≡ s.names
any_statement_stays ends c r x s = (growth.statement_stays ends AnyContext (λ ps c h. tt) AnyObject any_appended c r tt x s).names

pub scopes_end : BlocksEnd → ScopesEnd
scopes_end ends c r b s le = growth.body_names ends AnyContext (λ ps c h. tt) AnyObject any_appended c r tt b s le

pub objects_stay : BlocksEnd → ObjectsStay
objects_stay ends c r b s =
    first_before (AnyObject r.unit r.function) s.objects (after_body c r b s).objects (after_body c r b s).objects
    (growth.body_grows ends AnyContext (λ ps c h. tt) AnyObject any_appended c r tt b s) (λ i x e. e)
