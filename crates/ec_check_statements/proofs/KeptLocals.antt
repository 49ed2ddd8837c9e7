-- Declarations in blocks have meanings where no rule is broken at their sites, and add as many objects as they declare.
use Rattle.std.proofs.Common.{◌≡◌, ◌∙◌, ◌≤◌, ◌+◌, ◌++◌, ℕ, true, false, List, [], ◌∷◌, length, refl, sym, ap, subst, arith}
use Rattle.std.specs.Prelude.{nat_lt, Option, Some, None, IsSome, unwrap_or}
use Rattle.std.proofs.lemmas.Bool.{both_ways, false≢true}
use Rattle.std.proofs.lemmas.Bool.Decides.{nat_tests}
use Rattle.ec_space.specs.declared.space.SpaceId.TheVariants.{Generic}
use Rattle.ec_check_operands.specs.Faults.{Judgement}
use Rattle.ec_grammar.specs.Trees as t
use Rattle.ec_core.specs.Plain.{PlainType, PlainExprs, PlainStmt, statement, declare, PlainStmts, PlainObject, local}
use Rattle.ec_check_names.specs.Counts.{is_function, objects_in_shape, objects_in_declarator, objects_in_more, objects_in_declaration}
use Rattle.ec_check_names.specs.Names.{Names, an_object, with_inside}
use Rattle.ec_check_names.specs.Specifiers.{specified, specs_rules, storages_of}
use Rattle.ec_check_operands.specs.Operands.{with_both}
use Rattle.ec_check_forms.specs.Meanings.{KeptFormsHaveMeanings}
use Rattle.ec_check_expressions.specs.Callees.{exprs_of}
use Rattle.ec_check_expression_laws.specs.Laws.{AreUnbroken, DeclarationsKeepSuiting, KeptExpressionsHaveMeanings, KeptTypesAreSaid}
use Rattle.ec_check_expression_laws.specs.Suits.{HasTypes}
use Rattle.ec_check_initialisers.specs.Laws.{SizesAreValues}
use Rattle.ec_check_initialisers.specs.Locals.{leaf_values, leaf_sites}
use Rattle.ec_check_declarations.specs.Declarators.{object_declared}
use Rattle.ec_check_declarations.specs.Scopes.{Context, Scope, known_in, has_room, inner_object, made_number, with_object}
use Rattle.ec_check_declarations.specs.Sites as d
use Rattle.ec_check_statements.specs.Around.{Around}
use Rattle.ec_check_statements.specs.Locals.{first_declarator, local_declared, with_local, initial_values, initial_sites, local_made}
use Rattle.ec_check_statements.specs.Locals.{started, local_statement, declarator_sites, started_sites, local_sites, with_locals}
use Rattle.ec_check_statements.specs.Locals.{locals_before, locals_sites, storage_rules, after_declaration, declaration_before}
use Rattle.ec_check_statements.specs.Locals.{declaration_sites}
use Rattle.ec_check_statements.specs.Walks.{followed}
use Rattle.ec_check_statements.proofs.Choices.{if_both}
use Rattle.ec_check_statements.proofs.KeptInitialisers.{initialiser_meant}
use Rattle.ec_check_statements.proofs.KeptParts.{mapped}
use Rattle.ec_check_statements.proofs.KeptTypes.{object_meant}
use Rattle.ec_check_statements.proofs.Unbroken.{AreKept, kept_initialiser}

pub followed_there : (s : Option PlainStmt) (tail : Option PlainStmts) → IsSome s → IsSome tail → IsSome (followed s tail)
followed_there None tail h k = absurd (false≢true h)
followed_there (Some s) None h k = absurd (false≢true k)
followed_there (Some s) (Some ss) h k = refl

one_longer : (os : List PlainObject) (x : PlainObject) → length (os ++ x ∷ []) ≡ length os + 1
one_longer [] x = refl
one_longer (o ∷ os) x = let h = one_longer os x in omega (arith, h)

has_place : (n : ℕ) → n + 1 ≤ 65_536 → nat_lt n 65_536 ≡ true
has_place n h = grind (arith, nat_tests, h)

object_counted : (shape : t.Shape) → is_function shape ≡ false → objects_in_shape shape ≡ 1
object_counted t.object q = refl
object_counted (t.array l c r) q = refl
object_counted (t.function_shape l ps r) q = cc

-- ---- one object

module _ (ty : Option PlainType) (there : IsSome ty) (object : PlainType → PlainObject) (os : List PlainObject)
    (room : length os + 1 ≤ 65_536) where
  added : (o : Option PlainType) → IsSome o → length (with_object o object os) ≡ length os + 1
  added None h = absurd (false≢true h)
  added (Some x) h =
      if_both (λ (list : List PlainObject). length list ≡ length os + 1) (has_room os) (os ++ object x ∷ []) os
      (λ q. one_longer os (object x))
      (λ q. absurd (both_ways (has_room os) q (has_place (length os) room)))

  numbered : (o : Option PlainType) → IsSome o → IsSome (made_number o os)
  numbered None h = absurd (false≢true h)
  numbered (Some x) h =
      if_both IsSome (has_room os) (Some (length os)) None (λ q. refl)
      (λ q. absurd (both_ways (has_room os) q (has_place (length os) room)))

  started_there : (unit at : ℕ) (n : Option ℕ) (values : Option PlainExprs) → IsSome n → IsSome values
      → IsSome (with_both n values (λ i es. Some (statement unit at (declare i es))))
  started_there unit at None values h k = absurd (false≢true h)
  started_there unit at (Some i) None h k = absurd (false≢true k)
  started_there unit at (Some i) (Some es) h k = refl

whole_object : (n : Option ℕ) (ty : Option PlainType) → IsSome ty → IsSome ty
whole_object n ty h = h

-- ---- declarators

-- the scope behind has types, and so many objects more; nothing is told at the sites behind
pub record GoesOn (c : Context) (before after : Scope) (n : ℕ) (rest : List d.Site) : Type 0 where
  pub known : HasTypes (known_in c after.names)
  pub counted : length after.objects ≡ length before.objects + n
  pub kept : AreKept rest

module _ (meanings : KeptExpressionsHaveMeanings) (forms : KeptFormsHaveMeanings) (said : KeptTypesAreSaid) (sizes : SizesAreValues)
    (keep : DeclarationsKeepSuiting)
    (c : Context) (r : Around) where
  start_meant : (names : Names) → HasTypes (known_in c names) → (start : Option t.Start) (ty : Option PlainType) → IsSome ty
      → (rest : List d.Site)
      → AreKept (initial_sites c names start ty rest) → IsSome (initial_values c names start ty) × AreKept rest
  unfolding initial_values initial_sites
  start_meant names h None ty s rest u = (refl, u)
  start_meant names h (Some (t.start equals x)) ty s rest u =
      let a = kept_initialiser (leaf_sites (known_in c names) x ty []) rest u in
      let b = initialiser_meant meanings forms (known_in c names) h x ty s [] a.0 in
      (mapped exprs_of (leaf_values (known_in c names) x ty) b.0, a.1)

  module _ (ss : t.Specs) (js : List Judgement) (unbroken : AreUnbroken (specs_rules c.tags true ss js)) where
    pub local_meant : (x : t.InitDeclarator) (s : Scope) (rest : List d.Site) → HasTypes (known_in c s.names)
        → length s.objects + objects_in_declarator x ≤ 65_536 → AreKept (local_sites c r (specified c.tags ss) x s rest)
        → IsSome (local_statement c r (specified c.tags ss) x s)
        × GoesOn c s (with_local c r (specified c.tags ss) x s) (objects_in_declarator x) rest
    unfolding with_local local_declared local_statement local_made started local_sites declarator_sites started_sites
    local_meant (t.init_declarator (t.declarator stars (t.identifier at n) shape) start) s rest h room u =
        let k = known_in c s.names in
        let x = t.declarator stars (t.identifier at n) shape in
        let o = object_declared k (specified c.tags ss) x start in
        let what = an_object (Some (unwrap_or (made_number o.ty s.objects) 0)) o.ty o.konst Generic false in
        let a = object_meant meanings sizes k h said true false ss js unbroken stars (t.identifier at n) shape start _ u in
        let one = object_counted shape a.1.0.1.0 in
        let there = a.0 a.1.0.1.0 in
        let room : length s.objects + 1 ≤ 65_536 = subst (λ (z : ℕ). length s.objects + z ≤ 65_536) one room in
        let next = (keep k n what).types_inside h there in
        let b = start_meant (with_inside n what s.names) next start o.ty there rest a.1.1 in (
          started_there o.ty there (inner_object r.unit n o.konst (local r.function)) s.objects room r.unit (first_declarator x)
              (made_number o.ty s.objects)
              (initial_values c (with_inside n what s.names) start o.ty)
              (numbered o.ty there (inner_object r.unit n o.konst (local r.function)) s.objects room o.ty there) b.0,
          record {
            known = next;
            counted = added o.ty there (inner_object r.unit n o.konst (local r.function)) s.objects room o.ty there
                ∙ ap (λ (z : ℕ). length s.objects + z) (sym one);
            kept = b.1;
          },
        )

    locals_meant : (xs : List t.NextInitDeclarator) (s : Scope) (rest : List d.Site) → HasTypes (known_in c s.names)
        → length s.objects + objects_in_more xs ≤ 65_536 → AreKept (locals_sites c r (specified c.tags ss) xs s rest)
        → ((tail : Option PlainStmts) → IsSome tail → IsSome (locals_before c r (specified c.tags ss) xs s tail))
        × GoesOn c s (with_locals c r (specified c.tags ss) xs s) (objects_in_more xs) rest
    locals_meant [] s rest h room u = (λ tail g. g, record { known = h; counted = omega arith; kept = u })
    locals_meant (t.next_init_declarator comma x ∷ xs) s rest h room u =
        let next = with_local c r (specified c.tags ss) x s in
        let a = local_meant x s _ h (omega (arith, room)) u in
        let count = a.1.counted in
        let b = locals_meant xs next rest a.1.known (omega (arith, room, count)) a.1.kept in
        let more = b.1.counted in (
          λ tail g. followed_there (local_statement c r (specified c.tags ss) x s)
              (locals_before c r (specified c.tags ss) xs next tail) a.0 (b.0 tail g),
          record { known = b.1.known; counted = omega (arith, count, more); kept = b.1.kept },
        )

  pub declaration_meant : (x : t.Declaration) (s : Scope) (rest : List d.Site) → HasTypes (known_in c s.names)
      → length s.objects + objects_in_declaration x ≤ 65_536 → AreKept (declaration_sites c r x s rest)
      → ((tail : Option PlainStmts) → IsSome tail → IsSome (declaration_before c r x s tail))
      × GoesOn c s (after_declaration c r x s) (objects_in_declaration x) rest
  unfolding after_declaration declaration_before declaration_sites
  declaration_meant (t.declaration ss x more z) s rest h room u =
      let js = storage_rules (storages_of ss).first in
      let next = with_local c r (specified c.tags ss) x s in
      let a = local_meant ss js u.0 x s _ h (omega (arith, room)) u.1 in
      let count = a.1.counted in
      let b = locals_meant ss js u.0 more next rest a.1.known (omega (arith, room, count)) a.1.kept in
      let others = b.1.counted in (
        λ tail g. followed_there (local_statement c r (specified c.tags ss) x s)
            (locals_before c r (specified c.tags ss) more next tail) a.0 (b.0 tail g),
        record { known = b.1.known; counted = omega (arith, count, others); kept = b.1.kept },
      )

  -- one declarator alone
  pub lone_meant : (ss : t.Specs) (x : t.InitDeclarator) (z : _) (s : Scope) (rest : List d.Site) → HasTypes (known_in c s.names)
      → length s.objects + objects_in_declarator x ≤ 65_536 → AreKept (declaration_sites c r (t.declaration ss x [] z) s rest)
      → IsSome (local_statement c r (specified c.tags ss) x s)
  unfolding declaration_sites
  lone_meant ss x z s rest h room u = (local_meant ss (storage_rules (storages_of ss).first) u.0 x s _ h room u.1).0
