-- What is told in parts of functions breaks a constraint at one of the parts that stand there, and the other way round.
use Rattle.std.proofs.Common.{◌≡◌, ℕ, List, [], ◌∷◌, refl, ap, subst, inl, inr}
use Rattle.std.specs.Prelude.{◌⊎◌, true, Option, Some, None}
use Rattle.ec_grammar.specs.Trees as t
use Rattle.ec_core.specs.Plain.{PlainType}
use Rattle.ec_check_operands.specs.declared.faults.Fault.{Fault}
use Rattle.ec_check_names.specs.Laws.{BlocksEnd}
use Rattle.ec_check_names.specs.Names.{Names}
use Rattle.ec_check_names.specs.Specifiers.{specified, specs_rules, storages_of}
use Rattle.ec_check_declarations.specs.Scopes.{Context, Scope, known_in}
use Rattle.ec_check_declarations.specs.Sites.{Site, on}
use Rattle.ec_check_statements.specs.Around.{Around, looping, within, under}
use Rattle.ec_check_statements.specs.Headings.{after_first, after_heading, first_sites, heading_sites}
use Rattle.ec_check_statements.specs.Kinds.{left_sites}
use Rattle.ec_check_statements.specs.Locals.{local_declared, local_made, with_local, initial_sites, declarator_sites, started_sites}
use Rattle.ec_check_statements.specs.Locals.{local_sites, locals_sites, storage_rules, declaration_sites}
use Rattle.ec_check_statements.specs.Parts.{test_sites, optional_test_sites, evaluation_sites, optional_evaluation_sites, return_sites}
use Rattle.ec_check_statements.specs.Statements.{after, after_item, statement_sites, item_sites, items_sites, body_sites}
use Rattle.ec_check_parts.specs.Readings.{walked}
use Rattle.ec_check_parts.specs.Parts.{Part, block_specifiers, block_object, block_initialiser, condition, evaluation, returned, leaving}
use Rattle.ec_check_parts.specs.Parts.{Breaks, OneBreaks}
use Rattle.ec_check_parts.specs.Places.{Inside, object_of, behind_declarator, behind_first, behind_heading, behind, behind_item}
use Rattle.ec_check_parts.specs.Places.{StandsInStart, StandsInDeclarator, StandsInDeclarators, StandsInDeclaration}
use Rattle.ec_check_parts.specs.Places.{IsTest, IsEvaluation, StandsInFirst, StandsInHeading, StandsInStatement, StandsInItem}
use Rattle.ec_check_parts.specs.Places.{StandsInItems, StandsInBody}
use Rattle.ec_check_parts.specs.Laws.{TellAt, inside_of, surroundings_of, InitialisersAreJudged, BlocksAreJudged, StatementsAreJudged}
use Rattle.ec_check_parts.specs.Laws.{BodiesAreJudged}
use Rattle.ec_check_parts.proofs.Joined.{nowhere, both, like}
use Rattle.ec_check_parts.proofs.Places.{local_is, first_is, heading_is, statement_is, item_is_behind, body_is, inner_is}

-- ---- parts that follow one another

pub stands_nowhere : TellAt (λ rest. rest) (OneBreaks (λ p. ⊥))
stands_nowhere = like (λ rest. rest) (λ f. ⊥) (OneBreaks (λ p. ⊥)) (λ f h. absurd h) (λ f h. absurd h.1) nowhere

pub stands_alone : (sites : List Site → List Site) (x : Part) → TellAt sites (Breaks x) → TellAt sites (OneBreaks (λ p. p ≡ x))
stands_alone sites x h =
    like sites (Breaks x) (OneBreaks (λ p. p ≡ x)) (λ f b. (x, refl, b)) (λ f h. subst (λ z. Breaks z f) h.1 h.2) h

pub stand_both : (p q : List Site → List Site) (P Q : Part → Type 0) → TellAt p (OneBreaks P) → TellAt q (OneBreaks Q)
    → TellAt (λ rest. p (q rest)) (OneBreaks (λ x. P x ⊎ Q x))
stand_both p q P Q h k =
    like (λ rest. p (q rest)) (λ f. OneBreaks P f ⊎ OneBreaks Q f) (OneBreaks (λ x. P x ⊎ Q x)) there (λ f h. back f h.0 h.1 h.2)
    (both p q (OneBreaks P) (OneBreaks Q) h k)
  where
    there : (f : Fault) → OneBreaks P f ⊎ OneBreaks Q f → OneBreaks (λ x. P x ⊎ Q x) f
    there f (inl (x, s, b)) = (x, inl s, b)
    there f (inr (x, s, b)) = (x, inr s, b)

    back : (f : Fault) (x : Part) → P x ⊎ Q x → Breaks x f → OneBreaks P f ⊎ OneBreaks Q f
    back f x (inl s) b = inl (x, s, b)
    back f x (inr s) b = inr (x, s, b)

-- what holds of the parts of functions
pub record FunctionLaws : Type 0 where
  pub initialisers : InitialisersAreJudged
  pub blocks : BlocksAreJudged
  pub statements : StatementsAreJudged
  pub ends : BlocksEnd

module _ (laws : FunctionLaws) (c : Context) where
  -- ---- declarations

  start_stands : (names : Names) (start : Option t.Start) (ty : Option PlainType)
      → TellAt (initial_sites c names start ty) (OneBreaks (StandsInStart c names start ty))
  unfolding initial_sites
  start_stands names None ty = stands_nowhere
  start_stands names (Some (t.start equals i)) ty =
      stands_alone (initial_sites c names (Some (t.start equals i)) ty) (block_initialiser (known_in c names) ty i)
      (laws.initialisers.locals (known_in c names) i ty)

  declarator_stands : (r : Around) (ss : t.Specs) (d : t.InitDeclarator) (s : Scope)
      → TellAt (local_sites c r (specified c.tags ss) d s)
      (OneBreaks (StandsInDeclarator walked c (surroundings_of r) ss d (inside_of s)))
  unfolding local_sites started_sites local_made local_declared
  declarator_stands r ss (t.init_declarator (t.declarator stars (t.identifier at n) shape) start) s =
      let d = t.init_declarator (t.declarator stars (t.identifier at n) shape) start in
      let said = specified c.tags ss in
      let ty = (object_of walked c ss d s.names).ty in
      let x = block_object (known_in c s.names) r.first ss stars at.index n shape start in
      let names = (with_local c r said d s).names in
      stand_both (declarator_sites c r said d s) (initial_sites c names start ty) (λ p. p ≡ x)
      (StandsInStart c (behind_declarator walked c ss d (inside_of s)).names start ty)
      (stands_alone (declarator_sites c r said d s) x (laws.blocks.declarators c r ss stars at n shape start s))
      (subst (λ (known : Names). TellAt (initial_sites c names start ty) (OneBreaks (StandsInStart c known start ty)))
      (ap (λ (i : Inside). i.names) (local_is c r ss d s)) (start_stands names start ty))

  declarators_stand : (r : Around) (ss : t.Specs) (ds : List t.NextInitDeclarator) (s : Scope) (i : Inside) → inside_of s ≡ i
      → TellAt (locals_sites c r (specified c.tags ss) ds s) (OneBreaks (StandsInDeclarators walked c (surroundings_of r) ss ds i))
  declarators_stand r ss [] s i e = stands_nowhere
  declarators_stand r ss (t.next_init_declarator comma d ∷ ds) s i e =
      let said = specified c.tags ss in
      subst (λ (i : Inside). TellAt (locals_sites c r said (t.next_init_declarator comma d ∷ ds) s)
      (OneBreaks (StandsInDeclarators walked c (surroundings_of r) ss (t.next_init_declarator comma d ∷ ds) i))) e
      (stand_both (local_sites c r said d s) (locals_sites c r said ds (with_local c r said d s))
      (StandsInDeclarator walked c (surroundings_of r) ss d (inside_of s))
      (StandsInDeclarators walked c (surroundings_of r) ss ds (behind_declarator walked c ss d (inside_of s)))
      (declarator_stands r ss d s)
      (declarators_stand r ss ds (with_local c r said d s) (behind_declarator walked c ss d (inside_of s)) (local_is c r ss d s)))

  declaration_stands : (r : Around) (d : t.Declaration) (s : Scope)
      → TellAt (declaration_sites c r d s) (OneBreaks (StandsInDeclaration walked c (surroundings_of r) d (inside_of s)))
  unfolding declaration_sites
  declaration_stands r (t.declaration ss first more e) s =
      let said = specified c.tags ss in
      let words = on (specs_rules c.tags true ss (storage_rules (storages_of ss).first)) in
      let First = StandsInDeclarator walked c (surroundings_of r) ss first (inside_of s) in
      let More = StandsInDeclarators walked c (surroundings_of r) ss more (behind_declarator walked c ss first (inside_of s)) in
      stand_both (λ rest. words ∷ rest)
      (λ rest. local_sites c r said first s (locals_sites c r said more (with_local c r said first s) rest))
      (λ p. p ≡ block_specifiers c.tags ss) (λ p. First p ⊎ More p)
      (stands_alone (λ rest. words ∷ rest) (block_specifiers c.tags ss) (laws.blocks.specifiers c.tags ss))
      (stand_both (local_sites c r said first s) (locals_sites c r said more (with_local c r said first s)) First More
      (declarator_stands r ss first s)
      (declarators_stand r ss more (with_local c r said first s) (behind_declarator walked c ss first (inside_of s)) (local_is c r ss first s)))

  -- ---- expressions

  test_stands : (names : Names) (x : t.Expression) (at : ℕ)
      → TellAt (test_sites c names x at) (OneBreaks (λ p. p ≡ condition (known_in c names) x at))
  test_stands names x at =
      stands_alone (test_sites c names x at) (condition (known_in c names) x at) (laws.statements.conditions c names x at)

  optional_test_stands : (names : Names) (x : Option t.Expression) (at : ℕ)
      → TellAt (optional_test_sites c names x at) (OneBreaks (IsTest c names x at))
  unfolding optional_test_sites
  optional_test_stands names None at = stands_nowhere
  optional_test_stands names (Some x) at = test_stands names x at

  evaluation_stands : (names : Names) (x : Option t.Expression)
      → TellAt (optional_evaluation_sites c names x) (OneBreaks (IsEvaluation c names x))
  unfolding optional_evaluation_sites
  evaluation_stands names None = stands_nowhere
  evaluation_stands names (Some x) =
      stands_alone (evaluation_sites c names x) (evaluation (known_in c names) x) (laws.statements.evaluations c names x)

  -- ---- `for`

  first_stands : (r : Around) (x : t.First) (s : Scope)
      → TellAt (first_sites c r x s) (OneBreaks (StandsInFirst walked c (surroundings_of r) x (inside_of s)))
  unfolding first_sites
  first_stands r (t.first_declared d) s = declaration_stands r d s
  first_stands r (t.first_evaluated x e) s = evaluation_stands s.names x

  heading_stands : (r : Around) (h : t.Heading) (at : ℕ) (s : Scope)
      → TellAt (heading_sites c r h at s) (OneBreaks (StandsInHeading walked c (surroundings_of r) h at (inside_of s)))
  unfolding heading_sites
  heading_stands r (t.heading l first x semicolon y e) at s =
      let names = (after_first c r first s).names in
      let known = (behind_first walked c first (inside_of s)).names in
      let same : names ≡ known = ap (λ (i : Inside). i.names) (first_is c r first s) in
      stand_both (first_sites c r first s)
      (λ rest. optional_test_sites c names x at (optional_evaluation_sites c names y rest))
      (StandsInFirst walked c (surroundings_of r) first (inside_of s)) (λ p. IsTest c known x at p ⊎ IsEvaluation c known y p)
      (first_stands r first s)
      (stand_both (optional_test_sites c names x at) (optional_evaluation_sites c names y) (IsTest c known x at) (IsEvaluation c known y)
      (subst (λ (n : Names). TellAt (optional_test_sites c names x at) (OneBreaks (IsTest c n x at))) same
      (optional_test_stands names x at))
      (subst (λ (n : Names). TellAt (optional_evaluation_sites c names y) (OneBreaks (IsEvaluation c n y))) same
      (evaluation_stands names y)))

module _ (laws : FunctionLaws) where
  -- ---- statements

  -- what is told of a statement, where this is known before it
  abbrev IsJudged : Context → Around → t.Statement → Scope → Inside → Type 0
  IsJudged c r x s i = TellAt (statement_sites c r x s) (OneBreaks (StandsInStatement walked c (surroundings_of r) x i))

  mutual
    statement_stands : (c : Context) (r : Around) (x : t.Statement) (s : Scope) → IsJudged c r x s (inside_of s)
    statement_stands c r (t.block (t.compound l ps xs e)) s =
        items_stand (under ps c) (within r s.names) xs s (inside_of s) refl
    statement_stands c r (t.simple x e) s = evaluation_stands laws c s.names x
    statement_stands c r (t.if_then at (t.condition l x e) a) s =
        stand_both (test_sites c s.names x at.index) (statement_sites c r a s) (λ p. p ≡ condition (known_in c s.names) x at.index)
        (StandsInStatement walked c (surroundings_of r) a (inside_of s)) (test_stands laws c s.names x at.index) (statement_stands c r a s)
    statement_stands c r (t.if_else at (t.condition l x e) a w b) s =
        let First = StandsInStatement walked c (surroundings_of r) a (inside_of s) in
        let Second = StandsInStatement walked c (surroundings_of r) b (behind walked c a (inside_of s)) in
        stand_both (test_sites c s.names x at.index)
        (λ rest. statement_sites c r a s (statement_sites c r b (after c r a s) rest))
        (λ p. p ≡ condition (known_in c s.names) x at.index) (λ p. First p ⊎ Second p) (test_stands laws c s.names x at.index)
        (stand_both (statement_sites c r a s) (statement_sites c r b (after c r a s)) First Second (statement_stands c r a s)
        (subst (IsJudged c r b (after c r a s)) (statement_is laws.ends c r a s) (statement_stands c r b (after c r a s))))
    statement_stands c r (t.while_loop at (t.condition l x e) a) s =
        stand_both (test_sites c s.names x at.index) (statement_sites c (looping r) a s)
        (λ p. p ≡ condition (known_in c s.names) x at.index) (StandsInStatement walked c (surroundings_of (looping r)) a (inside_of s))
        (test_stands laws c s.names x at.index) (statement_stands c (looping r) a s)
    statement_stands c r (t.do_loop at a w (t.condition l x e) z) s =
        let names = (after c (looping r) a s).names in
        let same : names ≡ s.names = ap (λ (i : Inside). i.names) (statement_is laws.ends c (looping r) a s) in
        stand_both (statement_sites c (looping r) a s) (test_sites c names x w.index)
        (StandsInStatement walked c (surroundings_of (looping r)) a (inside_of s)) (λ p. p ≡ condition (known_in c s.names) x w.index)
        (statement_stands c (looping r) a s)
        (subst (λ (n : Names). TellAt (test_sites c names x w.index) (OneBreaks (λ p. p ≡ condition (known_in c n) x w.index))) same
        (test_stands laws c names x w.index))
    statement_stands c r (t.for_loop at h a) s =
        let r2 = within r s.names in
        let behind_it = after_heading c r2 h s in
        stand_both (heading_sites c r2 h at.index s) (statement_sites c (looping r2) a behind_it)
        (StandsInHeading walked c (surroundings_of r2) h at.index (inside_of s))
        (StandsInStatement walked c (surroundings_of (looping r2)) a (behind_heading walked c h (inside_of s)))
        (heading_stands laws c r2 h at.index s)
        (subst (IsJudged c (looping r2) a behind_it) (heading_is c r2 h s) (statement_stands c (looping r2) a behind_it))
    statement_stands c r (t.break_loop at e) s =
        stands_alone (left_sites r at.index) (leaving r.in_loop at.index) (laws.statements.leaving r at.index)
    statement_stands c r (t.continue_loop at e) s =
        stands_alone (left_sites r at.index) (leaving r.in_loop at.index) (laws.statements.leaving r at.index)
    statement_stands c r (t.return_value at x e) s =
        stands_alone (return_sites c r s.names x at.index) (returned (known_in c s.names) r.result x at.index)
        (laws.statements.returns c r s.names x at.index)

    item_stands : (c : Context) (r : Around) (x : t.Item) (s : Scope)
        → TellAt (item_sites c r x s) (OneBreaks (StandsInItem walked c (surroundings_of r) x (inside_of s)))
    item_stands c r (t.declared d) s = declaration_stands laws c r d s
    item_stands c r (t.stated x) s = statement_stands c r x s

    items_stand : (c : Context) (r : Around) (xs : t.Items) (s : Scope) (i : Inside) → inside_of s ≡ i
        → TellAt (items_sites c r xs s) (OneBreaks (StandsInItems walked c (surroundings_of r) xs i))
    items_stand c r t.no_items s i e = stands_nowhere
    items_stand c r (t.items x xs) s i e =
        subst (λ (i : Inside). TellAt (items_sites c r (t.items x xs) s)
        (OneBreaks (StandsInItems walked c (surroundings_of r) (t.items x xs) i))) e
        (stand_both (item_sites c r x s) (items_sites c r xs (after_item c r x s))
        (StandsInItem walked c (surroundings_of r) x (inside_of s))
        (StandsInItems walked c (surroundings_of r) xs (behind_item walked c x (inside_of s))) (item_stands c r x s)
        (items_stand c r xs (after_item c r x s) (behind_item walked c x (inside_of s)) (item_is_behind laws.ends c r x s)))

  body_stands : (c : Context) (r : Around) (b : t.Compound) (s : Scope)
      → TellAt (body_sites c r b s) (OneBreaks (StandsInBody walked c (surroundings_of r) b (inside_of s)))
  unfolding body_sites
  body_stands c r (t.compound l ps xs e) s = items_stand (under ps c) r xs s (inside_of s) refl

pub bodies_are_judged : FunctionLaws → BodiesAreJudged
bodies_are_judged laws = record {
  bodies = body_stands laws;
  behind_bodies = body_is laws.ends;
  behind_objects = inner_is;
}
