-- Statements have meanings where no rule is broken at their sites, and add as many objects as they declare.
use Rattle.std.proofs.Common.{◌≡◌, ◌≤◌, ◌+◌, ℕ, false, not, List, [], ◌∷◌, length, refl, sym, subst, arith}
use Rattle.std.specs.Prelude.{Option, Some, None, IsSome, option_map}
use Rattle.std.proofs.lemmas.Bool.{both_ways, not-false, false≢true}
use Rattle.ec_grammar.specs.declared.Pragma.{Pragma}
use Rattle.ec_grammar.specs.Trees as t
use Rattle.ec_core.specs.Plain.{PlainType, PlainExpr, PlainStmt, statement, PlainKind, evaluate, block, break_loop, continue_loop}
use Rattle.ec_core.specs.Plain.{PlainStmts, last_stmt}
use Rattle.ec_check_names.specs.Counts.{objects_in_first, objects_in_heading, objects_in_statement, objects_in_item, objects_in_items}
use Rattle.ec_check_names.specs.Firsts.{first_specs, first_expression, first_statement}
use Rattle.ec_check_names.specs.Laws.{BlocksEnd}
use Rattle.ec_check_names.specs.Names.{Names}
use Rattle.ec_check_names.specs.Specifiers.{specified}
use Rattle.ec_check_forms.specs.Meanings.{KeptFormsHaveMeanings}
use Rattle.ec_check_expression_laws.specs.Laws.{DeclarationsKeepSuiting, KeptExpressionsHaveMeanings, KeptTypesAreSaid}
use Rattle.ec_check_expression_laws.specs.Suits.{HasTypes}
use Rattle.ec_check_initialisers.specs.Laws.{SizesAreValues}
use Rattle.ec_check_declarations.specs.Scopes.{Context, Scope, known_in}
use Rattle.ec_check_declarations.specs.Sites as d
use Rattle.ec_check_statements.specs.Around.{Around, looping, within, under}
use Rattle.ec_check_statements.specs.Kinds.{one_branch, branches, while_of, do_of, left}
use Rattle.ec_check_statements.specs.Headings.{ForHeading, declared_first, first_part, after_first, first_sites, heading_of, for_heading}
use Rattle.ec_check_statements.specs.Headings.{after_heading, heading_sites}
use Rattle.ec_check_statements.specs.Locals.{local_statement, declaration_before}
use Rattle.ec_check_statements.specs.Parts.{tested, optional_test, evaluated, optional_evaluation, optional_evaluation_sites}
use Rattle.ec_check_statements.specs.Statements.{stated, for_of, after, after_item, after_items, kind_of, item_before, items_of}
use Rattle.ec_check_statements.specs.Statements.{statement_sites, item_sites, items_sites, body_of, after_body, body_sites}
use Rattle.ec_check_statements.specs.Laws.{KeptBodiesHaveMeanings}
use Rattle.ec_check_statements.proofs.Choices.{if_both}
use Rattle.ec_check_statements.proofs.KeptLocals.{followed_there, GoesOn, declaration_meant, lone_meant}
use Rattle.ec_check_statements.proofs.KeptParts.{mapped, test_meant, optional_test_meant, evaluated_meant, optional_evaluation_meant}
use Rattle.ec_check_statements.proofs.KeptParts.{evaluation_meant, returned_meant}
use Rattle.ec_check_statements.proofs.Scopes.{any_statement_stays}
use Rattle.ec_check_statements.proofs.Unbroken.{AreKept, kept_of, told_of}

-- ---- what is made of parts

one_branch_there : (x : Option PlainExpr) (a : Option PlainStmt) → IsSome x → IsSome a → IsSome (one_branch x a)
one_branch_there None a h k = absurd (false≢true h)
one_branch_there (Some x) None h k = absurd (false≢true k)
one_branch_there (Some x) (Some a) h k = refl

branches_there : (x : Option PlainExpr) (a b : Option PlainStmt) → IsSome x → IsSome a → IsSome b → IsSome (branches x a b)
branches_there None a b h k l = absurd (false≢true h)
branches_there (Some x) None b h k l = absurd (false≢true k)
branches_there (Some x) (Some a) None h k l = absurd (false≢true l)
branches_there (Some x) (Some a) (Some b) h k l = refl

while_there : (x : Option PlainExpr) (a : Option PlainStmt) → IsSome x → IsSome a → IsSome (while_of x a)
while_there None a h k = absurd (false≢true h)
while_there (Some x) None h k = absurd (false≢true k)
while_there (Some x) (Some a) h k = refl

do_there : (a : Option PlainStmt) (x : Option PlainExpr) → IsSome a → IsSome x → IsSome (do_of a x)
do_there None x h k = absurd (false≢true h)
do_there (Some a) None h k = absurd (false≢true k)
do_there (Some a) (Some x) h k = refl

for_there : (h : Option ForHeading) (a : Option PlainStmt) → IsSome h → IsSome a → IsSome (for_of h a)
for_there None a h k = absurd (false≢true h)
for_there (Some x) None h k = absurd (false≢true k)
for_there (Some x) (Some a) h k = refl

heading_there : (first : Option (Option PlainStmt)) (condition last : Option (Option PlainExpr)) → IsSome first
    → IsSome condition → IsSome last
    → IsSome (heading_of first condition last)
heading_there None condition last h k l = absurd (false≢true h)
heading_there (Some a) None last h k l = absurd (false≢true k)
heading_there (Some a) (Some b) None h k l = absurd (false≢true l)
heading_there (Some a) (Some b) (Some e) h k l = refl

left_there : (r : Around) (k : PlainKind) → not r.in_loop ≡ false → IsSome (left r k)
left_there r k q = if_both IsSome r.in_loop (Some k) None (λ z. refl) (λ z. absurd (both_ways r.in_loop z (not-false r.in_loop q)))

types_under : (ps : List Pragma) (c : Context) (names : Names) → HasTypes (known_in c names) → HasTypes (known_in (under ps c) names)
types_under ps c names h = record { names = h.names; tags = h.tags }

module _ (ends : BlocksEnd) (meanings : KeptExpressionsHaveMeanings) (forms : KeptFormsHaveMeanings) (said : KeptTypesAreSaid)
    (sizes : SizesAreValues)
    (keep : DeclarationsKeepSuiting) (returns : PlainType) where
  -- what is known behind a statement is what was known before it
  types_behind : (c : Context) (r : Around) (x : t.Statement) (s : Scope) → HasTypes (known_in c s.names)
      → HasTypes (known_in c (after c r x s).names)
  types_behind c r x s h = subst (λ (names : Names). HasTypes (known_in c names)) (sym (any_statement_stays ends c r x s)) h

  -- ---- headings

  first_meant : (c : Context) (r : Around) (x : t.First) (s : Scope) (rest : List d.Site) → HasTypes (known_in c s.names)
      → length s.objects + objects_in_first x ≤ 65_536 → AreKept (first_sites c r x s rest)
      → IsSome (first_part c r x s) × GoesOn c s (after_first c r x s) (objects_in_first x) rest
  unfolding first_part after_first first_sites declared_first optional_evaluation_sites
  first_meant c r (t.first_declared (t.declaration ss x [] z)) s rest h room u = (
    mapped Some (local_statement c r (specified c.tags ss) x s)
        (lone_meant meanings forms said sizes keep c r ss x z s rest h (omega (arith, room)) u),
    (declaration_meant meanings forms said sizes keep c r (t.declaration ss x [] z) s rest h room u).1,
  )
  first_meant c r (t.first_declared (t.declaration ss x (y ∷ ys) z)) s rest h room u =
      let a = declaration_meant meanings forms said sizes keep c r (t.declaration ss x (y ∷ ys) z) s rest h room u in
      let all = declaration_before c r (t.declaration ss x (y ∷ ys) z) s (Some last_stmt) in (
        mapped Some (option_map (λ all. statement r.unit (first_specs ss) (block all)) all)
            (mapped (λ all. statement r.unit (first_specs ss) (block all)) all (a.0 (Some last_stmt) refl)),
        a.1,
      )
  first_meant c r (t.first_evaluated None z) s rest h room u = (refl, record { known = h; counted = omega arith; kept = u })
  first_meant c r (t.first_evaluated (Some x) z) s rest h room u =
      let a = evaluated_meant meanings forms c s.names h x rest u in (
        mapped Some (option_map (λ v. statement r.unit (first_expression x) (evaluate v)) (evaluated c s.names x))
            (mapped (λ v. statement r.unit (first_expression x) (evaluate v)) (evaluated c s.names x) a.0),
        record { known = h; counted = omega arith; kept = a.1 },
      )

  heading_meant : (c : Context) (r : Around) (x : t.Heading) (at : ℕ) (s : Scope) (rest : List d.Site) → HasTypes (known_in c s.names)
      → length s.objects + objects_in_heading x ≤ 65_536 → AreKept (heading_sites c r x at s rest)
      → IsSome (for_heading c r x s) × GoesOn c s (after_heading c r x s) (objects_in_heading x) rest
  unfolding for_heading after_heading heading_sites
  heading_meant c r (t.heading l first x semicolon y e) at s rest h room u =
      let names = (after_first c r first s).names in
      let a = first_meant c r first s _ h room u in
      let b = optional_test_meant meanings forms c names a.1.known x at _ a.1.kept in
      let g = optional_evaluation_meant meanings forms c names a.1.known y rest b.1 in (
        heading_there (first_part c r first s) (optional_test c names x) (optional_evaluation c names y) a.0 b.0 g.0,
        record { known = a.1.known; counted = a.1.counted; kept = g.1 },
      )

  -- ---- statements

  -- a statement's meaning, so many objects more, and nothing told behind
  record IsMeant (before after : Scope) (n : ℕ) (k : Option PlainKind) (rest : List d.Site) : Type 0 where
    meant : IsSome k
    counted : length after.objects ≡ length before.objects + n
    kept : AreKept rest

  mutual
    kind_meant : (c : Context) (r : Around) → r.result ≡ Some returns → (x : t.Statement) (s : Scope) (rest : List d.Site)
        → HasTypes (known_in c s.names)
        → length s.objects + objects_in_statement x ≤ 65_536 → AreKept (statement_sites c r x s rest)
        → IsMeant s (after c r x s) (objects_in_statement x) (kind_of c r x s) rest
    kind_meant c r e (t.block (t.compound l ps xs z)) s rest h room u =
        let a = items_meant (under ps c) (within r s.names) e xs s rest (types_under ps c s.names h) room u in
        record { meant = mapped block (items_of (under ps c) (within r s.names) xs s) a.0; counted = a.1.counted; kept = a.1.kept }
    kind_meant c r e (t.simple x z) s rest h room u =
        let a = evaluation_meant meanings forms c s.names h x rest u in
        record { meant = a.0; counted = omega arith; kept = a.1 }
    kind_meant c r e (t.if_then at (t.condition l x z) a) s rest h room u =
        let g = test_meant meanings forms c s.names h x at.index _ u in
        let k = kind_meant c r e a s rest h room g.1 in
        record {
          meant = one_branch_there (tested c s.names x) (stated r a (kind_of c r a s)) g.0
              (mapped (statement r.unit (first_statement a)) (kind_of c r a s) k.meant);
          counted = k.counted;
          kept = k.kept;
        }
    kind_meant c r e (t.if_else at (t.condition l x z) a w b) s rest h room u =
        let next = after c r a s in
        let g = test_meant meanings forms c s.names h x at.index _ u in
        let k = kind_meant c r e a s _ h (omega (arith, room)) g.1 in
        let count = k.counted in
        let m = kind_meant c r e b next rest (types_behind c r a s h) (omega (arith, room, count)) k.kept in
        let more = m.counted in
        record {
          meant = branches_there (tested c s.names x) (stated r a (kind_of c r a s)) (stated r b (kind_of c r b next)) g.0
              (mapped (statement r.unit (first_statement a)) (kind_of c r a s) k.meant)
              (mapped (statement r.unit (first_statement b)) (kind_of c r b next) m.meant);
          counted = omega (arith, count, more);
          kept = m.kept;
        }
    kind_meant c r e (t.while_loop at (t.condition l x z) a) s rest h room u =
        let g = test_meant meanings forms c s.names h x at.index _ u in
        let k = kind_meant c (looping r) e a s rest h room g.1 in
        record {
          meant = while_there (tested c s.names x) (stated r a (kind_of c (looping r) a s)) g.0
              (mapped (statement r.unit (first_statement a)) (kind_of c (looping r) a s) k.meant);
          counted = k.counted;
          kept = k.kept;
        }
    kind_meant c r e (t.do_loop at a w (t.condition l x z) y) s rest h room u =
        let next = after c (looping r) a s in
        let k = kind_meant c (looping r) e a s _ h room u in
        let g = test_meant meanings forms c next.names (types_behind c (looping r) a s h) x w.index rest k.kept in
        record {
          meant = do_there (stated r a (kind_of c (looping r) a s)) (tested c next.names x)
              (mapped (statement r.unit (first_statement a)) (kind_of c (looping r) a s) k.meant) g.0;
          counted = k.counted;
          kept = g.1;
        }
    kind_meant c r e (t.for_loop at x a) s rest h room u =
        let q = within r s.names in
        let next = after_heading c q x s in
        let g = heading_meant c q x at.index s _ h (omega (arith, room)) u in
        let count = g.1.counted in
        let k = kind_meant c (looping q) e a next rest g.1.known (omega (arith, room, count)) g.1.kept in
        let more = k.counted in
        record {
          meant = for_there (for_heading c q x s) (stated r a (kind_of c (looping q) a next)) g.0
              (mapped (statement r.unit (first_statement a)) (kind_of c (looping q) a next) k.meant);
          counted = omega (arith, count, more);
          kept = k.kept;
        }
    kind_meant c r e (t.break_loop at z) s rest h room u = record {
      meant = left_there r break_loop u.0.0;
      counted = omega arith;
      kept = u.1;
    }
    kind_meant c r e (t.continue_loop at z) s rest h room u = record {
      meant = left_there r continue_loop u.0.0;
      counted = omega arith;
      kept = u.1;
    }
    kind_meant c r e (t.return_value at x z) s rest h room u =
        let a = returned_meant meanings forms c s.names h r returns e x at.index rest u in
        record { meant = a.0; counted = omega arith; kept = a.1 }

    item_meant : (c : Context) (r : Around) → r.result ≡ Some returns → (x : t.Item) (s : Scope) (rest : List d.Site)
        → HasTypes (known_in c s.names)
        → length s.objects + objects_in_item x ≤ 65_536 → AreKept (item_sites c r x s rest)
        → ((tail : Option PlainStmts) → IsSome tail → IsSome (item_before c r x s tail))
        × GoesOn c s (after_item c r x s) (objects_in_item x) rest
    item_meant c r e (t.declared x) s rest h room u = declaration_meant meanings forms said sizes keep c r x s rest h room u
    item_meant c r e (t.stated x) s rest h room u =
        let k = kind_meant c r e x s rest h room u in (
          λ tail g. followed_there (stated r x (kind_of c r x s)) tail
              (mapped (statement r.unit (first_statement x)) (kind_of c r x s) k.meant) g,
          record { known = types_behind c r x s h; counted = k.counted; kept = k.kept },
        )

    items_meant : (c : Context) (r : Around) → r.result ≡ Some returns → (xs : t.Items) (s : Scope) (rest : List d.Site)
        → HasTypes (known_in c s.names)
        → length s.objects + objects_in_items xs ≤ 65_536 → AreKept (items_sites c r xs s rest)
        → IsSome (items_of c r xs s) × GoesOn c s (after_items c r xs s) (objects_in_items xs) rest
    items_meant c r e t.no_items s rest h room u = (refl, record { known = h; counted = omega arith; kept = u })
    items_meant c r e (t.items x xs) s rest h room u =
        let next = after_item c r x s in
        let a = item_meant c r e x s _ h (omega (arith, room)) u in
        let count = a.1.counted in
        let b = items_meant c r e xs next rest a.1.known (omega (arith, room, count)) a.1.kept in
        let more = b.1.counted in
        (a.0 (items_of c r xs next) b.0, record { known = b.1.known; counted = omega (arith, count, more); kept = b.1.kept })

pub kept_bodies_have_meanings : BlocksEnd → KeptExpressionsHaveMeanings → KeptFormsHaveMeanings → KeptTypesAreSaid → SizesAreValues
    → DeclarationsKeepSuiting
    → KeptBodiesHaveMeanings
unfolding body_of after_body body_sites
kept_bodies_have_meanings ends meanings forms said sizes keep returns c r (t.compound l ps xs z) s rest h =
    let a =
    items_meant ends meanings forms said sizes keep returns (under ps c) r h.result xs s rest (types_under ps c s.names h.known) h.room
    (kept_of (body_sites c r (t.compound l ps xs z) s rest) h.kept) in
    record {
      meant = mapped (statement r.unit l.index) (option_map block (items_of (under ps c) r xs s))
          (mapped block (items_of (under ps c) r xs s) a.0);
      counted = a.1.counted;
      told = told_of rest a.1.kept;
    }
