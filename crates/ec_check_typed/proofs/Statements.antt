-- Statements are what the walk makes of them.
use Rattle.std.proofs.Common.{◌≡◌, ◌∙◌, ℕ, Bool, true, false, List, [], ◌∷◌, ◌++◌, length, refl, sym, ap, subst}
use Rattle.std.specs.Prelude.{◌↔◌, option_map, Option, Some, None, IfSome, ⊤}
use Rattle.std.proofs.lemmas.List.{append-nil, append_cancel_left}
use Rattle.ec_grammar.specs.declared.Spot.{Spot}
use Rattle.ec_grammar.specs.Trees as t
use Rattle.ec_core.specs.Plain.{PlainType, PlainExpr, PlainStmt, statement, PlainKind, empty, evaluate, block, branch, while_loop, do_loop}
use Rattle.ec_core.specs.Plain.{for_loop, OptionPlainStmt, no_stmt, a_stmt, PlainStmts, last_stmt, next_stmt}
use Rattle.ec_core.specs.Plain.{PlainObject}
use Rattle.ec_check_operands.specs.Operands.{Operand}
use Rattle.ec_check_names.specs.Firsts.{first_specs, first_expression, first_statement}
use Rattle.ec_check_names.specs.Laws.{BlocksEnd}
use Rattle.ec_check_names.specs.Names.{Names}
use Rattle.ec_check_names.specs.Specifiers.{specified}
use Rattle.ec_check_declarations.specs.Declarators.{object_declared}
use Rattle.ec_check_declarations.specs.Scopes.{Context, Scope, known_in, inner_object}
use Rattle.ec_check_statements.specs.Around.{Around, under}
use Rattle.ec_check_statements.specs.Headings.{ForHeading, declared_first, first_part, after_first, for_heading, after_heading, optional_stmt}
use Rattle.ec_check_statements.specs.Headings.{heading_of}
use Rattle.ec_check_statements.specs.Kinds.{one_branch, branches, while_of, do_of}
use Rattle.ec_check_statements.specs.Locals.{local_declared, with_local, local_statement, locals_before, after_declaration}
use Rattle.ec_check_statements.specs.Locals.{declaration_before}
use Rattle.ec_check_statements.specs.Objects.{AreAppended}
use Rattle.ec_check_statements.specs.Parts.{tested, optional_test, evaluated, optional_evaluation}
use Rattle.ec_check_statements.specs.Statements.{stated, evaluation, for_of, after, after_items, kind_of, items_of, body_of}
use Rattle.ec_check_statements.specs.Statements.{after_body}
use Rattle.ec_check_statements.specs.Walks.{followed}
use Rattle.ec_check_statements.proofs.Growth as growth
use Rattle.ec_check_statements.proofs.Growth.{object_appended}
use Rattle.ec_check_meanings.specs.Means.{Means}
use Rattle.ec_check_meanings.specs.Terms.{term_of_expression}
use Rattle.ec_check_meanings.proofs.Options.{inside, nothing_there}
use Rattle.ec_check_parts.specs.Laws.{inside_of}
use Rattle.ec_check_parts.specs.Places.{Inside}
use Rattle.ec_check_typed.specs.Laws.{around, AreAdded, StatementsAreSaid}
use Rattle.ec_check_typed.specs.Statements as said
use Rattle.ec_check_typed.specs.Statements.{Enclosing, declaring, beyond, Tests, Evaluates, MayTest, MayEvaluate, AreLocals, others}
use Rattle.ec_check_typed.specs.Statements.{followed_by, IsFirst, Says, IsStatement, at_first, AreItems, IsBody}
use Rattle.ec_check_typed.proofs.Values.{ValueLaws}
use Rattle.ec_check_typed.proofs.Expressions.{mapped, both_given, tests_to, to_tests, may_test_to, to_may_test, evaluates_to, to_evaluates}
use Rattle.ec_check_typed.proofs.Expressions.{may_evaluate_to, to_may_evaluate, nothing_returned_to, to_nothing_returned, returned_to}
use Rattle.ec_check_typed.proofs.Expressions.{to_returned}
use Rattle.ec_check_typed.proofs.Locals.{LocalLaws, longer, Behind, nothing_behind, added_then, local_to, to_local, AreMade, locals_to}
use Rattle.ec_check_typed.proofs.Locals.{to_locals}

-- ---- names

abbrev AnyContext : Context → Type 0
AnyContext c = ⊤

abbrev AnyObject : (unit f : ℕ) → PlainObject → Type 0
AnyObject unit f x = ⊤

any_type : (ty : Option PlainType) → IfSome ty (λ ty. ⊤)
any_type None = tt
any_type (Some ty) = tt

any_appended : (c : Context) (r : Around) → AnyContext c → (ss : t.Specs) (d : t.InitDeclarator) (s : Scope)
    → AreAppended (AnyObject r.unit r.function) s.objects (with_local c r (specified c.tags ss) d s).objects
unfolding with_local local_declared
any_appended c r h ss (t.init_declarator (t.declarator stars (t.identifier at n) shape) start) s =
    let o = object_declared (known_in c s.names) (specified c.tags ss) (t.declarator stars (t.identifier at n) shape) start in
    object_appended (AnyObject r.unit r.function) o.ty (inner_object r.unit n o.konst _) s.objects (any_type o.ty)

-- expression statements
nothing_evaluated : (c : Context) (names : Names) → evaluation c names None ≡ Some empty
unfolding evaluation
nothing_evaluated c names = refl

one_evaluated : (c : Context) (names : Names) (x : t.Expression)
    → evaluation c names (Some x) ≡ option_map evaluate (evaluated c names x)
unfolding evaluation
one_evaluated c names x = refl

pub record StatementLaws : Type 0 where
  pub values : ValueLaws
  pub locals : LocalLaws
  pub ends : BlocksEnd

module _ (laws : StatementLaws) where
  stays : (c : Context) (r : Around) (x : t.Statement) (s : Scope) → (after c r x s).names ≡ s.names
  stays c r x s = (growth.statement_stays laws.ends AnyContext (λ ps c h. tt) AnyObject any_appended c r tt x s).names

  -- behind a statement that adds objects
  stated_behind : (c : Context) (r : Around) (x : t.Statement) (s : Scope) (os : List PlainObject) → AreAdded os s (after c r x s)
      → inside_of (after c r x s) ≡ beyond (length os) (inside_of s)
  stated_behind c r x s os h =
      ap (λ (names : Names). record { names = names; made = length (after c r x s).objects }) (stays c r x s)
      ∙ ap (λ (m : ℕ). record { names = s.names; made = m }) (ap length h ∙ longer s.objects os)

  module _ (w : Enclosing) where
    -- ---- the first part of a `for`

    -- what the first part makes
    record IsStarted (c : Context) (in_loop : Bool) (first : ℕ) (s : Scope) (x : t.First) (p : OptionPlainStmt) (os : List PlainObject)
        : Type 0 where
      pub statement : Option PlainStmt
      pub part : first_part c (around w in_loop first) x s ≡ Some statement
      pub same : optional_stmt statement ≡ p
      pub behind : Behind os s (after_first c (around w in_loop first) x s) (declaring os (inside_of s))

    block_first : (c : Context) (in_loop : Bool) (first : ℕ) (ss : t.Specs) (d : t.InitDeclarator) (next : t.NextInitDeclarator)
        (ds : List t.NextInitDeclarator) (e comma : Spot) (s : Scope) (xs : List PlainStmt) (os : List PlainObject)
        → AreMade laws.locals w c in_loop first ss s (t.next_init_declarator comma d ∷ (next ∷ ds)) xs os
        → IsStarted c in_loop first s (t.first_declared (t.declaration ss d (next ∷ ds) e))
        (a_stmt (statement w.unit (first_specs ss) (block (followed_by xs last_stmt)))) os
    unfolding first_part declared_first declaration_before after_first after_declaration
    block_first c in_loop first ss d (t.next_init_declarator q f) ds e comma s xs os h = record {
      statement = Some (statement w.unit (first_specs ss) (block (followed_by xs last_stmt)));
      part =
          ap (λ z. option_map Some (option_map (λ all. statement w.unit (first_specs ss) (block all)) z)) (h.stated (Some last_stmt));
      same = refl;
      behind = h.behind;
    }

    first_to : (c : Context) (in_loop : Bool) (first : ℕ) (s : Scope) (x : t.First) (p : OptionPlainStmt) (os : List PlainObject)
        → IsFirst w c (inside_of s) x p os → IsStarted c in_loop first s x p os
    unfolding first_part declared_first after_first after_declaration
    first_to c in_loop first s _ _ _ (said.one_object {ss = ss} {d = d} {e = e} {x = x} {o = o} h) =
        let g = local_to laws.locals w c in_loop first ss s d x o h in record {
          statement = Some x;
          part = ap (option_map Some) g.stated;
          same = refl;
          behind = g.behind;
        }
    first_to c in_loop first s _ _ _ (said.several_objects {ss = ss} {d = d} {next = next} {ds = ds} {e = e} {xs = xs} {os = os} h) =
        block_first c in_loop first ss d next ds e e s xs os
        (locals_to laws.locals w c in_loop first ss (t.next_init_declarator e d ∷ (next ∷ ds)) s (inside_of s) xs os refl h)
    first_to c in_loop first s _ _ _ said.nothing_first = record { statement = None; part = refl; same = refl; behind = nothing_behind s }
    first_to c in_loop first s _ _ _ (said.evaluated_first {x = x} {v = v} h) = record {
      statement = Some (statement w.unit (first_expression x) (evaluate v));
      part =
          ap (λ z. option_map Some (option_map (λ v. statement w.unit (first_expression x) (evaluate v)) z))
          (evaluates_to laws.values c s.names x v h);
      same = refl;
      behind = nothing_behind s;
    }

    abbrev FirstFound : (c : Context) (in_loop : Bool) (first : ℕ) (s : Scope) (x : t.First) (p : Option PlainStmt) → Type 0
    FirstFound c in_loop first s x p =
        (os : List PlainObject) × IsFirst w c (inside_of s) x (optional_stmt p) os
        × Behind os s (after_first c (around w in_loop first) x s) (declaring os (inside_of s))

    to_first : (c : Context) (in_loop : Bool) (first : ℕ) (s : Scope) (x : t.First) (p : Option PlainStmt)
        → first_part c (around w in_loop first) x s ≡ Some p → FirstFound c in_loop first s x p
    unfolding first_part declared_first declaration_before after_first after_declaration
    to_first c in_loop first s (t.first_declared (t.declaration ss d [] e)) p q =
        let g = mapped Some (local_statement c (around w in_loop first) (specified c.tags ss) d s) p q in
        let h = to_local laws.locals w c in_loop first ss s d g.0 g.1 in (
          h.0 ∷ [],
          subst (λ (z : Option PlainStmt). IsFirst w c (inside_of s) (t.first_declared (t.declaration ss d [] e)) (optional_stmt z) (h.0 ∷ []))
              g.2 (said.one_object h.1),
          h.2.behind,
        )
    to_first c in_loop first s (t.first_declared (t.declaration ss d (t.next_init_declarator comma f ∷ ds) e)) p q =
        let r = around w in_loop first in
        let g = mapped Some
        (option_map (λ all. statement w.unit (first_specs ss) (block all))
        (locals_before c r (specified c.tags ss) (t.next_init_declarator comma d ∷ (t.next_init_declarator comma f ∷ ds)) s (Some last_stmt))) p q in
        let m = mapped (λ all. statement w.unit (first_specs ss) (block all))
        (locals_before c r (specified c.tags ss) (t.next_init_declarator comma d ∷ (t.next_init_declarator comma f ∷ ds)) s (Some last_stmt)) g.0 g.1 in
        let h = to_locals laws.locals w c in_loop first ss (t.next_init_declarator comma d ∷ (t.next_init_declarator comma f ∷ ds)) s
        (Some last_stmt) m.0 m.1 in
        let same : followed_by h.0 last_stmt ≡ m.0 = inside (sym (h.3.stated (Some last_stmt)) ∙ m.1) in (
          h.1,
          subst (λ (z : Option PlainStmt). IsFirst w c (inside_of s)
              (t.first_declared (t.declaration ss d (t.next_init_declarator comma f ∷ ds) e)) (optional_stmt z) h.1)
              (ap (λ all. Some (statement w.unit (first_specs ss) (block all))) same ∙ ap Some m.2 ∙ g.2)
              (said.several_objects {next = t.next_init_declarator comma f} {ds = ds} h.2),
          h.3.behind,
        )
    to_first c in_loop first s (t.first_evaluated None e) p q = (
      [],
      subst (λ (z : Option PlainStmt). IsFirst w c (inside_of s) (t.first_evaluated None e) (optional_stmt z) []) (inside q)
          said.nothing_first,
      nothing_behind s,
    )
    to_first c in_loop first s (t.first_evaluated (Some x) e) p q =
        let g = mapped Some
        (option_map (λ v. statement w.unit (first_expression x) (evaluate v)) (evaluated c s.names x)) p q in
        let h = mapped (λ v. statement w.unit (first_expression x) (evaluate v)) (evaluated c s.names x) g.0 g.1 in (
          [],
          subst (λ (z : Option PlainStmt). IsFirst w c (inside_of s) (t.first_evaluated (Some x) e) (optional_stmt z) [])
              (ap Some h.2 ∙ g.2) (said.evaluated_first (to_evaluates laws.values c s.names x h.0 h.1)),
          nothing_behind s,
        )

    -- ---- all parts of a `for`

    heading_to : (c : Context) (in_loop : Bool) (first : ℕ) (s : Scope) (l semicolon e : Spot) (f : t.First) (x y : Option t.Expression)
        (p : OptionPlainStmt) (v u : Option PlainExpr) (os : List PlainObject) → IsFirst w c (inside_of s) f p os
        → MayTest (known_in c (declaring os (inside_of s)).names) x v → MayEvaluate (known_in c (declaring os (inside_of s)).names) y u
        → (for_heading c (around w in_loop first) (t.heading l f x semicolon y e) s ≡ Some (record { first = p; condition = v; last = u }))
        × Behind os s (after_heading c (around w in_loop first) (t.heading l f x semicolon y e) s) (declaring os (inside_of s))
    unfolding for_heading after_heading
    heading_to c in_loop first s l semicolon e f x y p v u os h test last =
        let g = first_to c in_loop first s f p os h in
        let next = after_first c (around w in_loop first) f s in
        let names : (declaring os (inside_of s)).names ≡ next.names = ap (λ (i : Inside). i.names) (sym g.behind.known) in
        let a = may_test_to laws.values c next.names x v (subst (λ (z : Names). MayTest (known_in c z) x v) names test) in
        let b = may_evaluate_to laws.values c next.names y u (subst (λ (z : Names). MayEvaluate (known_in c z) y u) names last) in (
          ap (λ z. heading_of z (optional_test c next.names x) (optional_evaluation c next.names y)) g.part
              ∙ ap (λ z. heading_of (Some g.statement) z (optional_evaluation c next.names y)) a
              ∙ ap (λ z. heading_of (Some g.statement) (Some v) z) b
              ∙ ap (λ (z : OptionPlainStmt). Some (record { first = z; condition = v; last = u })) g.same,
          g.behind,
        )

    record IsHeading (c : Context) (in_loop : Bool) (first : ℕ) (s : Scope) (l semicolon e : Spot) (f : t.First)
        (x y : Option t.Expression) (h : ForHeading) : Type 0 where
      pub os : List PlainObject
      pub begins : IsFirst w c (inside_of s) f h.first os
      pub test : MayTest (known_in c (declaring os (inside_of s)).names) x h.condition
      pub last_part : MayEvaluate (known_in c (declaring os (inside_of s)).names) y h.last
      pub behind : Behind os s (after_heading c (around w in_loop first) (t.heading l f x semicolon y e) s) (declaring os (inside_of s))

    heading_given : (a : Option (Option PlainStmt)) (b e : Option (Option PlainExpr)) (h : ForHeading) → heading_of a b e ≡ Some h
        → (p : Option PlainStmt) × (v : Option PlainExpr) × (u : Option PlainExpr) × (a ≡ Some p) × (b ≡ Some v) × (e ≡ Some u)
        × (record { first = optional_stmt p; condition = v; last = u } ≡ h)
    heading_given None b e h q = absurd (nothing_there h q)
    heading_given (Some p) None e h q = absurd (nothing_there h q)
    heading_given (Some p) (Some v) None h q = absurd (nothing_there h q)
    heading_given (Some p) (Some v) (Some u) h q = (p, v, u, refl, refl, refl, inside q)

    to_heading : (c : Context) (in_loop : Bool) (first : ℕ) (s : Scope) (l semicolon e : Spot) (f : t.First) (x y : Option t.Expression)
        (h : ForHeading) → for_heading c (around w in_loop first) (t.heading l f x semicolon y e) s ≡ Some h
        → IsHeading c in_loop first s l semicolon e f x y h
    unfolding for_heading after_heading
    to_heading c in_loop first s l semicolon e f x y h q =
        let next = after_first c (around w in_loop first) f s in
        let g = heading_given (first_part c (around w in_loop first) f s) (optional_test c next.names x) (optional_evaluation c next.names y)
        h q in
        let b = to_first c in_loop first s f g.0 g.3 in
        let names : next.names ≡ (declaring b.0 (inside_of s)).names = ap (λ (i : Inside). i.names) b.2.known in
        let made : IsHeading c in_loop first s l semicolon e f x y (record { first = optional_stmt g.0; condition = g.1; last = g.2 }) =
        record {
          os = b.0;
          begins = b.1;
          test = subst (λ (z : Names). MayTest (known_in c z) x g.1) names (to_may_test laws.values c next.names x g.1 g.4);
          last_part =
              subst (λ (z : Names). MayEvaluate (known_in c z) y g.2) names (to_may_evaluate laws.values c next.names y g.2 g.5);
          behind = b.2;
        } in
        subst (λ (z : ForHeading). IsHeading c in_loop first s l semicolon e f x y z) g.6 made

    -- ---- from what is said to the walk

    abbrev means_as : Context → Inside → t.Expression → Operand → Type 0
    means_as c i x o = Means (known_in c i.names) (term_of_expression x) o

    -- what the walk makes of a statement
    record IsKind (c : Context) (in_loop : Bool) (first : ℕ) (s : Scope) (x : t.Statement) (kind : PlainKind) (os : List PlainObject)
        : Type 0 where
      pub made : kind_of c (around w in_loop first) x s ≡ Some kind
      pub added : AreAdded os s (after c (around w in_loop first) x s)

    record IsPlaced (c : Context) (in_loop : Bool) (first : ℕ) (s : Scope) (x : t.Statement) (p : PlainStmt) (os : List PlainObject)
        : Type 0 where
      pub made : stated (around w in_loop first) x (kind_of c (around w in_loop first) x s) ≡ Some p
      pub added : AreAdded os s (after c (around w in_loop first) x s)

    record AreKinds (c : Context) (in_loop : Bool) (first : ℕ) (s : Scope) (xs : t.Items) (ps : PlainStmts) (os : List PlainObject)
        : Type 0 where
      pub made : items_of c (around w in_loop first) xs s ≡ Some ps
      pub added : AreAdded os s (after_items c (around w in_loop first) xs s)

    nothing_added : (s : Scope) → AreAdded [] s s
    nothing_added s = sym (append-nil s.objects)

    beyond_at : (c : Context) (r : Around) (x : t.Statement) (s : Scope) (os : List PlainObject) (i : Inside) → inside_of s ≡ i
        → AreAdded os s (after c r x s) → inside_of (after c r x s) ≡ beyond (length os) i
    beyond_at c r x s os i e h = stated_behind c r x s os h ∙ ap (beyond (length os)) e

    -- behind the declarators of a declaration
    declared_to : (c : Context) (in_loop : Bool) (first : ℕ) (s : Scope) (ss : t.Specs) (d : t.InitDeclarator)
        (ds : List t.NextInitDeclarator) (e : Spot) (i : Inside) (ps : List PlainStmt) (os : List PlainObject) → inside_of s ≡ i
        → AreLocals w c ss i (d ∷ others ds) ps os
        → ((rest : Option PlainStmts)
        → declaration_before c (around w in_loop first) (t.declaration ss d ds e) s rest ≡ option_map (followed_by ps) rest)
        × Behind os s (after_declaration c (around w in_loop first) (t.declaration ss d ds e) s) (declaring os (inside_of s))
    unfolding declaration_before after_declaration
    declared_to c in_loop first s ss d ds e i ps os q h =
        let g = locals_to laws.locals w c in_loop first ss (t.next_init_declarator e d ∷ ds) s i ps os q h in (g.stated, g.behind)

    mutual
      says_to : (c : Context) (in_loop : Bool) (i : Inside) (x : t.Statement) (kind : PlainKind) (os : List PlainObject)
          → Says w c in_loop i x kind os → (first : ℕ) (s : Scope) → inside_of s ≡ i → IsKind c in_loop first s x kind os
      says_to _ _ _ _ _ _ (said.compounded {c = c} {in_loop = in_loop} {i = i} {ps = ps} {xs = xs} {ss = ss} {os = os} h) =
          λ first s e.
          let g = items_to (under ps c) in_loop i xs ss os h (length s.names.inside) s e in
          record { made = ap (option_map block) g.made; added = g.added }
      says_to _ _ _ _ _ _ (said.nothing_said {c = c}) =
          λ first s e. record { made = nothing_evaluated c s.names; added = nothing_added s }
      says_to _ _ _ _ _ _ (said.expressed {c = c} {x = x} {v = v} h) =
          λ first s e. record {
            made =
                one_evaluated c s.names x
                ∙ ap (option_map evaluate)
                (evaluates_to laws.values c s.names x v (subst (λ (z : Inside). Evaluates (known_in c z.names) x v) (sym e) h));
            added = nothing_added s;
          }
      says_to _ _ _ _ _ _ (said.selected {c = c} {in_loop = in_loop} {i = i} {x = x} {a = a} {v = v} {p = p} {os = os} test h) =
          λ first s e.
          let g = placed_to c in_loop i a p os h first s e in
          record {
            made =
                ap (λ z. one_branch z (stated (around w in_loop first) a (kind_of c (around w in_loop first) a s)))
                (tests_to laws.values c s.names x v (subst (λ (z : Inside). Tests (known_in c z.names) x v) (sym e) test))
                ∙ ap (one_branch (Some v)) g.made;
            added = g.added;
          }
      says_to _ _ _ _ _ _ (said.chosen {c = c} {in_loop = in_loop} {i = i} {x = x} {a = a} {b = b} {v = v} {p = p} {q = q} {os = os} {us = us}
          test h m) =
          λ first s e.
          let r = around w in_loop first in
          let next = after c r a s in
          let g = placed_to c in_loop i a p os h first s e in
          let n = placed_to c in_loop (beyond (length os) i) b q us m first next (beyond_at c r a s os i e g.added) in
          record {
            made =
                ap (λ z. branches z (stated r a (kind_of c r a s)) (stated r b (kind_of c r b next)))
                (tests_to laws.values c s.names x v (subst (λ (z : Inside). Tests (known_in c z.names) x v) (sym e) test))
                ∙ ap (λ z. branches (Some v) z (stated r b (kind_of c r b next))) g.made
                ∙ ap (branches (Some v) (Some p)) n.made;
            added = added_then os us s next (after c r b next) g.added n.added;
          }
      says_to _ _ _ _ _ _ (said.while_true {c = c} {i = i} {x = x} {a = a} {v = v} {p = p} {os = os} test h) =
          λ first s e.
          let r = around w true first in
          let g = placed_to c true i a p os h first s e in
          record {
            made =
                ap (λ z. while_of z (stated r a (kind_of c r a s)))
                (tests_to laws.values c s.names x v (subst (λ (z : Inside). Tests (known_in c z.names) x v) (sym e) test))
                ∙ ap (while_of (Some v)) g.made;
            added = g.added;
          }
      says_to _ _ _ _ _ _ (said.done_while {c = c} {i = i} {x = x} {a = a} {v = v} {p = p} {os = os} h test) =
          λ first s e.
          let r = around w true first in
          let g = placed_to c true i a p os h first s e in
          let names : (after c r a s).names ≡ i.names = stays c r a s ∙ ap (λ (z : Inside). z.names) e in
          record {
            made =
                ap (λ z. do_of z (tested c (after c r a s).names x)) g.made
                ∙ ap (do_of (Some p))
                (tests_to laws.values c (after c r a s).names x v (subst (λ (z : Names). Tests (known_in c z) x v) (sym names) test));
            added = g.added;
          }
      says_to _ _ _ _ _ _ (said.repeated {c = c} {in_loop = in_loop} {i = i} {l = l} {semicolon = semicolon} {e = z} {first = f} {x = x} {y = y}
          {a = a} {p = p} {v = v} {u = u} {q = q} {os = os} {us = us} b test last h) =
          λ first s e.
          let inner = length s.names.inside in
          let next = after_heading c (around w in_loop inner) (t.heading l f x semicolon y z) s in
          let g = heading_to c in_loop inner s l semicolon z f x y p v u os
          (subst (λ (j : Inside). IsFirst w c j f p os) (sym e) b)
          (subst (λ (j : Inside). MayTest (known_in c (declaring os j).names) x v) (sym e) test)
          (subst (λ (j : Inside). MayEvaluate (known_in c (declaring os j).names) y u) (sym e) last) in
          let n = placed_to c true (declaring os i) a q us h inner next (g.1.known ∙ ap (declaring os) e) in
          record {
            made =
                ap (λ z. for_of z (stated (around w true inner) a (kind_of c (around w true inner) a next))) g.0
                ∙ ap (for_of (Some (record { first = p; condition = v; last = u }))) n.made;
            added = added_then os us s next (after c (around w true inner) a next) g.1.added n.added;
          }
      says_to _ _ _ _ _ _ said.broken_off = λ first s e. record { made = refl; added = nothing_added s }
      says_to _ _ _ _ _ _ said.continued = λ first s e. record { made = refl; added = nothing_added s }
      says_to _ _ _ _ _ _ (said.returned {c = c} {in_loop = in_loop} h) =
          λ first s e. record { made = nothing_returned_to laws.values c s.names w in_loop first h; added = nothing_added s }
      says_to _ _ _ _ _ _ (said.value_returned {c = c} {in_loop = in_loop} {x = x} {o = o} {v = v} n m p) =
          λ first s e. record {
            made =
                returned_to laws.values c s.names w in_loop first x o v n
                (subst (λ (z : Inside). means_as c z x o) (sym e) m) p;
            added = nothing_added s;
          }

      placed_to : (c : Context) (in_loop : Bool) (i : Inside) (x : t.Statement) (p : PlainStmt) (os : List PlainObject)
          → IsStatement w c in_loop i x p os → (first : ℕ) (s : Scope) → inside_of s ≡ i → IsPlaced c in_loop first s x p os
      placed_to _ _ _ _ _ _ (at_first {c = c} {in_loop = in_loop} {i = i} {x = x} {kind = kind} {os = os} h) =
          λ first s e.
          let g = says_to c in_loop i x kind os h first s e in
          record { made = ap (option_map (statement w.unit (first_statement x))) g.made; added = g.added }

      items_to : (c : Context) (in_loop : Bool) (i : Inside) (xs : t.Items) (ps : PlainStmts) (os : List PlainObject)
          → AreItems w c in_loop i xs ps os → (first : ℕ) (s : Scope) → inside_of s ≡ i → AreKinds c in_loop first s xs ps os
      items_to _ _ _ _ _ _ said.no_item = λ first s e. record { made = refl; added = nothing_added s }
      items_to _ _ _ _ _ _ (said.declared {c = c} {in_loop = in_loop} {i = i} {ss = ss} {d = d} {ds = ds} {e = z} {xs = xs} {ps = ps} {qs = qs}
          {os = os} {us = us} h m) =
          λ first s e.
          let r = around w in_loop first in
          let g = declared_to c in_loop first s ss d ds z i ps os e h in
          let next = after_declaration c r (t.declaration ss d ds z) s in
          let n = items_to c in_loop (declaring os i) xs qs us m first next (g.1.known ∙ ap (declaring os) e) in
          record {
            made = g.0 (items_of c r xs next) ∙ ap (option_map (followed_by ps)) n.made;
            added = added_then os us s next (after_items c r xs next) g.1.added n.added;
          }
      items_to _ _ _ _ _ _ (said.stated {c = c} {in_loop = in_loop} {i = i} {x = x} {xs = xs} {p = p} {qs = qs} {os = os} {us = us} h m) =
          λ first s e.
          let r = around w in_loop first in
          let next = after c r x s in
          let g = placed_to c in_loop i x p os h first s e in
          let n = items_to c in_loop (beyond (length os) i) xs qs us m first next (beyond_at c r x s os i e g.added) in
          record {
            made =
                ap (λ z. followed z (items_of c r xs next)) g.made
                ∙ ap (λ z. followed (Some p) z) n.made;
            added = added_then os us s next (after_items c r xs next) g.added n.added;
          }

    -- ---- from the walk to what is said

    abbrev SaidOf : (c : Context) (in_loop : Bool) (first : ℕ) (x : t.Statement) (s : Scope) (kind : PlainKind) → Type 0
    SaidOf c in_loop first x s kind =
        (os : List PlainObject) × Says w c in_loop (inside_of s) x kind os × AreAdded os s (after c (around w in_loop first) x s)

    abbrev PlacedOf : (c : Context) (in_loop : Bool) (first : ℕ) (x : t.Statement) (s : Scope) (p : PlainStmt) → Type 0
    PlacedOf c in_loop first x s p =
        (os : List PlainObject) × IsStatement w c in_loop (inside_of s) x p os × AreAdded os s (after c (around w in_loop first) x s)

    abbrev ItemsOf : (c : Context) (in_loop : Bool) (first : ℕ) (xs : t.Items) (s : Scope) (ps : PlainStmts) → Type 0
    ItemsOf c in_loop first xs s ps =
        (os : List PlainObject) × AreItems w c in_loop (inside_of s) xs ps os
        × AreAdded os s (after_items c (around w in_loop first) xs s)

    -- a statement at its first token
    placed_by : (c : Context) (in_loop : Bool) (first : ℕ) (x : t.Statement) (s : Scope) (p : PlainStmt)
        → ((kind : PlainKind) → kind_of c (around w in_loop first) x s ≡ Some kind → SaidOf c in_loop first x s kind)
        → stated (around w in_loop first) x (kind_of c (around w in_loop first) x s) ≡ Some p → PlacedOf c in_loop first x s p
    placed_by c in_loop first x s p is q =
        let g = mapped (statement w.unit (first_statement x)) (kind_of c (around w in_loop first) x s) p q in
        let h = is g.0 g.1 in
        (h.0, subst (λ (z : PlainStmt). IsStatement w c in_loop (inside_of s) x z h.0) g.2 (at_first h.1), h.2)

    follows : (x : Option PlainStmt) (rest : Option PlainStmts) (qs : PlainStmts) → followed x rest ≡ Some qs
        → (y : PlainStmt) × (ys : PlainStmts) × (x ≡ Some y) × (rest ≡ Some ys) × (next_stmt y ys ≡ qs)
    follows None rest qs q = absurd (nothing_there qs q)
    follows (Some y) None qs q = absurd (nothing_there qs q)
    follows (Some y) (Some ys) qs q = (y, ys, refl, refl, inside q)

    branches_given : (x : Option PlainExpr) (a b : Option PlainStmt) (kind : PlainKind) → branches x a b ≡ Some kind
        → (v : PlainExpr) × (p : PlainStmt) × (q : PlainStmt) × (x ≡ Some v) × (a ≡ Some p) × (b ≡ Some q) × (branch v p (a_stmt q) ≡ kind)
    branches_given None a b kind q = absurd (nothing_there kind q)
    branches_given (Some v) None b kind q = absurd (nothing_there kind q)
    branches_given (Some v) (Some p) None kind q = absurd (nothing_there kind q)
    branches_given (Some v) (Some p) (Some u) kind q = (v, p, u, refl, refl, refl, inside q)

    to_declared : (c : Context) (in_loop : Bool) (first : ℕ) (s : Scope) (ss : t.Specs) (d : t.InitDeclarator)
        (ds : List t.NextInitDeclarator) (e : Spot) (rest : Option PlainStmts) (qs : PlainStmts)
        → declaration_before c (around w in_loop first) (t.declaration ss d ds e) s rest ≡ Some qs
        → (ps : List PlainStmt) × (os : List PlainObject) × AreLocals w c ss (inside_of s) (d ∷ others ds) ps os
        × Behind os s (after_declaration c (around w in_loop first) (t.declaration ss d ds e) s) (declaring os (inside_of s))
        × (option_map (followed_by ps) rest ≡ Some qs)
    unfolding declaration_before after_declaration
    to_declared c in_loop first s ss d ds e rest qs q =
        let h = to_locals laws.locals w c in_loop first ss (t.next_init_declarator e d ∷ ds) s rest qs q in
        (h.0, h.1, h.2, h.3.behind, sym (h.3.stated rest) ∙ q)

    mutual
      kind_is : (x : t.Statement) (c : Context) (in_loop : Bool) (first : ℕ) (s : Scope) (kind : PlainKind)
          → kind_of c (around w in_loop first) x s ≡ Some kind → SaidOf c in_loop first x s kind
      kind_is (t.block (t.compound l ps xs e)) c in_loop first s kind q =
          let inner = length s.names.inside in
          let g = mapped block (items_of (under ps c) (around w in_loop inner) xs s) kind q in
          let h = items_is xs (under ps c) in_loop inner s g.0 g.1 in
          (h.0, subst (λ (z : PlainKind). Says w c in_loop (inside_of s) (t.block (t.compound l ps xs e)) z h.0) g.2 (said.compounded h.1), h.2)
      kind_is (t.simple None e) c in_loop first s kind q = (
        [],
        subst (λ (z : PlainKind). Says w c in_loop (inside_of s) (t.simple None e) z [])
            (inside (sym (nothing_evaluated c s.names) ∙ q)) said.nothing_said,
        nothing_added s,
      )
      kind_is (t.simple (Some x) e) c in_loop first s kind q =
          let g = mapped evaluate (evaluated c s.names x) kind (sym (one_evaluated c s.names x) ∙ q) in (
            [],
            subst (λ (z : PlainKind). Says w c in_loop (inside_of s) (t.simple (Some x) e) z []) g.2
                (said.expressed (to_evaluates laws.values c s.names x g.0 g.1)),
            nothing_added s,
          )
      kind_is (t.if_then at (t.condition l x e) a) c in_loop first s kind q =
          let r = around w in_loop first in
          let g = both_given (tested c s.names x) (stated r a (kind_of c r a s)) (λ v p. Some (branch v p no_stmt)) kind q in
          let h = placed_by c in_loop first a s g.1 (λ kind q. kind_is a c in_loop first s kind q) g.3 in (
            h.0,
            subst (λ (z : PlainKind). Says w c in_loop (inside_of s) (t.if_then at (t.condition l x e) a) z h.0) (inside g.4)
                (said.selected (to_tests laws.values c s.names x g.0 g.2) h.1),
            h.2,
          )
      kind_is (t.if_else at (t.condition l x e) a word b) c in_loop first s kind q =
          let r = around w in_loop first in
          let next = after c r a s in
          let g = branches_given (tested c s.names x) (stated r a (kind_of c r a s)) (stated r b (kind_of c r b next)) kind q in
          let h = placed_by c in_loop first a s g.1 (λ kind q. kind_is a c in_loop first s kind q) g.4 in
          let m = placed_by c in_loop first b next g.2 (λ kind q. kind_is b c in_loop first next kind q) g.5 in (
            h.0 ++ m.0,
            subst (λ (z : PlainKind). Says w c in_loop (inside_of s) (t.if_else at (t.condition l x e) a word b) z (h.0 ++ m.0)) g.6
                (said.chosen (to_tests laws.values c s.names x g.0 g.3) h.1
                (subst (λ (z : Inside). IsStatement w c in_loop z b g.2 m.0) (stated_behind c r a s h.0 h.2) m.1)),
            added_then h.0 m.0 s next (after c r b next) h.2 m.2,
          )
      kind_is (t.while_loop at (t.condition l x e) a) c in_loop first s kind q =
          let r = around w true first in
          let g = both_given (tested c s.names x) (stated r a (kind_of c r a s)) (λ v p. Some (while_loop v p)) kind q in
          let h = placed_by c true first a s g.1 (λ kind q. kind_is a c true first s kind q) g.3 in (
            h.0,
            subst (λ (z : PlainKind). Says w c in_loop (inside_of s) (t.while_loop at (t.condition l x e) a) z h.0) (inside g.4)
                (said.while_true (to_tests laws.values c s.names x g.0 g.2) h.1),
            h.2,
          )
      kind_is (t.do_loop at a word (t.condition l x e) y) c in_loop first s kind q =
          let r = around w true first in
          let next = after c r a s in
          let g = both_given (stated r a (kind_of c r a s)) (tested c next.names x) (λ p v. Some (do_loop p v)) kind q in
          let h = placed_by c true first a s g.0 (λ kind q. kind_is a c true first s kind q) g.2 in
          let test = to_tests laws.values c next.names x g.1 g.3 in (
            h.0,
            subst (λ (z : PlainKind). Says w c in_loop (inside_of s) (t.do_loop at a word (t.condition l x e) y) z h.0) (inside g.4)
                (said.done_while h.1 (subst (λ (z : Names). Tests (known_in c z) x g.1) (stays c r a s) test)),
            h.2,
          )
      kind_is (t.for_loop at (t.heading l f x semicolon y e) a) c in_loop first s kind q =
          let inner = length s.names.inside in
          let r = around w true inner in
          let next = after_heading c (around w in_loop inner) (t.heading l f x semicolon y e) s in
          let g = both_given (for_heading c (around w in_loop inner) (t.heading l f x semicolon y e) s) (stated r a (kind_of c r a next))
          (λ h p. Some (for_loop h.first h.condition h.last p)) kind q in
          let h = to_heading c in_loop inner s l semicolon e f x y g.0 g.2 in
          let m = placed_by c true inner a next g.1 (λ kind q. kind_is a c true inner next kind q) g.3 in (
            h.os ++ m.0,
            subst (λ (z : PlainKind). Says w c in_loop (inside_of s) (t.for_loop at (t.heading l f x semicolon y e) a) z (h.os ++ m.0))
                (inside g.4)
                (said.repeated h.begins h.test h.last_part
                (subst (λ (z : Inside). IsStatement w c true z a g.1 m.0) h.behind.known m.1)),
            added_then h.os m.0 s next (after c r a next) h.behind.added m.2,
          )
      kind_is (t.break_loop at e) c true first s kind q =
          ([], subst (λ (z : PlainKind). Says w c true (inside_of s) (t.break_loop at e) z []) (inside q) said.broken_off, nothing_added s)
      kind_is (t.break_loop at e) c false first s kind q = absurd (nothing_there kind q)
      kind_is (t.continue_loop at e) c true first s kind q =
          ([], subst (λ (z : PlainKind). Says w c true (inside_of s) (t.continue_loop at e) z []) (inside q) said.continued, nothing_added s)
      kind_is (t.continue_loop at e) c false first s kind q = absurd (nothing_there kind q)
      kind_is (t.return_value at None e) c in_loop first s kind q =
          let g = to_nothing_returned laws.values c s.names w in_loop first kind q in (
            [],
            subst (λ (z : PlainKind). Says w c in_loop (inside_of s) (t.return_value at None e) z []) g.1 (said.returned g.0),
            nothing_added s,
          )
      kind_is (t.return_value at (Some x) e) c in_loop first s kind q =
          let g = to_returned laws.values c s.names w in_loop first x kind q in (
            [],
            subst (λ (z : PlainKind). Says w c in_loop (inside_of s) (t.return_value at (Some x) e) z []) g.5
                (said.value_returned g.2 g.3 g.4),
            nothing_added s,
          )

      items_is : (xs : t.Items) (c : Context) (in_loop : Bool) (first : ℕ) (s : Scope) (ps : PlainStmts)
          → items_of c (around w in_loop first) xs s ≡ Some ps → ItemsOf c in_loop first xs s ps
      items_is t.no_items c in_loop first s ps q =
          ([], subst (λ (z : PlainStmts). AreItems w c in_loop (inside_of s) t.no_items z []) (inside q) said.no_item, nothing_added s)
      items_is (t.items (t.declared (t.declaration ss d ds e)) xs) c in_loop first s ps q =
          let r = around w in_loop first in
          let next = after_declaration c r (t.declaration ss d ds e) s in
          let g = to_declared c in_loop first s ss d ds e (items_of c r xs next) ps q in
          let f = mapped (followed_by g.0) (items_of c r xs next) ps g.4 in
          let h = items_is xs c in_loop first next f.0 f.1 in (
            g.1 ++ h.0,
            subst (λ (z : PlainStmts). AreItems w c in_loop (inside_of s) (t.items (t.declared (t.declaration ss d ds e)) xs) z (g.1 ++ h.0))
                f.2 (said.declared g.2 (subst (λ (z : Inside). AreItems w c in_loop z xs f.0 h.0) g.3.known h.1)),
            added_then g.1 h.0 s next (after_items c r xs next) g.3.added h.2,
          )
      items_is (t.items (t.stated x) xs) c in_loop first s ps q =
          let r = around w in_loop first in
          let next = after c r x s in
          let g = follows (stated r x (kind_of c r x s)) (items_of c r xs next) ps q in
          let h = placed_by c in_loop first x s g.0 (λ kind q. kind_is x c in_loop first s kind q) g.2 in
          let m = items_is xs c in_loop first next g.1 g.3 in (
            h.0 ++ m.0,
            subst (λ (z : PlainStmts). AreItems w c in_loop (inside_of s) (t.items (t.stated x) xs) z (h.0 ++ m.0)) g.4
                (said.stated h.1 (subst (λ (z : Inside). AreItems w c in_loop z xs g.1 m.0) (stated_behind c r x s h.0 h.2) m.1)),
            added_then h.0 m.0 s next (after_items c r xs next) h.2 m.2,
          )

    -- ---- bodies

    same_added : (s next : Scope) (os us : List PlainObject) → AreAdded os s next → AreAdded us s next → us ≡ os
    same_added s next os us h g = append_cancel_left s.objects us os (sym g ∙ h)

    body_to : (c : Context) (first : ℕ) (b : t.Compound) (s : Scope) (body : PlainStmt) (os : List PlainObject)
        → IsBody w c (inside_of s) b body os
        → (body_of c (around w false first) b s ≡ Some body) × AreAdded os s (after_body c (around w false first) b s)
    unfolding body_of after_body
    body_to c first _ s _ os (said.a_body {l = l} {ps = ps} {xs = xs} {ss = ss} h) =
        let g = items_to (under ps c) false (inside_of s) xs ss os h first s refl in
        (ap (λ z. option_map (statement w.unit l.index) (option_map block z)) g.made, g.added)

    body_there : (c : Context) (first : ℕ) (b : t.Compound) (s : Scope) (body : PlainStmt)
        → body_of c (around w false first) b s ≡ Some body → (os : List PlainObject) × IsBody w c (inside_of s) b body os
    unfolding body_of
    body_there c first (t.compound l ps xs e) s body q =
        let r = around w false first in
        let g = mapped (statement w.unit l.index) (option_map block (items_of (under ps c) r xs s)) body q in
        let f = mapped block (items_of (under ps c) r xs s) g.0 g.1 in
        let h = items_is xs (under ps c) false first s f.0 f.1 in (
          h.0,
          subst (λ (z : PlainStmt). IsBody w c (inside_of s) (t.compound l ps xs e) z h.0) (ap (statement w.unit l.index) f.2 ∙ g.2)
              (said.a_body h.1),
        )

    to_body : (c : Context) (first : ℕ) (b : t.Compound) (s : Scope) (body : PlainStmt) (os : List PlainObject)
        → body_of c (around w false first) b s ≡ Some body → AreAdded os s (after_body c (around w false first) b s)
        → IsBody w c (inside_of s) b body os
    to_body c first b s body os q added =
        let g = body_there c first b s body q in
        subst (λ (z : List PlainObject). IsBody w c (inside_of s) b body z)
        (same_added s (after_body c (around w false first) b s) os g.0 added (body_to c first b s body g.0 g.1).1) g.1

    said_both : (c : Context) (in_loop : Bool) (first : ℕ) (x : t.Statement) (s : Scope) (kind : PlainKind) (os : List PlainObject)
        → Says w c in_loop (inside_of s) x kind os
        ↔ ((kind_of c (around w in_loop first) x s ≡ Some kind) × AreAdded os s (after c (around w in_loop first) x s))
    said_both c in_loop first x s kind os = (there, λ h. back h.0 h.1)
      where
        there : Says w c in_loop (inside_of s) x kind os
            → (kind_of c (around w in_loop first) x s ≡ Some kind) × AreAdded os s (after c (around w in_loop first) x s)
        there h = let g = says_to c in_loop (inside_of s) x kind os h first s refl in (g.made, g.added)

        back : kind_of c (around w in_loop first) x s ≡ Some kind → AreAdded os s (after c (around w in_loop first) x s)
            → Says w c in_loop (inside_of s) x kind os
        back q added =
            let g = kind_is x c in_loop first s kind q in
            subst (λ (z : List PlainObject). Says w c in_loop (inside_of s) x kind z)
            (same_added s (after c (around w in_loop first) x s) os g.0 added g.2) g.1

pub statements_are_said : StatementLaws → StatementsAreSaid
statements_are_said laws = record {
  statements = λ w c in_loop first x s kind os. said_both laws w c in_loop first x s kind os;
  kinds = λ w c in_loop first x s kind q. let g = kind_is laws w x c in_loop first s kind q in (g.0, g.1);
  given = λ w c first b s body q. body_there laws w c first b s body q;
  bodies = λ w c first b s body os. (body_to laws w c first b s body os, λ h. to_body laws w c first b s body os h.0 h.1);
}
