-- A body with a return among its statements is not left at its end, and no body by a break or a continue.
use Rattle.std.proofs.Common.{◌≡◌, ℕ, zero, suc, ◌+◌, Bool, true, false, not, List, [], ◌∷◌, Option, Some, None, refl}
use Rattle.std.specs.Prelude.{⊤}
use Rattle.std.proofs.lemmas.Bool.{false≢true}
use Rattle.ec_core.specs.Accesses.{begun, initialised}
use Rattle.ec_core.specs.Expressions.{Calls, value_of}
use Rattle.ec_core.specs.Plain.{PlainExpr, PlainExprs, last_expr, next_expr, PlainStmt, statement, PlainKind, empty, evaluate, block, declare}
use Rattle.ec_core.specs.Plain.{branch, while_loop, do_loop, for_loop, break_loop, continue_loop, return_value, OptionPlainStmt, no_stmt}
use Rattle.ec_core.specs.Plain.{a_stmt, PlainStmts, last_stmt, next_stmt, PlainType, PlainProgram}
use Rattle.ec_core.specs.State.{Setting, State, worked, Outcome, got, more, undefined, next, choose}
use Rattle.ec_core.specs.Statements.{Exit, at_end, by_break, by_continue, by_return, in_order, again, tested, turns, declared, declared_first}
use Rattle.ec_core.specs.Statements.{ending, test_of, going_on, evaluated, returned, initialising, effect_of, kind_effect, option_effect}
use Rattle.ec_core.specs.Statements.{first_effect, effects_of}
use Rattle.ec_core.specs.Valid.{ValidStmt, ValidKind, ValidOptionStmt, ValidStmts}
use Rattle.ec_core.specs.Words.{leaf_words, loop_words, branch_words, return_of}
use Rattle.ec_iohw.specs.declared.table.IoTable.{IoTable}
use Rattle.ec_ir.specs.Operations.{return_from}
use Rattle.ec_lower_code.specs.Code.{have_return, body_returns, end_of}

-- a part is left by a return, and at its end only where it may come to it
abbrev pub EndsBy : (may_end : Bool) → Outcome Exit → Type 0
EndsBy may (got at_end s) = may ≡ true
EndsBy may (got by_break s) = ⊥
EndsBy may (got by_continue s) = ⊥
EndsBy may (got (by_return v) s) = ⊤
EndsBy may (more s) = ⊤
EndsBy may (undefined point s) = ⊤

-- ---- parts one after another

ends_next : {A : Type 0} (may : Bool) (o : Outcome A) (go : A → State → Outcome Exit) → ((x : A) (s : State) → EndsBy may (go x s))
    → EndsBy may (next o go)
ends_next may (got x s) go h = h x s
ends_next may (more s) go h = tt
ends_next may (undefined point s) go h = tt

ends_then : (may : Bool) (o : Outcome Exit) (go : State → Outcome Exit) → EndsBy true o → ((s : State) → EndsBy may (go s))
    → EndsBy may (next o (λ x s. in_order x s go))
ends_then may (got at_end s) go h k = k s
ends_then may (got by_break s) go h k = absurd h
ends_then may (got by_continue s) go h k = absurd h
ends_then may (got (by_return v) s) go h k = tt
ends_then may (more s) go h k = tt
ends_then may (undefined point s) go h k = tt

ends_first : (o : Outcome Exit) (go : State → Outcome Exit) → EndsBy false o → EndsBy false (next o (λ x s. in_order x s go))
ends_first (got at_end s) go h = absurd (false≢true h)
ends_first (got by_break s) go h = absurd h
ends_first (got by_continue s) go h = absurd h
ends_first (got (by_return v) s) go h = tt
ends_first (more s) go h = tt
ends_first (undefined point s) go h = tt

ends_ending : (may : Bool) (os : List ℕ) (o : Outcome Exit) → EndsBy may o → EndsBy may (ending os o)
ends_ending may os (got at_end s) h = h
ends_ending may os (got by_break s) h = h
ends_ending may os (got by_continue s) h = h
ends_ending may os (got (by_return v) s) h = tt
ends_ending may os (more s) h = tt
ends_ending may os (undefined point s) h = tt

ends_tested : (o : Outcome Bool) (go : State → Outcome Exit) → ((s : State) → EndsBy true (go s)) → EndsBy true (tested o go)
ends_tested (got true s) go h = h s
ends_tested (got false s) go h = refl
ends_tested (more s) go h = tt
ends_tested (undefined point s) go h = tt

ends_again : (o : Outcome Exit) (go : State → Outcome Exit) → ((s : State) → EndsBy true (go s))
    → EndsBy true (next o (λ x s. again x s go))
ends_again (got at_end s) go h = h s
ends_again (got by_break s) go h = refl
ends_again (got by_continue s) go h = h s
ends_again (got (by_return v) s) go h = tt
ends_again (more s) go h = tt
ends_again (undefined point s) go h = tt

-- a loop is left at its end or by a return
ends_turns : (n : ℕ) (body : State → Outcome Exit) (test : State → Outcome Bool) (s : State) → EndsBy true (turns n body test s)
ends_turns zero body test s = tt
ends_turns (suc n) body test s =
    ends_again (body (worked loop_words s)) (λ s2. tested (test s2) (λ s3. turns n body test s3))
    (λ s2. ends_tested (test s2) (λ s3. turns n body test s3) (λ s3. ends_turns n body test s3))

ends_choose : (may b : Bool) (f g : State → Outcome Exit) (s : State) → ((t : State) → EndsBy may (f t)) → ((t : State) → EndsBy may (g t))
    → EndsBy may (choose b f g s)
ends_choose may true f g s h k = h s
ends_choose may false f g s h k = k s

-- ---- statements

module _ (w : Setting) (calls : Calls) (n : ℕ) (program : PlainProgram) (table : IoTable) (f : ℕ) (returns : PlainType) where
  values_end : (o k : ℕ) (es : PlainExprs) (s : State) → EndsBy true (initialising w calls o k es s)
  values_end o k last_expr s = refl
  values_end o k (next_expr e es) s =
      ends_next true (value_of w calls e (worked (leaf_words e) s)) _
      (λ x s1. ends_next true (initialised w.program o k x s1) _ (λ y s2. values_end o (k + 1) es s2))

  value_ends : (e : Option PlainExpr) (s : State) → EndsBy true (evaluated w calls e s)
  value_ends None s = refl
  value_ends (Some e) s = ends_next true (value_of w calls e s) _ (λ x s1. refl)

  return_ends : (may : Bool) (e : Option PlainExpr) (s : State) → EndsBy may (returned w calls e s)
  return_ends may None s = tt
  return_ends may (Some e) s = ends_next may (value_of w calls e s) _ (λ x s1. tt)

  mutual
    stmt_ends : (a : PlainStmt) (s : State) → ValidStmt program table f returns false a → EndsBy true (effect_of w calls n a s)
    stmt_ends (statement unit at kind) s v = kind_ends kind s v

    kind_ends : (kind : PlainKind) (s : State) → ValidKind program table f returns false kind → EndsBy true (kind_effect w calls n kind s)
    kind_ends empty s v = refl
    kind_ends (evaluate e) s v = value_ends (Some e) s
    kind_ends (block ss) s v = ends_ending true (declared ss) (effects_of w calls n ss s) (stmts_end ss s v)
    kind_ends (declare o es) s v = values_end o 0 es (begun w.program o s)
    kind_ends (branch c a b) s v =
        ends_next true (test_of w calls (Some c) (worked branch_words s)) _
        (λ h s1. ends_choose true h (λ s2. effect_of w calls n a s2) (λ s2. option_effect w calls n b s2) s1 (λ t. stmt_ends a t v.1)
        (λ t. option_ends b t v.2))
    kind_ends (while_loop c a) s v =
        ends_tested (test_of w calls (Some c) s) _
        (λ s1. ends_turns n (λ s2. effect_of w calls n a s2) (λ s2. test_of w calls (Some c) s2) s1)
    kind_ends (do_loop a c) s v = ends_turns n (λ s1. effect_of w calls n a s1) (λ s1. test_of w calls (Some c) s1) s
    kind_ends (for_loop first c last a) s v =
        ends_ending true (declared_first first) _
        (ends_then true (first_effect w calls n first s) _ (first_ends first s v.0) (λ s2. ends_tested (test_of w calls c s2) _
        (λ s3. ends_turns n (λ s4. effect_of w calls n a s4) (λ s4. going_on w calls last c s4) s3)))
    kind_ends break_loop s v = absurd (false≢true v)
    kind_ends continue_loop s v = absurd (false≢true v)
    kind_ends (return_value e) s v = return_ends true e (worked (return_of e) s)

    option_ends : (a : OptionPlainStmt) (s : State) → ValidOptionStmt program table f returns false a
        → EndsBy true (option_effect w calls n a s)
    option_ends no_stmt s v = refl
    option_ends (a_stmt a) s v = stmt_ends a s v

    first_ends : (a : OptionPlainStmt) (s : State) → ValidOptionStmt program table f returns false a
        → EndsBy true (first_effect w calls n a s)
    first_ends no_stmt s v = refl
    first_ends (a_stmt (statement unit at (block ss))) s v = stmts_end ss s v
    first_ends (a_stmt a) s v = stmt_ends a s v

    stmts_end : (ss : PlainStmts) (s : State) → ValidStmts program table f returns false ss → EndsBy true (effects_of w calls n ss s)
    stmts_end last_stmt s v = refl
    stmts_end (next_stmt a ss) s v = ends_then true (effect_of w calls n a s) _ (stmt_ends a s v.0) (λ s2. stmts_end ss s2 v.1)

  -- no statement behind a return is come to
  returns_end : (ss : PlainStmts) (s : State) → ValidStmts program table f returns false ss
      → EndsBy (not (have_return ss)) (effects_of w calls n ss s)
  returns_end last_stmt s v = refl
  returns_end (next_stmt (statement unit at (return_value e)) ss) s v =
      ends_first (returned w calls e (worked (return_of e) s)) _ (return_ends false e (worked (return_of e) s))
  returns_end (next_stmt (statement unit at kind) ss) s v =
      ends_then (not (have_return ss)) (kind_effect w calls n kind s) _ (kind_ends kind s v.0) (λ s2. returns_end ss s2 v.1)

  pub body_ends : (a : PlainStmt) (s : State) → ValidStmt program table f returns false a
      → EndsBy (not (body_returns a)) (effect_of w calls n a s)
  body_ends (statement unit at (block ss)) s v =
      ends_ending (not (have_return ss)) (declared ss) (effects_of w calls n ss s) (returns_end ss s v)
  body_ends (statement unit at kind) s v = kind_ends kind s v

-- ---- the end of a body

-- where a body may come to its end
pub end_is : (returns : Bool) → not returns ≡ true → end_of returns ≡ return_from None ∷ []
end_is true e = absurd (false≢true e)
end_is false e = refl
