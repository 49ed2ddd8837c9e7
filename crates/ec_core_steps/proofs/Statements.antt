-- Statements of a function do no more work than their text tells, and no counted loop is out of turns.
use Rattle.std.proofs.Common.{◌≡◌, ◌≤◌, ℕ, zero, suc, ◌+◌, ◌*◌, max, Bool, true, false, not, ◌&&◌, ◌||◌, List, Option, Some, None}
use Rattle.std.proofs.Common.{refl, sym, subst, ap, ◌∙◌, arith, ℤ, pos, ◌+ℤ◌, unsigned_abs, eqb-true, inl, inr}
use Rattle.std.specs.Prelude.{◌==◌, ◌⊎◌, if◌then◌else◌, slice_get, int_lt, IsSomeAnd, unwrap_or}
use Rattle.std.specs.List.{AllByRecursion}
use Rattle.std.proofs.lemmas.Bool.{eqb-false}
use Rattle.ec_iohw.specs.declared.table.IoTable.{IoTable}
use Rattle.ec_core.specs.declared.values.Value.{Value}
use Rattle.ec_core.specs.Accesses.{begun}
use Rattle.ec_core.specs.Expressions.{Calls, value_of}
use Rattle.ec_core.specs.Needs.{expr_calls, exprs_calls, optional_calls, stmt_calls, kind_calls, option_stmt_calls, stmts_calls}
use Rattle.ec_core.specs.Operators.{same_type}
use Rattle.ec_core.specs.Plain.{PlainType, PlainExpr, PlainExprs, last_expr, next_expr, PlainStmt, statement, PlainKind, empty, evaluate}
use Rattle.ec_core.specs.Plain.{block}
use Rattle.ec_core.specs.Plain.{declare, branch, while_loop, do_loop, for_loop, break_loop, continue_loop, return_value, OptionPlainStmt}
use Rattle.ec_core.specs.Plain.{no_stmt}
use Rattle.ec_core.specs.Plain.{a_stmt, PlainStmts, last_stmt, next_stmt, PlainStorage, static, local, param, register, PlainObject}
use Rattle.ec_core.specs.Plain.{PlainProgram}
use Rattle.ec_core.specs.PortTable.{plain_table}
use Rattle.ec_core.specs.State.{Inputs, Setting, State, worked, Outcome, got, more, undefined, next, choose}
use Rattle.ec_core.specs.Statements.{Exit, at_end, by_break, by_continue, by_return, in_order, again, tested, turns as turns_made, declared}
use Rattle.ec_core.specs.Statements.{declared_first, ending, test_of, evaluated, going_on, returned, initialising, effect_of, kind_effect}
use Rattle.ec_core.specs.Statements.{option_effect, first_effect, effects_of}
use Rattle.ec_core.specs.Typing.{int}
use Rattle.ec_core.specs.Valid.{ValidExpr, ValidExprs, ValidOptional, ValidCondition, IsDeclared, ValidStmt, ValidKind, ValidOptionStmt}
use Rattle.ec_core.specs.Valid.{ValidStmts}
use Rattle.ec_core.specs.Words.{branch_words, loop_words, jump_words, return_of, leaf_words}
use Rattle.ec_core.proofs.Growth.{some_if, some_then, and_true}
use Rattle.ec_core.proofs.Sameness.{type_true}
use Rattle.ec_core.proofs.TypedValues.{some_and}
use Rattle.ec_check_constants.specs.Laws.{RunsGiveConstants, TestsTellConstants}
use Rattle.ec_core_steps.specs.declared.touches.Touch.{Touch}
use Rattle.ec_core_steps.specs.declared.touches.Touch.TheVariants.{Address, Change}
use Rattle.ec_core_steps.specs.Touches.{touches, exprs_touch, optional_touches, stmt_touches, kind_touches, option_stmt_touches}
use Rattle.ec_core_steps.specs.Touches.{stmts_touch}
use Rattle.ec_core_steps.specs.declared.counted.Operands.{Operands}
use Rattle.ec_core_steps.specs.declared.counted.Update.{Update}
use Rattle.ec_core_steps.specs.Counted.{distance, steps_in, turns, last_tested, is_int, leads_to, int_constant}
use Rattle.ec_core_steps.specs.Counted.{condition_of, update_of, declared_with, declared_among, start_of, is_local_of}
use Rattle.ec_core_steps.specs.Counted.{is_int_local, is_counter, turns_of}
use Rattle.ec_core_steps.specs.Work.{expr_most, optional_most, leaves_most, loop_most, stmt_most, kind_most, option_stmt_most, stmts_most}
use Rattle.ec_core_steps.specs.declared.uncounted.Site.{Site}
use Rattle.ec_core_steps.specs.Laws.{first_site, unless_counted, uncounted, kind_uncounted, option_uncounted, stmts_uncounted}
use Rattle.ec_core_steps.proofs.Relation.{or_left, or_right, IsFree, IsValue, IsWell, Holds, after, bind_in, bind, worked_sound}
use Rattle.ec_core_steps.proofs.Relation.{here, began, within, both, weaker, choosing}
use Rattle.ec_core_steps.proofs.Exits.{IsExit as IsExitIn}
use Rattle.ec_core_steps.proofs.Accesses.{IsVal, initialised_holds, begun_sound, all_ended_sound}
use Rattle.ec_core_steps.proofs.Expressions.{IsAny, w, condition_holds, Outer, Spared, May, expr_holds}
use Rattle.ec_core_steps.proofs.Tails.{expr_tail, optional_tail, stmt_tail, option_stmt_tail}
use Rattle.ec_core_steps.proofs.Turns.{next_steps, some_steps, few_steps, distance_on, some_step, IsInt, int_of, int_on, near}
use Rattle.ec_core_steps.proofs.Counters.{Gives, At, at_kept, test_is, update_is, assigned_is, initialiser_is}

-- ---- what is counted

none_first : (x y : Option Site) → first_site x y ≡ None → x ≡ None
none_first None y e = refl
none_first (Some x) None e = cc
none_first (Some x) (Some y) e = cc

none_second : (x y : Option Site) → first_site x y ≡ None → y ≡ None
none_second None y e = e
none_second (Some x) None e = cc
none_second (Some x) (Some y) e = cc

not_true : (b : Bool) → not b ≡ true → b ≡ false
not_true true e = cc
not_true false e = refl

false_or : (b : Bool) → b ≡ false → (b || false) ≡ false
false_or true e = cc
false_or false e = refl

break_is_no_end : by_break ≡ at_end → ⊥
break_is_no_end e = cc

continue_is_no_end : by_continue ≡ at_end → ⊥
continue_is_no_end e = cc

return_is_no_end : (v : Option Value) → by_return v ≡ at_end → ⊥
return_is_no_end v e = cc

record IsCounterOf (p : PlainProgram) (f : ℕ) (whole : PlainStmt) (i : ℕ) (c : Option PlainExpr) (body : PlainStmt) : Type 0 where
  object : PlainObject
  is_object : slice_get p.objects i ≡ Some object
  int_is : object.ty ≡ int
  is_local : object.storage ≡ local f
  unaddressed : stmt_touches Address i whole ≡ false
  condition : optional_touches Change i c ≡ false
  spared : stmt_touches Change i body ≡ false

local_is : (f : ℕ) (storage : PlainStorage) → is_local_of f storage ≡ true → storage ≡ local f
local_is f (static inits) e = cc
local_is f (local g) e = ap (λ z. local z) (eqb-true g f e)
local_is f (param g) e = cc
local_is f (register r) e = cc

counter_of : (p : PlainProgram) (f : ℕ) (whole : PlainStmt) (i : ℕ) (c : Option PlainExpr) (body : PlainStmt)
    → is_counter p f whole i c body ≡ true → IsCounterOf p f whole i c body
counter_of p f whole i c body e =
    let a = and_true _ (not (stmt_touches Change i body)) e in
    let b = and_true _ (not (optional_touches Change i c)) a.0 in
    let d = and_true (is_int_local f (slice_get p.objects i)) _ b.0 in
    by_object (slice_get p.objects i) refl d.0 (not_true _ d.1) (not_true _ b.1) (not_true _ a.1)
  where
    by_object : (o : Option PlainObject) → slice_get p.objects i ≡ o → is_int_local f o ≡ true → stmt_touches Address i whole ≡ false
        → optional_touches Change i c ≡ false → stmt_touches Change i body ≡ false → IsCounterOf p f whole i c body
    by_object None is e2 h k l = cc
    by_object (Some x) is e2 h k l =
        let g = and_true (same_type x.ty int) (is_local_of f x.storage) e2 in
        record {
          object = x;
          is_object = is;
          int_is = type_true x.ty int g.0;
          is_local = local_is f x.storage g.1;
          unaddressed = h;
          condition = k;
          spared = l;
        }

record IsCounted (p : PlainProgram) (f : ℕ) (whole : PlainStmt) (first : OptionPlainStmt) (c last : Option PlainExpr) (body : PlainStmt)
    (count : ℕ) : Type 0 where
  cond : Operands
  cond_is : condition_of c ≡ Some cond
  update : Update
  up_is : update_of last ≡ Some update
  start : PlainExpr
  start_is : start_of cond.object first ≡ Some start
  value : ℤ
  value_is : int_constant start ≡ Some value
  counter : IsCounterOf p f whole cond.object c body
  own : update.object ≡ cond.object
  leads : leads_to cond.op update.by ≡ true
  low : IsInt value
  high : IsInt (last_tested cond.op cond.value update.by)
  turns_are : turns cond.op value cond.value (unsigned_abs update.by) ≡ count

is_counted : (p : PlainProgram) (f : ℕ) (whole : PlainStmt) (first : OptionPlainStmt) (c last : Option PlainExpr) (body : PlainStmt) (n : ℕ)
    → turns_of p f whole first c last body ≡ Some n → IsCounted p f whole first c last body n
is_counted p f whole first c last body n e =
    let cond = some_then (condition_of c) _ n e in
    let up = some_then (update_of last) _ n cond.2 in
    let start = some_then (start_of cond.0.object first) _ n up.2 in
    let value = some_then (int_constant start.0) _ n start.2 in
    let counter = some_if (is_counter p f whole cond.0.object c body) _ n value.2 in
    let t = some_if (up.0.object == cond.0.object && leads_to cond.0.op up.0.by && is_int value.0
    && is_int (last_tested cond.0.op cond.0.value up.0.by)) _ n counter.1 in
    let a = and_true _ (is_int (last_tested cond.0.op cond.0.value up.0.by)) t.0 in
    let b = and_true _ (is_int value.0) a.0 in
    let d = and_true (up.0.object == cond.0.object) (leads_to cond.0.op up.0.by) b.0 in
    record {
      cond = cond.0;
      cond_is = cond.1;
      update = up.0;
      up_is = up.1;
      start = start.0;
      start_is = start.1;
      value = value.0;
      value_is = value.1;
      counter = counter_of p f whole cond.0.object c body counter.0;
      own = eqb-true up.0.object cond.0.object d.0;
      leads = d.1;
      low = int_of value.0 b.1;
      high = int_of _ a.1;
      turns_are = let same : Some (turns cond.0.op value.0 cond.0.value (unsigned_abs up.0.by)) ≡ Some n = t.1 in cc;
    }

-- the work of a loop of so many turns
loop_total : (t c b l : ℕ) → c + (t * (loop_words + (b + (l + c))) + loop_words) ≡ (t + 1) * (c + loop_words) + t * (b + l)
loop_total t c b l = omega arith

module _ (p : PlainProgram) (table : IoTable) (inputs : Inputs) (gives : RunsGiveConstants) (tells : TestsTellConstants) (f : ℕ)
    (whole : PlainStmt) (calls : Calls) (most : ℕ → ℕ)
    (calls_hold : (K : ℕ → Type 0) → ((o : ℕ) → K o → Outer p table inputs f whole o) → (g : ℕ) → May p table inputs f whole g
    → (xs : List Value) (s : State) → AllByRecursion (IsValue p) xs → IsWell p s → Holds p (IsVal p) (most g) K s (calls g xs s)) where
  abbrev W : Setting
  W = w p table inputs

  abbrev Out : (ℕ → Type 0) → Type 0
  Out K = (o : ℕ) → K o → Outer p table inputs f whole o

  abbrev Fits : (ℕ → Type 0) → (Touch → ℕ → Bool) → Type 0
  Fits K touched = Spared p table inputs f whole K touched

  abbrev Callable : List ℕ → Type 0
  Callable xs = AllByRecursion (May p table inputs f whole) xs

  abbrev M : ℕ → Type 0
  M = May p table inputs f whole

  abbrev E : PlainExpr → ℕ
  E e = expr_most (plain_table table) most e

  abbrev OE : Option PlainExpr → ℕ
  OE e = optional_most (plain_table table) most e

  abbrev S : PlainStmt → ℕ
  S a = stmt_most (plain_table table) most p f whole a

  abbrev OS : OptionPlainStmt → ℕ
  OS a = option_stmt_most (plain_table table) most p f whole a

  abbrev IsExit : Exit → State → Type 0
  IsExit x t = IsExitIn p x t

  value_holds : (K : ℕ → Type 0) (out : Out K) (e : PlainExpr) (s : State) (rest : List ℕ) → ValidExpr p table f e
      → Fits K (λ t o. touches t o e) → Callable (expr_calls e rest) → IsWell p s → Holds p (IsVal p) (E e) K s (value_of W calls e s)
  value_holds K out e s rest v u c well = expr_holds p table inputs f whole calls most calls_hold K out e s rest v u c well

  evaluated_holds : (K : ℕ → Type 0) (out : Out K) (e : Option PlainExpr) (s : State) (rest : List ℕ) → ValidOptional p table f e
      → Fits K (λ t o. optional_touches t o e) → Callable (optional_calls e rest) → IsWell p s
      → Holds p IsExit (OE e) K s (evaluated W calls e s)
  evaluated_holds K out None s rest v u c well = here p at_end s tt well
  evaluated_holds K out (Some e) s rest v u c well =
      bind p _ _ (value_holds K out e s rest v u c well) (λ x t h a. here p at_end t tt a.well) (omega arith)

  test_holds : (K : ℕ → Type 0) (out : Out K) (e : Option PlainExpr) (s : State) (rest : List ℕ) → ValidCondition p table f e
      → Fits K (λ t o. optional_touches t o e) → Callable (optional_calls e rest) → IsWell p s
      → Holds p IsAny (OE e) K s (test_of W calls e s)
  test_holds K out None s rest v u c well = here p true s tt well
  test_holds K out (Some e) s rest v u c well = condition_holds p table inputs e _ (value_holds K out e s rest v.0 u c well)

  returned_holds : (K : ℕ → Type 0) (out : Out K) (e : Option PlainExpr) (s : State) (rest : List ℕ) → ValidOptional p table f e
      → Fits K (λ t o. optional_touches t o e) → Callable (optional_calls e rest) → IsWell p s
      → Holds p IsExit (OE e) K s (returned W calls e s)
  returned_holds K out None s rest v u c well = here p (by_return None) s tt well
  returned_holds K out (Some e) s rest v u c well =
      bind p _ _ (value_holds K out e s rest v u c well) (λ x t h a. here p (by_return (Some x)) t h a.well) (omega arith)

  initialising_holds : (K : ℕ → Type 0) (out : Out K) (o k : ℕ) (es : PlainExprs) (s : State) (rest : List ℕ)
      → ((q : ℕ) → K q → o ≡ q → ⊥) → ValidExprs p table f es → Fits K (λ t o. exprs_touch t o es) → Callable (exprs_calls es rest)
      → IsWell p s → Holds p IsExit (leaves_most (plain_table table) most es) K s (initialising W calls o k es s)
  initialising_holds K out o k last_expr s rest other v u c well = here p at_end s tt well
  initialising_holds K out o k (next_expr e es) s rest other v u c well =
      began p {m2 = E e + leaves_most (plain_table table) most es} (leaf_words e) s _ well
      (bind p _ _ (value_holds K out e (worked (leaf_words e) s) (exprs_calls es rest) v.0 (λ t o k. or_left _ _ (u t o k)) c well)
      (λ x t h a. bind p {m = leaves_most (plain_table table) most es} _ _ (initialised_holds p o k x t h other a.well)
      (λ y r g b. initialising_holds K out o (k + 1) es r rest other v.1 (λ t o k. or_right _ _ (u t o k)) (expr_tail M e _ c) b.well)
      (omega arith)) (omega arith)) (omega arith)

  in_order_holds : {m : ℕ} {K : ℕ → Type 0} (x : Exit) (s : State) (go : State → Outcome Exit) → IsExit x s
      → (x ≡ at_end → Holds p IsExit m K s (go s)) → IsWell p s → Holds p IsExit m K s (in_order x s go)
  in_order_holds at_end s go h k well = k refl
  in_order_holds by_break s go h k well = within p s _ well (here p by_break s tt well) (omega arith)
  in_order_holds by_continue s go h k well = within p s _ well (here p by_continue s tt well) (omega arith)
  in_order_holds (by_return v) s go h k well = within p s _ well (here p {P = IsExit} (by_return v) s h well) (omega arith)

  again_holds : {m : ℕ} {K : ℕ → Type 0} (x : Exit) (s : State) (go : State → Outcome Exit) → IsExit x s
      → Holds p IsExit m K s (go s) → IsWell p s → Holds p IsExit m K s (again x s go)
  again_holds at_end s go h k well = k
  again_holds by_break s go h k well = within p s _ well (here p at_end s tt well) (omega arith)
  again_holds by_continue s go h k well = k
  again_holds (by_return v) s go h k well = within p s _ well (here p {P = IsExit} (by_return v) s h well) (omega arith)

  ends_loop : {K : ℕ → Type 0} (s : State) → IsWell p s → Holds p IsExit loop_words K s (got at_end (worked loop_words s))
  ends_loop s well = record { is = (tt, worked_sound p loop_words s well) }

  -- ---- declared objects are none that are kept

  undeclared : (K : ℕ → Type 0) (out : Out K) (o : ℕ) (values : PlainExprs)
      → IsSomeAnd (slice_get p.objects o) (IsDeclared p table f values)
      → ((q : ℕ) → K q → IsFree p q f → (o == q) ≡ false) → (q : ℕ) → K q → o ≡ q → ⊥
  undeclared K out o values v u q k same =
      let x = out q k in
      let d = some_and (slice_get p.objects o) (IsDeclared p table f values) v in
      let free = x.free in
      let one : Some d.0 ≡ Some free.object = sym d.1 ∙ ap (slice_get p.objects) same ∙ free.is_object in
      let two : d.0 ≡ free.object = cc in
      let three : local f ≡ local x.owner = sym d.2.0 ∙ ap (λ (z : PlainObject). z.storage) two ∙ free.is_local in
      let mine : x.owner ≡ f = cc in
      eqb-false o q (u q k (subst (IsFree p q) mine free)) same

  declared_apart : (K : ℕ → Type 0) (out : Out K) (returns : PlainType) (in_loop : Bool) (ss : PlainStmts)
      → ValidStmts p table f returns in_loop ss
      → Fits K (λ t o. stmts_touch t o ss) → AllByRecursion (λ o. (q : ℕ) → K q → o ≡ q → ⊥) (declared ss)
  declared_apart K out returns in_loop last_stmt v u = tt
  declared_apart K out returns in_loop (next_stmt (statement unit at (declare o values)) ss) v u = (
    undeclared K out o values v.0.0 (λ q k free. or_left _ _ (or_left _ _ (u Change q (k, free)))),
    declared_apart K out returns in_loop ss v.1 (λ t o k. or_right _ _ (u t o k)),
  )
  declared_apart K out returns in_loop (next_stmt s ss) v u =
      declared_apart K out returns in_loop ss v.1 (λ t o k. or_right (stmt_touches t o s) (stmts_touch t o ss) (u t o k))

  first_apart : (K : ℕ → Type 0) (out : Out K) (returns : PlainType) (in_loop : Bool) (a : OptionPlainStmt)
      → ValidOptionStmt p table f returns in_loop a → Fits K (λ t o. option_stmt_touches t o a)
      → AllByRecursion (λ o. (q : ℕ) → K q → o ≡ q → ⊥) (declared_first a)
  first_apart K out returns in_loop no_stmt v u = tt
  first_apart K out returns in_loop (a_stmt (statement unit at (block ss))) v u = declared_apart K out returns in_loop ss v u
  first_apart K out returns in_loop (a_stmt s) v u =
      declared_apart K out returns in_loop (next_stmt s last_stmt) (v, tt) (λ t o k. false_or (stmt_touches t o s) (u t o k))

  ending_holds : {m : ℕ} {K : ℕ → Type 0} {s : State} (os : List ℕ) (o : Outcome Exit) → AllByRecursion (λ o. (q : ℕ) → K q → o ≡ q → ⊥) os
      → Holds p IsExit m K s o → Holds p IsExit m K s (ending os o)
  ending_holds {m} {K} os o other h =
      bind p o _ h (λ x t hx a. record { is = (kept t _ x hx, all_ended_sound p {K = K} os t other a.well) }) (omega arith)
    where
      kept : (t u : State) (x : Exit) → IsExit x t → IsExit x u
      kept t u at_end h = tt
      kept t u by_break h = tt
      kept t u by_continue h = tt
      kept t u (by_return None) h = tt
      kept t u (by_return (Some v)) h = h

  -- ---- a counted loop

  module _ (n : ℕ) (enough : 65_536 ≤ n) where
    module _ (cond : Operands) (update : Update) (counter : PlainObject) (is : slice_get p.objects cond.object ≡ Some counter)
        (int_is : counter.ty ≡ int) (leads : leads_to cond.op update.by ≡ true) (high : IsInt
        (last_tested cond.op cond.value update.by)) where
      abbrev Valued : ℤ → State → Type 0
      Valued v t = At p table inputs calls gives tells cond.object counter is int_is v t

      abbrev left : ℤ → ℤ
      left v = distance cond.op v cond.value

      abbrev by : ℕ
      by = unsigned_abs update.by

      some : 1 ≤ by
      some = some_step cond.op update.by leads

      -- parts that leave the counter as it is, but for the last
      module _ (K : ℕ → Type 0) (b c l : ℕ) (body : State → Outcome Exit) (test : State → Outcome Bool) (last : State → Outcome Exit)
          (body_holds : (s : State) → IsWell p s → Holds p IsExit b (λ o. K o ⊎ (o ≡ cond.object)) s (body s))
          (tests_hold : (v : ℤ) (s : State) → Valued v s → IsWell p s
          → Holds p (λ h t. (h ≡ int_lt (pos 0) (left v)) × Valued v t) c K s (test s))
          (last_holds : (v : ℤ) (s : State) → Valued v s → IsInt v → IsInt (v +ℤ update.by) → IsWell p s
          → Holds p (λ x t. Valued (v +ℤ update.by) t) l K s (last s)) where
        abbrev goes_on : State → Outcome Bool
        goes_on s = next (last s) (λ x t. test t)

        going_holds : (v : ℤ) (s : State) → Valued v s → IsInt v → IsInt (v +ℤ update.by) → IsWell p s
            → Holds p (λ h t. (h ≡ int_lt (pos 0) (left (v +ℤ update.by))) × Valued (v +ℤ update.by) t) (l + c) K s (goes_on s)
        going_holds v s at low fits well =
            bind p _ _ (last_holds v s at low fits well) (λ x t h a. tests_hold (v +ℤ update.by) t h a.well) (omega arith)

        turns_hold : (m k : ℕ) (v : ℤ) (s : State) → suc k ≤ m → steps_in (left v) by ≡ suc k → int_lt (pos 0) (left v) ≡ true → IsInt v
            → Valued v s → IsWell p s
            → Holds p IsExit (suc k * (loop_words + (b + (l + c))) + loop_words) K s (turns_made m body goes_on s)
        turns_hold zero k v s le e further low at well = absurd (omega (arith, le))
        turns_hold (suc m) k v s le e further low at well =
            began p {m2 = b + ((l + c) + (k * (loop_words + (b + (l + c))) + loop_words))} loop_words s _ well
            (bind_in p {m2 = (l + c) + (k * (loop_words + (b + (l + c))) + loop_words)} (body (worked loop_words s)) _ (λ q h. inl h)
            (body_holds (worked loop_words s) well)
            (λ x t h a. again_holds x t _ h (on (turns_hold m) t (at_kept p table inputs calls gives tells cond.object counter is int_is v
            (worked loop_words s) t (a.keeps cond.object (inr refl)) at) a.well) a.well)
            (omega arith)) (omega arith)
          where
            fits : IsInt (v +ℤ update.by)
            fits = int_on cond.op v cond.value update.by leads further low high

            rest : steps_in (left (v +ℤ update.by)) by ≡ k
            rest = ap (λ d. steps_in d by) (distance_on cond.op v cond.value update.by leads) ∙ next_steps by some (left v) k e

            on : ((k : ℕ) (v : ℤ) (s : State) → suc k ≤ m → steps_in (left v) by ≡ suc k → int_lt (pos 0) (left v) ≡ true → IsInt v
                → Valued v s → IsWell p s
                → Holds p IsExit (suc k * (loop_words + (b + (l + c))) + loop_words) K s (turns_made m body goes_on s)) → (t : State)
                → Valued v t
                → IsWell p t
                → Holds p IsExit ((l + c) + (k * (loop_words + (b + (l + c))) + loop_words)) K t
                (tested (goes_on t) (λ r. turns_made m body goes_on r))
            on ih t at2 well2 =
                bind p {m2 = k * (loop_words + (b + (l + c))) + loop_words} (goes_on t) _ (going_holds v t at2 low fits well2)
                (λ h r g a. by_test h r (sym g.0) g.1 a.well) (omega arith)
              where
                by_test : (h : Bool) (r : State) → int_lt (pos 0) (left (v +ℤ update.by)) ≡ h → Valued (v +ℤ update.by) r → IsWell p r
                    → Holds p IsExit (k * (loop_words + (b + (l + c))) + loop_words) K r
                    (choose h (λ z. turns_made m body goes_on z) (λ z. got at_end (worked loop_words z)) r)
                by_test true r q at3 well3 =
                    let j = some_steps by some (left (v +ℤ update.by)) q in
                    let same : k ≡ suc j.0 = sym rest ∙ j.1 in
                    subst (λ z. Holds p IsExit (z * (loop_words + (b + (l + c))) + loop_words) K r (turns_made m body goes_on r)) (sym same)
                    (ih j.0 (v +ℤ update.by) r (omega (arith, same, le)) j.1 q fits at3 well3)
                by_test false r q at3 well3 = within p r _ well3 (ends_loop r well3) (omega arith)

        loop_holds : (v : ℤ) (s : State) → IsInt v → Valued v s → IsWell p s
            → Holds p IsExit ((steps_in (left v) by + 1) * (c + loop_words) + steps_in (left v) by * (b + l)) K s
            (tested (test s) (λ r. turns_made n body goes_on r))
        loop_holds v s low at well =
            bind p {m2 = steps_in (left v) by * (loop_words + (b + (l + c))) + loop_words} (test s) _ (tests_hold v s at well)
            (λ h r g a. by_test h r (sym g.0) g.1 a.well) (let total = loop_total (steps_in (left v) by) c b l in omega (arith, total))
          where
            by_test : (h : Bool) (r : State) → int_lt (pos 0) (left v) ≡ h → Valued v r → IsWell p r
                → Holds p IsExit (steps_in (left v) by * (loop_words + (b + (l + c))) + loop_words) K r
                (choose h (λ z. turns_made n body goes_on z) (λ z. got at_end (worked loop_words z)) r)
            by_test true r q at3 well3 =
                let j = some_steps by some (left v) q in
                let few = few_steps by some (left v) 65_535 (near cond.op v cond.value update.by leads low high) in
                let same = j.1 in
                subst (λ z. Holds p IsExit (z * (loop_words + (b + (l + c))) + loop_words) K r (turns_made n body goes_on r)) (sym same)
                (turns_hold n j.0 v r (omega (arith, same, few, enough)) j.1 q low at3 well3)
            by_test false r q at3 well3 = within p r _ well3 (ends_loop r well3) (omega arith)

    -- ---- the counter

    -- a local of the function that no pointer leads to
    record IsCounter (i : ℕ) (x : PlainObject) : Type 0 where
      is : slice_get p.objects i ≡ Some x
      int_is : x.ty ≡ int
      out : Outer p table inputs f whole i

    abbrev Val : {i : ℕ} {x : PlainObject} → IsCounter i x → ℤ → State → Type 0
    Val {i} {x} r v t = At p table inputs calls gives tells i x r.is r.int_is v t

    abbrev With : (ℕ → Type 0) → ℕ → ℕ → Type 0
    With K i o = K o ⊎ (o ≡ i)

    out_with : (K : ℕ → Type 0) (out : Out K) (i : ℕ) → Outer p table inputs f whole i → Out (With K i)
    out_with K out i own o (inl k) = out o k
    out_with K out i own o (inr e) = subst (Outer p table inputs f whole) (sym e) own

    fits_with : (K : ℕ → Type 0) (i : ℕ) (touched : Touch → ℕ → Bool) → Fits K touched → touched Change i ≡ false → Fits (With K i) touched
    fits_with K i touched u e Address o free = u Address o free
    fits_with K i touched u e Change o (inl k, free) = u Change o (k, free)
    fits_with K i touched u e Change o (inr same, free) = subst (λ z. touched Change z ≡ false) (sym same) e

    -- how the first part is left: at its end the counter has its first value
    abbrev IsStarted : {i : ℕ} {x : PlainObject} → IsCounter i x → ℤ → Exit → State → Type 0
    IsStarted r v z t = IsExit z t × (z ≡ at_end → Val r v t)

    on_evaluated : {Q : State → Type 0} (e : PlainExpr) (s : State) → Gives p (λ z t. Q t) (value_of W calls e s)
        → Gives p (λ z t. Q t) (evaluated W calls (Some e) s)
    on_evaluated {Q} e s h = by_outcome (value_of W calls e s) h
      where
        by_outcome : (o : Outcome Value) → Gives p (λ z t. Q t) o → Gives p (λ z t. Q t) (next o (λ z t. got at_end t))
        by_outcome (got z t) h = record { is = h.is }
        by_outcome (more t) h = record { is = tt }
        by_outcome (undefined point t) h = record { is = tt }

    started : {m : ℕ} {K : ℕ → Type 0} {s : State} {i : ℕ} {x : PlainObject} (r : IsCounter i x) (v : ℤ) (o : Outcome Exit)
        → Holds p IsExit m K s o → Gives p (λ z t. Val r v t) o → Holds p (IsStarted r v) m K s o
    started r v o h q = weaker p o (λ q k. k) (λ z t g a. (g.0, λ e. g.1)) (both p o h q.is)

    in_order_started : {m : ℕ} {K : ℕ → Type 0} {i : ℕ} {x : PlainObject} (r : IsCounter i x) (v : ℤ) (z : Exit) (s : State)
        (go : State → Outcome Exit) → IsExit z s → (z ≡ at_end → Holds p (IsStarted r v) m K s (go s)) → IsWell p s
        → Holds p (IsStarted r v) m K s (in_order z s go)
    in_order_started r v at_end s go h k well = k refl
    in_order_started r v by_break s go h k well =
        within p s _ well (here p {P = IsStarted r v} by_break s (tt, λ e. absurd (break_is_no_end e)) well) (omega arith)
    in_order_started r v by_continue s go h k well =
        within p s _ well (here p {P = IsStarted r v} by_continue s (tt, λ e. absurd (continue_is_no_end e)) well) (omega arith)
    in_order_started r v (by_return u) s go h k well =
        within p s _ well (here p {P = IsStarted r v} (by_return u) s (h, λ e. absurd (return_is_no_end u e)) well) (omega arith)

    declared_is : {i : ℕ} {x : PlainObject} (r : IsCounter i x) (v : ℤ) (start : PlainExpr) (a : PlainStmt) (s : State)
        → declared_with i a ≡ Some start → int_constant start ≡ Some v → Gives p (λ z t. Val r v t) (effect_of W calls n a s)
    declared_is {i} {x} r v start (statement unit at (declare q values)) s h c =
        initialiser_is p table inputs calls gives tells i x r.is r.int_is f q values start v (begun p q s) h c
    declared_is r v start a s h c = cc

    -- one statement and those that follow it
    start_next : (K : ℕ → Type 0) {i : ℕ} {x : PlainObject} (r : IsCounter i x) (v : ℤ) (start : PlainExpr) (a : PlainStmt)
        (ss : PlainStmts)
        (s : State) → declared_among i (next_stmt a ss) ≡ Some start → int_constant start ≡ Some v → IsWell p s
        → ((t : State) → IsWell p t → Holds p IsExit (S a) K t (effect_of W calls n a t))
        → (declared_among i ss ≡ Some start → (t : State) → IsWell p t
        → Holds p (IsStarted r v) (stmts_most (plain_table table) most p f whole ss) K t (effects_of W calls n ss t))
        → (stmts_touch Change i ss ≡ false → (t : State) → IsWell p t
        → Holds p IsExit (stmts_most (plain_table table) most p f whole ss) (With K i) t (effects_of W calls n ss t))
        → Holds p (IsStarted r v) (stmts_most (plain_table table) most p f whole (next_stmt a ss)) K s (effects_of W calls n
        (next_stmt a ss) s)
    start_next K {i} {x} r v start a ss s h c well one later rest = by_test (stmt_touches Change i a) h
      where
        by_rest : (b : Bool) → stmts_touch Change i ss ≡ b → (if b then None else declared_with i a) ≡ Some start
            → Holds p (IsStarted r v) (S a + stmts_most (plain_table table) most p f whole ss) K s
            (next (effect_of W calls n a s) (λ z t. in_order z t (λ t2. effects_of W calls n ss t2)))
        by_rest true e g = cc
        by_rest false e g =
            bind p {m2 = stmts_most (plain_table table) most p f whole ss} _ _
            (both p _ (one s well) (declared_is r v start a s g c).is)
            (λ z t k d. in_order_started r v z t (λ t2. effects_of W calls n ss t2) k.0
            (λ same. weaker p _ (λ q m. inl m) (λ z2 t2 k2 d2. (
              k2,
              λ same2.
                  at_kept p table inputs calls gives tells i x r.is r.int_is v t t2 (d2.keeps i (inr refl)) k.1,
            )) (rest e t d.well)) d.well)
            (omega arith)

        by_test : (b : Bool) → (if b then (if stmts_touch Change i ss then None else declared_with i a) else declared_among i ss) ≡ Some
            start
            → Holds p (IsStarted r v) (S a + stmts_most (plain_table table) most p f whole ss) K s
            (next (effect_of W calls n a s) (λ z t. in_order z t (λ t2. effects_of W calls n ss t2)))
        by_test true g = by_rest (stmts_touch Change i ss) refl g
        by_test false g =
            bind p {m2 = stmts_most (plain_table table) most p f whole ss} _ _ (one s well)
            (λ z t k d. in_order_started r v z t (λ t2. effects_of W calls n ss t2) k (λ same. later g t d.well) d.well) (omega arith)

    -- ---- the loop

    condition_is : {i : ℕ} {x : PlainObject} (r : IsCounter i x) (c : Option PlainExpr) (cond : Operands) (by v : ℤ) (s : State)
        → condition_of c ≡ Some cond → cond.object ≡ i → leads_to cond.op by ≡ true → ValidCondition p table f c → Val r v s
        → Gives p (λ h t. h ≡ int_lt (pos 0) (distance cond.op v cond.value)) (test_of W calls c s)
    condition_is r None cond by v s h own leads valid at = cc
    condition_is {i} {x} r (Some e) cond by v s h own leads valid at =
        test_is p table inputs calls gives tells i x r.is r.int_is f e cond by v s h own leads valid.0 at

    last_is : {i : ℕ} {x : PlainObject} (r : IsCounter i x) (last : Option PlainExpr) (u : Update) (v : ℤ) (s : State)
        → update_of last ≡ Some u → u.object ≡ i → ValidOptional p table f last → Val r v s → IsInt v → IsInt (v +ℤ u.by)
        → Gives p (λ z t. Val r (v +ℤ u.by) t) (evaluated W calls last s)
    last_is r None u v s h own valid at low fits = cc
    last_is {i} {x} r (Some e) u v s h own valid at low fits =
        on_evaluated {Q = λ t. Val r (v +ℤ u.by) t} e s
        (update_is p table inputs calls gives tells i x r.is r.int_is f e u v s h own valid at low fits)

    for_holds : (K : ℕ → Type 0) (out : Out K) (first : OptionPlainStmt) (c last : Option PlainExpr) (body : PlainStmt) (count : ℕ)
        (returns : PlainType) (in_loop : Bool) (s : State) (rest rest2 : List ℕ) (k : IsCounted p f whole first c last body count)
        (r : IsCounter k.cond.object k.counter.object)
        → ValidOptionStmt p table f returns in_loop first → ValidCondition p table f c → ValidOptional p table f last
        → Fits K (λ t o. kind_touches t o (for_loop first c last body)) → Callable (optional_calls c rest)
        → Callable (optional_calls last rest2)
        → IsWell p s
        → ((K2 : ℕ → Type 0) → Out K2 → Fits K2 (λ t o. stmt_touches t o body) → (t : State) → IsWell p t
        → Holds p IsExit (S body) K2 t (effect_of W calls n body t))
        → Holds p (IsStarted r k.value) (OS first) K s (first_effect W calls n first s)
        → Holds p IsExit (loop_most (plain_table table) most count (OS first) (OE c) (OE last) (S body)) K s
        (kind_effect W calls n (for_loop first c last body) s)
    for_holds K out first c last body count returns in_loop s rest rest2 k r vi vc vl u gc gl well body_h first_h =
        ending_holds (declared_first first) _ (first_apart K out returns in_loop first vi (λ t o h. or_left _ _ (u t o h)))
        (bind p {m2 = (count + 1) * (OE c + loop_words) + count * (S body + OE last)} _ _ first_h
        (λ z t h a. in_order_holds z t _ h.0 (λ same.
        subst (λ j. Holds p IsExit ((j + 1) * (OE c + loop_words) + j * (S body + OE last)) K t
        (tested (test_of W calls c t) (λ t2. turns_made n (λ t3. effect_of W calls n body t3) (λ t3. going_on W calls last c t3) t2)))
        k.turns_are
        (loop_holds k.cond k.update k.counter.object r.is r.int_is k.leads k.high K (S body) (OE c) (OE last)
        (λ t3. effect_of W calls n body t3) (λ t3. test_of W calls c t3) (λ t3. evaluated W calls last t3)
        (λ t3 w3. body_h (With K k.cond.object) inner (fits_with K k.cond.object (λ y o. stmt_touches y o body) (λ y o q.
        or_right (optional_touches y o last) (stmt_touches y o body) (or_right (optional_touches y o c)
        (optional_touches y o last || stmt_touches y o body)
        (or_right (option_stmt_touches y o first) (optional_touches y o c || (optional_touches y o last || stmt_touches y o body))
        (u y o q))))
        k.counter.spared) t3 w3)
        tests lasts k.value t k.low (h.1 same) a.well)) a.well) (omega arith))
      where
        inner : Out (With K k.cond.object)
        inner = out_with K out k.cond.object r.out

        tests : (v : ℤ) (t : State) → Val r v t → IsWell p t
            → Holds p (λ h z. (h ≡ int_lt (pos 0) (distance k.cond.op v k.cond.value)) × Val r v z) (OE c) K t (test_of W calls c t)
        tests v t at w2 =
            weaker p _ (λ q m. inl m) (λ h z g d. (
              g.1,
              at_kept p table inputs calls gives tells k.cond.object k.counter.object r.is r.int_is v t z (d.keeps k.cond.object
                  (inr refl)) at,
            ))
            (both p _ (test_holds (With K k.cond.object) inner c t rest vc
            (fits_with K k.cond.object (λ y o. optional_touches y o c) (λ y o q.
            or_left (optional_touches y o c) (optional_touches y o last || stmt_touches y o body)
            (or_right (option_stmt_touches y o first) (optional_touches y o c || (optional_touches y o last || stmt_touches y o body))
            (u y o q)))
            k.counter.condition) gc w2)
            (condition_is r c k.cond k.update.by v t k.cond_is refl k.leads vc at).is)

        lasts : (v : ℤ) (t : State) → Val r v t → IsInt v → IsInt (v +ℤ k.update.by) → IsWell p t
            → Holds p (λ z t2. Val r (v +ℤ k.update.by) t2) (OE last) K t (evaluated W calls last t)
        lasts v t at low fits w2 =
            weaker p _ (λ q m. m) (λ z t2 g d. g.1)
            (both p _ (evaluated_holds K out last t rest2 vl (λ y o q.
            or_left (optional_touches y o last) (stmt_touches y o body) (or_right (optional_touches y o c)
            (optional_touches y o last || stmt_touches y o body)
            (or_right (option_stmt_touches y o first) (optional_touches y o c || (optional_touches y o last || stmt_touches y o body))
            (u y o q)))) gl w2)
            (last_is r last k.update v t k.up_is k.own vl at low fits).is)

    -- ---- all statements

    module _ (main_free : (i : ℕ) (x : PlainObject) → slice_get p.objects i ≡ Some x → x.storage ≡ local f
        → stmt_touches Address i whole ≡ false → Outer p table inputs f whole i) where
      counter_is : (first : OptionPlainStmt) (c last : Option PlainExpr) (body : PlainStmt) (count : ℕ)
          (k : IsCounted p f whole first c last body count) → IsCounter k.cond.object k.counter.object
      counter_is first c last body count k = record {
        is = k.counter.is_object;
        int_is = k.counter.int_is;
        out = main_free k.cond.object k.counter.object k.counter.is_object k.counter.is_local k.counter.unaddressed;
      }

      -- a loop that is counted, or none
      by_turns : (K : ℕ → Type 0) (first : OptionPlainStmt) (c last : Option PlainExpr) (body : PlainStmt) (x : Site) (others : Option Site)
          (s : State) (o : Option ℕ) → turns_of p f whole first c last body ≡ o → first_site (unless_counted o x) others ≡ None
          → ((count : ℕ) → IsCounted p f whole first c last body count
          → Holds p IsExit (loop_most (plain_table table) most count (OS first) (OE c) (OE last) (S body)) K s
          (kind_effect W calls n (for_loop first c last body) s))
          → Holds p IsExit (loop_most (plain_table table) most (unwrap_or o 0) (OS first) (OE c) (OE last) (S body)) K s
          (kind_effect W calls n (for_loop first c last body) s)
      by_turns K first c last body x others s None e none h = let z : Some x ≡ None = none_first (Some x) others none in cc
      by_turns K first c last body x others s (Some count) e none h = h count (is_counted p f whole first c last body count e)

      mutual
        pub stmt_holds : (K : ℕ → Type 0) (out : Out K) (returns : PlainType) (in_loop : Bool) (a : PlainStmt) (s : State) (rest : List ℕ)
            → ValidStmt p table f returns in_loop a → Fits K (λ t o. stmt_touches t o a) → Callable (stmt_calls a rest)
            → uncounted p f whole a ≡ None → IsWell p s → Holds p IsExit (S a) K s (effect_of W calls n a s)
        stmt_holds K out returns in_loop (statement unit at kind) s rest v u g none well =
            kind_holds K out returns in_loop (record { unit = unit; at = at }) kind s rest v u g none well

        kind_holds : (K : ℕ → Type 0) (out : Out K) (returns : PlainType) (in_loop : Bool) (x : Site) (kind : PlainKind) (s : State)
            (rest : List ℕ) → ValidKind p table f returns in_loop kind → Fits K (λ t o. kind_touches t o kind)
            → Callable (kind_calls kind rest) → kind_uncounted p f whole x kind ≡ None → IsWell p s
            → Holds p IsExit (kind_most (plain_table table) most p f whole kind) K s (kind_effect W calls n kind s)
        kind_holds K out returns in_loop x empty s rest v u g none well = here p at_end s tt well
        kind_holds K out returns in_loop x (evaluate e) s rest v u g none well = evaluated_holds K out (Some e) s rest v u g well
        kind_holds K out returns in_loop x (block ss) s rest v u g none well =
            ending_holds (declared ss) _ (declared_apart K out returns in_loop ss v u)
            (stmts_hold K out returns in_loop ss s rest v u g none well)
        kind_holds K out returns in_loop x (declare o values) s rest v u g none well =
            let other = undeclared K out o values v.0 (λ q k free. or_left _ _ (u Change q (k, free))) in
            let begins = begun_sound p {K = K} o s other well in
            after p _ (λ q h. h) begins
            (initialising_holds K out o 0 values (begun p o s) rest other v.1 (λ t o k. or_right _ _ (u t o k)) g begins.well) (omega arith)
        kind_holds K out returns in_loop x (branch c a b) s rest v u g none well =
            let g1 = expr_tail M c (stmt_calls a (option_stmt_calls b rest)) g in
            began p {m2 = E c + max (S a) (OS b)} branch_words s _ well
            (bind p _ _
            (test_holds K out (Some c) (worked branch_words s) (stmt_calls a (option_stmt_calls b rest)) v.0 (λ t o k. or_left _ _
            (u t o k)) g well)
            (λ h t d k. choosing p {m = max (S a) (OS b)} h _ _ t k.well
            (stmt_holds K out returns in_loop a t (option_stmt_calls b rest) v.1 (λ t o k. or_left _ _ (or_right _ _ (u t o k))) g1
            (none_first (uncounted p f whole a) (option_uncounted p f whole b) none) k.well)
            (option_holds K out returns in_loop b t rest v.2 (λ t o k. or_right _ _ (or_right _ _ (u t o k))) (stmt_tail M a _ g1)
            (none_second (uncounted p f whole a) (option_uncounted p f whole b) none) k.well)
            (omega arith) (omega arith)) (omega arith)) (omega arith)
        kind_holds K out returns in_loop x (while_loop c body) s rest v u g none well =
            let z : Some x ≡ None = none_first (Some x) (uncounted p f whole body) none in cc
        kind_holds K out returns in_loop x (do_loop body c) s rest v u g none well =
            let z : Some x ≡ None = none_first (Some x) (uncounted p f whole body) none in cc
        kind_holds K out returns in_loop x (for_loop first c last body) s rest v u g none well =
            let all = first_site (option_uncounted p f whole first) (uncounted p f whole body) in
            let others = none_second (unless_counted (turns_of p f whole first c last body) x) all none in
            let g1 = option_stmt_tail M first (optional_calls c (optional_calls last (stmt_calls body rest))) g in
            let g2 = optional_tail M c (optional_calls last (stmt_calls body rest)) g1 in
            let g3 = optional_tail M last (stmt_calls body rest) g2 in
            by_turns K first c last body x all s (turns_of p f whole first c last body) refl none (λ count k.
            for_holds K out first c last body count returns in_loop s (optional_calls last (stmt_calls body rest)) (stmt_calls body rest) k
            (counter_is first c last body count k) v.0 v.1 v.2 u g1 g2 well
            (λ K2 out2 u2 t w2. stmt_holds K2 out2 returns true body t rest v.3 u2 g3
            (none_second (option_uncounted p f whole first) (uncounted p f whole body) others) w2)
            (first_starts K out returns in_loop first (counter_is first c last body count k) k.value k.start k.start_is k.value_is s
            (optional_calls c (optional_calls last (stmt_calls body rest))) v.0
            (λ t o h. or_left _ _ (u t o h)) g (none_first (option_uncounted p f whole first) (uncounted p f whole body) others) well))
        kind_holds K out returns in_loop x break_loop s rest v u g none well = record { is = (tt, worked_sound p jump_words s well) }
        kind_holds K out returns in_loop x continue_loop s rest v u g none well = record { is = (tt, worked_sound p jump_words s well) }
        kind_holds K out returns in_loop x (return_value e) s rest v u g none well =
            began p (return_of e) s _ well (returned_holds K out e (worked (return_of e) s) rest v.1 u g well) (omega arith)

        option_holds : (K : ℕ → Type 0) (out : Out K) (returns : PlainType) (in_loop : Bool) (a : OptionPlainStmt) (s : State)
            (rest : List ℕ)
            → ValidOptionStmt p table f returns in_loop a → Fits K (λ t o. option_stmt_touches t o a) → Callable (option_stmt_calls a rest)
            → option_uncounted p f whole a ≡ None → IsWell p s → Holds p IsExit (OS a) K s (option_effect W calls n a s)
        option_holds K out returns in_loop no_stmt s rest v u g none well = here p at_end s tt well
        option_holds K out returns in_loop (a_stmt a) s rest v u g none well = stmt_holds K out returns in_loop a s rest v u g none well

        stmts_hold : (K : ℕ → Type 0) (out : Out K) (returns : PlainType) (in_loop : Bool) (ss : PlainStmts) (s : State) (rest : List ℕ)
            → ValidStmts p table f returns in_loop ss → Fits K (λ t o. stmts_touch t o ss) → Callable (stmts_calls ss rest)
            → stmts_uncounted p f whole ss ≡ None → IsWell p s
            → Holds p IsExit (stmts_most (plain_table table) most p f whole ss) K s (effects_of W calls n ss s)
        stmts_hold K out returns in_loop last_stmt s rest v u g none well = here p at_end s tt well
        stmts_hold K out returns in_loop (next_stmt a ss) s rest v u g none well =
            bind p {m2 = stmts_most (plain_table table) most p f whole ss} _ _
            (stmt_holds K out returns in_loop a s (stmts_calls ss rest) v.0 (λ t o k. or_left _ _ (u t o k)) g (none_first
            (uncounted p f whole a) (stmts_uncounted p f whole ss) none) well)
            (λ z t h d. in_order_holds z t _ h (λ same.
            stmts_hold K out returns in_loop ss t rest v.1 (λ t o k. or_right _ _ (u t o k)) (stmt_tail M a _ g) (none_second
            (uncounted p f whole a) (stmts_uncounted p f whole ss) none) d.well)
            d.well) (omega arith)

        first_starts : (K : ℕ → Type 0) (out : Out K) (returns : PlainType) (in_loop : Bool) (a : OptionPlainStmt) {i : ℕ} {x : PlainObject}
            (r : IsCounter i x) (v : ℤ) (start : PlainExpr) → start_of i a ≡ Some start → int_constant start ≡ Some v
            → (s : State) (rest : List ℕ)
            → ValidOptionStmt p table f returns in_loop a → Fits K (λ t o. option_stmt_touches t o a) → Callable (option_stmt_calls a rest)
            → option_uncounted p f whole a ≡ None → IsWell p s
            → Holds p (IsStarted r v) (OS a) K s (first_effect W calls n a s)
        first_starts K out returns in_loop (a_stmt (statement unit at (evaluate e))) {i} {x} r v start h c s rest valid u g none well =
            started r v _ (evaluated_holds K out (Some e) s rest valid u g well)
            (on_evaluated {Q = λ t. Val r v t} e s (assigned_is p table inputs calls gives tells i x r.is r.int_is f e start v s h c))
        first_starts K out returns in_loop (a_stmt (statement unit at
            (declare q values))) {i} {x} r v start h c s rest valid u g none well =
            started r v _ (kind_holds K out returns in_loop (record { unit = unit; at = at }) (declare q values) s rest valid u g none well)
            (initialiser_is p table inputs calls gives tells i x r.is r.int_is f q values start v (begun p q s) h c)
        first_starts K out returns in_loop (a_stmt (statement unit at (block ss))) r v start h c s rest valid u g none well =
            stmts_start K out returns in_loop ss r v start h c s rest valid u g none well
        first_starts K out returns in_loop a r v start h c s rest valid u g none well = cc

        stmts_start : (K : ℕ → Type 0) (out : Out K) (returns : PlainType) (in_loop : Bool) (ss : PlainStmts) {i : ℕ} {x : PlainObject}
            (r : IsCounter i x) (v : ℤ) (start : PlainExpr) → declared_among i ss ≡ Some start → int_constant start ≡ Some v → (s : State)
            (rest : List ℕ) → ValidStmts p table f returns in_loop ss → Fits K (λ t o. stmts_touch t o ss) → Callable (stmts_calls ss rest)
            → stmts_uncounted p f whole ss ≡ None → IsWell p s
            → Holds p (IsStarted r v) (stmts_most (plain_table table) most p f whole ss) K s (effects_of W calls n ss s)
        stmts_start K out returns in_loop last_stmt r v start h c s rest valid u g none well = cc
        stmts_start K out returns in_loop (next_stmt a ss) {i} {x} r v start h c s rest valid u g none well =
            start_next K r v start a ss s h c well
            (λ t w2. stmt_holds K out returns in_loop a t (stmts_calls ss rest) valid.0 (λ t o k. or_left _ _ (u t o k)) g (none_first
            (uncounted p f whole a) (stmts_uncounted p f whole ss) none) w2)
            (λ later t w2. stmts_start K out returns in_loop ss r v start later c t rest valid.1 (λ t o k. or_right _ _ (u t o k))
            (stmt_tail M a _ g) (none_second (uncounted p f whole a) (stmts_uncounted p f whole ss) none) w2)
            (λ free t w2. stmts_hold (With K i) (out_with K out i r.out) returns in_loop ss t rest valid.1
            (fits_with K i (λ y o. stmts_touch y o ss) (λ t o k. or_right _ _ (u t o k)) free) (stmt_tail M a _ g) (none_second
            (uncounted p f whole a) (stmts_uncounted p f whole ss) none) w2)
