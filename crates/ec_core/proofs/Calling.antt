-- Which functions the parts of a body call, and how deep calls nest where no function calls itself through others.
use Rattle.std.proofs.Common.{◌≡◌, ◌≢◌, ◌<◌, ◌≤◌, ◌+◌, ℕ, zero, suc, Bool, true, false, List, [], ◌∷◌, length, Option, Some, None, refl}
use Rattle.std.proofs.Common.{sym, subst, arith, eqb-true, leb-true, leb-false}
use Rattle.std.specs.Prelude.{⊤, ◌==◌, nat_le, if◌then◌else◌, slice_get, Contains}
use Rattle.std.specs.List.{AllByRecursion}
use Rattle.std.proofs.lemmas.Bool.{eqb-false}
use Rattle.std.proofs.lemmas.Option.{slice_get_within}
use Rattle.ec_core.specs.Needs.{expr_calls, node_calls, place_calls, option_calls, exprs_calls, optional_calls, stmt_calls, kind_calls}
use Rattle.ec_core.specs.Needs.{option_stmt_calls, stmts_calls}
use Rattle.ec_core.specs.Plain.{PlainExpr, expression, PlainNode, number, null, load, address_of, unary, binary, convert, assign, compound}
use Rattle.ec_core.specs.Plain.{step, logical_not, logical_and, logical_or, conditional, comma, call, io, group, bind, dynamic_group, PlainPlace, object, deref}
use Rattle.ec_core.specs.Plain.{member, OptionPlainExpr, no_expr, an_expr, PlainExprs, last_expr, next_expr, PlainStmt, statement}
use Rattle.ec_core.specs.Plain.{PlainKind, empty, evaluate, block, declare, branch, while_loop, do_loop, for_loop, break_loop}
use Rattle.ec_core.specs.Plain.{continue_loop, return_value, OptionPlainStmt, no_stmt, a_stmt, PlainStmts, last_stmt, next_stmt}
use Rattle.ec_core.specs.Plain.{PlainFunction, PlainProgram}
use Rattle.ec_core.specs.Valid.{Reaches, calls, calls_through}

-- ---- parts that call some functions only

module _ (May : ℕ → Type 0) where
  abbrev mutual
    pub ExprCalls : PlainExpr → Type 0
    ExprCalls (expression ty mode node) = NodeCalls node

    pub NodeCalls : PlainNode → Type 0
    NodeCalls (number n) = ⊤
    NodeCalls null = ⊤
    NodeCalls (load p) = PlaceCalls p
    NodeCalls (address_of p) = PlaceCalls p
    NodeCalls (unary op a) = ExprCalls a
    NodeCalls (binary op a b) = ExprCalls a × ExprCalls b
    NodeCalls (convert a) = ExprCalls a
    NodeCalls (assign p a) = PlaceCalls p × ExprCalls a
    NodeCalls (compound op mode p a) = PlaceCalls p × ExprCalls a
    NodeCalls (step up prefix p) = PlaceCalls p
    NodeCalls (logical_not a) = ExprCalls a
    NodeCalls (logical_and a b) = ExprCalls a × ExprCalls b
    NodeCalls (logical_or a b) = ExprCalls a × ExprCalls b
    NodeCalls (conditional c a b) = ExprCalls c × ExprCalls a × ExprCalls b
    NodeCalls (comma a b) = ExprCalls a × ExprCalls b
    NodeCalls (call f args) = May f × RowCalls args
    NodeCalls (io op port index value) = OptionCalls index × OptionCalls value
    NodeCalls (group acquire g) = ⊤
    NodeCalls (bind d choice) = ⊤
    NodeCalls (dynamic_group acquire d) = ⊤

    pub PlaceCalls : PlainPlace → Type 0
    PlaceCalls (object o) = ⊤
    PlaceCalls (deref e) = ExprCalls e
    PlaceCalls (member q i) = PlaceCalls q

    pub OptionCalls : OptionPlainExpr → Type 0
    OptionCalls no_expr = ⊤
    OptionCalls (an_expr e) = ExprCalls e

    pub RowCalls : PlainExprs → Type 0
    RowCalls last_expr = ⊤
    RowCalls (next_expr e es) = ExprCalls e × RowCalls es

  abbrev pub OptionalCalls : Option PlainExpr → Type 0
  OptionalCalls None = ⊤
  OptionalCalls (Some e) = ExprCalls e

  abbrev mutual
    pub StmtCalls : PlainStmt → Type 0
    StmtCalls (statement unit at kind) = KindCalls kind

    pub KindCalls : PlainKind → Type 0
    KindCalls empty = ⊤
    KindCalls (evaluate e) = ExprCalls e
    KindCalls (block ss) = StmtRowCalls ss
    KindCalls (declare o es) = RowCalls es
    KindCalls (branch c a b) = ExprCalls c × StmtCalls a × OptionStmtCalls b
    KindCalls (while_loop c s) = ExprCalls c × StmtCalls s
    KindCalls (do_loop s c) = StmtCalls s × ExprCalls c
    KindCalls (for_loop i c n s) = OptionStmtCalls i × OptionalCalls c × OptionalCalls n × StmtCalls s
    KindCalls break_loop = ⊤
    KindCalls continue_loop = ⊤
    KindCalls (return_value e) = OptionalCalls e

    pub OptionStmtCalls : OptionPlainStmt → Type 0
    OptionStmtCalls no_stmt = ⊤
    OptionStmtCalls (a_stmt s) = StmtCalls s

    pub StmtRowCalls : PlainStmts → Type 0
    StmtRowCalls last_stmt = ⊤
    StmtRowCalls (next_stmt s ss) = StmtCalls s × StmtRowCalls ss

  -- where the list of what a part calls has such functions only, so has the part, and what follows it
  mutual
    all_expr : (e : PlainExpr) (rest : List ℕ) → AllByRecursion May (expr_calls e rest) → ExprCalls e × AllByRecursion May rest
    all_expr (expression ty mode node) rest h = all_node node rest h

    all_node : (node : PlainNode) (rest : List ℕ) → AllByRecursion May (node_calls node rest) → NodeCalls node × AllByRecursion May rest
    all_node (number n) rest h = (tt, h)
    all_node null rest h = (tt, h)
    all_node (load p) rest h = all_place p rest h
    all_node (address_of p) rest h = all_place p rest h
    all_node (unary op a) rest h = all_expr a rest h
    all_node (binary op a b) rest h = let x0 = all_expr a (expr_calls b rest) h in let x1 = all_expr b rest x0.1 in ((x0.0, x1.0), x1.1)
    all_node (convert a) rest h = all_expr a rest h
    all_node (assign p a) rest h = let x0 = all_place p (expr_calls a rest) h in let x1 = all_expr a rest x0.1 in ((x0.0, x1.0), x1.1)
    all_node (compound op mode p a) rest h =
        let x0 = all_place p (expr_calls a rest) h in
        let x1 = all_expr a rest x0.1 in
        ((x0.0, x1.0), x1.1)
    all_node (step up prefix p) rest h = all_place p rest h
    all_node (logical_not a) rest h = all_expr a rest h
    all_node (logical_and a b) rest h = let x0 = all_expr a (expr_calls b rest) h in let x1 = all_expr b rest x0.1 in ((x0.0, x1.0), x1.1)
    all_node (logical_or a b) rest h = let x0 = all_expr a (expr_calls b rest) h in let x1 = all_expr b rest x0.1 in ((x0.0, x1.0), x1.1)
    all_node (conditional c a b) rest h =
        let x0 = all_expr c (expr_calls a (expr_calls b rest)) h in
        let x1 = all_expr a (expr_calls b rest) x0.1 in
        let x2 = all_expr b rest x1.1 in
        ((x0.0, x1.0, x2.0), x2.1)
    all_node (comma a b) rest h = let x0 = all_expr a (expr_calls b rest) h in let x1 = all_expr b rest x0.1 in ((x0.0, x1.0), x1.1)
    all_node (call f args) rest h = let x1 = all_row args rest h.1 in ((h.0, x1.0), x1.1)
    all_node (io op port index value) rest h =
        let x0 = all_option index (option_calls value rest) h in
        let x1 = all_option value rest x0.1 in
        ((x0.0, x1.0), x1.1)
    all_node (group acquire g) rest h = (tt, h)
    all_node (bind d choice) rest h = (tt, h)
    all_node (dynamic_group acquire d) rest h = (tt, h)

    all_place : (p : PlainPlace) (rest : List ℕ) → AllByRecursion May (place_calls p rest) → PlaceCalls p × AllByRecursion May rest
    all_place (object o) rest h = (tt, h)
    all_place (deref e) rest h = all_expr e rest h
    all_place (member q i) rest h = all_place q rest h

    all_option : (e : OptionPlainExpr) (rest : List ℕ) → AllByRecursion May (option_calls e rest) → OptionCalls e × AllByRecursion May rest
    all_option no_expr rest h = (tt, h)
    all_option (an_expr e) rest h = all_expr e rest h

    all_row : (es : PlainExprs) (rest : List ℕ) → AllByRecursion May (exprs_calls es rest) → RowCalls es × AllByRecursion May rest
    all_row last_expr rest h = (tt, h)
    all_row (next_expr e es) rest h = let x0 = all_expr e (exprs_calls es rest) h in let x1 = all_row es rest x0.1 in ((x0.0, x1.0), x1.1)

  all_optional : (e : Option PlainExpr) (rest : List ℕ) → AllByRecursion May (optional_calls e rest)
      → OptionalCalls e × AllByRecursion May rest
  all_optional None rest h = (tt, h)
  all_optional (Some e) rest h = all_expr e rest h

  mutual
    pub all_stmt : (s : PlainStmt) (rest : List ℕ) → AllByRecursion May (stmt_calls s rest) → StmtCalls s × AllByRecursion May rest
    all_stmt (statement unit at kind) rest h = all_kind kind rest h

    all_kind : (kind : PlainKind) (rest : List ℕ) → AllByRecursion May (kind_calls kind rest) → KindCalls kind × AllByRecursion May rest
    all_kind empty rest h = (tt, h)
    all_kind (evaluate e) rest h = all_expr e rest h
    all_kind (block ss) rest h = all_stmt_row ss rest h
    all_kind (declare o es) rest h = all_row es rest h
    all_kind (branch c a b) rest h =
        let x0 = all_expr c (stmt_calls a (option_stmt_calls b rest)) h in
        let x1 = all_stmt a (option_stmt_calls b rest) x0.1 in
        let x2 = all_option_stmt b rest x1.1 in
        ((x0.0, x1.0, x2.0), x2.1)
    all_kind (while_loop c s) rest h = let x0 = all_expr c (stmt_calls s rest) h in let x1 = all_stmt s rest x0.1 in ((x0.0, x1.0), x1.1)
    all_kind (do_loop s c) rest h = let x0 = all_stmt s (expr_calls c rest) h in let x1 = all_expr c rest x0.1 in ((x0.0, x1.0), x1.1)
    all_kind (for_loop i c n s) rest h =
        let x0 = all_option_stmt i (optional_calls c (optional_calls n (stmt_calls s rest))) h in
        let x1 = all_optional c (optional_calls n (stmt_calls s rest)) x0.1 in
        let x2 = all_optional n (stmt_calls s rest) x1.1 in
        let x3 = all_stmt s rest x2.1 in
        ((x0.0, x1.0, x2.0, x3.0), x3.1)
    all_kind break_loop rest h = (tt, h)
    all_kind continue_loop rest h = (tt, h)
    all_kind (return_value e) rest h = all_optional e rest h

    all_option_stmt : (s : OptionPlainStmt) (rest : List ℕ) → AllByRecursion May (option_stmt_calls s rest)
        → OptionStmtCalls s × AllByRecursion May rest
    all_option_stmt no_stmt rest h = (tt, h)
    all_option_stmt (a_stmt s) rest h = all_stmt s rest h

    all_stmt_row : (ss : PlainStmts) (rest : List ℕ) → AllByRecursion May (stmts_calls ss rest) → StmtRowCalls ss × AllByRecursion May rest
    all_stmt_row last_stmt rest h = (tt, h)
    all_stmt_row (next_stmt s ss) rest h =
        let x0 = all_stmt s (stmts_calls ss rest) h in
        let x1 = all_stmt_row ss rest x0.1 in
        ((x0.0, x1.0), x1.1)

  -- where every function may be called, each part calls such functions only
  module _ (every : (g : ℕ) → May g) where
    each : (gs : List ℕ) → AllByRecursion May gs
    each [] = tt
    each (g ∷ gs) = (every g, each gs)

    pub any_expr : (e : PlainExpr) → ExprCalls e
    any_expr e = (all_expr e [] (each (expr_calls e []))).0

    pub any_place : (p : PlainPlace) → PlaceCalls p
    any_place p = (all_place p [] (each (place_calls p []))).0

    pub any_row : (es : PlainExprs) → RowCalls es
    any_row es = (all_row es [] (each (exprs_calls es []))).0

    pub any_stmt : (s : PlainStmt) → StmtCalls s
    any_stmt s = (all_stmt s [] (each (stmt_calls s []))).0

    pub any_option_stmt : (s : OptionPlainStmt) → OptionStmtCalls s
    any_option_stmt s = (all_option_stmt s [] (each (option_stmt_calls s []))).0

-- ---- how deep calls nest

-- calls from a function on nest at most so deep, unless what no valid program has may be met
abbrev pub Fits : PlainProgram → Type 0 → ℕ → ℕ → Type 0
Fits program invalid zero g = (function : PlainFunction) → slice_get program.functions g ≡ Some function → invalid
Fits program invalid (suc depth) g = (function : PlainFunction) → slice_get program.functions g ≡ Some function
    → StmtCalls (Fits program invalid depth) function.body

pub any_fits : (program : PlainProgram) (depth g : ℕ) → Fits program ⊤ depth g
any_fits program zero g = λ function e. tt
any_fits program (suc depth) g = λ function e. any_stmt (Fits program ⊤ depth) (any_fits program depth) function.body

-- a fact of each item of a list
of_items : {P : ℕ → Type 0} (xs : List ℕ) → ((x : ℕ) → Contains xs x → P x) → AllByRecursion P xs
of_items [] h = tt
of_items {P} (x ∷ xs) h = (h x (0, omega arith, refl), of_items {P = P} xs (λ y c. h y (suc c.0, omega (arith, c.1), c.2)))

-- ---- different numbers below a number

abbrev Different : List ℕ → Type 0
Different [] = ⊤
Different (x ∷ xs) = AllByRecursion (λ y. x ≢ y) xs × Different xs

-- a list without the first item that is n
abbrev without : ℕ → List ℕ → List ℕ
without n [] = []
without n (x ∷ xs) = if x == n then xs else x ∷ without n xs

less_other : (a b : ℕ) → (a ≡ b → ⊥) → a < suc b → a < b
less_other a b d l = by_order (nat_le (suc a) b) refl
  where
    by_order : (c : Bool) → nat_le (suc a) b ≡ c → a < b
    by_order true e = let f = leb-true (suc a) b e in omega (arith, f)
    by_order false e = let f = leb-false (suc a) b e in absurd (d (omega (arith, l, f)))

all_below : (n : ℕ) (xs : List ℕ) → AllByRecursion (λ y. n ≢ y) xs → AllByRecursion (λ y. y < suc n) xs → AllByRecursion (λ y. y < n) xs
all_below n [] h b = tt
all_below n (x ∷ xs) h b = (less_other x n (λ e. h.0 (sym e)) b.0, all_below n xs h.1 b.1)

record IsWithout (n : ℕ) (xs : List ℕ) (ys : List ℕ) : Type 1 where
  short : length xs ≤ suc (length ys)
  different : Different ys
  below : AllByRecursion (λ y. y < n) ys
  kept : (P : ℕ → Type 0) → AllByRecursion P xs → AllByRecursion P ys

removed : (n : ℕ) (xs : List ℕ) → Different xs → AllByRecursion (λ y. y < suc n) xs → IsWithout n xs (without n xs)
removed n [] d b = record { short = omega arith; different = tt; below = tt; kept = λ P h. h }
removed n (x ∷ xs) d b = by_test (x == n) refl (removed n xs d.1 b.1)
  where
    by_test : (c : Bool) → (x == n) ≡ c → IsWithout n xs (without n xs) → IsWithout n (x ∷ xs) (if c then xs else x ∷ without n xs)
    by_test true e r =
        let f : x ≡ n = eqb-true x n e in
        record {
          short = omega arith;
          different = d.1;
          below = all_below n xs (subst (λ (m : ℕ). AllByRecursion (λ y. m ≢ y) xs) f d.0) b.1;
          kept = λ P h. h.1;
        }
    by_test false e r =
        let s = r.short in
        record {
          short = omega (arith, s);
          different = (r.kept (λ y. x ≢ y) d.0, r.different);
          below = (less_other x n (eqb-false x n e) b.0, r.below);
          kept = λ P h. (h.0, r.kept P h.1);
        }

-- there are at most n different numbers below n
fewer : (n : ℕ) (xs : List ℕ) → Different xs → AllByRecursion (λ y. y < n) xs → length xs ≤ n
fewer zero [] d b = omega arith
fewer zero (x ∷ xs) d b = let l = b.0 in absurd (omega (arith, l))
fewer (suc n) xs d b =
    let r = removed n xs d b in
    let s = r.short in
    let f = fewer n (without n xs) r.different r.below in
    omega (arith, s, f)

-- ---- a program without recursion

module _ (program : PlainProgram) (no_recursion : (f : ℕ) → ¬ Reaches program f f) where
  -- what reaches a function reaches those that it calls
  extended : (g h v : ℕ) (function : PlainFunction) → slice_get program.functions g ≡ Some function
      → Contains (stmt_calls function.body []) h → Reaches program g v → Reaches program h v
  extended g h v function e c (calls _ other i j) = calls_through v g other i j (calls g function e c)
  extended g h v function e c (calls_through _ m other i j r) = calls_through v m other i j (extended g h m function e c r)

  all_extended : (g h : ℕ) (vs : List ℕ) (function : PlainFunction) → slice_get program.functions g ≡ Some function
      → Contains (stmt_calls function.body []) h → AllByRecursion (λ v. Reaches program g v) vs
      → AllByRecursion (λ v. Reaches program h v) vs
  all_extended g h [] function e c r = tt
  all_extended g h (v ∷ vs) function e c r = (extended g h v function e c r.0, all_extended g h vs function e c r.1)

  all_other : (g : ℕ) (vs : List ℕ) → AllByRecursion (λ v. Reaches program g v) vs → AllByRecursion (λ v. g ≢ v) vs
  all_other g [] r = tt
  all_other g (v ∷ vs) r = ((λ e. no_recursion v (subst (λ (z : ℕ). Reaches program z v) e r.0)), all_other g vs r.1)

  -- the functions that are being executed, each of which reaches the next, are different
  fits_below : (depth : ℕ) (visited : List ℕ) (g : ℕ) → Different visited → AllByRecursion (λ v. v < length program.functions) visited
      → length program.functions ≤ length visited + depth → AllByRecursion (λ v. Reaches program g v) visited → Fits program ⊥ depth g
  fits_below zero visited g d b l r = λ function e.
      (let k : g < length program.functions = slice_get_within program.functions g function e in
      let f = fewer (length program.functions) (g ∷ visited) (all_other g visited r, d) (k, b) in
      omega (arith, f, l))
  fits_below (suc depth) visited g d b l r = λ function e.
      (let k : g < length program.functions = slice_get_within program.functions g function e in
      (all_stmt (Fits program ⊥ depth) function.body []
      (of_items {P = Fits program ⊥ depth} (stmt_calls function.body []) (λ h c.
      fits_below depth (g ∷ visited) h (all_other g visited r, d) (k, b) (omega (arith, l))
      (calls g function e c, all_extended g h visited function e c r)))).0)

  pub all_fit : (g : ℕ) → Fits program ⊥ (length program.functions) g
  all_fit g = fits_below (length program.functions) [] g tt tt (omega arith) tt
