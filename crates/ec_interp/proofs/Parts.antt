-- Calls and blocks as plain trees, and the weights of items.
use Rattle.std.proofs.Common.{◌≡◌, ◌<◌, ◌+◌, ◌-◌, ◌*◌, ℕ, zero, suc, Bool, List, [], ◌∷◌, length, get_or, drop, Some, None, refl, ap, subst}
use Rattle.std.proofs.Common.{arith, rules}
use Rattle.std.proofs.Math.Seq.{drop-cons}
use Rattle.std.specs.Prelude.{slice_get}
use Rattle.ec_fx.specs.declared.numbers.Mode.{Mode}
use Rattle.ec_space.specs.Listed.{Listed}
use Rattle.ec_core.specs.declared.expressions.Expr.{Expr}
use Rattle.ec_core.specs.declared.expressions.Node.{Call, the_lemmas as node_lemmas}
use Rattle.ec_core.specs.declared.statements.Stmt.{Stmt}
use Rattle.ec_core.specs.declared.statements.StmtKind.{Block, Local, the_lemmas as kind_lemmas}
use Rattle.ec_core.specs.Plain.{a_stmt, statement, PlainType, PlainPlace, object, deref, member, PlainFunction, PlainProgram, PlainStmt}
use Rattle.ec_core.specs.Plain.{PlainStmts, call, empty, evaluate, block, declare, branch, while_loop, do_loop, for_loop, break_loop}
use Rattle.ec_core.specs.Plain.{continue_loop, return_value, plain_node, plain_kind, plain_expr, plain_exprs, plain_stmt, plain_stmts}
use Rattle.ec_core.specs.Accesses.{begun, initialised}
use Rattle.ec_core.specs.Layout.{scalar_size}
use Rattle.ec_core.specs.Expressions.{Calls, node_value, values_of}
use Rattle.ec_core.specs.PortAccesses.{next_byte, byte_read, number_read}
use Rattle.ec_core.specs.PortTable.{PlainTable}
use Rattle.ec_core.specs.State.{Inputs, Setting, State, worked, Outcome, next, undefined}
use Rattle.ec_core.specs.Statements.{Exit, effect_of, kind_effect, first_effect, effects_of, ending, declared, declared_first, again}
use Rattle.ec_core.specs.Statements.{tested, turns, parameters_written, calls_within, call_of}
use Rattle.ec_core.specs.Words.{widest, pointer_types, loop_words, node_words, total_size}
use Rattle.ec_core.specs.declared.values.Undefined.TheVariants.{Invalid}
use Rattle.ec_core.specs.declared.values.Value.{Value}
use Rattle.ec_iohw.specs.declared.table.IoTable.{IoTable}
use Rattle.ec_core.specs.Valid.{ValidStmt, ValidStmts}
use Rattle.ec_core.proofs.Rows.{plain_expr_row-row, plain_stmt_row-row}
use Rattle.ec_interp.specs.Loops.{block_items}
use Rattle.ec_interp.specs.Lookups.{widest_from}
use Rattle.ec_interp.specs.Weights.{expr_weight, node_weight, exprs_weight, stmt_weight, kind_weight, stmts_weight, bodies}

pub plain_call : (f : ℕ) (args : Listed Expr) → plain_node (Call f args) ≡ call f (plain_exprs args.items)
plain_call f args = search (rules, plain_expr_row-row, node_lemmas)

pub plain_block : (ss : Listed Stmt) → plain_kind (Block ss) ≡ block (plain_stmts ss.items)
plain_block ss = search (rules, plain_stmt_row-row, kind_lemmas)

pub plain_local : (o : ℕ) (values : Listed Expr) → plain_kind (Local o values) ≡ declare o (plain_exprs values.items)
plain_local o values = search (rules, plain_expr_row-row, kind_lemmas)

pub words_call : (table : PlainTable) (ty : PlainType) (f : ℕ) (args : Listed Expr)
    → node_words table ty (plain_node (Call f args)) ≡ 60 + 10 * (total_size (plain_exprs args.items) + scalar_size ty)
words_call table ty f args = ap (node_words table ty) (plain_call f args)

pub value_call : (w : Setting) (calls : Calls) (ty : PlainType) (mode : Mode) (f : ℕ) (args : Listed Expr) (s : State)
    → node_value w calls ty mode (plain_node (Call f args)) s ≡ next (values_of w calls (plain_exprs args.items) s) (λ xs s1. calls f xs s1)
value_call w calls ty mode f args s = ap (λ node. node_value w calls ty mode node s) (plain_call f args)

pub effect_block : (w : Setting) (calls : Calls) (n : ℕ) (ss : Listed Stmt) (s : State) → kind_effect w calls n (plain_kind (Block ss)) s
    ≡ ending (declared (plain_stmts ss.items)) (effects_of w calls n (plain_stmts ss.items) s)
effect_block w calls n ss s = ap (λ kind. kind_effect w calls n kind s) (plain_block ss)

pub first_is_block : (w : Setting) (calls : Calls) (n : ℕ) (a : PlainStmt) (ss : PlainStmts) (s : State) → Some ss ≡ block_items a
    → first_effect w calls n (a_stmt a) s ≡ effects_of w calls n ss s
first_is_block w calls n (statement unit at (block all)) ss s e = let f : all ≡ ss = cc in ap (λ z. effects_of w calls n z s) f
first_is_block w calls n (statement unit at empty) ss s e = cc
first_is_block w calls n (statement unit at (evaluate x)) ss s e = cc
first_is_block w calls n (statement unit at (declare o es)) ss s e = cc
first_is_block w calls n (statement unit at (branch c a b)) ss s e = cc
first_is_block w calls n (statement unit at (while_loop c a)) ss s e = cc
first_is_block w calls n (statement unit at (do_loop a c)) ss s e = cc
first_is_block w calls n (statement unit at (for_loop i c l a)) ss s e = cc
first_is_block w calls n (statement unit at break_loop) ss s e = cc
first_is_block w calls n (statement unit at continue_loop) ss s e = cc
first_is_block w calls n (statement unit at (return_value x)) ss s e = cc

pub first_is_other : (w : Setting) (calls : Calls) (n : ℕ) (a : PlainStmt) (s : State) → None ≡ block_items a
    → first_effect w calls n (a_stmt a) s ≡ effect_of w calls n a s
first_is_other w calls n (statement unit at (block all)) s e = cc
first_is_other w calls n (statement unit at empty) s e = refl
first_is_other w calls n (statement unit at (evaluate x)) s e = refl
first_is_other w calls n (statement unit at (declare o es)) s e = refl
first_is_other w calls n (statement unit at (branch c a b)) s e = refl
first_is_other w calls n (statement unit at (while_loop c a)) s e = refl
first_is_other w calls n (statement unit at (do_loop a c)) s e = refl
first_is_other w calls n (statement unit at (for_loop i c l a)) s e = refl
first_is_other w calls n (statement unit at break_loop) s e = refl
first_is_other w calls n (statement unit at continue_loop) s e = refl
first_is_other w calls n (statement unit at (return_value x)) s e = refl

pub block_lighter : (a : PlainStmt) (ss : PlainStmts) → Some ss ≡ block_items a → stmts_weight ss + 3 ≡ stmt_weight a
block_lighter (statement unit at (block all)) ss e = let f : ss ≡ all = cc in ap (λ z. stmts_weight z + 3) f
block_lighter (statement unit at empty) ss e = cc
block_lighter (statement unit at (evaluate x)) ss e = cc
block_lighter (statement unit at (declare o es)) ss e = cc
block_lighter (statement unit at (branch c a b)) ss e = cc
block_lighter (statement unit at (while_loop c a)) ss e = cc
block_lighter (statement unit at (do_loop a c)) ss e = cc
block_lighter (statement unit at (for_loop i c l a)) ss e = cc
block_lighter (statement unit at break_loop) ss e = cc
block_lighter (statement unit at continue_loop) ss e = cc
block_lighter (statement unit at (return_value x)) ss e = cc

pub block_valid : (program : PlainProgram) (io : IoTable) (f : ℕ) (returns : PlainType) (in_loop : Bool) (a : PlainStmt) (ss : PlainStmts)
    → Some ss ≡ block_items a → ValidStmt program io f returns in_loop a → ValidStmts program io f returns in_loop ss
block_valid program io f returns in_loop (statement unit at (block all)) ss e v =
    let g : all ≡ ss = cc in
    subst (λ (z : PlainStmts). ValidStmts program io f returns in_loop z) g v
block_valid program io f returns in_loop (statement unit at empty) ss e v = cc
block_valid program io f returns in_loop (statement unit at (evaluate x)) ss e v = cc
block_valid program io f returns in_loop (statement unit at (declare o es)) ss e v = cc
block_valid program io f returns in_loop (statement unit at (branch c a b)) ss e v = cc
block_valid program io f returns in_loop (statement unit at (while_loop c a)) ss e v = cc
block_valid program io f returns in_loop (statement unit at (do_loop a c)) ss e v = cc
block_valid program io f returns in_loop (statement unit at (for_loop i c l a)) ss e v = cc
block_valid program io f returns in_loop (statement unit at break_loop) ss e v = cc
block_valid program io f returns in_loop (statement unit at continue_loop) ss e v = cc
block_valid program io f returns in_loop (statement unit at (return_value x)) ss e v = cc

pub first_block : (unit at : ℕ) (ss : Listed Stmt)
    → declared_first (a_stmt (statement unit at (plain_kind (Block ss)))) ≡ declared (plain_stmts ss.items)
first_block unit at ss = ap (λ kind. declared_first (a_stmt (statement unit at kind))) (plain_block ss)

pub weight_call : (f : ℕ) (args : Listed Expr) → node_weight (plain_node (Call f args)) ≡ exprs_weight (plain_exprs args.items) + 3
weight_call f args = ap node_weight (plain_call f args)

pub weight_block : (ss : Listed Stmt) → kind_weight (plain_kind (Block ss)) ≡ stmts_weight (plain_stmts ss.items) + 3
weight_block ss = ap kind_weight (plain_block ss)

pub widest_pointers : (p : PlainPlace) (tys : List PlainType) → widest (pointer_types p tys) ≡ widest_from p (widest tys)
widest_pointers (object o) tys = refl
widest_pointers (deref e) tys = refl
widest_pointers (member p i) tys = widest_pointers p tys

-- ---- weights

exprs_some : (es : List Expr) → 0 < exprs_weight (plain_exprs es)
exprs_some [] = omega arith
exprs_some (e ∷ es) = let p = exprs_some es in omega arith

pub lighter_expr : (es : List Expr) (i : ℕ) (d : Expr) → i < length es
    → expr_weight (plain_expr (get_or es i d)) < exprs_weight (plain_exprs es)
lighter_expr [] i d h = absurd (omega arith)
lighter_expr (e ∷ es) zero d h = let p = exprs_some es in omega arith
lighter_expr (e ∷ es) (suc i) d h = let p = lighter_expr es i d (omega arith) in omega arith

stmts_some : (ss : List Stmt) → 0 < stmts_weight (plain_stmts ss)
stmts_some [] = omega arith
stmts_some (s ∷ ss) = let p = stmts_some ss in omega arith

pub lighter_stmt : (ss : List Stmt) (i : ℕ) (d : Stmt) → i < length ss
    → stmt_weight (plain_stmt (get_or ss i d)) < stmts_weight (plain_stmts ss)
lighter_stmt [] i d h = absurd (omega arith)
lighter_stmt (s ∷ ss) zero d h = let p = stmts_some ss in omega arith
lighter_stmt (s ∷ ss) (suc i) d h = let p = lighter_stmt ss i d (omega arith) in omega arith

bodies_some : (fs : List PlainFunction) → 2 < bodies fs
bodies_some [] = omega arith
bodies_some (f ∷ fs) = let p = bodies_some fs in omega arith

pub lighter_body : (fs : List PlainFunction) (i : ℕ) (f : PlainFunction) → slice_get fs i ≡ Some f → stmt_weight f.body + 2 < bodies fs
lighter_body [] i f h = cc
lighter_body (g ∷ fs) zero f h =
    let e : g ≡ f = cc in
    let p = bodies_some fs in
    omega (arith, ap (λ (k : PlainFunction). stmt_weight k.body) e)
lighter_body (g ∷ fs) (suc i) f h = let p = lighter_body fs i f h in omega arith

-- ---- one turn, and one call less

pub turns_one : (n : ℕ) (body : State → Outcome Exit) (test : State → Outcome Bool) (s : State) → 0 < n → turns n body test s
    ≡ next (body (worked loop_words s)) (λ x s1. again x s1 (λ s2. tested (test s2) (λ s3. turns (n - 1) body test s3)))
turns_one zero body test s h = absurd (omega arith)
turns_one (suc n) body test s h =
    let e : n ≡ suc n - 1 = omega arith in
    ap (λ k. next (body (worked loop_words s)) (λ x s1. again x s1 (λ s2. tested (test s2) (λ s3. turns k body test s3)))) e

pub calls_one : (w : Setting) (n d f : ℕ) (xs : List Value) (s : State) → 0 < d
    → calls_within w n d f xs s ≡ call_of w (calls_within w n (d - 1)) n f (slice_get w.program.functions f) xs s
calls_one w n zero f xs s h = absurd (omega arith)
calls_one w n (suc d) f xs s h =
    let e : d ≡ suc d - 1 = omega arith in
    ap (λ k. call_of w (calls_within w n k) n f (slice_get w.program.functions f) xs s) e

pub one_less : (d b : ℕ) → 0 < d → (d - 1) * b + b ≡ d * b
one_less zero b h = absurd (omega arith)
one_less (suc d) b h = let e : suc d - 1 ≡ d = omega arith in rw e (grind arith)

-- ---- ports

pub number_read_one : (inputs : Inputs) (n port : ℕ) (s : State) → 0 < n
    → number_read inputs n port s ≡ next_byte inputs port s + 256 * number_read inputs (n - 1) (port + 1) (byte_read inputs port s)
number_read_one inputs zero port s h = absurd (omega arith)
number_read_one inputs (suc n) port s h =
    let e : n ≡ suc n - 1 = omega arith in
    ap (λ k. next_byte inputs port s + 256 * number_read inputs k (port + 1) (byte_read inputs port s)) e

-- ---- parameters

past_none : (xs : List Value) (k : ℕ) → slice_get xs k ≡ None → drop k xs ≡ []
past_none [] zero e = refl
past_none [] (suc k) e = refl
past_none (x ∷ xs) zero e = cc
past_none (x ∷ xs) (suc k) e = past_none xs k e

some_first : (xs : List Value) (k : ℕ) (v : Value) → slice_get xs k ≡ Some v → drop k xs ≡ v ∷ drop (suc k) xs
some_first [] zero v e = cc
some_first [] (suc k) v e = cc
some_first (x ∷ xs) zero v e = let f : x ≡ v = cc in ap (λ y. y ∷ xs) f
some_first (x ∷ xs) (suc k) v e = some_first xs k v e

pub parameters_none : (w : Setting) (os : List ℕ) (xs : List Value) (i : ℕ) (s : State) → i < length os → slice_get xs i ≡ None
    → parameters_written w (drop i os) (drop i xs) s ≡ undefined Invalid s
parameters_none w os xs i s h e =
    let past : drop i xs ≡ [] = past_none xs i e in
    let more = drop-cons os i 0 h in
    rw (past, more) refl

pub parameters_some : (w : Setting) (os : List ℕ) (xs : List Value) (i : ℕ) (x : Value) (s : State) → i < length os
    → slice_get xs i ≡ Some x → parameters_written w (drop i os) (drop i xs) s ≡ next (initialised w.program (get_or os i 0) 0 x
    (begun w.program (get_or os i 0) s)) (λ y s1. parameters_written w (drop (suc i) os) (drop (suc i) xs) s1)
parameters_some w os xs i x s h e = rw (some_first xs i x e, drop-cons os i 0 h) refl
