-- Statements one after another.
use Rattle.std.proofs.Common.{◌≡◌, ◌∙◌, ◌+◌, ◌<◌, ℕ, suc, refl, ap, sym, rules, arith, List, [], ◌∷◌, ◌++◌, map, drop, length, get_or}
use Rattle.std.proofs.Math.Seq.{drop-cons}
use Rattle.std.specs.Prelude.{Option, Some, None, option_map}
use Rattle.ec_space.specs.Listed.{Listed}
use Rattle.ec_grammar.specs.declared.Compound as compound
use Rattle.ec_grammar.specs.declared.Statement.TheVariants as statements
use Rattle.ec_grammar.specs.declared.Item.TheViews.{the_lemmas}
use Rattle.ec_grammar.specs.Trees as t
use Rattle.ec_grammar.specs.Views.{view_statement, view_compound}
use Rattle.ec_grammar.proofs.Backwards.{items_row}
use Rattle.ec_core.specs.declared.expressions.Expr.{Expr}
use Rattle.ec_core.specs.declared.statements.Stmt.{Stmt}
use Rattle.ec_core.specs.declared.statements.StmtKind.{Block, Local, the_lemmas as kind_lemmas}
use Rattle.ec_core.specs.Plain.{plain_kind, plain_stmt, plain_stmts, plain_expr, plain_exprs, next_expr, PlainStmt, PlainStmts, next_stmt}
use Rattle.ec_core.specs.Plain.{last_stmt, block, declare}
use Rattle.ec_core.proofs.Rows.{plain_stmt_row-row}
use Rattle.ec_check_expressions.specs.Callees.{exprs_of}
use Rattle.ec_check_statements.specs.Walks.{all_before, before, followed}

one_before : (ss : List PlainStmt) (s : PlainStmt) (rest : PlainStmts) → all_before (ss ++ s ∷ []) rest ≡ all_before ss (next_stmt s rest)
one_before [] s rest = refl
one_before (t ∷ ss) s rest = ap (next_stmt t) (one_before ss s rest)

-- a statement behind others comes before what follows
appended : (ss : List PlainStmt) (s : PlainStmt) (rest : Option PlainStmts)
    → before (Some (ss ++ s ∷ [])) rest ≡ before (Some ss) (followed (Some s) rest)
appended ss s None = refl
appended ss s (Some rest) = ap Some (one_before ss s rest)

mapped : (ss : List Stmt) (s : Stmt) → map plain_stmt (ss ++ s ∷ []) ≡ map plain_stmt ss ++ plain_stmt s ∷ []
mapped [] s = refl
mapped (t ∷ ss) s = ap (λ xs. plain_stmt t ∷ xs) (mapped ss s)

pub kept : (xs ss : List Stmt) (s : Stmt) → xs ≡ ss ++ s ∷ [] → (rest : Option PlainStmts)
    → before (Some (map plain_stmt xs)) rest ≡ before (Some (map plain_stmt ss)) (followed (Some (plain_stmt s)) rest)
kept xs ss s e rest =
    ap (λ ys. before (Some (map plain_stmt ys)) rest) e
    ∙ ap (λ ys. before (Some ys) rest) (mapped ss s)
    ∙ appended (map plain_stmt ss) (plain_stmt s) rest

pub nothing_more : (ss : Option (List PlainStmt)) → before ss None ≡ None
nothing_more None = refl
nothing_more (Some ss) = refl

all_are : (ss : List Stmt) → all_before (map plain_stmt ss) last_stmt ≡ plain_stmts ss
all_are [] = refl
all_are (s ∷ ss) = ap (next_stmt (plain_stmt s)) (all_are ss)

plain_block : (ss : Listed Stmt) → plain_kind (Block ss) ≡ block (plain_stmts ss.items)
plain_block ss = search (rules, plain_stmt_row-row, kind_lemmas)

pub blocked : (ss : Listed Stmt) → plain_kind (Block ss) ≡ block (all_before (map plain_stmt ss.items) last_stmt)
blocked ss = plain_block ss ∙ ap block (sym (all_are ss.items))

pub plain_local : (o : _) (values : Listed Expr) → plain_kind (Local o values) ≡ declare o (plain_exprs values.items)
plain_local o values = search (rules, kind_lemmas)

pub exprs_are : (es : List Expr) → plain_exprs es ≡ exprs_of (map plain_expr es)
exprs_are [] = refl
exprs_are (e ∷ es) = ap (next_expr (plain_expr e)) (exprs_are es)

pub nothing_before : (rest : Option PlainStmts) → before (Some []) rest ≡ rest
nothing_before None = refl
nothing_before (Some rest) = refl

-- a block of statements, at its first token
pub fused : {A B C : Type 0} (f : B → C) (g : A → B) (x : Option A) → option_map f (option_map g x) ≡ option_map (λ a. f (g a)) x
fused f g None = refl
fused f g (Some x) = refl

-- the rest of a list, from the item at i on
pub list_next : {A : Type 0} (xs : List A) (i : ℕ) (x : A) → i < length xs → x ≡ get_or xs i x → drop i xs ≡ x ∷ drop (i + 1) xs
list_next xs i x l r =
    let n : suc i ≡ i + 1 = omega arith in
    drop-cons xs i x l ∙ (ap (λ y. y ∷ drop (suc i) xs) (sym r) ∙ ap (λ j. x ∷ drop j xs) n)

pub view_block : (b : compound.Compound) → view_statement (statements.Compound b) ≡ t.block (view_compound b)
view_block b = search (rules, the_lemmas, items_row)
