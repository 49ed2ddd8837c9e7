-- What declarations give an object, and values of type int.
use Rattle.std.proofs.Common.{◌≡◌, ◌<◌, ◌≤ℤ◌, ℕ, suc, ◌+◌, Bool, true, false, ◌&&◌, List, Some, None, Ok, [], ◌∷◌, ◌≤◌, ◌^◌, unsigned_abs, to_z, of_z, to_z-of_z, length, get_or, drop, Option, ℤ, pos, refl, ◌∙◌, ap, subst, sym, arith}
use Rattle.std.specs.Prelude.{if◌then◌else◌}
use Rattle.std.specs.Int.{w128}
use Rattle.std.proofs.lemmas.Int.{ints, fits_signed_from_abs}
use Rattle.std.proofs.lemmas.List.{drop_more}
use Rattle.ec_core.specs.declared.expressions.Expr.{Expr}
use Rattle.ec_core.specs.declared.statements.Stmt.{Stmt}
use Rattle.ec_core.specs.ArithmeticValues.{HoldsNumber}
use Rattle.ec_core.specs.Operators.{number_type, same_type}
use Rattle.ec_core.specs.Plain.{PlainExpr, PlainStmt, PlainStmts, PlainType, next_stmt, plain_exprs, plain_stmt, plain_stmts}
use Rattle.ec_core.specs.Typing.{int, type_of_expr}
use Rattle.ec_core.proofs.Sameness.{type_true}
use Rattle.ec_check_constants.specs.Constants.{constant}
use Rattle.ec_check_constants.specs.Tests.{is_constant}
use Rattle.ec_core_steps.specs.declared.touches.Touch.TheVariants.{Change}
use Rattle.ec_core_steps.specs.Counted.{is_int, if_defined, int_constant, initialiser, declared_alone, declared_among}
use Rattle.ec_core_steps.specs.Touches.{stmt_touches}

-- ---- declarations

one_changes : (o : ℕ) (s : PlainStmt) (ss : PlainStmts) → stmt_touches Change o s ≡ true
    → declared_among o (next_stmt s ss) ≡ declared_alone o s ss
one_changes o s ss e = rw e refl

none_changes : (o : ℕ) (s : PlainStmt) (ss : PlainStmts) → stmt_touches Change o s ≡ false
    → declared_among o (next_stmt s ss) ≡ declared_among o ss
none_changes o s ss e = rw e refl

pub declared_here : (o : ℕ) (ss : List Stmt) (i : ℕ) (d : Stmt) → i < length ss → stmt_touches Change o (plain_stmt (get_or ss i d)) ≡ true
    → declared_among o (plain_stmts (drop i ss)) ≡ declared_alone o (plain_stmt (get_or ss i d)) (plain_stmts (drop (i + 1) ss))
declared_here o ss i d l e =
    ap (λ (xs : List Stmt). declared_among o (plain_stmts xs)) (drop_more ss i d l)
    ∙ one_changes o (plain_stmt (get_or ss i d)) (plain_stmts (drop (i + 1) ss)) e

pub declared_later : (o : ℕ) (ss : List Stmt) (i : ℕ) (d : Stmt) → i < length ss
    → stmt_touches Change o (plain_stmt (get_or ss i d)) ≡ false
    → declared_among o (plain_stmts (drop i ss)) ≡ declared_among o (plain_stmts (drop (i + 1) ss))
declared_later o ss i d l e =
    ap (λ (xs : List Stmt). declared_among o (plain_stmts xs)) (drop_more ss i d l)
    ∙ none_changes o (plain_stmt (get_or ss i d)) (plain_stmts (drop (i + 1) ss)) e

pub no_initialiser : (o d : ℕ) (values : List Expr) → 2 ≤ length values → initialiser o d (plain_exprs values) ≡ None
no_initialiser o d [] l = absurd (omega (arith, l))
no_initialiser o d (v ∷ []) l = absurd (omega (arith, l))
no_initialiser o d (v ∷ w ∷ vs) l = refl

-- ---- values of type int

int_held : (n : ℤ) → HoldsNumber (number_type int) n → is_int n ≡ true
int_held n h = let low = h.1.low in let high = h.1.high in grind (arith, ints, low, high)

constant_held : (ty : PlainType) (n : ℤ) → same_type ty int ≡ true → HoldsNumber (number_type ty) n → is_int n ≡ true
constant_held ty n e h = int_held n (subst (λ t. HoldsNumber (number_type t) n) (type_true ty int e) h)

back : (n : ℤ) → unsigned_abs n < 2 ^ 127 → to_z w128 (of_z w128 n) ≡ n
back n h = to_z-of_z (fits_signed_from_abs w128 n h)

near : (n : ℤ) → is_int n ≡ true → unsigned_abs n < 2 ^ 127
near n e = grind (arith, ints, e)

passed : (n : ℤ) (result : Option ℤ) → is_int n ≡ true
    → result ≡ (if is_int (to_z w128 (of_z w128 n)) then Some (to_z w128 (of_z w128 n)) else None) → result ≡ Some n
passed n result e q =
    q ∙ ap (λ (z : ℤ). if is_int z then Some z else None) (back n (near n e)) ∙ ap (λ (x : Bool). if x then Some n else None) e

-- a constant of type int, by its value
pub int_value : (e : PlainExpr) (n : ℤ) (result : Option ℤ) → same_type (type_of_expr e) int ≡ true → is_constant e ≡ true
    → constant e ≡ Ok n → HoldsNumber (number_type (type_of_expr e)) n
    → result ≡ (if is_int (to_z w128 (of_z w128 n)) then Some (to_z w128 (of_z w128 n)) else None)
    → result ≡ int_constant e
int_value e n result a b v h q =
    passed n result (constant_held (type_of_expr e) n a h) q
    ∙ sym (ap (λ (x : Bool). if x && is_constant e then if_defined (constant e) else None) a
    ∙ ap (λ (x : Bool). if x then if_defined (constant e) else None) b ∙ ap if_defined v)
