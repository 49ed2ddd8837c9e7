-- Lists item by item, as plain trees, and the sizes of items.
use Rattle.std.proofs.Common.{◌≡◌, ◌<◌, ◌+◌, ℕ, zero, suc, List, [], ◌∷◌, length, get_or, drop, map, Some, ap, sym}
use Rattle.std.proofs.Common.{Bool, false, refl, subst, ◌∙◌, arith, rules}
use Rattle.std.proofs.Math.Seq.{drop-cons}
use Rattle.std.specs.Prelude.{◌==◌, slice_get}
use Rattle.std.specs.List.{AllByRecursion}
use Rattle.ec_fx.specs.declared.numbers.Mode.{Mode}
use Rattle.ec_iohw.specs.declared.table.Choice.{Choice}
use Rattle.ec_space.specs.Listed.{Listed}
use Rattle.ec_core.specs.declared.expressions.Expr.{Expr}
use Rattle.ec_core.specs.declared.expressions.Node.{Call, the_lemmas as node_lemmas}
use Rattle.ec_core.specs.declared.programs.Obj.{Obj}
use Rattle.ec_core.specs.declared.statements.Stmt.{Stmt}
use Rattle.ec_core.specs.declared.statements.StmtKind.{Block, the_lemmas as kind_lemmas}
use Rattle.ec_core.specs.Layout.{IsObjectType}
use Rattle.ec_core.specs.Valid.{IsObject}
use Rattle.ec_core.specs.Plain.{call, block, plain_node, plain_kind, plain_expr, plain_exprs, plain_stmt}
use Rattle.ec_core.specs.Plain.{plain_stmts, plain_object, PlainObject, PlainProgram}
use Rattle.ec_core.specs.PortTable.{PlainTable}
use Rattle.ec_core.proofs.Rows.{plain_expr_row-row, plain_stmt_row-row}
use Rattle.ec_ir.specs.Operations.{PlainIr, jump, label}
use Rattle.ec_lower_code.specs.Code.{group_code, base_test, choices_code}
use Rattle.ec_lower.specs.Sizes.{expr_size, exprs_size, stmt_size, stmts_size}

pub plain_call : (f : ℕ) (args : Listed Expr) → plain_node (Call f args) ≡ call f (plain_exprs args.items)
plain_call f args = search (rules, plain_expr_row-row, node_lemmas)

pub plain_block : (ss : Listed Stmt) → plain_kind (Block ss) ≡ block (plain_stmts ss.items)
plain_block ss = search (rules, plain_stmt_row-row, kind_lemmas)

-- the rest of a list, from the item at i on
pub list_next : {A : Type 0} (xs : List A) (i : ℕ) (x : A) → i < length xs → x ≡ get_or xs i x → drop i xs ≡ x ∷ drop (i + 1) xs
list_next xs i x l r =
    let n : suc i ≡ i + 1 = omega arith in drop-cons xs i x l ∙ (ap (λ y. y ∷ drop (suc i) xs) (sym r) ∙ ap (λ j. x ∷ drop j xs) n)

-- the objects of a valid program have object types
pub with_types : (p : PlainProgram) (os : List PlainObject) → AllByRecursion (IsObject p) os
    → AllByRecursion (λ o. IsObjectType (length p.structs) o.ty) os
with_types p [] h = tt
with_types p (o ∷ os) h = (h.0.ty, with_types p os h.1)

-- ---- sizes

exprs_some : (es : List Expr) → 0 < exprs_size (plain_exprs es)
exprs_some [] = omega arith
exprs_some (e ∷ es) = let p = exprs_some es in omega arith

pub smaller_expr : (es : List Expr) (i : ℕ) (d : Expr) → i < length es
    → expr_size (plain_expr (get_or es i d)) < exprs_size (plain_exprs es)
smaller_expr [] i d h = absurd (omega arith)
smaller_expr (e ∷ es) zero d h = let p = exprs_some es in omega arith
smaller_expr (e ∷ es) (suc i) d h = let p = smaller_expr es i d (omega arith) in omega arith

stmts_some : (ss : List Stmt) → 0 < stmts_size (plain_stmts ss)
stmts_some [] = omega arith
stmts_some (s ∷ ss) = let p = stmts_some ss in omega arith

pub smaller_stmt : (ss : List Stmt) (i : ℕ) (d : Stmt) → i < length ss
    → stmt_size (plain_stmt (get_or ss i d)) < stmts_size (plain_stmts ss)
smaller_stmt [] i d h = absurd (omega arith)
smaller_stmt (s ∷ ss) zero d h = let p = stmts_some ss in omega arith
smaller_stmt (s ∷ ss) (suc i) d h = let p = smaller_stmt ss i d (omega arith) in omega arith

-- ---- objects by their numbers

pub object_at : (P : PlainObject → Type 0) (objs : List Obj) (o : ℕ) (x : Obj) → Some x ≡ slice_get objs o
    → AllByRecursion P (map plain_object objs) → P (plain_object x)
object_at P [] o x e h = cc
object_at P (y ∷ ys) zero x e h = let s : y ≡ x = cc in subst (λ (z : Obj). P (plain_object z)) s h.0
object_at P (y ∷ ys) (suc o) x e h = object_at P ys o x e h.1

-- the operations of a choice that is not the last one
pub choices_more : (acquire : Bool) (table : PlainTable) (mode : Mode) (d : ℕ) (c : Choice) (cs : List Choice) (l t : ℕ)
    (rest : List PlainIr) → (length cs == 0) ≡ false
    → choices_code acquire table mode d (c ∷ cs) l t rest
    ≡ base_test mode d c.base l t (choices_code acquire table mode d cs (l + 2) t (jump (l + 1) ∷ label l
    ∷ group_code acquire (slice_get table.groups c.group) t (label (l + 1) ∷ rest)))
choices_more acquire table mode d c [] l t rest e = cc
choices_more acquire table mode d c (other ∷ cs) l t rest e = refl
