-- What was emitted for a part, said of an equal one.
use Rattle.std.proofs.Common.{◌≡◌, ◌+◌, ℕ, Bool, List, ap, refl, subst, arith}
use Rattle.std.specs.declared.boxed.Box.{Box}
use Rattle.std.specs.Global.{Global}
use Rattle.ec_fx.specs.declared.numbers.Mode.{Mode}
use Rattle.ec_core.specs.declared.expressions.Expr.{Expr}
use Rattle.ec_core.specs.declared.expressions.Node.{Node, Number, Null, Load, AddressOf, Unary', Binary', Convert', Assign'}
use Rattle.ec_core.specs.declared.expressions.Node.{Compound', Step, Not, Not', And, And', Or, Or', Cond', Comma, Comma'}
use Rattle.ec_core.specs.declared.expressions.Node.{Call', Io', Group, Bind, DynGroup}
use Rattle.ec_core.specs.declared.expressions.PlaceExpr.{PlaceExpr}
use Rattle.ec_core.specs.Plain.{PlainExpr, expression, PlainNode, PlainProgram, PlainType, plain_node}
use Rattle.ec_core.specs.PortTable.{PlainTable}
use Rattle.ec_ir.specs.declared.operations.Ir.{Ir}
use Rattle.ec_ir.specs.Operations.{PlainIr}
use Rattle.ec_lower.specs.Emits.{Emits}
use Rattle.ec_lower_code.specs.Code.{Branch, branch_code, branch_to, expr_code, expr_labels, node_code, temp, unread_code}

-- the first label behind a part
pub behind_part : {k j l : ℕ} {x y : PlainExpr} → k ≡ j + expr_labels x → j ≡ l → x ≡ y → k ≡ l + expr_labels y
behind_part h e p = omega (arith, h, e, ap expr_labels p)

module _ (program : PlainProgram) (table : PlainTable) (old new : List Ir) (t : ℕ) where
  pub node_at : (ty : PlainType) (mode : Mode) (l : ℕ) {x y : PlainNode} → Emits old new (node_code program table ty mode x l t) → x ≡ y
      → Emits old new (node_code program table ty mode y l t)
  node_at ty mode l h e = subst (λ (z : PlainNode). Emits old new (node_code program table ty mode z l t)) e h

  module _ {x y : PlainExpr} {k m : ℕ} where
    pub expr_at : Emits old new (expr_code program table x k t) → x ≡ y → k ≡ m → Emits old new (expr_code program table y m t)
    expr_at h e n =
        subst (λ (z : PlainExpr). Emits old new (expr_code program table z m t)) e
        (subst (λ (l : ℕ). Emits old new (expr_code program table x l t)) n h)

    pub unread_at : Emits old new (unread_code program table x k t) → x ≡ y → k ≡ m
        → Emits old new (unread_code program table y m t)
    unread_at h e n =
        subst (λ (z : PlainExpr). Emits old new (unread_code program table z m t)) e
        (subst (λ (l : ℕ). Emits old new (unread_code program table x l t)) n h)

    pub branch_at : {to on : Branch} → Emits old new (branch_code program table x k t to) → x ≡ y → k ≡ m → to ≡ on
        → Emits old new (branch_code program table y m t on)
    branch_at {to} {on} h e n b =
        subst (λ (z : PlainExpr). Emits old new (branch_code program table z m t on)) e
        (subst (λ (l : ℕ). Emits old new (branch_code program table x l t on)) n
        (subst (λ (c : Branch). Emits old new (branch_code program table x k t c)) b h))

module _ (program : PlainProgram) (table : PlainTable) (ty : PlainType) (mode : Mode) (l t : ℕ) where
  -- an expression is lowered the same way though nobody reads its value, except a step and a comma
  pub unread_else : (node : Node) → ((up prefix : Bool) (place : PlaceExpr) → node ≡ Step up prefix place → ⊥)
      → ((a b : Box Expr Global) → node ≡ Comma a b → ⊥) → (rest : List PlainIr)
      → node_code program table ty mode (plain_node node) l t rest
      ≡ unread_code program table (expression ty mode (plain_node node)) l t rest
  unread_else (Number n) no_step no_comma rest = refl
  unread_else Null no_step no_comma rest = refl
  unread_else (Load p) no_step no_comma rest = refl
  unread_else (AddressOf p) no_step no_comma rest = refl
  unread_else (Unary' op g aty amode a) no_step no_comma rest = refl
  unread_else (Binary' op g aty amode a h bty bmode b) no_step no_comma rest = refl
  unread_else (Convert' g aty amode a) no_step no_comma rest = refl
  unread_else (Assign' p g aty amode a) no_step no_comma rest = refl
  unread_else (Compound' op own p g aty amode a) no_step no_comma rest = refl
  unread_else (Step up prefix p) no_step no_comma rest = absurd (no_step _ _ _ refl)
  unread_else (Not' g aty amode a) no_step no_comma rest = refl
  unread_else (And' g aty amode a h bty bmode b) no_step no_comma rest = refl
  unread_else (Or' g aty amode a h bty bmode b) no_step no_comma rest = refl
  unread_else (Cond' f cty cmode c g aty amode a h bty bmode b) no_step no_comma rest = refl
  unread_else (Comma' g aty amode a h bty bmode b) no_step no_comma rest = absurd (no_comma _ _ refl)
  unread_else (Call' f shape args) no_step no_comma rest = refl
  unread_else (Io' op port index value) no_step no_comma rest = refl
  unread_else (Group acquire g) no_step no_comma rest = refl
  unread_else (Bind d choice) no_step no_comma rest = refl
  unread_else (DynGroup acquire d) no_step no_comma rest = refl

  -- a condition that is no `!`, `&&` or `||` is worked out, and its value leads on
  pub branch_else : (node : Node) → ((a : Box Expr Global) → node ≡ Not a → ⊥) → ((a b : Box Expr Global) → node ≡ And a b → ⊥)
      → ((a b : Box Expr Global) → node ≡ Or a b → ⊥) → (to : Branch) (rest : List PlainIr)
      → node_code program table ty mode (plain_node node) l t (branch_to to (temp t ty) rest)
      ≡ branch_code program table (expression ty mode (plain_node node)) l t to rest
  branch_else (Number n) no_not no_and no_or to rest = refl
  branch_else Null no_not no_and no_or to rest = refl
  branch_else (Load p) no_not no_and no_or to rest = refl
  branch_else (AddressOf p) no_not no_and no_or to rest = refl
  branch_else (Unary' op g aty amode a) no_not no_and no_or to rest = refl
  branch_else (Binary' op g aty amode a h bty bmode b) no_not no_and no_or to rest = refl
  branch_else (Convert' g aty amode a) no_not no_and no_or to rest = refl
  branch_else (Assign' p g aty amode a) no_not no_and no_or to rest = refl
  branch_else (Compound' op own p g aty amode a) no_not no_and no_or to rest = refl
  branch_else (Step up prefix p) no_not no_and no_or to rest = refl
  branch_else (Not' g aty amode a) no_not no_and no_or to rest = absurd (no_not _ refl)
  branch_else (And' g aty amode a h bty bmode b) no_not no_and no_or to rest = absurd (no_and _ _ refl)
  branch_else (Or' g aty amode a h bty bmode b) no_not no_and no_or to rest = absurd (no_or _ _ refl)
  branch_else (Cond' f cty cmode c g aty amode a h bty bmode b) no_not no_and no_or to rest = refl
  branch_else (Comma' g aty amode a h bty bmode b) no_not no_and no_or to rest = refl
  branch_else (Call' f shape args) no_not no_and no_or to rest = refl
  branch_else (Io' op port index value) no_not no_and no_or to rest = refl
  branch_else (Group acquire g) no_not no_and no_or to rest = refl
  branch_else (Bind d choice) no_not no_and no_or to rest = refl
  branch_else (DynGroup acquire d) no_not no_and no_or to rest = refl
