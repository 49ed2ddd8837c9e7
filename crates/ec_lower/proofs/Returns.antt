-- Statements that are no returns.
use Rattle.std.proofs.Common.{◌≡◌, Option, false, refl}
use Rattle.ec_core.specs.declared.expressions.Expr.{Expr}
use Rattle.ec_core.specs.declared.statements.StmtKind.{StmtKind, Empty, Do1, Block', Local, If', While', DoWhile', For', Break}
use Rattle.ec_core.specs.declared.statements.StmtKind.{Continue, Return}
use Rattle.ec_core.specs.Plain.{plain_kind}
use Rattle.ec_lower_code.specs.Code.{is_return}

pub no_return : (kind : StmtKind) → ((e : Option Expr) → kind ≡ Return e → ⊥) → is_return (plain_kind kind) ≡ false
no_return Empty h = refl
no_return (Do1 e) h = refl
no_return (Block' shape ss) h = refl
no_return (Local o es) h = refl
no_return (If' c _ u at a b) h = refl
no_return (While' c _ u at s) h = refl
no_return (DoWhile' _ u at s c) h = refl
no_return (For' i c n _ u at s) h = refl
no_return Break h = refl
no_return Continue h = refl
no_return (Return e) h = absurd (h e refl)
