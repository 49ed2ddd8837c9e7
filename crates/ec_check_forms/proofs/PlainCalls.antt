-- A call as a plain tree.
use Rattle.std.proofs.Common.{◌≡◌, ℕ, rules}
use Rattle.ec_space.specs.Listed.{Listed}
use Rattle.ec_core.specs.declared.expressions.Expr.{Expr}
use Rattle.ec_core.specs.declared.expressions.Node.{Call, the_lemmas as node_lemmas}
use Rattle.ec_core.specs.Plain.{call, plain_node, plain_exprs}
use Rattle.ec_core.proofs.Rows.{plain_expr_row-row}

pub plain_call : (f : ℕ) (args : Listed Expr) → plain_node (Call f args) ≡ call f (plain_exprs args.items)
plain_call f args = search (rules, plain_expr_row-row, node_lemmas)
