-- Blocks as plain trees.
use Rattle.std.proofs.Common.{◌≡◌, ℕ, Some, ap}
use Rattle.ec_space.specs.Listed.{Listed}
use Rattle.ec_core.specs.declared.statements.Stmt.{Stmt}
use Rattle.ec_core.specs.declared.statements.StmtKind.{Block}
use Rattle.ec_core.specs.Plain.{statement, plain_kind, plain_stmts}
use Rattle.ec_interp.specs.Loops.{block_items}
use Rattle.ec_interp.proofs.Parts.{plain_block}

pub block_found : (unit at : ℕ) (ss : Listed Stmt) → block_items (statement unit at (plain_kind (Block ss))) ≡ Some (plain_stmts ss.items)
block_found unit at ss = ap (λ kind. block_items (statement unit at kind)) (plain_block ss)
