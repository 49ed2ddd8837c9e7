-- Readable names for what the compiler makes of the types that hold themselves. It flattens a struct of such a cycle
-- into the variants that hold it: where a variant has a `Box<Expr>`, its constructor here takes the pointer and the
-- three fields, and where it has a `Seq<Expr>`, the seq's shape and a row.
pub use Rattle.ec_core.specs.declared.types.CType.{CType, Void, Int, Fx, Ptr' as Ptr, Array' as Array, Struct}
-- expressions: an optional expression is `NoExpr` or `AnExpr`, and a row of expressions `LastExpr` or `NextExpr`
pub use Rattle.ec_core.specs.declared.expressions.Expr.{Expr}
pub use Rattle.ec_core.specs.declared.expressions.PlaceExpr.{PlaceExpr, Object, Deref' as Deref, Member' as MemberOf}
pub use Rattle.ec_core.specs.declared.expressions.Node.{Node, Number, Null, Load, AddressOf, Unary' as Unary}
pub use Rattle.ec_core.specs.declared.expressions.Node.{Binary' as Binary, Convert' as Convert, Assign' as Assign}
pub use Rattle.ec_core.specs.declared.expressions.Node.{Compound' as Compound, Step, Not' as Not, And' as And}
pub use Rattle.ec_core.specs.declared.expressions.Node.{Or' as Or, Cond' as Cond, Comma' as Comma, Call' as Call}
pub use Rattle.ec_core.specs.declared.expressions.Node.{Io' as Io, Group, Bind, DynGroup}
pub use Rattle.ec_core.specs.declared.expressions.Node.{Held-Node-Io-2 as OptionExpr, None' as NoExpr, Some' as AnExpr}
pub use Rattle.ec_core.specs.declared.expressions.Node.{Row_of-Expr as ExprRow, end_of-Expr as LastExpr}
pub use Rattle.ec_core.specs.declared.expressions.Node.{more_of-Expr as NextExpr, items-the_row-Expr as row_exprs}
-- statements, alike
pub use Rattle.ec_core.specs.declared.statements.Stmt.{Stmt}
pub use Rattle.ec_core.specs.declared.statements.StmtKind.{StmtKind, Empty, Do1, Block' as Block, Local, If' as If}
pub use Rattle.ec_core.specs.declared.statements.StmtKind.{While' as While, DoWhile' as DoWhile, For' as For, Break}
pub use Rattle.ec_core.specs.declared.statements.StmtKind.{Continue, Return}
pub use Rattle.ec_core.specs.declared.statements.StmtKind.{Held-StmtKind-If-2 as OptionStmt, None' as NoStmt}
pub use Rattle.ec_core.specs.declared.statements.StmtKind.{Some' as AStmt, Row_of-Stmt as StmtRow}
pub use Rattle.ec_core.specs.declared.statements.StmtKind.{end_of-Stmt as LastStmt, more_of-Stmt as NextStmt}
pub use Rattle.ec_core.specs.declared.statements.StmtKind.{items-the_row-Stmt as row_stmts}
