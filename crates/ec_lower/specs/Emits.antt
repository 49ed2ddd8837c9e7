-- What was appended to a list of operations.
use Rattle.std.specs.Prelude.{◌≡◌, ℕ, List, ◌∷◌, length, map, ◌++◌, Option, Some, None}
use Rattle.std.specs.List.{AllByRecursion}
use Rattle.ec_core.specs.Layout.{AreStructs, IsObjectType}
use Rattle.ec_core.specs.declared.expressions.Expr.{Expr}
use Rattle.ec_core.specs.declared.statements.Stmt.{Stmt}
use Rattle.ec_core.specs.Plain.{OptionPlainExpr, no_expr, an_expr, plain_expr, OptionPlainStmt, no_stmt, a_stmt}
use Rattle.ec_core.specs.Plain.{plain_stmt, PlainProgram}
use Rattle.ec_core.specs.PortOperations.{PortAction, reads, writes, updates}
use Rattle.ec_ir.specs.declared.operations.Ir.{Ir}
use Rattle.ec_ir.specs.Operations.{PlainIr, plain_ir}
use Rattle.ec_lower.specs.declared.port_operations.Action.{Action}
use Rattle.ec_lower.specs.declared.port_operations.Action.TheVariants.{Reads, Writes, Updates}

-- behind the operations before stand those of a part, before whatever follows
abbrev pub Emits : List Ir → List Ir → (List PlainIr → List PlainIr) → Type 0
Emits old new code = (rest : List PlainIr) → map plain_ir new ++ rest ≡ map plain_ir old ++ code rest

-- an operand that may be absent
abbrev pub plain_operand : Option Expr → OptionPlainExpr
plain_operand None = no_expr
plain_operand (Some e) = an_expr (plain_expr e)

-- what an operation does with the bytes of its port
abbrev pub plain_action : Action → PortAction
plain_action Reads = reads
plain_action Writes = writes
plain_action Updates = updates

-- the places for temporaries that a pointer needs, where there is one, before those of what follows
abbrev pub before : Option ℕ → List ℕ → List ℕ
before None rest = rest
before (Some n) rest = n ∷ rest

-- a statement that may be absent
abbrev pub plain_other : Option Stmt → OptionPlainStmt
plain_other None = no_stmt
plain_other (Some a) = a_stmt (plain_stmt a)

-- the types of objects have leaves, as those of a valid program have
pub record IsLaidOut (p : PlainProgram) : Type 0 where
  pub structs : AreStructs p.structs
  pub objects : AllByRecursion (λ o. IsObjectType (length p.structs) o.ty) p.objects
