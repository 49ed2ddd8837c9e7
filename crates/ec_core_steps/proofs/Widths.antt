-- The bytes of the pointers in a place, and the work of calls.
use Rattle.std.proofs.Common.{◌≡◌, ◌+◌, ◌*◌, ℕ, List, refl, ap}
use Rattle.ec_space.specs.Listed.{Listed}
use Rattle.ec_core.specs.declared.expressions.Expr.{Expr}
use Rattle.ec_core.specs.declared.expressions.Node.{Call}
use Rattle.ec_core.specs.Layout.{scalar_size}
use Rattle.ec_core.specs.Plain.{PlainType, PlainPlace, object, deref, member, plain_node, plain_exprs}
use Rattle.ec_core.specs.PortTable.{PlainTable}
use Rattle.ec_core.specs.Words.{widest, pointer_types, node_words, total_size}
use Rattle.ec_core_steps.specs.Costs.{widest_from}
use Rattle.ec_core_steps.proofs.Trees.{plain_call}

pub widest_pointers : (p : PlainPlace) (tys : List PlainType) → widest (pointer_types p tys) ≡ widest_from p (widest tys)
widest_pointers (object o) tys = refl
widest_pointers (deref e) tys = refl
widest_pointers (member p i) tys = widest_pointers p tys

pub words_call : (table : PlainTable) (ty : PlainType) (f : ℕ) (args : Listed Expr)
    → node_words table ty (plain_node (Call f args)) ≡ 60 + 10 * (total_size (plain_exprs args.items) + scalar_size ty)
words_call table ty f args = ap (node_words table ty) (plain_call f args)
