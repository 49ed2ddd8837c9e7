-- How large a constant expression is, for the proof that the walk over it ends.
use Rattle.std.proofs.Common.{ℕ, ◌+◌}
use Rattle.ec_core.specs.Plain.{PlainExpr, expression, PlainNode, unary, binary, convert, logical_not, logical_and, logical_or, conditional}

abbrev mutual
  pub weight : PlainExpr → ℕ
  weight (expression ty mode node) = node_weight node

  pub node_weight : PlainNode → ℕ
  node_weight (unary op a) = weight a + 2
  node_weight (binary op a b) = weight a + weight b + 2
  node_weight (convert a) = weight a + 2
  node_weight (logical_not a) = weight a + 2
  node_weight (logical_and a b) = weight a + weight b + 2
  node_weight (logical_or a b) = weight a + weight b + 2
  node_weight (conditional c a b) = weight c + weight a + weight b + 2
  node_weight node = 0
