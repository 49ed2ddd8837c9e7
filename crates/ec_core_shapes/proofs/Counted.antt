-- The weight is the sum of the words of the parts.
use Rattle.std.proofs.Common.{◌≡◌, ℕ, ◌+◌, ◌*◌, ◌≤◌, List, [], ◌∷◌, Option, Some, None, refl, arith}
use Rattle.ec_fx.specs.declared.numbers.Mode.{Mode}
use Rattle.ec_core.specs.Plain.{PlainType, PlainExpr, expression, PlainNode, number, null, load, address_of, unary, binary, convert, assign}
use Rattle.ec_core.specs.Plain.{compound, step, logical_not, logical_and, logical_or, conditional, comma, call, io, group, bind}
use Rattle.ec_core.specs.Plain.{dynamic_group, PlainPlace, object, deref, member, OptionPlainExpr, no_expr, an_expr, PlainExprs, last_expr}
use Rattle.ec_core.specs.Plain.{next_expr, PlainStmt, statement, PlainKind, empty, evaluate, block, declare, branch, while_loop, do_loop}
use Rattle.ec_core.specs.Plain.{for_loop, break_loop, continue_loop, return_value, OptionPlainStmt, no_stmt, a_stmt, PlainStmts, last_stmt}
use Rattle.ec_core.specs.Plain.{next_stmt, PlainFunction}
use Rattle.ec_core.specs.PortTable.{PlainTable}
use Rattle.ec_core.specs.Weight.{expr_weight, parts_weight, place_weight, option_weight, exprs_weight, optional_weight, leaves_weight}
use Rattle.ec_core.specs.Weight.{stmt_weight, kind_weight, option_stmt_weight, stmts_weight, functions_weight}
use Rattle.ec_core.specs.Words.{node_words}
use Rattle.ec_shapes.specs.Shapes.{total, uses, shapes_of}
use Rattle.ec_shapes.proofs.Sums.{total_most}
use Rattle.ec_shapes.proofs.Once.{in_shapes}
use Rattle.ec_core_shapes.specs.Parts.{Part, alone, shaped, node_part, expr_parts, inner_parts, place_parts, option_parts, exprs_parts}
use Rattle.ec_core_shapes.specs.Parts.{optional_parts, leaves_parts, stmt_parts, kind_parts, option_stmt_parts, stmts_parts, functions_parts}
use Rattle.ec_core_shapes.specs.Shapes.{same_shape, shape_words, shape_row}
use Rattle.ec_core_shapes.specs.SharedWeight.{program_parts, alone_words, shapes_in, shared_words, part_words, WeightCountsParts}
use Rattle.ec_core_shapes.specs.SharedWeight.{SharedWeightIsNoMore}
use Rattle.ec_core_shapes.proofs.Told.{shapes_told}

abbrev words : List Part → ℕ
words parts = total part_words parts

module _ (table : PlainTable) where
  node_counts : (ty : PlainType) (mode : Mode) (node : PlainNode) → part_words (node_part table ty mode node) ≡ node_words table ty node
  node_counts ty mode (number n) = refl
  node_counts ty mode null = refl
  node_counts ty mode (load p) = refl
  node_counts ty mode (address_of p) = refl
  node_counts ty mode (unary op a) = refl
  node_counts ty mode (binary op a b) = refl
  node_counts ty mode (convert a) = refl
  node_counts ty mode (assign p a) = refl
  node_counts ty mode (compound op own p a) = refl
  node_counts ty mode (step up prefix p) = refl
  node_counts ty mode (logical_not a) = refl
  node_counts ty mode (logical_and a b) = refl
  node_counts ty mode (logical_or a b) = refl
  node_counts ty mode (conditional c a b) = refl
  node_counts ty mode (comma a b) = refl
  node_counts ty mode (call f args) = refl
  node_counts ty mode (io op port index value) = refl
  node_counts ty mode (group acquire g) = refl
  node_counts ty mode (bind d choice) = refl
  node_counts ty mode (dynamic_group acquire d) = refl

  mutual
    expr_counts : (e : PlainExpr) (rest : List Part) → words (expr_parts table e rest) ≡ expr_weight table e + words rest
    expr_counts (expression ty mode node) rest =
        let x = node_counts ty mode node in let y = inner_counts node rest in omega (arith, x, y)

    inner_counts : (node : PlainNode) (rest : List Part) → words (inner_parts table node rest) ≡ parts_weight table node + words rest
    inner_counts (number n) rest = omega arith
    inner_counts null rest = omega arith
    inner_counts (load p) rest = place_counts p rest
    inner_counts (address_of p) rest = place_counts p rest
    inner_counts (unary op a) rest = expr_counts a rest
    inner_counts (binary op a b) rest =
        let x = expr_counts a (expr_parts table b rest) in let y = expr_counts b rest in omega (arith, x, y)
    inner_counts (convert a) rest = expr_counts a rest
    inner_counts (assign p a) rest =
        let x = place_counts p (expr_parts table a rest) in let y = expr_counts a rest in omega (arith, x, y)
    inner_counts (compound op own p a) rest =
        let x = place_counts p (expr_parts table a rest) in let y = expr_counts a rest in omega (arith, x, y)
    inner_counts (step up prefix p) rest = place_counts p rest
    inner_counts (logical_not a) rest = expr_counts a rest
    inner_counts (logical_and a b) rest =
        let x = expr_counts a (expr_parts table b rest) in let y = expr_counts b rest in omega (arith, x, y)
    inner_counts (logical_or a b) rest =
        let x = expr_counts a (expr_parts table b rest) in let y = expr_counts b rest in omega (arith, x, y)
    inner_counts (conditional c a b) rest =
        let x = expr_counts c (expr_parts table a (expr_parts table b rest)) in
        let y = expr_counts a (expr_parts table b rest) in let z = expr_counts b rest in omega (arith, x, y, z)
    inner_counts (comma a b) rest =
        let x = expr_counts a (expr_parts table b rest) in let y = expr_counts b rest in omega (arith, x, y)
    inner_counts (call f args) rest = exprs_counts args rest
    inner_counts (io op port index value) rest =
        let x = option_counts index (option_parts table value rest) in let y = option_counts value rest in omega (arith, x, y)
    inner_counts (group acquire g) rest = omega arith
    inner_counts (bind d choice) rest = omega arith
    inner_counts (dynamic_group acquire d) rest = omega arith

    place_counts : (p : PlainPlace) (rest : List Part) → words (place_parts table p rest) ≡ place_weight table p + words rest
    place_counts (object o) rest = omega arith
    place_counts (deref e) rest = expr_counts e rest
    place_counts (member p i) rest = let x = place_counts p rest in omega (arith, x)

    option_counts : (e : OptionPlainExpr) (rest : List Part) → words (option_parts table e rest) ≡ option_weight table e + words rest
    option_counts no_expr rest = omega arith
    option_counts (an_expr e) rest = expr_counts e rest

    exprs_counts : (es : PlainExprs) (rest : List Part) → words (exprs_parts table es rest) ≡ exprs_weight table es + words rest
    exprs_counts last_expr rest = omega arith
    exprs_counts (next_expr e es) rest =
        let x = expr_counts e (exprs_parts table es rest) in let y = exprs_counts es rest in omega (arith, x, y)

  optional_counts : (e : Option PlainExpr) (rest : List Part) → words (optional_parts table e rest) ≡ optional_weight table e + words rest
  optional_counts None rest = omega arith
  optional_counts (Some e) rest = expr_counts e rest

  leaves_counts : (es : PlainExprs) (rest : List Part) → words (leaves_parts table es rest) ≡ leaves_weight table es + words rest
  leaves_counts last_expr rest = omega arith
  leaves_counts (next_expr e es) rest =
      let x = expr_counts e (leaves_parts table es rest) in let y = leaves_counts es rest in omega (arith, x, y)

  mutual
    stmt_counts : (s : PlainStmt) (rest : List Part) → words (stmt_parts table s rest) ≡ stmt_weight table s + words rest
    stmt_counts (statement unit at kind) rest = kind_counts kind rest

    kind_counts : (kind : PlainKind) (rest : List Part) → words (kind_parts table kind rest) ≡ kind_weight table kind + words rest
    kind_counts empty rest = omega arith
    kind_counts (evaluate e) rest = expr_counts e rest
    kind_counts (block ss) rest = stmts_counts ss rest
    kind_counts (declare o values) rest = leaves_counts values rest
    kind_counts (branch c a b) rest =
        let x = expr_counts c (stmt_parts table a (option_stmt_parts table b rest)) in
        let y = stmt_counts a (option_stmt_parts table b rest) in let z = option_stmt_counts b rest in omega (arith, x, y, z)
    kind_counts (while_loop c body) rest =
        let x = expr_counts c (stmt_parts table body rest) in let y = stmt_counts body rest in omega (arith, x, y)
    kind_counts (do_loop body c) rest =
        let x = stmt_counts body (expr_parts table c rest) in let y = expr_counts c rest in omega (arith, x, y)
    kind_counts (for_loop first c last body) rest =
        let u = stmt_parts table body rest in
        let x = option_stmt_counts first (optional_parts table c (optional_parts table last u)) in
        let y = optional_counts c (optional_parts table last u) in
        let z = optional_counts last u in let w = stmt_counts body rest in omega (arith, x, y, z, w)
    kind_counts break_loop rest = omega arith
    kind_counts continue_loop rest = omega arith
    kind_counts (return_value e) rest = let x = optional_counts e rest in omega (arith, x)

    option_stmt_counts : (s : OptionPlainStmt) (rest : List Part)
        → words (option_stmt_parts table s rest) ≡ option_stmt_weight table s + words rest
    option_stmt_counts no_stmt rest = omega arith
    option_stmt_counts (a_stmt a) rest = stmt_counts a rest

    stmts_counts : (ss : PlainStmts) (rest : List Part) → words (stmts_parts table ss rest) ≡ stmts_weight table ss + words rest
    stmts_counts last_stmt rest = omega arith
    stmts_counts (next_stmt a ss) rest =
        let x = stmt_counts a (stmts_parts table ss rest) in let y = stmts_counts ss rest in omega (arith, x, y)

  functions_count : (fs : List PlainFunction) → words (functions_parts table fs) ≡ functions_weight table fs
  functions_count [] = refl
  functions_count (f ∷ fs) =
      let x = stmt_counts f.body (functions_parts table fs) in let y = functions_count fs in omega (arith, x, y)

pub weight_counts : WeightCountsParts
weight_counts program table = let x = functions_count table program.functions in omega (arith, x)

-- ---- the weight by shapes

-- the words of the parts are those of the parts without shapes, and of the shapes
words_split : (parts : List Part) → words parts ≡ total alone_words parts + total shape_words (shapes_in parts)
words_split [] = refl
words_split (alone n ∷ parts) = let x = words_split parts in omega (arith, x)
words_split (shaped s ∷ parts) = let x = words_split parts in omega (arith, x)

shared_most : (parts : List Part) → shared_words parts ≤ words parts
shared_most parts =
    let ss = shapes_in parts in
    let x = in_shapes same_shape shapes_told shape_words ss in
    let y = total_most (λ s. shape_row s (uses same_shape ss s)) (λ s. uses same_shape ss s * shape_words s) (shapes_of same_shape ss)
    (λ s. omega arith) in
    let z = words_split parts in
    omega (arith, x, y, z)

pub shared_is_no_more : SharedWeightIsNoMore
shared_is_no_more program table =
    let x = shared_most (program_parts program table) in let y = weight_counts program table in omega (arith, x, y)
