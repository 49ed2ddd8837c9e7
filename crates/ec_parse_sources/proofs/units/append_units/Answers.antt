use Rattle.std.proofs.Common.{arith}
use Rattle.std.proofs.lemmas.Result.{err_from_is_err_and}
use Rattle.ec_grammar.specs.Tokens.{view_tokens}
use Rattle.ec_grammar.specs.Views.{view_tree}
use Rattle.ec_parse_sources.specs.Units.{HasTree}
use Rattle.ec_parse_sources.proofs.Zips.{zipped_next}
use Rattle.ec_parse_sources.proofs.Parsed.{first_treeless}
use Rattle.ec_parse_sources.proofs.units.append_units.Goals as goal

pub returns-in_err-tree-clause-stopped : goal.returns-in_err-tree-clause-stopped
returns-in_err-tree-clause-stopped c =
    let p = err_from_is_err_and c.from_residual.result c.from_residual.ensures.1 in
    let stop = c.in_err-tree.ensures.stopped in
    rw (p.1, p.2)
    (first_treeless c.args.lists.now c.loop-i.trees.items c.loop-i.i c.index-lists-i.result c.in_err-tree.field-0.0
    (omega arith) c.index-lists-i.is c.loop-i.invariant stop)

pub loop-i-preserved : goal.loop-i-preserved
loop-i-preserved c =
    let next =
    zipped_next
    (λ l u. HasTree (view_tokens l.items)
    (view_tree u)) c.args.lists.now c.loop-i.trees.items c.loop-i.i c.index-lists-i.result c.in_ok-tree.tree
    (omega arith) c.index-lists-i.is c.loop-i.invariant c.in_ok-tree.ensures.parsed in
    rw c.in_ok-append.ensures.appended next
