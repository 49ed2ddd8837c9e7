use Rattle.std.proofs.lemmas.Result.{err_from_is_err_and}
use Rattle.ec_grammar.specs.Views.{view_identifier}
use Rattle.ec_parse_laws.specs.Reading.{within}
use Rattle.ec_parse_declarations.proofs.StructureReading.{structure_reads, structure_fails}
use Rattle.ec_parse_declarations.proofs.declarations.structure.Goals as goal

pub returns-in_err-closing : goal.returns-in_err-closing
returns-in_err-closing c =
    let p = err_from_is_err_and c.from_residual-in_err-closing.result c.from_residual-in_err-closing.ensures.1 in
    rw (p.1, p.2) (structure_fails (within 64 c.args.left) c.args.word (view_identifier c.args.tag) c.args.opening _ _ _ _ _
    c.in_err-closing.field-0.0 c.in_ok-first.ensures c.in_ok-more.ensures c.in_err-closing.ensures)

pub returns : goal.returns
returns c =
    rw (c.in_ok-tree.ensures.kept, c.into_inner.ensures)
    (structure_reads (within 64 c.args.left) c.args.word (view_identifier c.args.tag) c.args.opening _ _ _ _ _ c.in_ok-closing.closing
    c.in_ok-closing.semicolon _ c.in_ok-first.ensures c.in_ok-more.ensures c.in_ok-closing.ensures)
