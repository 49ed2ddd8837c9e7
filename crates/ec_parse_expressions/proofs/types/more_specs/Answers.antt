use Rattle.std.proofs.Common.{map, ap, ◌∙◌}
use Rattle.std.proofs.lemmas.Result.{err_from_is_err_and}
use Rattle.ec_grammar.specs.Views.{view_spec}
use Rattle.ec_parse_laws.specs.Reading.{spec_at}
use Rattle.ec_parse_expressions.proofs.Many.{more, fails, stops_at, is_done, map_push}
use Rattle.ec_parse_expressions.proofs.types.more_specs.Goals as goal

pub returns-in_err-item : goal.returns-in_err-item
returns-in_err-item c =
    let p = err_from_is_err_and c.from_residual.result c.from_residual.ensures.1 in
    rw (p.1, p.2) (fails spec_at c.in_err-item.field-0.0
    (map view_spec c.loop.all.items) _ c.loop.counter _ _ c.loop-test.true c.in_err-item.ensures c.loop.invariant)

pub returns-in_default : goal.returns-in_default
returns-in_default c = stops_at spec_at (map view_spec c.loop.all.items) _ c.loop.counter _ _ c.loop-test.true
    (rw c.in_default.is at c.in_ok-item.ensures) c.loop.invariant

pub loop-preserved : goal.loop-preserved
loop-preserved c =
    more spec_at (map view_spec c.loop.all.items) _ _ c.loop.counter _ _ _ _ c.loop-test.true (rw c.in-Some.is at c.in_ok-item.ensures)
    (ap (map view_spec) c.in_ok-push.ensures.items ∙ map_push view_spec c.loop.all.items c.in-Some.item) c.loop.invariant

pub returns : goal.returns
returns c = is_done spec_at (map view_spec c.loop.all.items) _ c.loop.counter _ _ c.loop-test.false c.loop.invariant
