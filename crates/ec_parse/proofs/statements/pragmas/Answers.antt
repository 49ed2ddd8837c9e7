use Rattle.ec_parse_laws.specs.Reading.{pragma_at}
use Rattle.ec_parse_expressions.proofs.Many.{more, stops_at, is_done}
use Rattle.ec_parse.proofs.statements.pragmas.Goals as goal

pub returns-in_default : goal.returns-in_default
returns-in_default c =
    stops_at pragma_at c.loop.all.items _ c.loop.counter _ _ c.loop-test.true (rw c.in_default.is at c.in_ok-item.ensures) c.loop.invariant

pub loop-preserved : goal.loop-preserved
loop-preserved c =
    more pragma_at c.loop.all.items _ _ c.loop.counter _ _ _ _ c.loop-test.true (rw c.in-Some.is at c.in_ok-item.ensures)
    c.in_ok-push.ensures.items c.loop.invariant

pub returns : goal.returns
returns c = is_done pragma_at c.loop.all.items _ c.loop.counter _ _ c.loop-test.false c.loop.invariant
