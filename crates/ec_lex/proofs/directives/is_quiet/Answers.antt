use Rattle.std.proofs.Common.{sym, ◌∙◌}
use Rattle.ec_lex.proofs.Gaps.{quiet_at_end, quiet_more, quiet_open}
use Rattle.ec_lex.proofs.directives.is_quiet.Goals as goal

pub loop-rest-preserved : goal.loop-rest-preserved
loop-rest-preserved c =
    quiet_more c.loop-rest.rest.now c.in-Some.more.now (sym c.is_end.ensures ∙ c.loop-rest-test.true) c.in-Some.ensures.value
    ∙ c.loop-rest.invariant

pub returns-in-None : goal.returns-in-None
returns-in-None c = quiet_open c.loop-rest.rest.now (sym c.is_end.ensures ∙ c.loop-rest-test.true) c.in-None.ensures.value
    ∙ c.loop-rest.invariant

pub returns : goal.returns
returns c = quiet_at_end c.loop-rest.rest.now (sym c.is_end.ensures ∙ c.loop-rest-test.false) ∙ c.loop-rest.invariant
