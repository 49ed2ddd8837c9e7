use Rattle.std.proofs.Common.{arith, ◌∙◌}
use Rattle.ec_lex.proofs.Gaps.{skip_more, skip_stays}
use Rattle.ec_lex.proofs.directives.skip.Goals as goal

pub loop-more-preserved : goal.loop-more-preserved
loop-more-preserved c = (
  omega (arith, c.in-Some.ensures.shorter),
  skip_more c.loop-more.rest.now c.in-Some.more.now c.in-Some.ensures.value ∙ c.loop-more.invariant.1,
)

pub returns-in-None-clause-value : goal.returns-in-None-clause-value
returns-in-None-clause-value c = skip_stays c.loop-more.rest.now c.in-None.ensures.value ∙ c.loop-more.invariant.1
