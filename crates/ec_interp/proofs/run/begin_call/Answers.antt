use Rattle.ec_core.specs.PortAccesses.{no_value}
use Rattle.ec_interp.proofs.Passing.{full_where, shown_where}
use Rattle.ec_interp.proofs.run.begin_call.Goals as goal

pub returns-in_err-work_more : goal.returns-in_err-work_more
returns-in_err-work_more c = full_where _ (λ _. no_value) c.from_residual.result _ _ c.from_residual.ensures.1

pub returns : goal.returns
returns c = rw (← c.in_ok-work_more.ensures) (shown_where (λ _. no_value) c.bind.result _ _ c.bind.ensures.shows (λ h. c.bind.ensures.answered h))
