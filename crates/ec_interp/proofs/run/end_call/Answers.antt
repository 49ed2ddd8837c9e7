use Rattle.ec_interp.proofs.Passing.{shown_where}
use Rattle.ec_interp.proofs.run.end_call.Goals as goal

pub returns : goal.returns
returns c =
    rw (← c.end_frame.ensures) (shown_where (λ x. x) c.call_result.result _ _ c.call_result.ensures.shows (λ h. c.call_result.ensures.answered))
