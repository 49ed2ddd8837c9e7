use Rattle.ec_core_steps.proofs.Marks.{one_marked}
use Rattle.ec_core_steps.proofs.reached.mark.Goals as goal

pub returns-then-not-marks-place : goal.returns-then-not-marks-place
returns-then-not-marks-place c =
    let place = c.from-place.ensures in
    rw place
    (one_marked c.args.function c.args.marks.now (rw place at c.if-place-marks.true) (rw place at c.if-not-marks-place.true))
