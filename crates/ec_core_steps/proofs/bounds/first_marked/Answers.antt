use Rattle.std.proofs.Common.{length}
use Rattle.ec_core.specs.Plain.{plain_program}
use Rattle.ec_core_steps.proofs.Firsts.{none_first_of, first_goes_on, first_of_all}
use Rattle.ec_core_steps.proofs.bounds.first_marked.Goals as goal

pub loop-place-init : goal.loop-place-init
loop-place-init c = none_first_of (plain_program c.args.program.now) c.args.marks.now

pub loop-place-preserved : goal.loop-place-preserved
loop-place-preserved c =
    rw c.taken-first.ensures
    (first_goes_on (plain_program c.args.program.now) c.args.marks.now c.loop-place.place c.loop-place.first c.loop-place.invariant)

pub returns : goal.returns
returns c =
    first_of_all (plain_program c.args.program.now) c.args.marks.now (length c.args.marks.now) c.loop-place.place c.loop-place.first
    c.loop-place-test.false c.loop-place.invariant
