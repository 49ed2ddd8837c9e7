use Rattle.std.proofs.Common.{Ok, Err, subst, sym, ap, refl, ◌∙◌}
use Rattle.ec_core.specs.Plain.{plain_program}
use Rattle.ec_steps.proofs.Ends.{all_images}
use Rattle.ec_steps.proofs.Numbers.{fewer_functions, ends_by, stops_by}
use Rattle.ec_steps.proofs.bounds.bound.Goals as goal

pub first_uncounted-requires : goal.first_uncounted-requires
first_uncounted-requires c = fewer_functions c.args.built.now.program.funcs.items c.requires.function_count

pub returns-in-Some-clause-stopped : goal.returns-in-Some-clause-stopped
returns-in-Some-clause-stopped c = (c.in_ok-first.ensures.found c.in-Some.site).0 c.in-Some.is

pub returns-in-None-clause-counted : goal.returns-in-None-clause-counted
returns-in-None-clause-counted c = ends_by c.steps_of.result (c.in_ok-first.ensures.none.0 c.in-None.is)

pub returns-in-None-clause-ends : goal.returns-in-None-clause-ends
returns-in-None-clause-ends c =
    all_images c.counted_programs_end_in_time.ensures (plain_program c.args.built.now.program) c.args.built.now.map
    (c.in_ok-first.ensures.none.0 c.in-None.is) c.steps_of.result c.steps_of.ensures.number

pub returns-in-None-clause-stopped : goal.returns-in-None-clause-stopped
returns-in-None-clause-stopped c =
    stops_by (plain_program c.args.built.now.program) c.args.built.now.map (c.in_ok-first.ensures.none.0 c.in-None.is)
    c.steps_of.result c.steps_of.ensures.stopped
