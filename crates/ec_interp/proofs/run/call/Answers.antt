use Rattle.std.proofs.Common.{false}
use Rattle.ec_core.specs.Statements.{calls_within}
use Rattle.ec_interp.specs.Views.{seen, setting_of}
use Rattle.ec_interp.proofs.Passing.{run_shown, answered}
use Rattle.ec_interp.proofs.run.call.Goals as goal

pub returns-clause-shows : goal.returns-clause-shows
returns-clause-shows c =
    run_shown c.args.f.now _
    (calls_within (setting_of c.args.f.now.program.now c.args.f.now.io.now c.args.f.now.inputs.now) c.args.f.now.turns c.args.depth)
    c.args.g c.args.xs.now (seen c.args.s.now) c.call_function.result _ c.call_function.ensures

pub returns-clause-answered : goal.returns-clause-answered
returns-clause-answered c =
    λ g t a. answered c.args.f.now false (λ x. x) c.call_function.result _ _ (c.call_function.ensures false) (record { given = g; typed = t; arguments = a })
