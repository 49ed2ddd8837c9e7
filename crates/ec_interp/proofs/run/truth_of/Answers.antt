use Rattle.ec_core.specs.Plain.{void, plain_expr}
use Rattle.ec_core.specs.Typing.{type_of_expr}
use Rattle.ec_interp.specs.Views.{seen}
use Rattle.ec_interp.proofs.Steps.{truth_of_any}
use Rattle.ec_interp.proofs.run.truth_of.Goals as goal

pub returns-clause-tells : goal.returns-clause-tells
returns-clause-tells c =
    rw (truth_of_any c.args.f.now (type_of_expr (plain_expr c.args.e.now)) void c.args.x (seen c.args.s.now)) c.truth.ensures.tells
