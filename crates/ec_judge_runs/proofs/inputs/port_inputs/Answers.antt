use Rattle.ec_judge_runs.proofs.Given.{given, bytes}
use Rattle.ec_judge_runs.proofs.inputs.port_inputs.Goals as goal

pub returns-clause-given : goal.returns-clause-given
returns-clause-given c = given c.args.lines.now c.given_by.result c.given_by.ensures.given

pub returns-clause-bytes : goal.returns-clause-bytes
returns-clause-bytes c = bytes c.given_by.result c.given_by.ensures.bytes
