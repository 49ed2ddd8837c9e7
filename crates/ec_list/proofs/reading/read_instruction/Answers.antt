use Rattle.ec_list.proofs.Exact.{exact_of}
use Rattle.ec_list.proofs.reading.read_instruction.Goals as goal

pub returns-clause-exact : goal.returns-clause-exact
returns-clause-exact c = exact_of c.confirmed.result c.args.line.now c.confirmed.ensures
