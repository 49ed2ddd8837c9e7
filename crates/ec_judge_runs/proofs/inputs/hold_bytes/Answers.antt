use Rattle.std.proofs.Common.{Fits, w8, get_or, rules, arith}
use Rattle.ec_judge_runs.proofs.inputs.hold_bytes.Goals as goal

pub returns : goal.returns
returns c = λ k. let fits : Fits w8 (get_or c.args.bytes.now k 0) = search rules in omega (arith, fits)
