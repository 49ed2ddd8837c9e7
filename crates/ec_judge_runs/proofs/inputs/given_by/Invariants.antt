use Rattle.std.proofs.Common.{◌≡◌, ◌++◌, drop, map}
use Rattle.std.specs.List.{AllByRecursion}
use Rattle.ec_space.specs.Bytes.{AreBytes}
use Rattle.ec_judge_runs.specs.Inputs.{given_by_input, given_by_line}
use Rattle.ec_judge_runs.proofs.inputs.given_by.Given as goal

abbrev pub invariant-loop-line : goal.invariant-loop-line
invariant-loop-line l =
    (map given_by_input l.inputs.items ++ map given_by_line (drop l.line-index l.lines) ≡ map given_by_line l.lines)
    × AllByRecursion (λ input. AreBytes input.bytes.items) l.inputs.items
