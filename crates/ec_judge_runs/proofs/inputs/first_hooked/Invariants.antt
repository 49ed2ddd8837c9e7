use Rattle.std.proofs.Common.{◌≡◌, drop, map}
use Rattle.ec_emu.specs.Script.{entry_of}
use Rattle.ec_judge_runs.specs.Inputs.{first_hooked}
use Rattle.ec_judge_runs.proofs.inputs.first_hooked.Given as goal

abbrev pub invariant-loop-line : goal.invariant-loop-line
invariant-loop-line l = first_hooked (map entry_of (drop l.line-index l.lines)) ≡ first_hooked (map entry_of l.lines)
