use Rattle.std.proofs.Common.{drop}
use Rattle.std.specs.List.{AllByRecursion}
use Rattle.ec_lower_code.specs.Correct.{HasByteBase}
use Rattle.ec_lower.proofs.ports.read_choices.Given as goal

abbrev pub invariant-loop-choice : goal.invariant-loop-choice
invariant-loop-choice l =
    AllByRecursion HasByteBase (drop l.choice-index l.choices) → AllByRecursion HasByteBase l.choices
