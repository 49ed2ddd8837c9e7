use Rattle.std.proofs.Common.{◌≡◌, List, drop}
use Rattle.ec_check_operands.specs.Faults.{Judgement, all_judged}
use Rattle.ec_check_names.specs.Qualifiers.{qualities_of, qualifier_rules, qualifier_rules_from}
use Rattle.ec_check_names.proofs.qualifiers.judge_qualifiers.Given as goal

abbrev pub invariant-loop-x : goal.invariant-loop-x
invariant-loop-x l =
    (rest : List Judgement)
    → all_judged l.faults.least (qualifier_rules_from (qualities_of l.qualifiers).konst l.said (drop l.x-index l.qualifiers) rest)
    ≡ all_judged l.fn.faults.least (qualifier_rules l.qualifiers rest)
