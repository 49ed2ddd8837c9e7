use Rattle.std.proofs.Common.{◌≡◌, drop}
use Rattle.ec_check_names.specs.Qualifiers.{qualities_of, qualities_from}
use Rattle.ec_check_names.proofs.qualifiers.qualities_of.Given as goal

abbrev pub invariant-loop-x : goal.invariant-loop-x
invariant-loop-x l = qualities_from l.said (drop l.x-index l.qualifiers) ≡ qualities_of l.qualifiers
