use Rattle.std.proofs.Common.{◌≡◌, drop}
use Rattle.ec_check_names.specs.Definitions.{plain_definitions, number_of}
use Rattle.ec_check_names.proofs.numbering.number_of.Given as goal

abbrev pub invariant-loop-d : goal.invariant-loop-d
invariant-loop-d l = number_of l.name.items l.unit l.linkage l.function (plain_definitions (drop l.d-index l.definitions))
    ≡ number_of l.name.items l.unit l.linkage l.function (plain_definitions l.definitions)
