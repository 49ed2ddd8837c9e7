use Rattle.std.proofs.Common.{◌≡◌, drop}
use Rattle.ec_check_names.specs.Definitions.{plain_definitions, is_registered}
use Rattle.ec_check_names.proofs.numbering.is_registered.Given as goal

abbrev pub invariant-loop-d : goal.invariant-loop-d
invariant-loop-d l = is_registered l.name.items (plain_definitions (drop l.d-index l.definitions))
    ≡ is_registered l.name.items (plain_definitions l.definitions)
