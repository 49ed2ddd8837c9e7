use Rattle.std.proofs.Common.{◌≡◌, drop, map}
use Rattle.ec_grammar.specs.Views.{view_spec}
use Rattle.ec_check_names.specs.Specifiers.{storages_from}
use Rattle.ec_check_names.proofs.specifiers.Storages.with_all.Given as goal

abbrev pub invariant-loop-spec : goal.invariant-loop-spec
invariant-loop-spec l = storages_from l.said (map view_spec (drop l.spec-index l.specs)) ≡ storages_from l.fn.self (map view_spec l.specs)
