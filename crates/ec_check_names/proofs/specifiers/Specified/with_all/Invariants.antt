use Rattle.std.proofs.Common.{◌≡◌, drop, map}
use Rattle.ec_grammar.specs.Views.{view_spec}
use Rattle.ec_check_names.specs.Specifiers.{specified_from}
use Rattle.ec_check_names.specs.Tags.{plain_tags}
use Rattle.ec_check_names.proofs.specifiers.Specified.with_all.Given as goal

abbrev pub invariant-loop-spec : goal.invariant-loop-spec
invariant-loop-spec l = specified_from (plain_tags l.tags) l.said (map view_spec (drop l.spec-index l.specs))
    ≡ specified_from (plain_tags l.tags) l.fn.self (map view_spec l.specs)
