use Rattle.std.proofs.Common.{map, refl}
use Rattle.toml.specs.View.{view}
use Rattle.ec_map.specs.Rules.{is_choice}
use Rattle.ec_map.proofs.Arrays.{list_all-viewed}
use Rattle.ec_map.proofs.dynamics.are_choices.Goals as goal

pub returns-then-each_is_choice : goal.returns-then-each_is_choice
returns-then-each_is_choice c =
    rw (list_all-viewed (is_choice (map view c.args.groups.now)) view c.args.choices.now, ← c.each_is_choice.ensures, c.if-each_is_choice.true)
    c.stand_once.ensures

pub returns-else-each_is_choice : goal.returns-else-each_is_choice
returns-else-each_is_choice c =
    rw (list_all-viewed (is_choice (map view c.args.groups.now)) view c.args.choices.now, ← c.each_is_choice.ensures, c.if-each_is_choice.false)
    refl
