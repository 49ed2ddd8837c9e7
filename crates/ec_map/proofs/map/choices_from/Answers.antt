use Rattle.std.proofs.Common.{map, arith}
use Rattle.toml.specs.View.{view}
use Rattle.ec_map.specs.Maps.{choice_of}
use Rattle.ec_map.proofs.Made.{listed_all}
use Rattle.ec_map.proofs.map.choices_from.Goals as goal

pub returns : goal.returns
returns c =
    listed_all (choice_of (map view c.args.groups.now)) view c.loop-choice.made.items c.args.choices.now c.loop-choice.choice-index
    c.loop-choice.invariant (omega arith)
