use Rattle.std.proofs.Common.{◌≡◌, map, take}
use Rattle.toml.specs.View.{view}
use Rattle.ec_map.specs.Maps.{choice_of}
use Rattle.ec_map.proofs.map.choices_from.Given as goal

abbrev pub invariant-loop-choice : goal.invariant-loop-choice
invariant-loop-choice l = l.made.items ≡ map (λ v. choice_of (map view l.groups) (view v)) (take l.choice-index l.choices)
