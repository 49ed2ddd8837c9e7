use Rattle.std.proofs.Common.{take}
use Rattle.ec_parse_sources.specs.Units.{HaveTrees}
use Rattle.ec_parse_sources.proofs.units.append_units.Given as goal

abbrev pub invariant-loop-i : goal.invariant-loop-i
invariant-loop-i l = HaveTrees (take l.i l.lists) l.trees.items
