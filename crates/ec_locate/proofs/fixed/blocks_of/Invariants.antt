use Rattle.std.proofs.Common.{◌≡◌, map, take}
use Rattle.ec_core.specs.Plain.{plain_object}
use Rattle.ec_locate.specs.Fixed.{block_of}
use Rattle.ec_locate.proofs.fixed.blocks_of.Given as goal

abbrev pub invariant-loop-place : goal.invariant-loop-place
invariant-loop-place l = l.made.items ≡ map (block_of l.entries (map plain_object l.objs)) (take l.place-index l.places)
