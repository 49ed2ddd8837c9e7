use Rattle.std.proofs.Common.{◌≡◌, drop}
use Rattle.ec_locate.specs.Fixed.{first_clash}
use Rattle.ec_locate.proofs.fixed.first_clash.Given as goal

-- the first clash is among the blocks that are left
abbrev pub invariant-loop-i : goal.invariant-loop-i
invariant-loop-i l = first_clash l.map 0 l.blocks ≡ first_clash l.map l.i (drop l.i l.blocks)
