use Rattle.std.proofs.Common.{◌≡◌, map, take}
use Rattle.ec_select.proofs.program.frames_of.Given as goal

abbrev pub invariant-loop-g : goal.invariant-loop-g
invariant-loop-g l = l.frames.items ≡ map (λ g. g.slots) (take l.g-index l.ir.funcs.items)
