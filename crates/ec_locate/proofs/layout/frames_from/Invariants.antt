use Rattle.std.proofs.Common.{◌≡◌, ◌+◌, map, take}
use Rattle.ec_locate.proofs.layout.frames_from.Given as goal

abbrev pub invariant-loop-begin : goal.invariant-loop-begin
invariant-loop-begin l = l.made.items ≡ map (λ begin. l.area + begin) (take l.begin-index l.begins)
