use Rattle.std.proofs.Common.{◌≡◌, map, take}
use Rattle.ec_locate.specs.Entries.{frame_size}
use Rattle.ec_locate.proofs.frames.scratch_sizes.Given as goal

abbrev pub invariant-loop-frame : goal.invariant-loop-frame
invariant-loop-frame l = l.sizes.items ≡ map frame_size (take l.frame-index l.frames)
