use Rattle.std.proofs.Common.{◌≡◌, length}
use Rattle.std.specs.Str.Lines.{lines}
use Rattle.ec_emu.specs.Forms.{first_counting}
use Rattle.ec_emu.proofs.read.first_counting.Given as goal

abbrev pub invariant-lines : goal.invariant-lines
invariant-lines l = first_counting (lines l.text) ≡ first_counting (lines l.rest)

abbrev pub decreases-lines : goal.decreases-lines
decreases-lines l = length l.rest
