use Rattle.std.proofs.Common.{◌≡◌, ◌++◌, length}
use Rattle.std.specs.Prelude.{option_map}
use Rattle.ec_emu.specs.Forms.{bytes_of, words}
use Rattle.ec_emu.proofs.read.bytes_of.Given as goal

abbrev pub invariant-words : goal.invariant-words
invariant-words l = bytes_of (words l.text) ≡ option_map (λ more. l.bytes.items ++ more) (bytes_of (words l.rest))

abbrev pub decreases-words : goal.decreases-words
decreases-words l = length l.rest
