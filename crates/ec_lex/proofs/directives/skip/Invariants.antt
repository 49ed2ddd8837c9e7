use Rattle.std.proofs.Common.{◌≡◌, length, ◌≤◌}
use Rattle.ec_lex.specs.Reading.{skip}
use Rattle.ec_lex.proofs.directives.skip.Given as goal

abbrev pub invariant-loop-more : goal.invariant-loop-more
invariant-loop-more l = (length l.rest ≤ length l.bytes) × (skip l.rest ≡ skip l.bytes)

abbrev pub decreases-loop-more : goal.decreases-loop-more
decreases-loop-more l = length l.rest
