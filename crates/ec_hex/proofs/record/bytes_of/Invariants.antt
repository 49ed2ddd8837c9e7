use Rattle.std.proofs.Common.{◌≡◌, ◌++◌, length}
use Rattle.std.specs.Prelude.{option_map}
use Rattle.ec_hex.specs.Bytes.{bytes_of}
use Rattle.ec_hex.proofs.record.bytes_of.Given as goal

abbrev pub invariant-pairs : goal.invariant-pairs
invariant-pairs l = bytes_of l.digits ≡ option_map (λ more. l.bytes.items ++ more) (bytes_of l.rest)

abbrev pub decreases-pairs : goal.decreases-pairs
decreases-pairs l = length l.rest
