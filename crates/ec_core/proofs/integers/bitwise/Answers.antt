use Rattle.std.proofs.Common.{arith, ◌≤◌, bit_and}
use Rattle.std.proofs.lemmas.Nat.{or_lt, xor_lt, and_le_l}
use Rattle.ec_core.specs.Integers.{width_of}
use Rattle.ec_core.proofs.integers.bitwise.Goals as goal
use Rattle.ec_core.proofs.integers.bitwise.Goals.{in-And, in-Or, in_default}

pub from_bits-requires-clause-bits : goal.from_bits-requires-clause-bits
from_bits-requires-clause-bits c =
    elim c.match-op.branch [
      | in-And w ↦ rw w.bits-is (let least : bit_and c.low_bits-left.result c.low_bits-right.result ≤ c.low_bits-left.result =
          and_le_l c.low_bits-left.result c.low_bits-right.result in
          omega (arith, least, c.low_bits-left.ensures.bound))
      | in-Or w ↦ rw w.bits-is (or_lt
          (width_of c.args.t) c.low_bits-left.result c.low_bits-right.result c.low_bits-left.ensures.bound c.low_bits-right.ensures.bound)
      | in_default w ↦ rw w.bits-is (xor_lt
          (width_of c.args.t) c.low_bits-left.result c.low_bits-right.result c.low_bits-left.ensures.bound c.low_bits-right.ensures.bound)
    ]
