use Rattle.std.proofs.Common.{arith}
use Rattle.ec_hex.proofs.Bytes.{total-more}
use Rattle.ec_hex.proofs.line.sum.Goals as goal

pub loop-byte-preserved : goal.loop-byte-preserved
loop-byte-preserved c = omega (arith, c.loop-byte.invariant, total-more c.args.bytes.now c.loop-byte.byte-index c.loop-byte-test.true)
