use Rattle.std.proofs.Common.{arith}
use Rattle.ec_hex.proofs.Bytes.{total-append}
use Rattle.ec_hex.proofs.line.checksum.Goals as goal

pub returns : goal.returns
returns c = omega (arith, c.checksum_of.ensures, c.sum.ensures, c.sum-2.ensures, total-append c.args.head.now c.args.bytes.now)
