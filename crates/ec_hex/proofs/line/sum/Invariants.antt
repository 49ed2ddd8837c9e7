use Rattle.std.proofs.Common.{◌≡◌, ◌%◌, take}
use Rattle.ec_hex.specs.Bytes.{total}
use Rattle.ec_hex.proofs.line.sum.Given as goal

abbrev pub invariant-loop-byte : goal.invariant-loop-byte
invariant-loop-byte l = l.sum ≡ total (take l.byte-index l.bytes) % 256
