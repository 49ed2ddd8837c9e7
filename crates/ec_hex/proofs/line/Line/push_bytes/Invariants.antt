use Rattle.std.proofs.Common.{◌≡◌, ◌+◌, ◌*◌, ◌++◌, length, take}
use Rattle.ec_hex.specs.Bytes.{digits_of}
use Rattle.ec_hex.proofs.line.Line.push_bytes.Given as goal

abbrev pub invariant-loop-byte : goal.invariant-loop-byte
invariant-loop-byte l = record {
  text : l.self ≡ l.fn.self ++ digits_of (take l.byte-index l.bytes);
  size : length l.self ≡ length l.fn.self + 2 * l.byte-index;
}
