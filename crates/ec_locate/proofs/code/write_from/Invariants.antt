use Rattle.std.proofs.Common.{◌≡◌, ◌+◌, drop, map, true}
use Rattle.ec_locate.specs.Code.{overwritten}
use Rattle.ec_locate.proofs.code.write_from.Given as goal

abbrev pub invariant-loop-byte : goal.invariant-loop-byte
invariant-loop-byte l = record {
  core : l.image.core ≡ l.initial.image.core;
  next : l.next ≡ l.fn.at + l.byte-index;
  bytes : overwritten l.image.bytes.items l.next (drop l.byte-index l.bytes) ≡ overwritten l.initial.image.bytes.items l.fn.at l.bytes;
  written : overwritten l.image.written.items l.next (map (λ byte. true) (drop l.byte-index l.bytes))
      ≡ overwritten l.initial.image.written.items l.fn.at (map (λ byte. true) l.bytes);
}
