use Rattle.std.proofs.Common.{◌≡◌, ◌++◌, ℕ, List, take}
use Rattle.ec_hex.specs.Denotes.{addressed}
use Rattle.ec_hex.specs.Reading.{Holds}
use Rattle.ec_hex.proofs.read.put_bytes.Given as goal

abbrev pub invariant-loop-i : goal.invariant-loop-i
invariant-loop-i l = record {
  core : l.image.core ≡ l.fn.image.core;
  holds : (cells : List (ℕ × ℕ)) → Holds l.fn.image cells → Holds l.image (cells ++ addressed l.at (take l.i l.bytes));
}
