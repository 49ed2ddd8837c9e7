use Rattle.std.proofs.Common.{◌≡◌, ◌++◌, length, map, drop}
use Rattle.ec_ir.specs.Operations.{plain_ir}
use Rattle.ec_ir_known.specs.Known.{known_of, numbers_from}
use Rattle.ec_ir_known.proofs.known.push_numbers.Given as goal

abbrev pub invariant-loop-k : goal.invariant-loop-k
invariant-loop-k l = record {
  places : length l.known ≡ length l.fn.known;
  pushed : l.numbers.items ++ numbers_from (known_of l.known) (drop l.k (map plain_ir l.code))
      ≡ l.fn.numbers.items ++ numbers_from (known_of l.fn.known) (map plain_ir l.code);
}
