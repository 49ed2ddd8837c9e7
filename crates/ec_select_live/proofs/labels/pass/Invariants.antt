use Rattle.std.proofs.Common.{map, length, drop}
use Rattle.ec_ir.specs.Operations.{plain_ir}
use Rattle.ec_select_live.proofs.Growth.{NoMore}
use Rattle.ec_select_live.proofs.Passes.{Passed}
use Rattle.ec_select_live.proofs.labels.pass.Given as goal

abbrev pub invariant-loop-k : goal.invariant-loop-k
invariant-loop-k l = record {
  passed : Passed (length l.need) l.in_flash (map plain_ir l.code) l.fn.table l.table l.need (drop l.k (map plain_ir l.code)) l.grown;
  least : NoMore (length l.need) l.in_flash (map plain_ir l.code) l.fn.table l.table l.need (drop l.k (map plain_ir l.code));
}
