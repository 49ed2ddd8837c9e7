use Rattle.std.proofs.Common.{◌≡◌, map, length, drop}
use Rattle.ec_ir.specs.Operations.{plain_ir}
use Rattle.ec_select_operations.specs.Needs.{facts_of, needs}
use Rattle.ec_select_operations.specs.Code.{wanted_bytes}
use Rattle.ec_select_live.specs.Tables.{need_of, needs_of, AreSame}
use Rattle.ec_select_live.proofs.labels.want.Given as goal

abbrev pub invariant-loop-k : goal.invariant-loop-k
invariant-loop-k l = record {
  need : AreSame (length l.need) (need_of l.need) (needs (facts_of l.in_flash (needs_of l.table) (map plain_ir l.code))
      (drop l.k (map plain_ir l.code)));
  written : drop l.k l.wanted ≡ wanted_bytes (facts_of l.in_flash (needs_of l.table) (map plain_ir l.code))
      (drop l.k (map plain_ir l.code));
}
