use Rattle.std.proofs.Common.{◌≡◌, map, length, drop}
use Rattle.ec_ir.specs.Operations.{plain_ir}
use Rattle.ec_select_operations.specs.Needs.{facts_of, needs}
use Rattle.ec_select_operations.specs.Written.{kept_rows}
use Rattle.ec_select_live.specs.Tables.{need_of, needs_of, AreSame}
use Rattle.ec_select_live.proofs.calls.keep_all.Given as goal

abbrev pub invariant-loop-k : goal.invariant-loop-k
invariant-loop-k l = record {
  need : AreSame (length l.need) (need_of l.need) (needs (facts_of l.in_flash (needs_of l.table) (map plain_ir l.code))
      (drop l.k (map plain_ir l.code)));
  written : drop l.k (map (λ row. row.items) l.rows)
      ≡ kept_rows (length l.need) (facts_of l.in_flash (needs_of l.table) (map plain_ir l.code)) (drop l.k (map plain_ir l.code));
}
