use Rattle.std.proofs.Common.{◌≡◌, ℕ, ◌+◌, map, length, false, if◌then◌else◌}
use Rattle.ec_ir.specs.Operations.{plain_ir}
use Rattle.ec_select_operations.specs.Needs.{Need, IsLive}
use Rattle.ec_select_live.specs.Least.{HaveLabels}
use Rattle.ec_select_live.specs.Tables.{needs_of, IsTable, TellNoMore, room}
use Rattle.ec_select_live.proofs.labels.settle.Given as goal

abbrev pub invariant-loop-grown : goal.invariant-loop-grown
invariant-loop-grown l = record {
  kept : IsTable (length l.need) (needs_of l.table);
  live : l.grown ≡ false → IsLive l.in_flash (needs_of l.table) (map plain_ir l.code);
  least : (labels : ℕ) (other : ℕ → Need) → HaveLabels labels (map plain_ir l.code) → IsLive l.in_flash other (map plain_ir l.code)
      → TellNoMore labels (length l.need) (needs_of l.fn.table) other
      → TellNoMore labels (length l.need) (needs_of l.table) other;
}

abbrev pub decreases-loop-grown : goal.decreases-loop-grown
decreases-loop-grown l = room l.table + (if l.grown then 1 else 0)
