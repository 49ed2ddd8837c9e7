use Rattle.std.proofs.Common.{◌≡◌, ◌++◌, map}
use Rattle.ec_ir.specs.Operations.{plain_ir}
use Rattle.ec_select_operations.specs.Emitted.{declarations, linkage}
use Rattle.ec_select_operations.specs.Homes.{home}
use Rattle.ec_select_operations.specs.Written.{told_at, written_code}
use Rattle.ec_select_operations.proofs.operations.all_operations.Given as goal

abbrev pub invariant-loop-k : goal.invariant-loop-k
invariant-loop-k l = record {
  told : l.told ≡ told_at l.fn.of.core (declarations l.fn.program) (home l.fn.of.homes) l.fn.wanted (map (λ row. row.items) l.fn.kept)
      l.fn.known (map plain_ir l.fn.code) l.k;
  written : l.out.items ≡ l.fn.out.items ++ written_code (declarations l.fn.program) (home l.fn.of.homes) (linkage l.fn.of) l.fn.wanted
      (map (λ row. row.items) l.fn.kept) l.fn.known l.fn.routines (map plain_ir l.fn.code) l.k;
}
