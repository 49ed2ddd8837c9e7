use Rattle.std.proofs.Common.{◌≡◌, ◌*◌, ◌≤◌, take}
use Rattle.std.specs.Prelude.{sum_by}
use Rattle.ec_locate.specs.Entries.{far_size}
use Rattle.ec_locate.proofs.entries.far_sizes.Given as goal

abbrev pub invariant-loop-entry : goal.invariant-loop-entry
invariant-loop-entry l = record {
  total : l.sum ≡ sum_by far_size (take l.entry-index l.entries);
  below : l.sum ≤ 4294967296 * l.entry-index;
}
