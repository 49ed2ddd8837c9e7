use Rattle.std.proofs.Common.{◌≡◌, ◌+◌, ◌*◌, ◌<◌, ◌≤◌, ℕ, length, map}
use Rattle.std.specs.Prelude.{slice_index}
use Rattle.ec_overlay.specs.Objects.{bytes_before}
use Rattle.ec_locate.specs.Entries.{owned_of}
use Rattle.ec_locate.proofs.frames.take_all.Given as goal

abbrev pub invariant-loop-entry : goal.invariant-loop-entry
invariant-loop-entry l = record {
  count : length l.used ≡ length l.fn.used;
  each : (f : ℕ) → f < length l.fn.used
      → slice_index l.used f ≡ slice_index l.fn.used f + bytes_before f l.entry-index (map owned_of l.entries);
  below : (f : ℕ) → f < length l.fn.used → slice_index l.used f ≤ slice_index l.fn.used f + 4294967296 * l.entry-index;
}
