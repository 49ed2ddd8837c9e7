use Rattle.std.proofs.Common.{◌≡◌, ◌+◌, ◌*◌, ◌++◌, ◌<◌, ◌≤◌, ℕ, length, map, drop}
use Rattle.std.specs.Prelude.{sum_by, slice_index}
use Rattle.ec_overlay.specs.Objects.{bytes_before}
use Rattle.ec_locate.specs.Entries.{flash_size, far_size, data_size, owned_of}
use Rattle.ec_locate.specs.Layout.{places_from}
use Rattle.ec_locate.proofs.layout.places_from.Given as goal

-- what is made, with what is left, is what all gives; and each frame goes on behind the objects so far
abbrev pub invariant-loop-entry : goal.invariant-loop-entry
invariant-loop-entry l =
    let frame : ℕ → ℕ → ℕ = λ f i. l.fn.area + (slice_index l.fn.ends f + bytes_before f i (map owned_of l.entries)) in
    record {
      made : l.places.items ++ places_from l.next_flash l.next_far l.next_at frame l.entry-index (drop l.entry-index l.entries)
          ≡ places_from l.fn.flash l.fn.far l.fn.at frame 0 l.entries;
      flash : l.next_flash + sum_by flash_size (drop l.entry-index l.entries) ≡ l.fn.flash + sum_by flash_size l.entries;
      far : l.next_far + sum_by far_size (drop l.entry-index l.entries) ≡ l.fn.far + sum_by far_size l.entries;
      at : l.next_at + sum_by data_size (drop l.entry-index l.entries) ≡ l.fn.at + sum_by data_size l.entries;
      count : length l.ends ≡ length l.fn.ends;
      each : (f : ℕ) → f < length l.fn.ends
          → slice_index l.ends f ≡ slice_index l.fn.ends f + bytes_before f l.entry-index (map owned_of l.entries);
      below : (f : ℕ) → f < length l.fn.ends → slice_index l.ends f ≤ 1152921504606846976 + 4294967296 * l.entry-index;
    }
