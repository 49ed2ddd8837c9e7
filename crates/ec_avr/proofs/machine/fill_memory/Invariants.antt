use Rattle.std.proofs.Common.{◌≡◌, ℕ, ◌<◌, ◌≤◌, slice_index}
use Rattle.std.specs.Prelude.{if◌then◌else◌}
use Rattle.ec_avr.specs.State.{is_port}
use Rattle.ec_avr.proofs.machine.fill_memory.Given as goal

abbrev pub invariant-loop-at : goal.invariant-loop-at
invariant-loop-at l =
    ((k : ℕ) → k < l.at → slice_index l.bytes k ≡ (if is_port l.core k then slice_index l.initial.bytes k else l.fill))
    × ((k : ℕ) → l.at ≤ k → slice_index l.bytes k ≡ slice_index l.initial.bytes k)
