use Rattle.std.proofs.Common.{◌≡◌, ℕ, ◌<◌, length}
use Rattle.std.specs.Prelude.{slice_index}
use Rattle.ec_check_recursion.specs.Rows.{plain_rows}
use Rattle.ec_overlay.specs.Frames.{begin_within}
use Rattle.ec_overlay.proofs.begins.begins_of.Given as goal

abbrev pub invariant-loop-round : goal.invariant-loop-round
invariant-loop-round l =
    (length l.begins.items ≡ length l.rows)
    × ((f : ℕ) → f < length l.rows
    → slice_index l.begins.items f ≡ begin_within (plain_rows l.rows) (slice_index l.sizes) l._round f)
