use Rattle.std.proofs.Common.{◌≡◌, ℕ, ◌<◌, length}
use Rattle.std.specs.Prelude.{slice_index}
use Rattle.ec_check_recursion.specs.Rows.{plain_rows}
use Rattle.ec_overlay.specs.Frames.{most_of, end_for}
use Rattle.ec_overlay.proofs.begins.moved.Given as goal

abbrev pub invariant-loop-caller : goal.invariant-loop-caller
invariant-loop-caller l =
    (length l.made.items ≡ length l.rows)
    × ((f : ℕ) → f < length l.rows → slice_index l.made.items f
    ≡ most_of (end_for (plain_rows l.rows) (slice_index l.sizes) (slice_index l.begins) f) l.caller)
