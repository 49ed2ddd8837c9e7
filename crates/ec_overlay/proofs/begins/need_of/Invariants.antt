use Rattle.std.proofs.Common.{◌≡◌, ◌+◌}
use Rattle.std.specs.Prelude.{slice_index}
use Rattle.ec_check_recursion.specs.Rows.{plain_rows}
use Rattle.ec_overlay.specs.Frames.{most_of, begin_of}
use Rattle.ec_overlay.proofs.begins.need_of.Given as goal

abbrev pub invariant-loop-function : goal.invariant-loop-function
invariant-loop-function l =
    l.need ≡ most_of (λ f. begin_of (plain_rows l.rows) (slice_index l.sizes) f + slice_index l.sizes f) l.function
