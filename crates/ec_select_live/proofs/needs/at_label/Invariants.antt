use Rattle.std.proofs.Common.{◌≡◌, ℕ, ◌<◌, get_or}
use Rattle.ec_select_live.specs.Tables.{needs_of}
use Rattle.ec_select_live.proofs.needs.at_label.Given as goal

abbrev pub invariant-loop-place : goal.invariant-loop-place
invariant-loop-place l = (k : ℕ) → k < l.place → get_or l.need k 16 ≡ needs_of l.table l.l k
