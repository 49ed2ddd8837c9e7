use Rattle.std.proofs.Common.{◌≡◌, ℕ, ◌<◌, ◌≤◌, get_or}
use Rattle.std.specs.Prelude.{max}
use Rattle.ec_select_live.specs.Tables.{needs_of}
use Rattle.ec_select_live.proofs.needs.or_at_label.Given as goal

abbrev pub invariant-loop-place : goal.invariant-loop-place
invariant-loop-place l = record {
  done : (k : ℕ) → k < l.place → get_or l.need k 16 ≡ max (get_or l.fn.need k 16) (needs_of l.table l.l k);
  left : (k : ℕ) → l.place ≤ k → get_or l.need k 16 ≡ get_or l.fn.need k 16;
}
