use Rattle.std.proofs.Common.{◌≡◌, ◌+◌, ◌*◌, ◌≤◌, drop}
use Rattle.ec_core.specs.Plain.{plain_exprs}
use Rattle.ec_core.specs.Words.{total_size}
use Rattle.ec_core_steps.proofs.words.total_size.Given as goal

-- what was added, with the bytes of the values that are left, is the bytes of all
abbrev pub invariant-loop-e : goal.invariant-loop-e
invariant-loop-e l =
    (l.bytes + total_size (plain_exprs (drop l.e-index l.es)) ≡ total_size (plain_exprs l.es)) × (l.bytes ≤ 255 * l.e-index)
