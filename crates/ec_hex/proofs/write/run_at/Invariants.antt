use Rattle.std.proofs.Common.{◌≡◌, ◌+◌, ◌-◌, ◌++◌, suc, take, drop}
use Rattle.ec_hex.specs.Text.{contents, more_at, run}
use Rattle.ec_hex.proofs.write.run_at.Given as goal

abbrev pub invariant-loop-n : goal.invariant-loop-n
invariant-loop-n l =
    run (suc (more_at l.at)) (drop l.at (contents l.bytes l.written))
    ≡ take l.n (drop l.at l.bytes) ++ run (suc (more_at l.at) - l.n) (drop (l.at + l.n) (contents l.bytes l.written))
