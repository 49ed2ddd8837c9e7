use Rattle.std.proofs.Common.{◌≡◌, max, drop}
use Rattle.ec_locate.specs.Calls.{deepest}
use Rattle.ec_locate.proofs.calls.deepest.Given as goal

-- the functions that are left complete the greatest depth
abbrev pub invariant-loop-function : goal.invariant-loop-function
invariant-loop-function l = max l.best (deepest l.depths (drop l.function-index l.row)) ≡ deepest l.depths l.row
