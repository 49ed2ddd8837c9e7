use Rattle.std.proofs.Common.{◌≡◌}
use Rattle.ec_where_expected.specs.Listed.{whole_to}
use Rattle.ec_where_expected.proofs.naming.is_whole.Given as goal

abbrev pub invariant-rows : goal.invariant-rows
invariant-rows l = l.whole ≡ whole_to l.flags l.class l.i
