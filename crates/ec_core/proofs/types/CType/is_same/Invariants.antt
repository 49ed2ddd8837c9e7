use Rattle.std.proofs.Common.{◌≡◌}
use Rattle.ec_core.specs.Operators.{same_type}
use Rattle.ec_core.specs.Plain.{plain_type}
use Rattle.ec_core.proofs.types.CType.is_same.Given as goal

abbrev pub invariant-loop-mine : goal.invariant-loop-mine
invariant-loop-mine l = same_type (plain_type l.mine) (plain_type l.theirs) ≡ same_type (plain_type l.self) (plain_type l.other)
