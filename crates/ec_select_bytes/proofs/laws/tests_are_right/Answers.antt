use Rattle.ec_select_bytes.proofs.Tests.{tests_tell_zero, tests_keep}
use Rattle.ec_select_bytes.proofs.laws.tests_are_right.Goals as goal

pub returns : goal.returns
returns c = record { zero = tests_tell_zero; keep = tests_keep }
