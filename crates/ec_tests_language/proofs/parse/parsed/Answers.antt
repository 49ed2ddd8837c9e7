use Rattle.std.proofs.Common.{refl}
use Rattle.ec_parse.proofs.Ends.{ends_with_end}
use Rattle.ec_tests_language.proofs.parse.parsed.Goals as goal

pub parse-requires-clause-ended : goal.parse-requires-clause-ended
parse-requires-clause-ended c = ends_with_end _ _ _ c.in_ok-push.ensures.ok refl
