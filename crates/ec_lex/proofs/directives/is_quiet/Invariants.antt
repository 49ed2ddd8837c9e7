use Rattle.std.proofs.Common.{◌≡◌, length}
use Rattle.ec_lex.specs.Reading.{is_quiet}
use Rattle.ec_lex.proofs.directives.is_quiet.Given as goal

abbrev pub invariant-loop-rest : goal.invariant-loop-rest
invariant-loop-rest l = is_quiet l.rest ≡ is_quiet l.bytes

abbrev pub decreases-loop-rest : goal.decreases-loop-rest
decreases-loop-rest l = length l.rest
