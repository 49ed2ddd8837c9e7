use Rattle.std.proofs.Common.{◌<◌, ◌^◌, length}
use Rattle.std.specs.Prelude.{All}
use Rattle.ec_tests_language.proofs.units.sources_of.Given as goal

abbrev pub invariant-loop-text : goal.invariant-loop-text
invariant-loop-text l = All (λ s. length s.items < 2 ^ 32) l.sources.items
