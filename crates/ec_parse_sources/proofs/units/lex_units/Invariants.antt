use Rattle.std.proofs.Common.{take}
use Rattle.ec_parse_sources.specs.Units.{HaveTokens}
use Rattle.ec_parse_sources.proofs.units.lex_units.Given as goal

abbrev pub invariant-loop-i : goal.invariant-loop-i
invariant-loop-i l = HaveTokens (take l.i l.sources) l.lists.items
