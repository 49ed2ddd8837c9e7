-- How many arguments a call has: those behind the first one or behind the name of a port, and all of them (ISO/IEC
-- 9899:1999, 6.5.2.2).
use Rattle.std.specs.Prelude.{ℕ, ◌+◌}
use Rattle.ec_grammar.specs.Trees as t

abbrev pub further_count : t.Further → ℕ
further_count t.no_further = 0
further_count (t.further s a more) = further_count more + 1

abbrev pub argument_count : t.Arguments → ℕ
argument_count t.no_arguments = 0
argument_count (t.arguments a more) = further_count more + 1
