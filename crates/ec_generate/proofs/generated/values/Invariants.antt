use Rattle.std.proofs.Common.{◌≡◌, ◌++◌}
use Rattle.ec_generate.specs.Generated.{table_values}
use Rattle.ec_generate.proofs.generated.values.Given as goal

abbrev pub invariant-loop-i : goal.invariant-loop-i
invariant-loop-i l = l.text.items ≡ l.fn.text.items ++ table_values l.i
