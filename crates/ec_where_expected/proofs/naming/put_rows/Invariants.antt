use Rattle.std.proofs.Common.{◌≡◌}
use Rattle.std.specs.Prelude.{string_bytes}
use Rattle.ec_where_expected.specs.Listed.{rows_text}
use Rattle.ec_where_expected.proofs.naming.put_rows.Given as goal

abbrev pub invariant-rows : goal.invariant-rows
invariant-rows l = string_bytes l.text ≡ rows_text l.flags l.i (string_bytes l.initial.text)
