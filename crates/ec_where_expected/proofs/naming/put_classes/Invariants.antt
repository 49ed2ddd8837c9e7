use Rattle.std.proofs.Common.{◌≡◌}
use Rattle.std.specs.Prelude.{string_bytes}
use Rattle.ec_where_expected.specs.Listed.{classes_text}
use Rattle.ec_where_expected.proofs.naming.put_classes.Given as goal

abbrev pub invariant-classes : goal.invariant-classes
invariant-classes l = string_bytes l.text ≡ classes_text l.flags l.i (string_bytes l.initial.text)
