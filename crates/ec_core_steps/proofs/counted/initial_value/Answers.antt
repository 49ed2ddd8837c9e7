use Rattle.std.proofs.Common.{sym, ap, arith}
use Rattle.std.specs.Prelude.{option_and_then}
use Rattle.ec_core_steps.specs.Counted.{int_constant}
use Rattle.ec_core_steps.proofs.Declared.{no_initialiser}
use Rattle.ec_core_steps.proofs.counted.initial_value.Goals as goal

pub returns-in_default-3 : goal.returns-in_default-3
returns-in_default-3 c =
    sym (ap (option_and_then int_constant) (no_initialiser c.args.object c.args.declared c.args.values.now
    (omega (arith, c.in_default.len_at_least))))
