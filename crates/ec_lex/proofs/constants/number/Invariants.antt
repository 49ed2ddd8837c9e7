use Rattle.std.proofs.Common.{◌≡◌, ◌<◌, drop}
use Rattle.ec_lex.specs.Constants.{value_from}
use Rattle.ec_lex.proofs.constants.number.Given as goal

abbrev pub invariant-loop-digit : goal.invariant-loop-digit
invariant-loop-digit l =
    (l.value < l.limit) × (value_from l.base l.value (drop l.digit-index l.digits) ≡ value_from l.base l.fn.start l.digits)
