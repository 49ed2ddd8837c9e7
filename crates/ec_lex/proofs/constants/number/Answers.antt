use Rattle.std.proofs.Common.{◌+◌, drop, get_or, arith, sym, ◌∙◌}
use Rattle.std.proofs.lemmas.List.{at_drop_more}
use Rattle.ec_lex.specs.Constants.{value_from}
use Rattle.ec_lex.proofs.Values.{passes_limit}
use Rattle.ec_lex.proofs.constants.number.Goals as goal

pub returns-then-value-limit : goal.returns-then-value-limit
returns-then-value-limit c =
    let more =
    at_drop_more (value_from c.args.base c.loop-digit.value) c.args.digits.now c.loop-digit.digit-index 0 c.loop-digit-test.true in
    sym (passes_limit c.args.base c.loop-digit.value c.args.limit (get_or c.args.digits.now c.loop-digit.digit-index 0)
    (drop (c.loop-digit.digit-index + 1) c.args.digits.now) _
    c.requires.some (omega (arith, c.digit_value.ensures)) (sym more ∙ c.loop-digit.invariant.1))
