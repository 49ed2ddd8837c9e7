use Rattle.ec_select_routines.proofs.Words.{binary_routines_have, unary_routines_have, conversion_routines_have, calls_have}
use Rattle.ec_select_routines.proofs.laws.routines_have_words.Goals as goal

pub returns-clause-binary : goal.returns-clause-binary
returns-clause-binary c = binary_routines_have c.fixed_binaries_are_short.ensures

pub returns-clause-unary : goal.returns-clause-unary
returns-clause-unary c = unary_routines_have c.fixed_unaries_are_short.ensures

pub returns-clause-conversion : goal.returns-clause-conversion
returns-clause-conversion c = conversion_routines_have c.fixed_conversions_are_short.ensures

pub returns-clause-calls : goal.returns-clause-calls
returns-clause-calls c = calls_have
