-- What is accepted has no cause to be refused: the program.
use Rattle.std.proofs.Common.{List, refl, arith}
use Rattle.ec_iohw.specs.declared.table.IoTable.{IoTable}
use Rattle.ec_grammar.specs.Trees as t
use Rattle.ec_core.specs.Plain.{PlainProgram}
use Rattle.ec_check_recursion.specs.Recursion.{NothingRecurs}
use Rattle.ec_check.specs.Answers.{IsTyped, IsWithinLimits}
use Rattle.ec_check.specs.Broken.{NothingIsBroken}
use Rattle.ec_check.specs.declared.checking.CheckStop.{CheckStop}
use Rattle.ec_check.specs.declared.checking.CheckStop.TheVariants as check_stops
use Rattle.ec_build.specs.Causes.{IsUnchecked}

pub not_unchecked : (units : List t.Tree) (io : IoTable) (stop : CheckStop) → IsWithinLimits units → NothingIsBroken units io
    → ((p : PlainProgram) → IsTyped units io p → NothingRecurs p) → ¬ IsUnchecked units io stop
not_unchecked units io check_stops.NoMemory limits unbroken loopless why = why.told refl
not_unchecked units io check_stops.TooManyObjects limits unbroken loopless why =
    let against = why.against in omega (arith, limits.objects, against)
not_unchecked units io check_stops.TooManyFunctions limits unbroken loopless why =
    let against = why.against in omega (arith, limits.functions, against.1)
not_unchecked units io (check_stops.Constraint unit token rule) limits unbroken loopless why =
    unbroken unit token rule why.against.1.broken
not_unchecked units io (check_stops.Recursion name) limits unbroken loopless why =
    let r = why.against.2 in
    loopless r.program r.typed r.recursion.function r.recursion.first.reaches
