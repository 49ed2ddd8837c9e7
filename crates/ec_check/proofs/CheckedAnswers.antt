-- What `check` answers, by what the walk finds, has its cause.
use Rattle.std.proofs.Common.{List, subst}
use Rattle.std.specs.Prelude.{Result, Ok, Err}
use Rattle.ec_grammar.specs.Trees.{Tree}
use Rattle.ec_iohw.specs.declared.table.IoTable.{IoTable}
use Rattle.ec_core.specs.declared.programs.Program.{Program}
use Rattle.ec_check.specs.declared.checking.CheckStop.{CheckStop}
use Rattle.ec_check.specs.declared.checking.CheckStop.TheVariants as stops
use Rattle.ec_check.specs.Answers.{Checked, FollowsWalk}
use Rattle.ec_core.specs.Plain.{plain_program}
use Rattle.ec_check.specs.Broken.{IsLeastOf, LeastIsFound}
use Rattle.ec_check.specs.Laws.{ProgramsAreTyped}

pub checked_answer : LeastIsFound → ProgramsAreTyped → (us : List Tree) (io : IoTable) (r : Result Program CheckStop) → FollowsWalk us io r → Checked us io r
checked_answer law typed us io (Ok p) h =
    let p_typed = (typed.walked us io (plain_program p)).1 h.2 in
    (h.0, subst (IsLeastOf us io) h.1 (law.found us io), p_typed, h.3, λ q g. typed.only us io q (plain_program p) g p_typed)
checked_answer law typed us io (Err stops.NoMemory) h = tt
checked_answer law typed us io (Err stops.TooManyObjects) h = h
checked_answer law typed us io (Err stops.TooManyFunctions) h = h
checked_answer law typed us io (Err (stops.Constraint unit token rule)) h = (h.0, subst (IsLeastOf us io) h.1 (law.found us io))
checked_answer law typed us io (Err (stops.Recursion name)) h =
    let r = h.2 in (
      h.0,
      subst (IsLeastOf us io) h.1 (law.found us io),
      record { program = r.program; typed = (typed.walked us io r.program).1 r.typed; recursion = r.recursion },
    )
