-- A machine ends in so many steps, with the result of its source.
use Rattle.std.specs.Prelude.{◌≡◌, ◌+◌, ◌≤◌, ℕ, ℤ, List}
use Rattle.ec_runs.specs.Behaviours.{Ended as Ends}
use Rattle.ec_avr.specs.declared.machine.Access.{Access}
use Rattle.ec_avr.specs.Machine.{State, Inputs, EndedWith, machine, IsReset}
use Rattle.ec_asm.specs.declared.items.AsmProgram.{AsmProgram}
use Rattle.ec_core.specs.Meaning.{source, Defined}
use Rattle.ec_core.specs.Plain.{PlainProgram}
use Rattle.ec_core.specs.PortTable.{plain_table}
use Rattle.ec_core.specs.State.{Event}
use Rattle.ec_core.specs.ValueTypes.{GiveBytes}
use Rattle.ec_core_steps.specs.Laws.{LoopsAreCounted}
use Rattle.ec_core_steps.specs.Work.{max_work}
use Rattle.ec_locate.specs.declared.placing.Located.{Located}
use Rattle.ec_map.specs.declared.map.Map.{Map}
use Rattle.ec_build_laws.specs.Runs.{start_steps}
use Rattle.ec_build_laws.specs.Translation.{IsTranslated}

-- the source ends, where each execution of a loop has at most 65,536 turns; the machine ends with the same result
pub record EndsWithin (p : PlainProgram) (m : Map) (s : State) (inputs : Inputs) (most : ℕ) : Type 0 where
  pub events : List Event
  pub result : ℤ
  pub ended : source p (plain_table m.io) inputs 65_536 ≡ Ends events result
  pub steps : ℕ
  pub few : steps ≤ most
  pub trace : List Access
  pub ran : machine steps inputs s ≡ EndedWith trace result

-- the steps before main, and the most work of the program
abbrev pub most_steps : PlainProgram → Map → ℕ
most_steps p m = start_steps p + max_work p (plain_table m.io)

abbrev pub CountedProgramsEndInTime : Type 0
CountedProgramsEndInTime =
    (p : PlainProgram) (m : Map) (asm : AsmProgram) (l : Located) (s : State) (inputs : Inputs)
    → IsTranslated p m asm l → IsReset l.image.core l.image.bytes.items s → GiveBytes inputs → LoopsAreCounted p
    → Defined p (plain_table m.io) inputs → EndsWithin p m s inputs (most_steps p m)
