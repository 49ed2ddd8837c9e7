-- The machine of a program whose loops are counted ends in time.
use Rattle.std.proofs.Common.{◌≡◌, ◌+◌, ℕ, refl, sym, subst, ap, Ok, Err, arith}
use Rattle.std.specs.Prelude.{Result, IfOk}
use Rattle.ec_avr.specs.Machine.{State, Inputs}
use Rattle.ec_core.specs.declared.values.Value.{Value}
use Rattle.ec_core.specs.Meaning.{number_of, behaviour_of, run, work, Defined}
use Rattle.ec_core.specs.Plain.{PlainProgram}
use Rattle.ec_core.specs.PortTable.{plain_table}
use Rattle.ec_core.specs.State.{Outcome, got, more, undefined}
use Rattle.ec_core_steps.specs.Laws.{IsBounded, LoopsAreCounted, CountedProgramsAreBounded}
use Rattle.ec_locate.specs.declared.placing.Located.{Located}
use Rattle.ec_map.specs.declared.map.Map.{Map}
use Rattle.ec_build_laws.specs.Runs.{start_steps}
use Rattle.ec_build_laws.specs.Shown.{Comes}
use Rattle.ec_build_laws.specs.Whole.{kept, ShowsWhole, ProgramsShowTheirSources}
use Rattle.ec_steps.specs.declared.stop.BoundStop.{BoundStop}
use Rattle.ec_steps.specs.Bounds.{EndsInTime}
use Rattle.ec_steps.specs.Ends.{EndsWithin, most_steps, CountedProgramsEndInTime}

module _ (p : PlainProgram) (m : Map) (l : Located) (s : State) (inputs : Inputs) (shows : ShowsWhole p m l s inputs)
    (bounded : IsBounded p m.io inputs) (defined : Defined p (plain_table m.io) inputs) where
  -- by what comes of the run of the source
  by_outcome : (o : Outcome Value) → run p (plain_table m.io) inputs 65_536 ≡ o
      → Comes p l (kept p m l) s inputs shows.start 65_536 (start_steps p + work p (plain_table m.io) inputs 65_536) (behaviour_of o)
      → EndsWithin p m s inputs (most_steps p m)
  by_outcome (got x t) e c =
      let few = c.2 in
      let within = bounded.work 65_536 in
      record {
        events = t.events;
        result = number_of x;
        ended = ap behaviour_of e;
        steps = c.0;
        few = omega (arith, few, within);
        trace = c.1;
        ran = c.3;
      }
  by_outcome (more t) e c = absurd (bounded.ends 65_536 t (omega arith) e)
  by_outcome (undefined point t) e c = absurd (defined 65_536 point (ap behaviour_of e))

  ends_within : EndsWithin p m s inputs (most_steps p m)
  ends_within = by_outcome (run p (plain_table m.io) inputs 65_536) refl (shows.reached defined 65_536)

pub end_in_time : ProgramsShowTheirSources → CountedProgramsAreBounded → CountedProgramsEndInTime
end_in_time show bounded p m asm l s inputs translated reset bytes counted defined =
    ends_within p m l s inputs (show p m asm l s inputs translated reset bytes) (bounded p m.io inputs translated.valid counted) defined

-- so it is of every image
images : CountedProgramsEndInTime → (p : PlainProgram) (m : Map) → LoopsAreCounted p → EndsInTime p m (most_steps p m)
images ends p m counted asm l s inputs image reset bytes defined = ends p m asm l s inputs image.translated reset bytes counted defined

pub all_images : CountedProgramsEndInTime → (p : PlainProgram) (m : Map) → LoopsAreCounted p → (r : Result ℕ BoundStop)
    → IfOk r (λ n. n ≡ most_steps p m) → IfOk r (EndsInTime p m)
all_images ends p m counted (Ok n) same = subst (EndsInTime p m) (sym same) (images ends p m counted)
all_images ends p m counted (Err stop) same = tt
