-- The law of runs with a watch.
use Rattle.std.proofs.Common.{◌≡◌, ℕ, zero, suc, Bool, true, false, List, [], ◌∷◌, ◌++◌, length, refl, sym, ap, ◌∙◌, subst}
use Rattle.std.specs.Prelude.{if◌then◌else◌}
use Rattle.std.specs.List.{AllByRecursion}
use Rattle.ec_space.specs.Memory.{data_size}
use Rattle.ec_space.specs.declared.space.Place.{Place}
use Rattle.ec_avr.specs.declared.machine.Access.{Access}
use Rattle.ec_avr.specs.declared.machine.Access.TheVariants.{Silent, In as PortIn, Out as PortOut, Read as ByteRead}
use Rattle.ec_avr.specs.declared.machine.Access.TheVariants.{Write as ByteWrite, Stack}
use Rattle.ec_avr.specs.Machine.{State, Inputs}
use Rattle.ec_avr.specs.Runs.{answers, and_then}
use Rattle.ec_core.specs.Plain.{PlainStruct, PlainObject, PlainProgram}
use Rattle.ec_core.specs.Meaning.{run, state_of}
use Rattle.ec_core.specs.PortTable.{plain_table}
use Rattle.ec_core_numbers.specs.Numbers.{WritesNumber, WritesHoldNumbers}
use Rattle.ec_core.specs.TypeLaws.{LeavesFillTheirTypes}
use Rattle.ec_emu.specs.Emulation.{EndsBy}
use Rattle.ec_emu.specs.Stops.{has_stack}
use Rattle.ec_emu_watch.specs.declared.run.WatchEnd.{WatchEnd}
use Rattle.ec_emu_watch.specs.declared.run.WatchEnd.TheVariants.{Hit, Ended, StepsOut, Fault, WriteFault}
use Rattle.ec_emu_watch.specs.Hits.{emulated, emulation, IsWatchedBy}
use Rattle.ec_map.specs.declared.map.Map.{Map}
use Rattle.ec_locate.specs.declared.placing.Located.{Located}
use Rattle.ec_select.specs.Program.{has_initial_bytes, filling_of}
use Rattle.ec_select_reset.specs.Laws.{all_but_silent}
use Rattle.ec_select_startup.specs.declared.spans.Filling.{Filling}
use Rattle.ec_select_startup.specs.declared.spans.Filling.TheVariants.{Copied, Cleared}
use Rattle.ec_build_laws.specs.Whole.{copying, clearing, fills, copying_objects, ProgramsShowTheirSources, ShowsWhole}
use Rattle.ec_core.specs.Layout.{size_of_type}
use Rattle.ec_watch_laws.specs.Laws.{any_answer, WatchedRunsKeepSources}
use Rattle.ec_watch_laws.specs.Watched.{KeepsWatched}
use Rattle.ec_watch_laws.proofs.Alone.{IsAlone}
use Rattle.ec_watch_laws.proofs.Apart.{ApartLaws, stands, alone}
use Rattle.ec_watch_laws.proofs.Keeping.{keeps_stopped, keeps_ended, never_faults, keeps_within, keeps_on}
use Rattle.ec_watch_laws.proofs.Values.{MachineLaws}

-- ---- no access before main is of the stack

no_stack-append : (xs ys : List Access) → has_stack xs ≡ false → has_stack ys ≡ false → has_stack (xs ++ ys) ≡ false
no_stack-append [] ys e f = f
no_stack-append (Silent ∷ xs) ys e f = no_stack-append xs ys e f
no_stack-append (PortIn port byte ∷ xs) ys e f = no_stack-append xs ys e f
no_stack-append (PortOut port byte ∷ xs) ys e f = no_stack-append xs ys e f
no_stack-append (ByteRead bank at byte ∷ xs) ys e f = no_stack-append xs ys e f
no_stack-append (ByteWrite at byte ∷ xs) ys e f = no_stack-append xs ys e f
no_stack-append (Stack ∷ xs) ys e f = cc

no_stack_copying : (flash : List ℕ) (from to n : ℕ) → has_stack (copying flash from to n) ≡ false
no_stack_copying flash from to zero = refl
no_stack_copying flash from to (suc n) = no_stack-append (copying flash from to n) _ (no_stack_copying flash from to n) refl

no_stack_clearing : (to n : ℕ) → has_stack (clearing to n) ≡ false
no_stack_clearing to zero = refl
no_stack_clearing to (suc n) = no_stack-append (clearing to n) _ (no_stack_clearing to n) refl

no_stack_fills : (flash : List ℕ) (by : Filling) (from to n : ℕ) → has_stack (fills flash by from to n) ≡ false
no_stack_fills flash Copied from to n = no_stack_copying flash from to n
no_stack_fills flash Cleared from to n = no_stack_clearing to n

no_stack_copies : (flash : List ℕ) (structs : List PlainStruct) (os : List PlainObject) (initials : List ℕ) (places : List Place)
    → has_stack (copying_objects flash structs os initials places) ≡ false
no_stack_copies flash structs [] initials places = refl
no_stack_copies flash structs (o ∷ os) [] places = refl
no_stack_copies flash structs (o ∷ os) (at ∷ ats) [] = refl
no_stack_copies flash structs (o ∷ os) (at ∷ ats) (q ∷ qs) =
    no_stack-append
    (if has_initial_bytes o.storage o.home
    then fills flash (filling_of o.storage) at q.offset (size_of_type structs o.ty) else [])
    (copying_objects flash structs os ats qs) (by_test (has_initial_bytes o.storage o.home)) (no_stack_copies flash structs os ats qs)
  where
    by_test : (b : Bool)
        → has_stack (if b then fills flash (filling_of o.storage) at q.offset (size_of_type structs o.ty) else []) ≡ false
    by_test true = no_stack_fills flash (filling_of o.storage) at q.offset (size_of_type structs o.ty)
    by_test false = refl

same_stack : (trace : List Access) → has_stack (all_but_silent trace) ≡ has_stack trace
same_stack [] = refl
same_stack (Silent ∷ trace) = same_stack trace
same_stack (PortIn port byte ∷ trace) = same_stack trace
same_stack (PortOut port byte ∷ trace) = same_stack trace
same_stack (ByteRead bank at byte ∷ trace) = same_stack trace
same_stack (ByteWrite at byte ∷ trace) = same_stack trace
same_stack (Stack ∷ trace) = refl

no_stack : (p : PlainProgram) (m : Map) (l : Located) (s : State) (inputs : Inputs) (shows : ShowsWhole p m l s inputs)
    → has_stack shows.before ≡ false
no_stack p m l s inputs shows =
    sym (same_stack shows.before) ∙ ap has_stack shows.copied ∙ no_stack_copies _ p.structs p.objects _ l.places.items

-- ---- the law

pub record WatchLaws : Type 0 where
  pub separate : ApartLaws
  pub machine : MachineLaws
  pub fill : LeavesFillTheirTypes
  pub numbers : WritesHoldNumbers
  pub shows : ProgramsShowTheirSources

pub watched_runs_keep_sources : WatchLaws → WatchedRunsKeepSources
watched_runs_keep_sources laws p m asm l name k point holds steps s new report trace more h q reset watched bytes defined =
    by_end report.end refl watched
  where
    inputs : Inputs
    inputs = and_then (answers trace) more

    shows : ShowsWhole p m l s inputs
    shows = laws.shows p m asm l s inputs h reset bytes

    sized : length s.mem.data ≡ data_size m.core
    sized = reset.size ∙ ap data_size h.located.core

    here : IsAlone p m l point
    here = alone p m asm l h (stands laws.separate p m asm l h) laws.fill name k point q

    numbers : (n : ℕ) → AllByRecursion (WritesNumber p) (state_of (run p (plain_table m.io) inputs n)).events
    numbers n = laws.numbers p m.io inputs n h.valid bytes

    by_end : (end : WatchEnd) → report.end ≡ end → IsWatchedBy point holds any_answer steps s new (emulation report) trace end
        → KeepsWatched p m l inputs point holds steps trace end
    by_end (Hit value) e w =
        keeps_stopped laws.machine p m l point here holds s inputs shows sized defined (no_stack p m l s inputs shows) numbers trace new
        value (w.0.made more) w.1
    by_end (Ended result) e w =
        let ended = subst (λ (z : WatchEnd). EndsBy steps s (emulated z) trace) e w.0.ended in
        keeps_ended laws.machine p m l point here holds s inputs shows sized defined (no_stack p m l s inputs shows) numbers steps trace new
        result (w.0.made more) (ended more) w.1
    by_end StepsOut e w =
        let all = subst (λ (z : WatchEnd). EndsBy steps s (emulated z) trace) e w.0.ended in
        keeps_on laws.machine p m l point here holds s inputs shows sized defined (no_stack p m l s inputs shows) numbers steps trace new
        (w.0.made more) all w.1
    by_end (Fault kind pc) e w =
        let at = subst (λ (z : WatchEnd). EndsBy steps s (emulated z) trace) e w.0.ended in
        never_faults laws.machine p m l point here holds s inputs shows sized defined (no_stack p m l s inputs shows) numbers steps trace
        kind pc (at more)
    by_end WriteFault e w =
        keeps_within laws.machine p m l point here holds s inputs shows sized defined (no_stack p m l s inputs shows) numbers (length trace)
        trace new (w.0.made more)
