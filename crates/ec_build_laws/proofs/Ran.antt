-- What a placed program does.
use Rattle.std.proofs.Common.{◌≡◌, ⊎_elim, Bool, true, subst, ℕ, ◌+◌, ◌-◌, ◌<◌, ◌≤◌, ℤ, List, [], ◌∷◌, ◌++◌, length, refl, sym, ap}
use Rattle.std.proofs.Common.{◌∙◌, arith, append_assoc}
use Rattle.std.specs.Prelude.{IsTrue, All}
use Rattle.std.proofs.lemmas.Bool.{leb-true, le-leb, cases_lt}
use Rattle.ec_space.specs.Memory.{data_size}
use Rattle.ec_runs.specs.Behaviours.{Behaviour, Running as GoesOn, Ended as Ends, Failed, Reaches, IsWithin, seen_as}
use Rattle.ec_runs.proofs.Runs.{reaches_as_seen, reaches_through}
use Rattle.ec_avr.specs.declared.machine.Access.{Access}
use Rattle.ec_avr.specs.declared.machine.Access.TheVariants.{Stack}
use Rattle.ec_avr.specs.Laws.{MachineIsRun}
use Rattle.ec_avr.specs.Machine.{State, Inputs, Running, machine, IsReset}
use Rattle.ec_avr.specs.Placed.{stack_bytes}
use Rattle.ec_avr.specs.Runs.{MachineFault, preceded_by}
use Rattle.ec_asm.specs.Behaves.{noted_run}
use Rattle.ec_asm.specs.Change.{Env, Stacked, unbased}
use Rattle.ec_asm.specs.Laws.{StackStaysInside}
use Rattle.ec_asm.proofs.Behaves.{stays_within}
use Rattle.ec_asm.specs.Shows.{Shows, Fits}
use Rattle.ec_asm.specs.declared.items.AsmProgram.{AsmProgram}
use Rattle.ec_core.specs.Meaning.{source, work}
use Rattle.ec_core.specs.Plain.{PlainProgram}
use Rattle.ec_core.specs.PortTable.{plain_table}
use Rattle.ec_core.specs.State.{Event}
use Rattle.ec_core.specs.ValueTypes.{GiveBytes}
use Rattle.ec_core.specs.declared.values.Undefined.{Undefined}
use Rattle.ec_ir.specs.Meaning.{meaning, steps_of}
use Rattle.ec_lower_code.specs.Code.{lowered}
use Rattle.ec_lower_code.specs.Correct.{LoweredFollows, LoweredIsMadeOf, is_paid}
use Rattle.ec_map.specs.declared.map.Map.{Map}
use Rattle.ec_locate.specs.declared.placing.Located.{Located}
use Rattle.ec_asm.specs.Run.{Running as AtWord, run, is_safe}
use Rattle.ec_core_accesses.specs.Ports.{SourcesAccessPorts, PortBytesPass}
use Rattle.ec_select_functions.specs.Kept.{meaning_on}
use Rattle.ec_select_functions.specs.Laws.{within_steps, HoldsUnlessFailed}
use Rattle.ec_select_functions.specs.Relation.{accesses}
use Rattle.ec_select.specs.Laws.{SelectionsRun}
use Rattle.ec_select.specs.Selected.{IsSelection}
use Rattle.ec_build_laws.specs.Kinds.{placed, place_of, scratch_of}
use Rattle.ec_build_laws.specs.Laws.{KindsFit, AreLaidOut, PlacedAreLaidOut}
use Rattle.ec_build_laws.specs.Runs.{view_of, Begins, RunsFromReset, ImagesRun, seen_source, is_within_work, RunsAsSource}
use Rattle.ec_build_laws.specs.Runs.{ImagesRunAsSources}
use Rattle.ec_build_laws.specs.Translation.{IsTranslated}
use Rattle.ec_build_laws.proofs.Ends.{data_low}
use Rattle.ec_build_laws.proofs.Begun.{before_running, preceded_twice, behind, silent_first, BeginLaws, begins}
use Rattle.ec_build_laws.proofs.Guarded.{GuardLaws, are_kinds}
use Rattle.ec_build_laws.proofs.Ports.{StandAsPorts, reaches_on, within_on, ports_of_map}

pub record ImageLaws : Type 0 where
  pub begin : BeginLaws
  pub fit : KindsFit
  pub laid : PlacedAreLaidOut
  pub made : LoweredIsMadeOf
  pub run : SelectionsRun

reset_shows : (p : PlainProgram) (m : Map) (asm : AsmProgram) (l : Located) (e : Env) (s : State) (inputs : Inputs)
    → IsTranslated p m asm l → l.image.bytes.items ≡ e.flash → m.core ≡ e.core → IsReset l.image.core l.image.bytes.items s → GiveBytes inputs
    → Shows (unbased e) (data_size m.core) s.core s.mem (view_of s inputs)
reset_shows p m asm l e s inputs h flash core reset give = record {
  same = reset.same ∙ h.located.core ∙ core;
  flash = reset.flash ∙ flash;
  sized = reset.size ∙ ap data_size h.located.core;
  bytes = reset.bytes;
  at = refl;
  flags = refl;
  page = refl;
  feeds = give;
  base = λ l. absurd (omega (arith, l));
}

-- wherever code and data stand, in an environment with the flash of the image
pub runs_as_operations : LoweredIsMadeOf → SelectionsRun → BeginLaws
    → (p : PlainProgram) (m : Map) (asm : AsmProgram) (l : Located) (e : Env) (s : State) (inputs : Inputs)
    → (h : IsTranslated p m asm l) → IsReset l.image.core l.image.bytes.items s → GiveBytes inputs → l.image.bytes.items ≡ e.flash
    → m.core ≡ e.core → Fits e (data_size m.core) → AreLaidOut p m h.selected asm l e → RunsFromReset p m l e s inputs
runs_as_operations made selections laws p m asm l e s inputs h reset give flash core fit are =
    let word = are.laid.code.begin in
    let low = data_low m.core in
    let small : data_size m.core < 65536 = omega (arith, low) in
    let b = begins laws e (data_size m.core) word fit s inputs give (reset_shows p m asm l e s inputs h flash core reset give) reset.begin are.sets in
    record {
      word = word;
      begins = b;
      runs = selections (length m.io.dynamics.items) (lowered p (plain_table m.io)) h.selected e (place_of l) (scratch_of asm l)
          (data_size m.core) m.stack.first b.first (view_of b.first inputs) inputs (made p m.io h.valid h.groups).valid h.code
          (subst (λ c. IsSelection c (lowered p (plain_table m.io)) h.selected) core h.selection) fit small b.shows (λ port. refl)
          are.laid b.at;
    }

pub images_run : ImageLaws → ImagesRun
images_run laws p m asm l s inputs h reset give =
    runs_as_operations laws.made laws.run laws.begin p m asm l (placed p m asm l) s inputs h reset give refl refl
    (laws.fit p m asm l h.located h.bytes) (laws.laid p m asm l h)

-- the steps that are paid are within the work, with the one of BREAK
paid_twice : (p : PlainProgram) (m : Map) (inputs : Inputs) (n k j : ℕ) → IsTrue (is_paid p m.io (lowered p (plain_table m.io)) inputs n k)
    → IsTrue (within_steps (lowered p (plain_table m.io)) inputs k j) → IsTrue (is_within_work p m.io inputs n j)
paid_twice p m inputs n k j a b =
    let w = work p (plain_table m.io) inputs n in
    let s = steps_of (lowered p (plain_table m.io)) inputs k in
    let x : s + 12800 ≤ w = leb-true (s + 12800) w a in
    let y : j ≤ s + 1 = leb-true j (s + 1) b in
    le-leb j w (omega (arith, x, y))

-- what holds where the operations have a meaning holds where the source has one
holds_within : (b c : Behaviour Event ℤ Undefined) (t : Bool) → IsWithin b c → HoldsUnlessFailed c t → HoldsUnlessFailed b t
holds_within (Failed point) c t w h = tt
holds_within (GoesOn es) (GoesOn fs) t w h = h
holds_within (GoesOn es) (Ends fs result) t w h = absurd w
holds_within (GoesOn es) (Failed point) t w h = absurd w
holds_within (Ends es result) (GoesOn fs) t w h = h
holds_within (Ends es result) (Ends fs other) t w h = h
holds_within (Ends es result) (Failed point) t w h = absurd w

-- what the steps before main push and pop, behind those that set Y
stacked_behind : StackStaysInside → (e : Env) (size word steps : ℕ) (s : State) (inputs : Inputs) → Fits e size
    → (b : Begins e size word s inputs)
    → is_safe (run e steps (AtWord b.first.pc (view_of b.first inputs))) ≡ true
    → (k : ℕ) (before : List Access) (t : State) → k < b.steps + steps → machine k inputs s ≡ Running before t
    → All (λ at. e.kind at ≡ Stacked) (stack_bytes t)
stacked_behind inside e size word steps s inputs fit b safe k before t less ran =
    ⊎_elim (λ early. b.stacked k before t early ran) in_code (cases_lt k b.steps)
  where
    in_code : b.steps ≤ k → All (λ at. e.kind at ≡ Stacked) (stack_bytes t)
    in_code late =
        let j = k - b.steps in
        let sum : k ≡ b.steps + j = omega (arith, late) in
        let there : preceded_by b.trace (machine j inputs b.first) ≡ Running before t =
        sym (b.ran j) ∙ ap (λ n. machine n inputs s) (sym sum) ∙ ran in
        let rest = behind b.trace (machine j inputs b.first) before t there in
        inside e size steps j b.first t (view_of b.first inputs) rest.0 fit b.shows safe (omega (arith, less, late)) rest.1

-- from what a machine shows of the operations, whatever is noted of it
pub runs_as_source : LoweredFollows → MachineIsRun → SourcesAccessPorts → StackStaysInside
    → (p : PlainProgram) (m : Map) (asm : AsmProgram) (l : Located) (e : Env)
    (s : State) (inputs : Inputs) → IsTranslated p m asm l → GiveBytes inputs → Fits e (data_size m.core) → StandAsPorts e (plain_table m.io)
    → RunsFromReset p m l e s inputs → RunsAsSource p m l e s inputs
runs_as_source follows is_run on_ports inside p m asm l e s inputs h give fit stand from_reset =
    let b = from_reset.begins in
    let r = from_reset.runs in
    let few = b.few in
    let more = r.few in
    let table = plain_table m.io in
    let ir = lowered p table in
    let f = follows p m.io h.valid h.groups in
    let operations =
    reaches_on e table stand (is_paid p m.io ir inputs) (source p table inputs) (meaning ir inputs) (on_ports p table inputs)
    (f.reaches inputs give) in
    let source_seen = reaches_as_seen Event Access ℤ Undefined Undefined (accesses p (place_of l)) (is_paid p m.io ir inputs)
    (source p table inputs) (meaning_on e ir inputs) operations in
    let reached : Reaches (is_within_work p m.io inputs) (seen_source p m.io l inputs) (noted_run e inputs r.shows.main) =
    reaches_through Access ℤ Undefined Undefined MachineFault (is_paid p m.io ir inputs) (within_steps ir inputs)
    (is_within_work p m.io inputs)
    (paid_twice p m inputs) (seen_source p m.io l inputs) (λ n. seen_as (accesses p (place_of l)) (meaning_on e ir inputs n))
    (noted_run e inputs r.shows.main) source_seen r.shows.reaches in
    record {
      steps = b.steps + r.shows.steps;
      few = omega (arith, few, more);
      before = b.trace ++ r.shows.before;
      trace = b.trace ++ r.shows.trace;
      main = r.shows.main;
      ran = b.ran r.shows.steps ∙ ap (preceded_by b.trace) r.shows.ran ∙ before_running b.trace r.shows.trace r.shows.main;
      on = λ k.
          let sum : b.steps + r.shows.steps + k ≡ b.steps + (r.shows.steps + k) = omega arith in
          ap (λ n. machine n inputs s) sum ∙ b.ran (r.shows.steps + k) ∙ ap (preceded_by b.trace) (r.shows.on k)
          ∙ preceded_twice b.trace r.shows.trace (machine k inputs r.shows.main);
      stacked = stacked_behind inside e (data_size m.core) from_reset.word r.shows.steps s inputs fit b r.shows.started;
      calls = ap (λ z. b.trace ++ z) r.shows.calls ∙ sym (append_assoc b.trace r.shows.before (Stack ∷ []));
      copies = silent_first b.trace r.shows.before b.silent ∙ r.shows.copies;
      reaches = reached;
      view = r.shows.view;
      shown = subst (λ n. Shows e n r.shows.main.core r.shows.main.mem r.shows.view) b.shows.sized r.shows.shown;
      given = r.shows.given;
      initials = r.shows.initials;
      safe =
          λ k. holds_within (source p table inputs k) (meaning_on e ir inputs k) (is_safe (run e k (AtWord r.shows.main.pc r.shows.view)))
          (within_on e table stand (source p table inputs k) (meaning ir inputs k) (on_ports p table inputs k) (f.within inputs give k))
          (r.shows.safe k);
      within = stays_within is_run e inputs r.shows.main (is_within_work p m.io inputs) (seen_source p m.io l inputs) reached;
    }

pub record SourceLaws : Type 0 where
  pub images : ImagesRun
  pub follows : LoweredFollows
  pub machine_run : MachineIsRun
  pub on_ports : SourcesAccessPorts
  pub port_bytes : PortBytesPass
  pub stack : StackStaysInside
  pub guard : GuardLaws

pub images_run_as_sources : SourceLaws → ImagesRunAsSources
images_run_as_sources laws p m asm l s inputs h reset give =
    runs_as_source laws.follows laws.machine_run laws.on_ports laws.stack p m asm l (placed p m asm l) s inputs h give
    (laws.guard.fit p m asm l h.located h.bytes)
    (λ a is. (are_kinds laws.guard p m asm l h).ports a (ports_of_map laws.port_bytes m h.map a is))
    (laws.images p m asm l s inputs h reset give)
