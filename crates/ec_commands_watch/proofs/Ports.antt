-- The port accesses of a watched run are those of its source.
use Rattle.std.proofs.Common.{◌≡◌, ◌∙◌, ◌⊎◌, inl, inr, ℕ, ℤ, Bool, List, [], ◌∷◌, ◌++◌, length, append-nil, refl, sym, ap, subst}
use Rattle.ec_runs.specs.Behaviours.{Behaviour, Running as GoesOn, Ended as Ends, Failed, BeginWith}
use Rattle.ec_avr.specs.declared.machine.Access.{Access}
use Rattle.ec_avr.specs.declared.machine.Access.TheVariants.{Silent, In as PortIn, Out as PortOut, Read as ByteRead}
use Rattle.ec_avr.specs.declared.machine.Access.TheVariants.{Write as ByteWrite, Stack}
use Rattle.ec_avr.specs.Machine.{State, Inputs, Running, machine, IsReset}
use Rattle.ec_avr.specs.Runs.{answers, and_then}
use Rattle.ec_asm.specs.declared.items.AsmProgram.{AsmProgram}
use Rattle.ec_core.specs.Meaning.{source, Defined}
use Rattle.ec_core.specs.Plain.{PlainProgram, plain_program}
use Rattle.ec_core.specs.PortTable.{plain_table}
use Rattle.ec_core.specs.State.{Event, In, Out, Read, Write}
use Rattle.ec_core.specs.declared.values.Undefined.{Undefined}
use Rattle.ec_emu.specs.declared.run.EmuReport.{EmuReport}
use Rattle.ec_emu_watch.specs.declared.point.WatchPoint.{WatchPoint}
use Rattle.ec_emu_watch.specs.declared.run.WatchEnd.{WatchEnd}
use Rattle.ec_emu_watch.specs.declared.run.WatchEnd.TheVariants.{Hit, Ended, StepsOut, Fault, WriteFault}
use Rattle.ec_emu_watch.specs.declared.run.WatchReport.{WatchReport}
use Rattle.ec_emu_watch.specs.Hits.{emulation, IsWatchedBy, IsWatched}
use Rattle.ec_map.specs.declared.map.Map.{Map}
use Rattle.ec_locate.specs.declared.placing.Located.{Located}
use Rattle.ec_select_functions.specs.Relation.{accesses}
use Rattle.ec_build_laws.specs.Kinds.{place_of}
use Rattle.ec_build_laws.specs.Shown.{ports_of, IsWithinSource, ShowsFirst}
use Rattle.ec_build_laws.specs.Whole.{ShowsWhole, kept}
use Rattle.ec_build.specs.Builds.{IsImageOf}
use Rattle.ec_build.specs.declared.building.Built.{Built}
use Rattle.ec_watch.specs.Watches.{KeepsSource}
use Rattle.ec_watch_laws.specs.Watched.{after_startup, plain_trace, events_in, IsWatchedWrite, KeepsWatched}
use Rattle.ec_commands.specs.Runs.{Gives}
use Rattle.ec_commands_compile.specs.Kept.{port_events}
use Rattle.ec_commands_compile.proofs.Keeping.{ports_append, ports_kept, ports_events}
use Rattle.ec_commands_watch.specs.Kept.{KeepsPorts, KeepsSourceOf}

-- ---- the startup has no port access

quiet_front : (xs ys : List Access) → ports_of xs ≡ [] → ports_of (xs ++ ys) ≡ ports_of ys
quiet_front xs ys quiet = ports_append xs ys ∙ ap (λ (z : List Access). z ++ ports_of ys) quiet

-- nothing is lost behind it
behind_startup : (before after : List Access) → ports_of before ≡ []
    → ports_of (after_startup ((before ++ Stack ∷ []) ++ after)) ≡ ports_of after
behind_startup [] after quiet = refl
behind_startup (Silent ∷ before) after quiet = behind_startup before after quiet
behind_startup (PortIn port byte ∷ before) after quiet = cc
behind_startup (PortOut port byte ∷ before) after quiet = cc
behind_startup (ByteRead bank at byte ∷ before) after quiet = behind_startup before after quiet
behind_startup (ByteWrite at byte ∷ before) after quiet = behind_startup before after quiet
behind_startup (Stack ∷ before) after quiet =
    quiet_front (before ++ Stack ∷ []) after (ports_append before (Stack ∷ []) ∙ append-nil (ports_of before) ∙ quiet)

-- nor within it
within_startup : (trace : List Access) → ports_of trace ≡ [] → ports_of (after_startup trace) ≡ []
within_startup [] quiet = refl
within_startup (Silent ∷ trace) quiet = within_startup trace quiet
within_startup (PortIn port byte ∷ trace) quiet = cc
within_startup (PortOut port byte ∷ trace) quiet = cc
within_startup (ByteRead bank at byte ∷ trace) quiet = within_startup trace quiet
within_startup (ByteWrite at byte ∷ trace) quiet = within_startup trace quiet
within_startup (Stack ∷ trace) quiet = quiet

front_of_none : (xs ys : List Access) → xs ++ ys ≡ [] → xs ≡ []
front_of_none [] ys e = refl
front_of_none (x ∷ xs) ys e = cc

-- ---- what is left of a run has its port accesses

module _ (p : PlainProgram) (m : Map) (l : Located) (s : State) (inputs : Inputs) (shows : ShowsWhole p m l s inputs) where
  left_ports : (es : List Event) (trace : List Access)
      → BeginWith trace shows.start ⊎ ShowsFirst p l (kept p m l) shows.start es trace
      → ports_of (plain_trace p m l trace) ≡ ports_of trace
  left_ports es trace (inl h) =
      let quiet : ports_of trace ≡ [] =
      front_of_none (ports_of trace) (ports_of h.added) (sym (ports_append trace h.added) ∙ sym (ap ports_of h.is) ∙ shows.quiet) in
      ports_kept p m l (after_startup trace) ∙ within_startup trace quiet ∙ sym quiet
  left_ports es trace (inr h) =
      let before : ports_of shows.before ≡ [] =
      sym (append-nil (ports_of shows.before)) ∙ sym (ports_append shows.before (Stack ∷ [])) ∙ sym (ap ports_of shows.calls) ∙ shows.quiet in
      ports_kept p m l (after_startup trace)
      ∙ ap (λ (z : List Access). ports_of (after_startup z)) (h.is ∙ ap (λ (z : List Access). z ++ h.after) shows.calls)
      ∙ behind_startup shows.before h.after before ∙ sym (quiet_front shows.start h.after shows.quiet) ∙ sym (ap ports_of h.is)

  by_source : (b : Behaviour Event ℤ Undefined) (trace : List Access) (t : State) → ((point : Undefined) → b ≡ Failed point → ⊥)
      → IsWithinSource p l (kept p m l) s inputs shows.start b (Running trace t)
      → ports_of (plain_trace p m l trace) ≡ ports_of trace
  by_source (GoesOn es) trace t defined h = left_ports es trace h
  by_source (Ends es result) trace t defined h = left_ports es trace h
  by_source (Failed point) trace t defined h = absurd (defined point refl)

  pub run_ports : (trace : List Access) (t : State) → Defined p (plain_table m.io) inputs
      → machine (length trace) inputs s ≡ Running trace t → ports_of (plain_trace p m l trace) ≡ ports_of trace
  run_ports trace t defined made =
      by_source (source p (plain_table m.io) inputs (length trace)) trace t (λ point. defined (length trace) point)
      (subst (λ r. IsWithinSource p l (kept p m l) s inputs shows.start (source p (plain_table m.io) inputs (length trace)) r) made
      (shows.within (length trace)))

-- ---- port accesses of events

port_events-append : (es fs : List Event) → port_events (es ++ fs) ≡ port_events es ++ port_events fs
port_events-append [] fs = refl
port_events-append (In port byte ∷ es) fs = ap (λ (z : List Access). PortIn port byte ∷ z) (port_events-append es fs)
port_events-append (Out port byte ∷ es) fs = ap (λ (z : List Access). PortOut port byte ∷ z) (port_events-append es fs)
port_events-append (Read object leaf space told ∷ es) fs = port_events-append es fs
port_events-append (Write object leaf space told ∷ es) fs = port_events-append es fs

no_port : (o k : ℕ) (holds : ℤ → Bool) (e : Event) (value : ℤ) → IsWatchedWrite o k holds e value → port_events (e ∷ []) ≡ []
no_port o k holds (In port byte) value h = absurd h
no_port o k holds (Out port byte) value h = absurd h
no_port o k holds (Read object leaf space told) value h = absurd h
no_port o k holds (Write object leaf space told) value h = refl

-- ---- by how a run ended

module _ (p : PlainProgram) (m : Map) (l : Located) (inputs : Inputs) (point : WatchPoint) (holds : ℤ → Bool) (steps : ℕ)
    (trace : List Access) (same : ports_of (plain_trace p m l trace) ≡ ports_of trace) where
  first_ports : (es : List Event) → BeginWith (plain_trace p m l trace) (accesses p (place_of l) es)
      → BeginWith (ports_of trace) (port_events es)
  first_ports es h = record {
    added = ports_of h.added;
    is = sym (ports_events p (place_of l) es) ∙ ap ports_of h.is ∙ ports_append (plain_trace p m l trace) h.added
        ∙ ap (λ (z : List Access). z ++ ports_of h.added) same;
  }

  all_ports : (es : List Event) → plain_trace p m l trace ≡ accesses p (place_of l) es → ports_of trace ≡ port_events es
  all_ports es h = sym same ∙ ap ports_of h ∙ ports_events p (place_of l) es

  pub keeps_ports : (end : WatchEnd) (h : KeepsWatched p m l inputs point holds steps trace end)
      → KeepsPorts p m l inputs point holds steps trace end h
  keeps_ports (Hit value) h =
      all_ports (h.first.before ++ h.first.write ∷ []) h.shown ∙ port_events-append h.first.before (h.first.write ∷ [])
      ∙ ap (λ (z : List Access). port_events h.first.before ++ z)
      (no_port point.object point.leaf holds h.first.write value h.first.is)
      ∙ append-nil (port_events h.first.before)
  keeps_ports (Ended result) h = all_ports h.es h.shown
  keeps_ports StepsOut h = first_ports (events_in (source p (plain_table m.io) inputs steps)) h.shown
  keeps_ports (Fault kind pc) h = h
  keeps_ports WriteFault h = first_ports (events_in (source p (plain_table m.io) inputs (length trace))) h

-- ---- the run

module _ (point : WatchPoint) (holds : ℤ → Bool) (gives : Gives) (steps : ℕ) (s after : State) (trace : List Access) where
  made_by : (report : EmuReport) (end : WatchEnd) → IsWatchedBy point holds gives steps s after report trace end → (more : Inputs)
      → machine (length trace) (and_then (answers trace) more) s ≡ Running trace after
  made_by report (Hit value) w = w.0.made
  made_by report (Ended result) w = w.0.made
  made_by report StepsOut w = w.0.made
  made_by report (Fault kind pc) w = w.0.made
  made_by report WriteFault w = w.0.made

  pub keeps_source : (b : Built) (asm : AsmProgram) (report : WatchReport) → IsImageOf (plain_program b.program) b.map asm b.located
      → IsReset b.located.image.core b.located.image.bytes.items s → IsWatched point holds gives steps s after report trace
      → KeepsSource b point holds steps trace report.end → KeepsSourceOf b point holds steps trace report.end
  keeps_source b asm report image reset w keeps more bytes defined =
      let p = plain_program b.program in
      let inputs = and_then (answers trace) more in
      let h = keeps more bytes defined in
      let same = run_ports p b.map b.located s inputs (image.shows s inputs reset bytes) trace after defined
      (made_by (emulation report) report.end w more) in
      (h, keeps_ports p b.map b.located inputs point holds steps trace same report.end h)
