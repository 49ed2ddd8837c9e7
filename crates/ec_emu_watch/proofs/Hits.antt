-- Stops of a run are its hits.
use Rattle.std.proofs.Common.{◌≡◌, ◌⊎◌, inl, inr, ℕ, length, Bool, true, false, ◌&&◌, List, Option, Some, None, ℤ, refl}
use Rattle.std.proofs.Common.{sym, ap, ◌∙◌, subst, pos, arith}
use Rattle.std.specs.Prelude.{IsTrue, unwrap_or, ◌<◌}
use Rattle.std.proofs.lemmas.Bool.{and_parts}
use Rattle.ec_avr.specs.declared.machine.Access.{Access}
use Rattle.ec_avr.specs.declared.machine.Access.TheVariants.{Silent, In, Out, Read, Write, Stack}
use Rattle.ec_avr.specs.State.{State}
use Rattle.ec_emu.specs.declared.ask.Ask.{Ask}
use Rattle.ec_emu.specs.declared.run.EmuEnd.{EmuEnd}
use Rattle.ec_emu.specs.declared.run.EmuEnd.TheVariants.{Ended as EmuEnded, StepsOut as EmuStepsOut, Fault as EmuFault}
use Rattle.ec_emu.specs.declared.run.EmuEnd.TheVariants.{WriteFault as EmuWriteFault}
use Rattle.ec_emu.specs.declared.run.EmuReport.{EmuReport}
use Rattle.ec_emu.specs.declared.run.UntilReport.{UntilReport}
use Rattle.ec_emu.specs.Emulation.{IsRun, EndsBy, IsPrinted, CutsLast}
use Rattle.ec_emu.specs.Lines.{port_line}
use Rattle.ec_emu.specs.Stops.{IsStop, HasNoStop, EndsAtStop, NotStopped, IsRunUntil}
use Rattle.ec_emu.proofs.Stops.{IsLast, IsEarlier, split}
use Rattle.ec_emu_watch.specs.declared.point.WatchPoint.{WatchPoint}
use Rattle.ec_emu_watch.specs.declared.run.WatchEnd.{WatchEnd}
use Rattle.ec_emu_watch.specs.declared.run.WatchReport.{WatchReport}
use Rattle.ec_emu_watch.specs.Hits.{holds_of, is_hit, IsHit, HasNoHit, EndsAtHit, emulated, emulation, IsWatchedBy, IsWatched, end_by}
use Rattle.ec_emu_watch.specs.Points.{value_at, writes_last}

-- how a run ended comes back
emulated_end : (value : ℤ) (end : EmuEnd) → emulated (end_by false value end) ≡ end
emulated_end value (EmuEnded result) = refl
emulated_end value EmuStepsOut = refl
emulated_end value (EmuFault kind pc) = refl
emulated_end value EmuWriteFault = refl

emulated_by : (stopped : Bool) (value : ℤ) (end : EmuEnd) → (stopped ≡ true → end ≡ EmuStepsOut)
    → emulated (end_by stopped value end) ≡ end
emulated_by true value end h = sym (h refl)
emulated_by false value end h = emulated_end value end

-- what is told where a number is there
pub hit_is : (holds : ℤ → Bool) (written : Bool) (found : Option ℤ) (value : ℤ) → written ≡ true → found ≡ Some value
    → (written && holds_of holds found) ≡ holds value
hit_is holds written found value w f = ap (λ (x : Bool). x && holds_of holds found) w ∙ ap (holds_of holds) f

module _ (point : WatchPoint) (holds : ℤ → Bool) (old : State) where
  stops_at : (before : List Access) (a : Access) (t : State) (value : ℤ) → IsHit point holds old before a t value
      → IsStop (is_hit point holds) old before a t
  stops_at before a t value h = record { begun = h.begun; leads = h.leads; found = both (writes_last point a) _ h.writes held }
    where
      both : (x y : Bool) → x ≡ true → y ≡ true → (x && y) ≡ true
      both true true f g = refl
      both true false f g = cc
      both false y f g = cc

      held : holds_of holds (value_at point t.mem) ≡ true
      held = ap (holds_of holds) h.held ∙ h.rule

  -- where a value is found of which the rule holds, it is the one that is there
  held_value : (found : Option ℤ) → IsTrue (holds_of holds found)
      → (found ≡ Some (unwrap_or found (pos 0))) × IsTrue (holds (unwrap_or found (pos 0)))
  held_value None h = cc
  held_value (Some value) h = (refl, h)

  hits_at : (before : List Access) (a : Access) (t : State) → IsStop (is_hit point holds) old before a t
      → IsHit point holds old before a t (unwrap_or (value_at point t.mem) (pos 0))
  hits_at before a t h =
      let p = and_parts (writes_last point a) (holds_of holds (value_at point t.mem)) h.found in
      let v = held_value (value_at point t.mem) p.1 in
      record { begun = h.begun; leads = h.leads; writes = p.0; held = v.0; rule = v.1 }

  no_hit : (trace : List Access) → HasNoStop (is_hit point holds) old trace → HasNoHit point holds old trace
  no_hit trace none before more a t value e h = none before more a t e (stops_at before a t value h)

  ends_at_hit : (trace : List Access) (new : State) → EndsAtStop (is_hit point holds) old trace new
      → EndsAtHit point holds old trace new (unwrap_or (value_at point new.mem) (pos 0))
  ends_at_hit trace new h = record {
    before = h.before;
    last = h.last;
    is = h.is;
    hit = hits_at h.before h.last new h.stop;
    first = no_hit h.before h.first;
  }

  -- an access whose line has bytes writes no memory
  no_write : (a : Access) (n : ℕ) → n < length (port_line a) → IsTrue (writes_last point a) → ⊥
  no_write Silent n below h = cc
  no_write (In port byte) n below h = cc
  no_write (Out port byte) n below h = cc
  no_write (Read bank at byte) n below h = cc
  no_write (Write at byte) n below h = absurd (omega arith)
  no_write Stack n below h = cc

  -- where a line was not written whole, its step is no hit
  none_with_last : (first now : Option (List ℕ)) (trace : List Access) → CutsLast first now trace
      → NotStopped (is_hit point holds) EmuWriteFault old trace → HasNoHit point holds old trace
  none_with_last first now trace cut none before more a t value e h = by_place (split cut.0 cut.1.0 before a more (sym cut.1.1.0 ∙ e))
    where
      by_place : IsLast cut.0 cut.1.0 before a ⊎ IsEarlier cut.0 cut.1.0 before a more → ⊥
      by_place (inl last) =
          no_write cut.1.0 cut.1.1.1.0 cut.1.1.1.1.0 (subst (λ (x : Access). IsTrue (writes_last point x)) last.item h.writes)
      by_place (inr earlier) = no_hit cut.0 (none cut.0 cut.1.0 cut.1.1.0) before earlier.0 a t value earlier.1 h

  no_hits : (first now : Option (List ℕ)) (trace : List Access) (end : EmuEnd) → IsPrinted first now end trace
      → NotStopped (is_hit point holds) end old trace → HasNoHit point holds old trace
  no_hits first now trace (EmuEnded result) printed none = no_hit trace none
  no_hits first now trace EmuStepsOut printed none = no_hit trace none
  no_hits first now trace (EmuFault kind pc) printed none = no_hit trace none
  no_hits first now trace EmuWriteFault printed none = none_with_last first now trace printed none

  -- ---- reports

  module _ (gives : Ask → ℕ → Type 0) (steps : ℕ) (new : State) (run : UntilReport) (trace : List Access) where
    stops_out : (stopped : Bool) → IsRunUntil (is_hit point holds) gives steps old new run trace stopped → stopped ≡ true
        → run.report.end ≡ EmuStepsOut
    stops_out true h e = h.0
    stops_out false h e = cc

    abbrev end_at : Bool → WatchEnd
    end_at stopped = end_by stopped (unwrap_or (value_at point new.mem) (pos 0)) run.report.end

    by_end : (report : EmuReport) (end : EmuEnd) → IsRun gives steps old new report trace → HasNoHit point holds old trace
        → IsWatchedBy point holds gives steps old new report trace (end_by false (unwrap_or (value_at point new.mem) (pos 0)) end)
    by_end report (EmuEnded result) is none = (is, none)
    by_end report EmuStepsOut is none = (is, none)
    by_end report (EmuFault kind pc) is none = (is, none)
    by_end report EmuWriteFault is none = (is, none)

    watched_by : (report : EmuReport)
        → ((k : ℕ) → IsRun gives k old new run.report trace → IsRun gives k old new report trace) → (first now : Option (List ℕ))
        → IsPrinted first now run.report.end trace → (stopped : Bool)
        → IsRunUntil (is_hit point holds) gives steps old new run trace stopped
        → IsWatchedBy point holds gives steps old new report trace (end_at stopped)
    watched_by report same first now printed true h = (same (length trace) h.1, ends_at_hit trace new h.2)
    watched_by report same first now printed false h =
        by_end report run.report.end (same steps h.0) (no_hits first now trace run.report.end printed h.1)

    -- what is reported is what the run reports
    as_reported : (result : WatchReport) → emulated result.end ≡ run.report.end → result.reads ≡ run.report.reads
        → result.writes ≡ run.report.writes → (k : ℕ) → IsRun gives k old new run.report trace
        → IsRun gives k old new (emulation result) trace
    as_reported result e r w k h = record {
      within = h.within;
      given = h.given;
      made = h.made;
      ended = subst (λ (x : EmuEnd). EndsBy k old x trace) (sym e) h.ended;
      reads = r ∙ h.reads;
      writes = w ∙ h.writes;
    }

    -- the end that is told is that of the run
    pub ended_as : (told : WatchEnd) → IsRunUntil (is_hit point holds) gives steps old new run trace run.stopped
        → told ≡ end_at run.stopped → emulated told ≡ run.report.end
    ended_as told h e =
        ap emulated e ∙ emulated_by run.stopped (unwrap_or (value_at point new.mem) (pos 0)) run.report.end (stops_out run.stopped h)

    pub watched : (first now : Option (List ℕ)) → IsPrinted first now run.report.end trace
        → IsRunUntil (is_hit point holds) gives steps old new run trace run.stopped → (result : WatchReport)
        → result.end ≡ end_at run.stopped → result.reads ≡ run.report.reads → result.writes ≡ run.report.writes
        → IsWatched point holds gives steps old new result trace × (emulated result.end ≡ run.report.end)
    watched first now printed h result e r w =
        let end = ended_as result.end h e in (
          subst (λ (x : WatchEnd). IsWatchedBy point holds gives steps old new (emulation result) trace x) (sym e)
              (watched_by (emulation result) (as_reported result end r w) first now printed run.stopped h),
          end,
        )
