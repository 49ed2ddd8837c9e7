use Rattle.std.proofs.Common.{◌≡◌, Bool, ◌&&◌, ◌||◌, refl, ◌+◌, ◌-◌, ◌<◌, ◌∙◌, ◌∷◌, ◌++◌, [], ℕ, length, sym, ap, arith}
use Rattle.std.proofs.Common.{rules, subst, length-append}
use Rattle.std.proofs.lemmas.Int.{to_z-of_z}
use Rattle.std.specs.Int.{w16}
use Rattle.std.specs.Prelude.{ℤ}
use mir.Val.{SFits}
use Rattle.ec_avr.specs.Machine.{State, Running, EndedWith, read_access}
use Rattle.ec_emu.specs.declared.ask.Ask.{Ask}
use Rattle.ec_emu.specs.declared.run.EmuEnd.{EmuEnd}
use Rattle.ec_emu.specs.Answers.{AreGiven}
use Rattle.ec_emu.specs.Emulation.{EndsBy, IsPrinted, SinkCalm}
use Rattle.ec_emu.specs.Lines.{port_lines}
use Rattle.ec_emu.specs.History.{IsHistory}
use Rattle.ec_emu.specs.Stops.{is_stack, NotStopped}
use Rattle.ec_avr.proofs.Runs.{leads_to_where_it_stands, leads_nowhere}
use Rattle.ec_io.proofs.Sinks.{appends_none}
use Rattle.ec_emu.proofs.Asks.{asked_nothing}
use Rattle.ec_emu.proofs.Reports.{printed_on, cut_on, calm_end, room_on, fits_front, fits_last}
use Rattle.ec_emu.proofs.Stepping.{IsStep, leads_next, given_next, ended_next, faulted_next, asked_next, asked_last}
use Rattle.ec_emu.proofs.Stops.{has_stack-push, none_before, none_on, ends_at, all_but_last, run_on, run_whole, run_until}
use Rattle.ec_emu.proofs.run.emulate_until.Goals as goal

given_nothing : (gives : Ask → ℕ → Type 0) → AreGiven gives []
given_nothing gives n port byte e = cc

room_before : (room : ℕ) → room ≡ room - length (port_lines [])
room_before room = omega arith

pub steps-init : goal.steps-init
steps-init g c = record {
  trace = [];
  made = refl;
  goes = leads_nowhere c.args.machine.now;
  given = given_nothing (g.P.Ports.gives c.args.ports.now);
  begun = refl;
  none = none_before (g.S.Stop.stops c.args.stop.now) c.args.machine.now;
  history = c.new-history.ensures;
  asked = asked_nothing (g.P.Ports.asked c.args.ports.now);
  written = appends_none _ _ [] refl refl;
  calm = λ room calm fits. (refl, subst (λ left. g.O.Sink.calm c.args.sink.now left) (room_before room) calm);
  later = omega arith;
  rest = refl;
  can = c.requires.asked;
  stays = λ ask byte. ((λ h. h), (λ h. h));
  passed_on = λ ask byte. ((λ h. h), (λ h. h));
  held = refl;
}

pub steps-preserved : goal.steps-preserved
steps-preserved g c =
    let i = c.steps.invariant in
    let m = c.make_step.ensures.steps in
    let s : IsStep (g.P.Ports.gives c.steps.ports) (g.P.Ports.asked c.steps.ports)
    (g.P.Ports.asked c.make_step.new.ports) c.steps.history c.steps.machine c.make_step.new.machine c.make_step.result m.0 =
    record { is = m.1.0; state = m.1.1.0; answered = m.1.1.1 } in
    let a = c.in-Ran.access in
    let goes = leads_next (g.P.Ports.gives c.steps.ports) (g.P.Ports.asked c.steps.ports) (g.P.Ports.asked c.make_step.new.ports)
    c.steps.history c.steps.machine c.make_step.new.machine c.make_step.result m.0 s c.args.machine.now i.trace a c.in-Ran.is i.goes in
    record {
      trace = i.trace ++ a ∷ [];
      made = length-append i.trace (a ∷ []) ∙ ap (λ (n : ℕ). n + 1) i.made;
      goes = goes;
      begun = c.is_begun-begun.ensures ∙ ap (λ (b : Bool). b || is_stack a) i.begun ∙ sym (has_stack-push i.trace a);
      none = none_on (g.S.Stop.stops c.args.stop.now) c.args.machine.now i.trace a c.make_step.new.machine i.none goes
          (ap (λ (b : Bool). b && g.S.Stop.stops c.args.stop.now a c.make_step.new.machine) (sym i.begun)
          ∙ sym c.is_over.ensures ∙ c.if-is_over.false);
      given = given_next (g.P.Ports.gives c.steps.ports) (g.P.Ports.asked c.steps.ports)
          (g.P.Ports.asked c.make_step.new.ports) c.steps.history c.steps.machine c.make_step.new.machine c.make_step.result m.0 s
          (g.P.Ports.gives c.args.ports.now) i.trace a c.in-Ran.is i.history
          (λ ask b h. (i.stays ask b).0 h) i.given;
      history = c.note.ensures i.trace i.history (omega (arith, i.made, c.steps-test.true, c.ranges.steps.fits));
      asked = asked_next (g.P.Ports.gives c.steps.ports) (g.P.Ports.asked c.steps.ports)
          (g.P.Ports.asked c.make_step.new.ports) c.steps.history c.steps.machine c.make_step.new.machine c.make_step.result m.0 s
          (g.P.Ports.asked c.args.ports.now) i.trace a c.in-Ran.is i.history i.asked;
      written = printed_on _ _ _ i.trace a i.written c.in-Ok.ensures.written;
      calm = λ room calm fits.
          let before = i.calm room calm (fits_front i.trace a room fits) in
          let after = c.in-Ok.ensures.calm (room - length (port_lines i.trace)) before.1 (fits_last i.trace a room fits) in
          (after.0.same ∙ before.0, subst (λ left. g.O.Sink.calm c.print.new.sink left) (room_on i.trace a room) after.1);
      later = omega (arith, i.later, c.in-Ok.ensures.cause.later);
      rest = c.print.ensures.rest ∙ i.rest;
      can = c.make_step.ensures.can;
      stays = λ ask b. (
        (λ h. (i.stays ask b).0 ((c.make_step.ensures.stays ask b).0 h)),
        (λ h. (c.make_step.ensures.stays ask b).1 ((i.stays ask b).1 h)),
      );
      passed_on = λ ask b. (
        (λ h. (i.passed_on ask b).0 ((c.make_step.ensures.passed_on ask b).0 h)),
        (λ h. (c.make_step.ensures.passed_on ask b).1 ((i.passed_on ask b).1 h)),
      );
      held = c.make_step.ensures.held ∙ i.held;
    }

pub returns-in-Err-clause-run : goal.returns-in-Err-clause-run
returns-in-Err-clause-run g c =
    let i = c.steps.invariant in
    let m = c.make_step.ensures.steps in
    let s : IsStep (g.P.Ports.gives c.steps.ports) (g.P.Ports.asked c.steps.ports)
    (g.P.Ports.asked c.make_step.new.ports) c.steps.history c.steps.machine c.make_step.new.machine c.make_step.result m.0 =
    record { is = m.1.0; state = m.1.1.0; answered = m.1.1.1 } in
    let a = c.in-Ran.access in
    let trace = i.trace ++ a ∷ [] in
    let history : IsHistory trace c.note.new.self =
    c.note.ensures i.trace i.history (omega (arith, i.made, c.steps-test.true, c.ranges.steps.fits)) in
    let long : length trace ≡ length i.trace + 1 = length-append i.trace (a ∷ []) in (
      trace,
      (
        run_on (g.S.Stop.stops c.args.stop.now) c.args.machine.now (g.P.Ports.gives c.args.ports.now) c.args.steps
            c.make_step.new.machine c.went_on.result trace c.went_on.ensures.on
            (record {
              within = omega (arith, long, i.made, c.steps-test.true);
              given = given_next (g.P.Ports.gives c.steps.ports) (g.P.Ports.asked c.steps.ports)
                  (g.P.Ports.asked c.make_step.new.ports) c.steps.history c.steps.machine c.make_step.new.machine c.make_step.result m.0 s
                  (g.P.Ports.gives c.args.ports.now) i.trace a c.in-Ran.is i.history
                  (λ ask b h. (i.stays ask b).0 h) i.given;
              made = leads_to_where_it_stands c.args.machine.now c.make_step.new.machine trace (leads_next (g.P.Ports.gives c.steps.ports)
                  (g.P.Ports.asked c.steps.ports) (g.P.Ports.asked c.make_step.new.ports) c.steps.history c.steps.machine
                  c.make_step.new.machine c.make_step.result m.0 s c.args.machine.now i.trace a c.in-Ran.is i.goes);
              ended =
                  subst (λ (end : EmuEnd). EndsBy c.args.steps c.args.machine.now end trace) (sym c.went_on.ensures.end) (omega
                  (arith, long));
              reads = c.went_on.ensures.reads ∙ history.all_reads;
              writes = c.went_on.ensures.writes ∙ history.all_writes;
            })
            (subst (λ (end : EmuEnd). NotStopped (g.S.Stop.stops c.args.stop.now) end c.args.machine.now trace)
            (sym c.went_on.ensures.end) (all_but_last (g.S.Stop.stops c.args.stop.now) c.args.machine.now i.trace a i.none)),
        (
          omega (arith, long, i.made, c.steps-test.true),
          (
            subst (λ (end : EmuEnd). IsPrinted (g.O.Sink.written c.args.sink.now) (g.O.Sink.written c.print.new.sink) end trace)
                (sym c.went_on.ensures.end)
                (cut_on _ _ _ i.trace a c.in-Err.field-0.0 i.written c.in-Err.ensures.written.0 c.in-Err.ensures.written.1),
            (
              (λ room calm fits.
                  let before = i.calm room calm (fits_front i.trace a room fits) in
                  let after = c.in-Err.ensures.calm (room - length (port_lines i.trace)) before.1 (fits_last i.trace a room fits) in
                  cc after.0.ok),
              asked_next (g.P.Ports.gives c.steps.ports) (g.P.Ports.asked c.steps.ports)
                  (g.P.Ports.asked c.make_step.new.ports) c.steps.history c.steps.machine c.make_step.new.machine c.make_step.result m.0 s
                  (g.P.Ports.asked c.args.ports.now) i.trace a c.in-Ran.is i.history i.asked,
            ),
          ),
        ),
      ),
    )

pub returns-in-Ended-clause-run : goal.returns-in-Ended-clause-run
returns-in-Ended-clause-run g c =
    let fits : SFits w16 c.result.result = search rules in
    let i = c.steps.invariant in
    let m = c.make_step.ensures.steps in
    let s : IsStep (g.P.Ports.gives c.steps.ports) (g.P.Ports.asked c.steps.ports)
    (g.P.Ports.asked c.make_step.new.ports) c.steps.history c.steps.machine c.make_step.new.machine c.make_step.result m.0 =
    record { is = m.1.0; state = m.1.1.0; answered = m.1.1.1 } in
    let below : length i.trace < c.args.steps = omega (arith, i.made, c.steps-test.true) in (
      i.trace,
      (
        run_whole (g.S.Stop.stops c.args.stop.now) c.args.machine.now (g.P.Ports.gives c.args.ports.now) c.args.steps
            c.make_step.new.machine c.went_on-in-Ended.result i.trace _ c.went_on-in-Ended.ensures.on c.went_on-in-Ended.ensures.end tt
            (record {
              within = omega (arith, below);
              given = i.given;
              made = λ more. leads_to_where_it_stands c.args.machine.now c.steps.machine i.trace i.goes more
                  ∙ ap (λ (s : State). Running i.trace s) (sym c.in-Ended.ensures.unless_ran);
              ended = subst (λ (end : EmuEnd). EndsBy c.args.steps c.args.machine.now end i.trace) (sym c.went_on-in-Ended.ensures.end)
                  (λ more.
                  ended_next (g.P.Ports.gives c.steps.ports) (g.P.Ports.asked c.steps.ports)
                  (g.P.Ports.asked c.make_step.new.ports) c.steps.history c.steps.machine c.make_step.new.machine c.make_step.result m.0 s
                  c.args.machine.now i.trace c.args.steps c.in-Ended.is i.goes below more
                  ∙ ap (λ (z : ℤ). EndedWith i.trace z) (sym c.result.ensures ∙ sym (to_z-of_z w16 c.result.result fits)));
              reads = c.went_on-in-Ended.ensures.reads ∙ i.history.all_reads;
              writes = c.went_on-in-Ended.ensures.writes ∙ i.history.all_writes;
            }) i.none,
        (
          omega (arith, below),
          (
            subst (λ (end : EmuEnd). IsPrinted (g.O.Sink.written c.args.sink.now) (g.O.Sink.written c.steps.sink) end i.trace)
                (sym c.went_on-in-Ended.ensures.end) i.written,
            (
              (λ room calm fits.
                  subst (λ (end : EmuEnd). SinkCalm (g.O.Sink.faults c.args.sink.now) (g.O.Sink.faults c.steps.sink)
                  (g.O.Sink.calm c.steps.sink) room end i.trace) (sym c.went_on-in-Ended.ensures.end)
                  (calm_end _ _ _ room _ i.trace tt (i.calm room calm fits))),
              asked_last (g.P.Ports.gives c.steps.ports) (g.P.Ports.asked c.steps.ports)
                  (g.P.Ports.asked c.make_step.new.ports) c.steps.history c.steps.machine c.make_step.new.machine c.make_step.result m.0 s
                  (g.P.Ports.asked c.args.ports.now) i.trace (ap read_access c.in-Ended.is) i.asked,
            ),
          ),
        ),
      ),
    )

pub returns-in-Fault-clause-run : goal.returns-in-Fault-clause-run
returns-in-Fault-clause-run g c =
    let i = c.steps.invariant in
    let m = c.make_step.ensures.steps in
    let s : IsStep (g.P.Ports.gives c.steps.ports) (g.P.Ports.asked c.steps.ports)
    (g.P.Ports.asked c.make_step.new.ports) c.steps.history c.steps.machine c.make_step.new.machine c.make_step.result m.0 =
    record { is = m.1.0; state = m.1.1.0; answered = m.1.1.1 } in
    let below : length i.trace < c.args.steps = omega (arith, i.made, c.steps-test.true) in (
      i.trace,
      (
        run_whole (g.S.Stop.stops c.args.stop.now) c.args.machine.now (g.P.Ports.gives c.args.ports.now) c.args.steps
            c.make_step.new.machine c.went_on-in-Fault.result i.trace _ c.went_on-in-Fault.ensures.on c.went_on-in-Fault.ensures.end tt
            (record {
              within = omega (arith, below);
              given = i.given;
              made = λ more. leads_to_where_it_stands c.args.machine.now c.steps.machine i.trace i.goes more
                  ∙ ap (λ (s : State). Running i.trace s) (sym c.in-Fault.ensures.unless_ran.0);
              ended = subst (λ (end : EmuEnd). EndsBy c.args.steps c.args.machine.now end i.trace) (sym c.went_on-in-Fault.ensures.end)
                  (λ more.
                  faulted_next (g.P.Ports.gives c.steps.ports) (g.P.Ports.asked c.steps.ports)
                  (g.P.Ports.asked c.make_step.new.ports) c.steps.history c.steps.machine c.make_step.new.machine c.make_step.result m.0 s
                  c.args.machine.now i.trace c.args.steps c.in-Fault.kind c.in-Fault.pc c.in-Fault.is i.goes below more);
              reads = c.went_on-in-Fault.ensures.reads ∙ i.history.all_reads;
              writes = c.went_on-in-Fault.ensures.writes ∙ i.history.all_writes;
            }) i.none,
        (
          omega (arith, below),
          (
            subst (λ (end : EmuEnd). IsPrinted (g.O.Sink.written c.args.sink.now) (g.O.Sink.written c.steps.sink) end i.trace)
                (sym c.went_on-in-Fault.ensures.end) i.written,
            (
              (λ room calm fits.
                  subst (λ (end : EmuEnd). SinkCalm (g.O.Sink.faults c.args.sink.now) (g.O.Sink.faults c.steps.sink)
                  (g.O.Sink.calm c.steps.sink) room end i.trace) (sym c.went_on-in-Fault.ensures.end)
                  (calm_end _ _ _ room _ i.trace tt (i.calm room calm fits))),
              asked_last (g.P.Ports.gives c.steps.ports) (g.P.Ports.asked c.steps.ports)
                  (g.P.Ports.asked c.make_step.new.ports) c.steps.history c.steps.machine c.make_step.new.machine c.make_step.result m.0 s
                  (g.P.Ports.asked c.args.ports.now) i.trace (ap read_access c.in-Fault.is) i.asked,
            ),
          ),
        ),
      ),
    )

pub returns-clause-run : goal.returns-clause-run
returns-clause-run g c =
    let i = c.steps.invariant in (
      i.trace,
      (
        run_whole (g.S.Stop.stops c.args.stop.now) c.args.machine.now (g.P.Ports.gives c.args.ports.now) c.args.steps
            c.steps.machine c.went_on-2.result i.trace _ c.went_on-2.ensures.on c.went_on-2.ensures.end tt
            (record {
              within = omega (arith, i.made, c.steps.auto._made-end);
              given = i.given;
              made = leads_to_where_it_stands c.args.machine.now c.steps.machine i.trace i.goes;
              ended = subst (λ (end : EmuEnd). EndsBy c.args.steps c.args.machine.now end i.trace) (sym c.went_on-2.ensures.end)
                  (omega (arith, i.made, c.steps.auto._made-end, c.steps-test.false));
              reads = c.went_on-2.ensures.reads ∙ i.history.all_reads;
              writes = c.went_on-2.ensures.writes ∙ i.history.all_writes;
            }) i.none,
        (
          omega (arith, i.made, c.steps.auto._made-end),
          (
            subst (λ (end : EmuEnd). IsPrinted (g.O.Sink.written c.args.sink.now) (g.O.Sink.written c.steps.sink) end i.trace)
                (sym c.went_on-2.ensures.end) i.written,
            (
              (λ room calm fits.
                  subst (λ (end : EmuEnd). SinkCalm (g.O.Sink.faults c.args.sink.now) (g.O.Sink.faults c.steps.sink)
                  (g.O.Sink.calm c.steps.sink) room end i.trace) (sym c.went_on-2.ensures.end)
                  (calm_end _ _ _ room _ i.trace tt (i.calm room calm fits))),
              i.asked,
            ),
          ),
        ),
      ),
    )

pub returns-then-is_over-clause-run : goal.returns-then-is_over-clause-run
returns-then-is_over-clause-run g c =
    let i = c.steps.invariant in
    let m = c.make_step.ensures.steps in
    let s : IsStep (g.P.Ports.gives c.steps.ports) (g.P.Ports.asked c.steps.ports)
    (g.P.Ports.asked c.make_step.new.ports) c.steps.history c.steps.machine c.make_step.new.machine c.make_step.result m.0 =
    record { is = m.1.0; state = m.1.1.0; answered = m.1.1.1 } in
    let a = c.in-Ran.access in
    let trace = i.trace ++ a ∷ [] in
    let history : IsHistory trace c.note.new.self =
    c.note.ensures i.trace i.history (omega (arith, i.made, c.steps-test.true, c.ranges.steps.fits)) in
    let goes = leads_next (g.P.Ports.gives c.steps.ports) (g.P.Ports.asked c.steps.ports) (g.P.Ports.asked c.make_step.new.ports)
    c.steps.history c.steps.machine c.make_step.new.machine c.make_step.result m.0 s c.args.machine.now i.trace a c.in-Ran.is i.goes in
    let long : length trace ≡ length i.trace + 1 = length-append i.trace (a ∷ []) in (
      trace,
      (
        run_until (g.S.Stop.stops c.args.stop.now) c.args.machine.now (g.P.Ports.gives c.args.ports.now) c.args.steps
            c.make_step.new.machine c.stopped.result trace c.stopped.ensures.off c.stopped.ensures.end
            (record {
              within = omega arith;
              given = given_next (g.P.Ports.gives c.steps.ports) (g.P.Ports.asked c.steps.ports)
                  (g.P.Ports.asked c.make_step.new.ports) c.steps.history c.steps.machine c.make_step.new.machine c.make_step.result m.0 s
                  (g.P.Ports.gives c.args.ports.now) i.trace a c.in-Ran.is i.history
                  (λ ask b h. (i.stays ask b).0 h) i.given;
              made = leads_to_where_it_stands c.args.machine.now c.make_step.new.machine trace goes;
              ended = subst (λ (end : EmuEnd). EndsBy (length trace) c.args.machine.now end trace) (sym c.stopped.ensures.end) refl;
              reads = c.stopped.ensures.reads ∙ history.all_reads;
              writes = c.stopped.ensures.writes ∙ history.all_writes;
            })
            (ends_at (g.S.Stop.stops c.args.stop.now) c.args.machine.now i.trace a c.make_step.new.machine i.none goes
            (ap (λ (b : Bool). b && g.S.Stop.stops c.args.stop.now a c.make_step.new.machine) (sym i.begun)
            ∙ sym c.is_over.ensures ∙ c.if-is_over.true)),
        (
          omega (arith, long, i.made, c.steps-test.true),
          (
            subst (λ (end : EmuEnd). IsPrinted (g.O.Sink.written c.args.sink.now) (g.O.Sink.written c.print.new.sink) end trace)
                (sym c.stopped.ensures.end) (printed_on _ _ _ i.trace a i.written c.in-Ok.ensures.written),
            (
              (λ room calm fits.
                  let before = i.calm room calm (fits_front i.trace a room fits) in
                  let after = c.in-Ok.ensures.calm (room - length (port_lines i.trace)) before.1 (fits_last i.trace a room fits) in
                  subst (λ (end : EmuEnd). SinkCalm (g.O.Sink.faults c.args.sink.now) (g.O.Sink.faults c.print.new.sink)
                  (g.O.Sink.calm c.print.new.sink) room end trace) (sym c.stopped.ensures.end)
                  (calm_end _ _ _ room _ trace tt
                  (after.0.same ∙ before.0, subst (λ left. g.O.Sink.calm c.print.new.sink left) (room_on i.trace a room) after.1))),
              asked_next (g.P.Ports.gives c.steps.ports) (g.P.Ports.asked c.steps.ports)
                  (g.P.Ports.asked c.make_step.new.ports) c.steps.history c.steps.machine c.make_step.new.machine c.make_step.result m.0 s
                  (g.P.Ports.asked c.args.ports.now) i.trace a c.in-Ran.is i.history i.asked,
            ),
          ),
        ),
      ),
    )
