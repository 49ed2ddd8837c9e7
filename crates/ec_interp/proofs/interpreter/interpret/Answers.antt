use Rattle.std.proofs.Common.{◌*◌, ◌∙◌, List, ap, rules, subst, sym}
use Rattle.ec_core.specs.Plain.{plain_program}
use Rattle.ec_core.specs.State.{State}
use Rattle.ec_core.specs.ValueTypes.{GiveBytes}
use Rattle.ec_interp.specs.declared.behaviour.PortInput.{PortInput}
use Rattle.ec_interp.specs.declared.state.Context.{Context}
use Rattle.ec_interp.specs.Suits.{IsGiven}
use Rattle.ec_interp.specs.Views.{seen, inputs_of}
use Rattle.ec_interp.proofs.Steps.{first_state, main_called}
use Rattle.ec_interp.proofs.Telling.{interpreted, behaviour_told, place_told}
use Rattle.ec_interp.proofs.interpreter.interpret.Goals as goal

pub returns-in_err-behaviour-clause-answered : goal.returns-in_err-behaviour-clause-answered
returns-in_err-behaviour-clause-answered c = λ v b.
    (let f : Context = record {
      alloc = c.args.alloc;
      program = c.args.program;
      io = c.args.io;
      inputs = c.as_slice.result;
      turns = c.args.turns;
    } in
    let given : IsGiven f = record {
      valid = v;
      bytes = subst (λ (is : List PortInput). GiveBytes (inputs_of is)) (sym c.as_slice.ensures) b;
    } in
    let typed = first_state f (seen c.in_ok-s.s) given c.in_ok-s.ensures.state in
    let call = c.call-outcome.ensures.answered given typed (main_called f given) in
    let a = c.in_err-behaviour.ensures.answered call in
    search rules)

pub returns-clause-outcome : goal.returns-clause-outcome
returns-clause-outcome c =
    (interpreted c.args.program.now c.args.io.now c.as_slice.result.now c.args.inputs.now.items c.args.turns c.len.result (seen c.in_ok-s.s)
    c.call-outcome.result (seen c.call-outcome.new.s) c.in_ok-behaviour.behaviour c.as_slice.ensures c.len.ensures c.in_ok-s.ensures.state
    c.call-outcome.ensures.shows c.in_ok-behaviour.ensures.told).0

pub returns-clause-behaviour : goal.returns-clause-behaviour
returns-clause-behaviour c =
    behaviour_told _ _ c.in_ok-behaviour.behaviour _
    (interpreted c.args.program.now c.args.io.now c.as_slice.result.now c.args.inputs.now.items c.args.turns c.len.result (seen c.in_ok-s.s)
    c.call-outcome.result (seen c.call-outcome.new.s) c.in_ok-behaviour.behaviour c.as_slice.ensures c.len.ensures c.in_ok-s.ensures.state
    c.call-outcome.ensures.shows c.in_ok-behaviour.ensures.told).0

pub returns-clause-work : goal.returns-clause-work
returns-clause-work c =
    c.in_ok-work.ensures ∙ ap (λ (s : State). 64 * s.work)
    (sym (interpreted c.args.program.now c.args.io.now c.as_slice.result.now c.args.inputs.now.items c.args.turns c.len.result (seen c.in_ok-s.s)
    c.call-outcome.result (seen c.call-outcome.new.s) c.in_ok-behaviour.behaviour c.as_slice.ensures c.len.ensures c.in_ok-s.ensures.state
    c.call-outcome.ensures.shows c.in_ok-behaviour.ensures.told).1)

pub returns-clause-place : goal.returns-clause-place
returns-clause-place c = λ v b.
    place_told _ _ c.in_ok-behaviour.behaviour _
    (interpreted c.args.program.now c.args.io.now c.as_slice.result.now c.args.inputs.now.items c.args.turns c.len.result (seen c.in_ok-s.s)
    c.call-outcome.result (seen c.call-outcome.new.s) c.in_ok-behaviour.behaviour c.as_slice.ensures c.len.ensures c.in_ok-s.ensures.state
    c.call-outcome.ensures.shows c.in_ok-behaviour.ensures.told).0
    (c.invalid_is_never_met.ensures (plain_program c.args.program.now) c.args.io.now (inputs_of c.args.inputs.now.items) v b c.args.turns)
