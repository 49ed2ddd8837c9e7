use Rattle.std.proofs.Common.{◌≡◌, ◌∙◌, ℕ, List, Some, None, refl, sym, ap}
use Rattle.std.specs.Prelude.{Option, is_some, option_map, unwrap_or}
use Rattle.ec_avr.specs.Machine.{step, needs_port}
use Rattle.ec_emu.specs.declared.ask.Ask.{Ask}
use Rattle.ec_emu.specs.Answers.{AnswersAsk}
use Rattle.ec_emu.specs.declared.history.PortHistory.{PortHistory}
use Rattle.ec_emu.specs.Answers.{Answered}
use Rattle.ec_emu.specs.History.{ask_of, IsAnsweredBy}
use Rattle.ec_emu.proofs.run.make_step.Goals as goal

module _ (gives : Ask → ℕ → Type 0) (old new : Option (List Answered)) (history : PortHistory) where
  -- a byte comes just where a port is read
  read_where : (port byte : Option ℕ) → AnswersAsk gives old new (option_map (ask_of history) port) byte → is_some byte ≡ is_some port
  read_where None None h = refl
  read_where (Some port) (Some byte) h = refl
  read_where None (Some byte) h = absurd h
  read_where (Some port) None h = absurd h

  -- and it is the one that the port answers
  answered_by : (port byte : Option ℕ) → AnswersAsk gives old new (option_map (ask_of history) port) byte
      → IsAnsweredBy gives old new history port (unwrap_or byte 0)
  answered_by None None h = (refl, h)
  answered_by (Some port) (Some byte) h = h
  answered_by None (Some byte) h = absurd h
  answered_by (Some port) None h = absurd h

pub step-requires : goal.step-requires
step-requires g c =
    let asked = rw (c.next_ask.ensures, c.needs_port.ensures.value) at c.answer-byte.ensures.answered in
    let same = c.given.ensures.is ∙ read_where (g.P.Ports.gives c.args.ports.now) (g.P.Ports.asked c.args.ports.now)
    (g.P.Ports.asked c.answer-byte.new.ports) c.args.history.now (needs_port c.args.machine.now) c.answer-byte.result asked in
    ((λ h. sym same ∙ h), (λ h. same ∙ h))

pub returns-clause-steps : goal.returns-clause-steps
returns-clause-steps g c =
    let asked = rw (c.next_ask.ensures, c.needs_port.ensures.value) at c.answer-byte.ensures.answered in (
      unwrap_or c.answer-byte.result 0,
      (
        c.step.ensures.stepped ∙ ap (λ (b : ℕ). (step b c.args.machine.now).stepped) c.given.ensures.value,
        (
          c.step.ensures.state ∙ ap (λ (b : ℕ). (step b c.args.machine.now).state) c.given.ensures.value,
          answered_by (g.P.Ports.gives c.args.ports.now) (g.P.Ports.asked c.args.ports.now)
              (g.P.Ports.asked c.answer-byte.new.ports) c.args.history.now (needs_port c.args.machine.now) c.answer-byte.result asked,
        ),
      ),
    )
