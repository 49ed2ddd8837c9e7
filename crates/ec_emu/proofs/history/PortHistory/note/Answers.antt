use Rattle.std.proofs.Common.{◌≡◌, ℕ, true, refl, arith}
use Rattle.ec_avr.specs.declared.machine.Access.{Access}
use Rattle.ec_avr.specs.declared.machine.Access.TheVariants.{Silent, In, Out, Read, Write, Stack}
use Rattle.ec_avr.specs.Quiet.{is_quiet}
use Rattle.ec_emu.proofs.HistoryMore.{history_read, history_written, history_apart}
use Rattle.ec_emu.proofs.history.PortHistory.note.Goals as goal

apart : (a : Access) → ((port byte : ℕ) → a ≡ In port byte → ⊥) → ((port byte : ℕ) → a ≡ Out port byte → ⊥) → is_quiet a ≡ true
apart Silent no_in no_out = refl
apart (In port byte) no_in no_out = absurd (no_in port byte refl)
apart (Out port byte) no_in no_out = absurd (no_out port byte refl)
apart (Read bank at byte) no_in no_out = refl
apart (Write at byte) no_in no_out = refl
apart Stack no_in no_out = refl

pub returns-in-In : goal.returns-in-In
returns-in-In c = λ trace has short.
    rw (c.in-In.is, c.saturating_add.ensures, c.saturating_add-self.ensures, c.from-port.ensures)
    (history_read trace c.args.self.now c.in-In.port c.in-In.byte (omega arith) has short)

pub returns-in-Out : goal.returns-in-Out
returns-in-Out c = λ trace has short.
    rw (c.in-Out.is, c.saturating_add-self-in-Out.ensures, c.from.ensures)
    (history_written trace c.args.self.now c.in-Out.port c.in-Out.byte (omega arith) has short)

pub returns-in_default : goal.returns-in_default
returns-in_default c = λ trace has short.
    history_apart trace c.args.self.now c.args.access (apart c.args.access c.in_default.not-In c.in_default.not-Out) has
