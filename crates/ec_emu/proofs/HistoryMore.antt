-- What is kept of a run with one more access.
use Rattle.std.specs.Prelude.{if◌then◌else◌, slice_index, slice_set, min}
use Rattle.std.proofs.lemmas.Bool.{cases_eq, eq-eqb, ne_eqb}
use Rattle.std.proofs.Common.{◌≡◌, ◌+◌, ◌-◌, ◌^◌, ◌<◌, ◌==◌, ◌⊎◌, ℕ, true, List, [], ◌∷◌, ◌++◌, length, refl, sym, ◌∙◌, arith}
use Rattle.std.proofs.Common.{inl, inr, get_or-set_same, get_or-set_other, length-set}
use Rattle.ec_avr.specs.declared.machine.Access.{Access}
use Rattle.ec_avr.specs.declared.machine.Access.TheVariants.{Silent, In, Out, Read, Write, Stack}
use Rattle.ec_avr.specs.Inputs.{reads_of}
use Rattle.ec_avr.specs.Quiet.{is_quiet}
use Rattle.ec_emu.specs.declared.history.PortHistory.{PortHistory}
use Rattle.ec_emu.specs.Answers.{last_written, reads_in, writes_in}
use Rattle.ec_emu.specs.History.{IsHistory}
use Rattle.ec_emu.proofs.Traces.{reads_of-append, reads_of_within, last_written-append, reads_in-append, writes_in-append, reads_in_within}
use Rattle.ec_emu.proofs.Traces.{writes_in_within}

abbrev pub one_more : ℕ → ℕ
one_more n = min (n + 1) (2 ^ 32 - 1)

pub history_read : (trace : List Access) (history : PortHistory) (port byte : ℕ) → port < 256 → IsHistory trace history
    → length trace + 1 < 2 ^ 32
    → IsHistory (trace ++ In port byte ∷ []) (record history {
      reads = slice_set history.reads port (one_more (slice_index history.reads port));
      all_reads = one_more history.all_reads;
    })
history_read trace history port byte inside has short = record {
  reads = λ p below. either p below (cases_eq p port);
  last = λ p below. has.last p below ∙ sym (last_written-append 0 p trace (In port byte ∷ []));
  all_reads = omega (arith, has.all_reads, reads_in-append trace (In port byte ∷ []), reads_in_within trace);
  all_writes = omega (arith, has.all_writes, writes_in-append trace (In port byte ∷ []));
  read_ports = length-set history.reads port (one_more (slice_index history.reads port)) ∙ has.read_ports;
  written_ports = has.written_ports;
}
  where
    either : (p : ℕ) → p < 256 → (p ≡ port) ⊎ (p ≡ port → ⊥)
        → slice_index (slice_set history.reads port (one_more (slice_index history.reads port))) p ≡ reads_of p (trace ++ In port byte ∷ [])
    either p below (inl same) =
        let counted : reads_of port (In port byte ∷ []) ≡ 1 = rw (eq-eqb port port refl) refl in
        rw same (get_or-set_same history.reads port (one_more (slice_index history.reads port)) 0 (omega (arith, inside, has.read_ports))
        ∙ omega
        (arith, rw same at (has.reads p below), counted, reads_of-append port trace (In port byte ∷ []), reads_of_within port trace))
    either p below (inr other) =
        let uncounted : reads_of p (In port byte ∷ []) ≡ 0 = rw (ne_eqb port p (λ e. other (sym e))) refl in
        get_or-set_other history.reads port p (one_more (slice_index history.reads port)) 0 other
        ∙ omega (arith, has.reads p below, uncounted, reads_of-append p trace (In port byte ∷ []))

pub history_written : (trace : List Access) (history : PortHistory) (port byte : ℕ) → port < 256 → IsHistory trace history
    → length trace + 1 < 2 ^ 32
    → IsHistory (trace ++ Out port byte ∷ [])
    (record history { last = slice_set history.last port byte; all_writes = one_more history.all_writes })
history_written trace history port byte inside has short = record {
  reads = λ p below. omega (arith, has.reads p below, reads_of-append p trace (Out port byte ∷ []));
  last = λ p below. either p below (cases_eq p port) ∙ sym (last_written-append 0 p trace (Out port byte ∷ []));
  all_reads = omega (arith, has.all_reads, reads_in-append trace (Out port byte ∷ []));
  all_writes = omega (arith, has.all_writes, writes_in-append trace (Out port byte ∷ []), writes_in_within trace);
  read_ports = has.read_ports;
  written_ports = length-set history.last port byte ∙ has.written_ports;
}
  where
    either : (p : ℕ) → p < 256 → (p ≡ port) ⊎ (p ≡ port → ⊥)
        → slice_index (slice_set history.last port byte) p ≡ (if port == p then byte else last_written 0 p trace)
    either p below (inl same) =
        rw (same, eq-eqb port port refl) (get_or-set_same history.last port byte 0 (omega (arith, inside, has.written_ports)))
    either p below (inr other) =
        rw (ne_eqb port p (λ e. other (sym e))) (get_or-set_other history.last port p byte 0 other ∙ has.last p below)

-- an access that is none of a port
pub history_apart : (trace : List Access) (history : PortHistory) (a : Access) → is_quiet a ≡ true → IsHistory trace history
    → IsHistory (trace ++ a ∷ []) history
history_apart trace history a apart has = record {
  reads = λ p below. omega (arith, has.reads p below, reads_of-append p trace (a ∷ []), unread p a apart);
  last = λ p below. has.last p below ∙ sym (last_written-append 0 p trace (a ∷ []) ∙ unwritten (last_written 0 p trace) p a apart);
  all_reads = omega (arith, has.all_reads, reads_in-append trace (a ∷ []), no_read a apart);
  all_writes = omega (arith, has.all_writes, writes_in-append trace (a ∷ []), no_write a apart);
  read_ports = has.read_ports;
  written_ports = has.written_ports;
}
  where
    unread : (p : ℕ) (a : Access) → is_quiet a ≡ true → reads_of p (a ∷ []) ≡ 0
    unread p Silent e = refl
    unread p (In port byte) e = cc
    unread p (Out port byte) e = cc
    unread p (Read bank at byte) e = refl
    unread p (Write at byte) e = refl
    unread p Stack e = refl

    unwritten : (byte p : ℕ) (a : Access) → is_quiet a ≡ true → last_written byte p (a ∷ []) ≡ byte
    unwritten b p Silent e = refl
    unwritten b p (In port byte) e = cc
    unwritten b p (Out port byte) e = cc
    unwritten b p (Read bank at byte) e = refl
    unwritten b p (Write at byte) e = refl
    unwritten b p Stack e = refl

    no_read : (a : Access) → is_quiet a ≡ true → reads_in (a ∷ []) ≡ 0
    no_read Silent e = refl
    no_read (In port byte) e = cc
    no_read (Out port byte) e = cc
    no_read (Read bank at byte) e = refl
    no_read (Write at byte) e = refl
    no_read Stack e = refl

    no_write : (a : Access) → is_quiet a ≡ true → writes_in (a ∷ []) ≡ 0
    no_write Silent e = refl
    no_write (In port byte) e = cc
    no_write (Out port byte) e = cc
    no_write (Read bank at byte) e = refl
    no_write (Write at byte) e = refl
    no_write Stack e = refl
