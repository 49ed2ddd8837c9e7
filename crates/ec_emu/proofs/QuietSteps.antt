-- What is told of a run, with steps more that access no port.
use Rattle.std.specs.Prelude.{Option, IsTrue}
use Rattle.std.specs.Io.KnownBytes.{Appends}
use Rattle.std.proofs.Common.{◌≡◌, ◌-◌, ◌≤◌, ℕ, List, [], ◌∷◌, ◌++◌, length, refl, sym, ap, ◌∙◌, subst, append_assoc, append-nil}
use Rattle.std.proofs.lemmas.Bool.{and_parts}
use Rattle.std.specs.List.{list_all}
use Rattle.ec_avr.specs.declared.machine.Access.{Access}
use Rattle.ec_avr.specs.declared.machine.Access.TheVariants.{Silent, In, Out, Read, Write, Stack}
use Rattle.ec_avr.specs.Quiet.{is_quiet}
use Rattle.ec_emu.specs.declared.ask.Ask.{Ask}
use Rattle.ec_emu.specs.declared.history.PortHistory.{PortHistory}
use Rattle.ec_emu.specs.Answers.{Answered, AreGiven, WereAsked, asks_after, asks_of}
use Rattle.ec_emu.specs.History.{IsHistory}
use Rattle.ec_emu.specs.Lines.{port_line, port_lines}
use Rattle.ec_emu.proofs.Asks.{asks-on}
use Rattle.ec_emu.proofs.HistoryMore.{history_apart}
use Rattle.ec_emu.proofs.Reports.{port_lines-push}
use Rattle.ec_emu.proofs.Traces.{given_on}

-- what holds of some accesses, and still with each one more that is none of a port, holds with several more
more_quietly : (P : List Access → Type 0)
    → ((trace : List Access) (a : Access) → IsTrue (is_quiet a) → P trace → P (trace ++ a ∷ []))
    → (trace more : List Access) → IsTrue (list_all is_quiet more) → P trace → P (trace ++ more)
more_quietly P next trace [] quiet h = subst P (sym (append-nil trace)) h
more_quietly P next trace (a ∷ more) quiet h =
    let parts = and_parts (is_quiet a) (list_all is_quiet more) quiet in
    subst P (append_assoc trace (a ∷ []) more)
    (more_quietly P next (trace ++ a ∷ []) more parts.1 (next trace a parts.0 h))

not_read : (a : Access) (port byte : ℕ) → IsTrue (is_quiet a) → a ≡ In port byte → ⊥
not_read a port byte quiet e = let no : IsTrue (is_quiet (In port byte)) = subst (λ b. IsTrue (is_quiet b)) e quiet in cc

no_asks : (trace : List Access) (a : Access) → IsTrue (is_quiet a) → asks_after trace (a ∷ []) ≡ []
no_asks trace Silent e = refl
no_asks trace (In port byte) e = cc
no_asks trace (Out port byte) e = cc
no_asks trace (Read bank at byte) e = refl
no_asks trace (Write at byte) e = refl
no_asks trace Stack e = refl

no_line : (a : Access) → IsTrue (is_quiet a) → port_line a ≡ []
no_line Silent e = refl
no_line (In port byte) e = cc
no_line (Out port byte) e = cc
no_line (Read bank at byte) e = refl
no_line (Write at byte) e = refl
no_line Stack e = refl

same_asks : (trace : List Access) (a : Access) → IsTrue (is_quiet a) → asks_of (trace ++ a ∷ []) ≡ asks_of trace
same_asks trace a quiet =
    asks-on trace a
    ∙ ap (λ (l : List Answered). asks_of trace ++ l) (no_asks trace a quiet)
    ∙ append-nil (asks_of trace)

same_lines : (trace : List Access) (a : Access) → IsTrue (is_quiet a) → port_lines (trace ++ a ∷ []) ≡ port_lines trace
same_lines trace a quiet =
    port_lines-push trace a
    ∙ ap (λ (l : List ℕ). port_lines trace ++ l) (no_line a quiet)
    ∙ append-nil (port_lines trace)

-- what is told of the accesses of a run: to its ports, to its sink and in its history
module _ (gives : Ask → ℕ → Type 0) (asked_before asked_now : Option (List Answered)) (written_before written_now : Option (List ℕ))
    (calm_before calm_now : ℕ → Type 0) (faults_before faults_now : ℕ) (history : PortHistory) where
  pub record IsTold (trace : List Access) : Type 0 where
    pub given : AreGiven gives trace
    pub kept : IsHistory trace history
    pub asked : WereAsked asked_before asked_now (asks_of trace)
    pub written : Appends written_before written_now (port_lines trace)
    pub calm : (room : ℕ) → calm_before room → length (port_lines trace) ≤ room
        → (faults_now ≡ faults_before) × calm_now (room - length (port_lines trace))

  told_once : (trace : List Access) (a : Access) → IsTrue (is_quiet a) → IsTold trace → IsTold (trace ++ a ∷ [])
  told_once trace a quiet t =
      let lines = same_lines trace a quiet in
      record {
        given = given_on gives trace a t.given (λ port byte e. absurd (not_read a port byte quiet e));
        kept = history_apart trace history a quiet t.kept;
        asked = subst (λ asks. WereAsked asked_before asked_now asks) (sym (same_asks trace a quiet)) t.asked;
        written = subst (λ (bytes : List ℕ). Appends written_before written_now bytes) (sym lines) t.written;
        calm = λ room calm fits.
            subst (λ (bytes : List ℕ). (faults_now ≡ faults_before) × calm_now (room - length bytes)) (sym lines)
            (t.calm room calm (subst (λ (bytes : List ℕ). length bytes ≤ room) lines fits));
      }

  -- steps more that access no port add nothing
  pub told_quietly : (trace more : List Access) → IsTrue (list_all is_quiet more) → IsTold trace → IsTold (trace ++ more)
  told_quietly = more_quietly IsTold told_once
