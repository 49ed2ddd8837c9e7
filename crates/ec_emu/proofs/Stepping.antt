-- A step of a run, as the code makes it.
use Rattle.std.specs.Prelude.{Option, if◌then◌else◌, option_map, option_and_then, MatchOption, slice_index}
use Rattle.std.proofs.lemmas.Bool.{and_parts, ltb-true}
use Rattle.std.proofs.lemmas.Option.{cond_some}
use Rattle.std.proofs.Common.{◌≡◌, ◌<◌, ℕ, Bool, true, false, not, ◌&&◌, nat_lt, List, [], ◌∷◌, ◌++◌, length, Some, None, refl, sym, ap}
use Rattle.std.proofs.Common.{◌∙◌, subst, arith, append-nil}
use Rattle.ec_avr.specs.declared.machine.Access.{Access}
use Rattle.ec_avr.specs.declared.machine.Access.TheVariants.{Silent, In, Out, Read, Write, Stack}
use Rattle.ec_avr.specs.declared.machine.FaultKind.{FaultKind}
use Rattle.ec_avr.specs.declared.machine.Stepped.{Stepped}
use Rattle.ec_avr.specs.declared.machine.Stepped.TheVariants.{Ran, Ended, Fault}
use Rattle.ec_avr.specs.State.{is_port, is_core_register}
use Rattle.ec_avr.specs.Machine.{State, Inputs, EndedWith, FaultedAt, machine, step, needs_port, port_at, read_access, is_whole}
use Rattle.ec_avr.specs.Machine.{instruction_at, load_address, machine_result}
use Rattle.ec_avr.specs.Runs.{answers, and_then, LeadsTo}
use Rattle.ec_avr.specs.Laws.{IsAnswer}
use Rattle.ec_avr.proofs.PortRead.{read_access-step}
use Rattle.ec_avr.proofs.Runs.{leads_on, leads_to_its_end, leads_to_its_fault}
use Rattle.ec_emu.specs.declared.ask.Ask.{Ask}
use Rattle.ec_emu.specs.declared.history.PortHistory.{PortHistory}
use Rattle.ec_emu.specs.Answers.{Answered, answered, WereAsked, ask_after, asks_after, asks_of, AreGiven}
use Rattle.ec_emu.specs.History.{IsHistory, ask_of, IsAnsweredBy}
use Rattle.ec_emu.proofs.Asks.{asked_more, asks-on}
use Rattle.ec_emu.proofs.Traces.{given_on}

-- the port that a step reads has an address below 256
low_port : (s : State) (port : ℕ) → needs_port s ≡ Some port → port < 256
low_port s port e = by_whole (is_whole s) (load_address (instruction_at s s.pc) s) e
  where
    by_whole : (whole : Bool) (at : Option ℕ) → (if whole then option_and_then (port_at s) at else None) ≡ Some port → port < 256
    by_whole false at e = cc
    by_whole true None e = cc
    by_whole true (Some at) e =
        let is = cond_some (is_port s.core at && nat_lt at (length s.mem.data)) at port e in
        let test = and_parts (is_port s.core at) (nat_lt at (length s.mem.data)) is.0 in
        let low = and_parts (nat_lt at 256) (not (is_core_register s.core at)) test.0 in
        omega (arith, ltb-true at 256 low.0, is.1)

abbrev ask_with : ℕ → ℕ → ℕ → Ask
ask_with port index last = record { port = port; index = index; last = last }

same_ask : (trace : List Access) (history : PortHistory) (port : ℕ) → IsHistory trace history → port < 256
    → ask_of history port ≡ ask_after trace port
same_ask trace history port has low =
    ap (λ (n : ℕ). ask_with port n (slice_index history.last port)) (has.reads port low)
    ∙ ap (λ (b : ℕ). ask_with port (ask_after trace port).index b) (has.last port low)

-- a step as it was made: its result, the state after it and the byte that was answered
pub record IsStep (gives : Ask → ℕ → Type 0) (asked_before asked_now : Option (List Answered)) (history : PortHistory) (cur new : State)
    (x : Stepped) (byte : ℕ) : Type 0 where
  pub is : x ≡ (step byte cur).stepped
  pub state : new ≡ (step byte cur).state
  pub answered : IsAnsweredBy gives asked_before asked_now history (needs_port cur) byte

module _ (gives : Ask → ℕ → Type 0) (before now : Option (List Answered)) (history : PortHistory) (cur new : State) (x : Stepped) (byte : ℕ)
    (s : IsStep gives before now history cur new x byte) where
  is_answer : IsAnswer cur byte
  is_answer = by_port (needs_port cur) s.answered
    where
      by_port : (port : Option ℕ) → IsAnsweredBy gives before now history port byte → MatchOption port (byte ≡ 0) (λ _. Unit {0})
      by_port None h = h.0
      by_port (Some port) h = tt

  read : read_access x ≡ option_map (λ (port : ℕ). In port byte) (needs_port cur)
  read = ap read_access s.is ∙ read_access-step byte cur

  pub leads_next : (old : State) (trace : List Access) (a : Access) → x ≡ Ran a → LeadsTo old trace cur → LeadsTo old (trace ++ a ∷ []) new
  leads_next old trace a ran goes =
      subst (λ (t : State). LeadsTo old (trace ++ a ∷ []) t) (sym s.state) (leads_on old cur trace byte a goes (sym s.is ∙ ran) is_answer)

  pub ended_next : (old : State) (trace : List Access) (limit : ℕ) → x ≡ Ended → LeadsTo old trace cur → length trace < limit
      → (more : Inputs)
      → machine limit (and_then (answers trace) more) old ≡ EndedWith trace (machine_result new)
  ended_next old trace limit is goes below more =
      leads_to_its_end old cur trace limit byte goes below (sym s.is ∙ is) is_answer more
      ∙ ap (λ (t : State). EndedWith trace (machine_result t)) (sym s.state)

  pub faulted_next : (old : State) (trace : List Access) (limit : ℕ) (kind : FaultKind) (pc : ℕ) → x ≡ Fault kind pc → LeadsTo old trace cur
      → length trace < limit
      → (more : Inputs) → machine limit (and_then (answers trace) more) old ≡ FaultedAt trace kind pc
  faulted_next old trace limit kind pc is goes below more =
      leads_to_its_fault old cur trace limit byte kind pc goes below (sym s.is ∙ is) is_answer more

  -- a byte that was read was answered at its ask
  was_given : (trace : List Access) → IsHistory trace history → (port b : ℕ) → x ≡ Ran (In port b) → gives (ask_after trace port) b
  was_given trace has port b ran = by_port (needs_port cur) refl s.answered
    where
      by_port : (o : Option ℕ) → needs_port cur ≡ o → IsAnsweredBy gives before now history o byte → gives (ask_after trace port) b
      by_port None e h =
          let clash : Some (In port b) ≡ None = sym (ap read_access ran) ∙ read ∙ ap (option_map (λ (p : ℕ). In p byte)) e in
          cc
      by_port (Some p) e h =
          let same : Some (In port b) ≡ Some (In p byte) = sym (ap read_access ran) ∙ read ∙ ap (option_map (λ (q : ℕ). In q byte)) e in
          let ports : p ≡ port = cc in
          let bytes : byte ≡ b = cc in
          subst (λ (q : ℕ). gives (ask_after trace q) b) ports
          (subst (λ (c : ℕ). gives (ask_after trace p) c) bytes
          (subst (λ (ask : Ask). gives ask byte) (same_ask trace history p has (low_port cur p e)) h.0))

  pub given_next : (first : Ask → ℕ → Type 0) (trace : List Access) (a : Access) → x ≡ Ran a → IsHistory trace history
      → ((ask : Ask) (b : ℕ) → gives ask b → first ask b) → AreGiven first trace → AreGiven first (trace ++ a ∷ [])
  given_next first trace a ran has same given =
      given_on first trace a given (λ port b read. same (ask_after trace port) b (was_given trace has port b (ran ∙ ap Ran read)))

  -- the asks of the step are those of its access
  asks_now : (trace : List Access) (a : Access) → x ≡ Ran a → IsHistory trace history → WereAsked before now (asks_after trace (a ∷ []))
  asks_now trace a ran has = by_port (needs_port cur) refl s.answered
    where
      by_port : (o : Option ℕ) → needs_port cur ≡ o → IsAnsweredBy gives before now history o byte
          → WereAsked before now (asks_after trace (a ∷ []))
      by_port None e h =
          subst (WereAsked before now) (sym (none a (sym (ap read_access ran) ∙ read ∙ ap (option_map (λ (p : ℕ). In p byte)) e))) h.1
        where
          none : (b : Access) → read_access (Ran b) ≡ None → asks_after trace (b ∷ []) ≡ []
          none Silent f = refl
          none (In p b) f = cc
          none (Out p b) f = refl
          none (Read bank at b) f = refl
          none (Write at b) f = refl
          none Stack f = refl
      by_port (Some port) e h =
          subst (WereAsked before now)
          (ap (λ (ask : Ask). answered ask byte ∷ []) (same_ask trace history port has (low_port cur port e))
          ∙ sym (one a (sym (ap read_access ran) ∙ read ∙ ap (option_map (λ (p : ℕ). In p byte)) e))) h.1
        where
          one : (b : Access) → read_access (Ran b) ≡ Some (In port byte)
              → asks_after trace (b ∷ []) ≡ answered (ask_after trace port) byte ∷ []
          one Silent f = cc
          one (In p b) f = let same : In p b ≡ In port byte = cc in ap (λ (c : Access). asks_after trace (c ∷ [])) same
          one (Out p b) f = cc
          one (Read bank at b) f = cc
          one (Write at b) f = cc
          one Stack f = cc

  pub asked_next : (first : Option (List Answered)) (trace : List Access) (a : Access) → x ≡ Ran a → IsHistory trace history
      → WereAsked first before (asks_of trace)
      → WereAsked first now (asks_of (trace ++ a ∷ []))
  asked_next first trace a ran has asked =
      subst (WereAsked first now) (sym (asks-on trace a))
      (asked_more first before now (asks_of trace) (asks_after trace (a ∷ [])) asked (asks_now trace a ran has))

  -- a step that did not run asked nothing
  pub asked_last : (first : Option (List Answered)) (trace : List Access) → read_access x ≡ None → WereAsked first before (asks_of trace)
      → WereAsked first now (asks_of trace)
  asked_last first trace unread asked = by_port (needs_port cur) refl s.answered
    where
      by_port : (o : Option ℕ) → needs_port cur ≡ o → IsAnsweredBy gives before now history o byte → WereAsked first now (asks_of trace)
      by_port None e h =
          subst (WereAsked first now) (append-nil (asks_of trace)) (asked_more first before now (asks_of trace) [] asked h.1)
      by_port (Some port) e h =
          let clash : None ≡ Some (In port byte) = sym unread ∙ read ∙ ap (option_map (λ (q : ℕ). In q byte)) e in
          cc
