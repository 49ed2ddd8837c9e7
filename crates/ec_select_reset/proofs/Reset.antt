-- The startup code, and then the code of all functions.
use Rattle.std.proofs.Common.{◌≡◌, ◌≢◌, ℕ, ◌+◌, ◌-◌, ◌*◌, ◌%◌, ◌<◌, ◌≤◌, Bool, true, false, List, []}
use Rattle.std.proofs.Common.{Option, Some, None, All, length, sym, refl, ap, ◌∙◌, subst, arith, ltb-true}
use Rattle.std.specs.Prelude.{◌&&◌, ◌||◌, not, nat_lt, if◌then◌else◌, slice_index, slice_index_or}
use Rattle.ec_isa.specs.declared.instructions.Instr.{Instr}
use Rattle.ec_isa.specs.declared.instructions.Instr.TheVariants.{Break}
use Rattle.ec_isa.specs.Reading.{instruction_at as decoded}
use Rattle.ec_avr.specs.Effects.{has_two_words}
use Rattle.ec_avr.specs.Laws.{StepsByInstruction}
use Rattle.ec_avr.specs.Machine.{State, machine}
use Rattle.ec_avr.specs.Runs.{preceded_by}
use Rattle.ec_avr.specs.State.{lowered}
use Rattle.ec_asm.specs.View.{View, is_apart}
use Rattle.ec_asm.specs.Change.{Env, Kind, Own, Object, Port, Stacked, Page, Barred, sp}
use Rattle.ec_asm.specs.Pieces.{is_held}
use Rattle.ec_asm.specs.PieceLaws.{HoldsNumbers}
use Rattle.ec_asm.specs.Run.{fetch, word_in, pushed, back_at, is_safe}
use Rattle.ec_asm.specs.Shows.{Shows, Fits, RunsAs, GoesOn}
use Rattle.ec_asm.specs.Behaves.{noted_run}
use Rattle.ec_asm.specs.Takes.{Goes}
use Rattle.ec_asm.specs.Laws.{MachineRunsAsView}
use Rattle.ec_asm_accesses.specs.Allowed.{AccessesAreAllowed}
use Rattle.ec_asm.proofs.Calls.{call_goes}
use Rattle.ec_asm.proofs.Fetched.{fetched}
use Rattle.ec_asm.proofs.Hoare.{goes_on_to}
use Rattle.ec_asm.proofs.Takes.{call_has_word}
use Rattle.ec_core.specs.State.{Inputs}
use Rattle.ec_ir.specs.Operations.{PlainIrProgram, data_of}
use Rattle.ec_ir.specs.Valid.{ValidIr}
use Rattle.ec_runs.specs.Behaviours.{Reaches, IsWithin}
use Rattle.ec_select_functions.specs.Laws.{AreSelected, IsEntered, HoldsStart, ShowsOperations, CodeFollowsOperations}
use Rattle.ec_select_functions.specs.Laws.{within_steps, seen_meaning}
use Rattle.ec_routines.proofs.Stacked.{pushed_same, pushed_pointer, back_is}
use Rattle.ec_select_startup.specs.declared.spans.Span.{Span}
use Rattle.ec_select_startup.specs.Laws.{StartupIsRight, Starts, IsSet, CanBeSet, target, startup_steps}
use Rattle.ec_select_reset.proofs.Before.{CallsMain, calls_main}
use Rattle.ec_select_reset.specs.Laws.{CanStart, ShowsProgram, ProgramsShowTheirOperations}

-- what this rests on
pub record StartLaws : Type 0 where
  pub startup : StartupIsRight
  pub views : MachineRunsAsView
  pub follows : CodeFollowsOperations
  pub allowed : AccessesAreAllowed
  pub steps : StepsByInstruction

-- an instruction that stands somewhere stands in the flash
fetched_below : (e : Env) (pc : ℕ) (i : Instr) → fetch e pc ≡ Some i → 2 * pc + 1 < length e.flash
fetched_below e pc i q =
    let o = decoded (word_in e.flash pc) (word_in e.flash (pc + 1)) in
    by_test o (nat_lt (2 * pc + 1) (length e.flash)) (not (has_two_words o) || nat_lt (2 * (pc + 1) + 1) (length e.flash)) refl
    (fetched e pc i q).0
  where
    by_test : (o : Option Instr) (a b : Bool) → nat_lt (2 * pc + 1) (length e.flash) ≡ a → (if a && b then o else None) ≡ Some i
        → 2 * pc + 1 < length e.flash
    by_test o true b r h = ltb-true (2 * pc + 1) (length e.flash) r
    by_test o false b r h = absurd cc

held_is_not_stacked : (k : Kind) → is_held k ≡ true → k ≡ Stacked → ⊥
held_is_not_stacked Own h q = cc
held_is_not_stacked Object h q = cc
held_is_not_stacked Port h q = cc
held_is_not_stacked Stacked h q = cc
held_is_not_stacked Page h q = cc
held_is_not_stacked Barred h q = cc

shown_numbers : (e : Env) (size : ℕ) (s : State) (v : View) → Shows e size s.core s.mem v → HoldsNumbers v
shown_numbers e size s v h k u =
    rw (ap (λ f. f k) h.at) (by_test (is_apart k))
  where
    by_test : (b : Bool) → (if b then 0 else slice_index s.mem.data k) < 256
    by_test true = omega arith
    by_test false = h.bytes k

module _ (laws : StartLaws) (cells : ℕ) (p : PlainIrProgram) (place entry_of : ℕ → ℕ) (e : Env) (spans : List Span) (size low : ℕ)
    (s : State) (v : View) (inputs : Inputs) (valid : ValidIr cells p) (fit : Fits e size) (shows : Shows e size s.core s.mem v)
    (feeds : (port : ℕ) → v.inputs port ≡ inputs port) (selected : AreSelected cells p e place entry_of)
    (c : CanStart p e place entry_of spans low s.pc) where
  -- nothing was noted before
  abbrev v0 : View
  v0 = record { at = v.at; flags = v.flags; page = v.page; inputs = v.inputs; seen = []; safe = true }

  shows0 : Shows e size s.core s.mem v0
  shows0 = record {
    same = shows.same;
    flash = shows.flash;
    sized = shows.sized;
    bytes = shows.bytes;
    at = shows.at;
    flags = shows.flags;
    page = shows.page;
    feeds = shows.feeds;
    base = shows.base;
  }

  starts : Starts e spans (entry_of p.main) s.pc v0
  starts = laws.startup e spans (entry_of p.main) s.pc c.end v0 c.pointer c.can_be_set c.beside c.stands

  abbrev top : ℕ
  top = e.address_of 1281 0

  abbrev last : View
  last = starts.last

  abbrev w : View
  w = pushed starts.back last

  deep : (257 ≤ top) × (top < 65536)
  deep =
      let r : low + 2 * 0 + 17 ≤ top = c.room [] tt in
      let high = c.high in
      let room = c.pointer.room in
      (omega arith, room)

  first_kind : e.kind (sp last) ≡ Stacked
  first_kind =
      let r : low + 2 * 0 + 17 ≤ top = c.room [] tt in
      ap e.kind starts.pointer ∙ c.stacked top (omega arith) (omega arith)

  below_top : lowered (sp last) ≡ top - 1
  below_top = let d = deep.0 in let u = deep.1 in rw (starts.pointer) (omega arith)

  second_kind : e.kind (lowered (sp last)) ≡ Stacked
  second_kind =
      let r : low + 2 * 0 + 17 ≤ top = c.room [] tt in
      ap e.kind below_top ∙ c.stacked (top - 1) (omega arith) (omega arith)

  -- the steps to where main begins, the last of which is its call
  abbrev count : ℕ
  count = startup_steps spans + 1

  -- the run to there
  goes : Goes e count s.pc v0 (e.word_of (entry_of p.main)) w
  goes =
      goes_on_to e (startup_steps spans) 1 s.pc starts.call (e.word_of (entry_of p.main)) v0 last w starts.goes
      (call_goes e (entry_of p.main) starts.call starts.back last starts.calls first_kind second_kind)

  goes_on : GoesOn e size count v0 s (e.word_of (entry_of p.main)) w
  goes_on = subst (RunsAs e size count v0 s) goes.by (laws.views e size count s v0 fit shows0) starts.safe

  calls : CallsMain e spans goes_on.trace
  calls =
      calls_main (record { startup = laws.startup; views = laws.views; allowed = laws.allowed; steps = laws.steps }) e spans size
      (entry_of p.main) c.end s v0 fit shows0 c.pointer c.can_be_set c.beside c.stands refl refl goes_on.trace goes_on.state goes_on.ran

  -- from there on nothing was noted
  abbrev w0 : View
  w0 = record { at = w.at; flags = w.flags; page = w.page; inputs = w.inputs; seen = []; safe = true }

  shows_w : Shows e size goes_on.state.core goes_on.state.mem w0
  shows_w =
      let h = goes_on.shows in
      record { same = h.same; flash = h.flash; sized = h.sized; bytes = h.bytes; at = h.at; flags = h.flags; page = h.page; feeds = h.feeds; base = h.base }

  pointer_w : sp w ≡ top - 2
  pointer_w = pushed_pointer starts.back last top starts.pointer deep.0 deep.1

  back_below : starts.back < 65536
  back_below =
      let l = fetched_below e starts.back Break starts.ends in
      let f = c.flash in
      omega arith

  returns_to : back_at w % 65536 ≡ starts.back
  returns_to = back_is starts.back last w top starts.pointer deep.0 deep.1 back_below pointer_w refl refl

  main_word : e.word_of (entry_of p.main) < 65536
  main_word = call_has_word e (entry_of p.main) starts.call starts.back starts.calls

  -- the bytes of spans are none of those that the call pushes
  are_set : All (IsSet e w0) spans
  are_set k d inside j l =
      let span = slice_index_or spans k d in
      let can : CanBeSet e span = c.can_be_set k d inside in
      let at = target e span + j in
      let above = can.above in
      let held = can.kind j l in
      let not_first : at ≢ sp last = λ q. held_is_not_stacked (e.kind at) held (ap e.kind q ∙ first_kind) in
      let not_second : at ≢ lowered (sp last) = λ q. held_is_not_stacked (e.kind at) held (ap e.kind q ∙ second_kind) in
      pushed_same starts.back last at not_first not_second (omega arith) (omega arith) ∙ starts.are_set k d inside j l

  begin : HoldsStart (data_of p) place w0
  begin = record {
    leaves = c.initials w0 are_set;
    bytes = shown_numbers e size goes_on.state w0 shows_w;
    seen = refl;
    safe = refl;
  }

  entered : IsEntered p e low (entry_of p.main) goes_on.state.pc w0
  entered =
      let d = deep.0 in
      let u = deep.1 in
      let q = pointer_w in
      record {
        at = goes_on.at;
        word = main_word;
        stop = ap (fetch e) returns_to ∙ starts.ends;
        high = c.high;
        top = omega arith;
        stacked = λ k l m. c.stacked k l (omega arith);
        room = λ fs on. let r = c.room fs on in omega arith;
      }

  same_inputs : w0.inputs ≡ v.inputs
  same_inputs = starts.inputs

  shown : ShowsOperations p place e w0 goes_on.state inputs
  shown =
      laws.follows cells p place entry_of e size low goes_on.state w0 inputs valid fit shows_w
      (λ port. ap (λ f. f port) same_inputs ∙ feeds port) begin selected entered

  pub whole : ShowsProgram p place e spans v s inputs
  whole =
      let most = starts.at_most in
      record {
        steps = count;
        at_most = omega arith;
        trace = goes_on.trace;
        main = goes_on.state;
        ran = goes_on.ran;
        on = λ k. goes_on.on k ∙ ap (λ i. preceded_by goes_on.trace (machine k i goes_on.state)) same_inputs;
        before = calls.before;
        calls = calls.calls;
        copies = calls.copies;
        started = ap is_safe goes.by ∙ starts.safe;
        reaches = subst
            (λ i. Reaches (within_steps p inputs) (seen_meaning e p place inputs) (noted_run e i goes_on.state)) same_inputs shown.reaches;
        within = λ m. subst (λ i. IsWithin (seen_meaning e p place inputs m) (noted_run e i goes_on.state m)) same_inputs (shown.within m);
        view = w0;
        shown = subst (λ n. Shows e n goes_on.state.core goes_on.state.mem w0) (sym shows.sized) shows_w;
        given = same_inputs;
        initials = begin.leaves;
        safe = shown.safe;
      }

pub programs_show_their_operations : StartLaws → ProgramsShowTheirOperations
programs_show_their_operations laws cells p place entry_of e spans size low s v inputs valid fit shows feeds selected c =
    whole laws cells p place entry_of e spans size low s v inputs valid fit shows feeds selected c
