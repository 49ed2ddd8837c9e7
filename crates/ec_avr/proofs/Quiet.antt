-- Steps that access no port, and runs of such steps.
use Rattle.std.proofs.Common.{◌≡◌, ℕ, ◌+◌, ◌%◌, Bool, true, false, not, ◌&&◌, ◌||◌, Option, Some, None, refl, sym, ap, ◌∙◌, length, nat_lt, subst}
use Rattle.std.proofs.Common.{[], ◌∷◌, ◌++◌, length-append}
use Rattle.std.proofs.lemmas.List.Folds.{list_all-append}
use Rattle.std.specs.List.{list_all}
use Rattle.std.specs.Prelude.{if◌then◌else◌, is_some, IsTrue, MatchOption}
use Rattle.ec_space.specs.declared.space.Bank.TheVariants.{Data as DataBank}
use Rattle.ec_isa.specs.declared.instructions.Instr.{Instr}
use Rattle.ec_isa.specs.declared.instructions.Instr.TheVariants.{LddZ, LddY, StdZ, StdY, Lds, Sts, LdZPlus, LdMinusZ, LdYPlus, LdMinusY}
use Rattle.ec_isa.specs.declared.instructions.Instr.TheVariants.{LdX, LdXPlus, LdMinusX, StZPlus, StMinusZ, StYPlus, StMinusY, StX, StXPlus}
use Rattle.ec_isa.specs.declared.instructions.Instr.TheVariants.{StMinusX, LpmZ, LpmZPlus, Elpm, ElpmInc, Pop, Push, Icall, Ret, Call, In as InInstr}
use Rattle.ec_isa.specs.declared.instructions.Instr.TheVariants.{Out as OutInstr, Rcall}
use Rattle.ec_avr.specs.declared.machine.Access.{Access}
use Rattle.ec_avr.specs.declared.machine.Access.TheVariants.{Silent, In, Out, Read, Write}
use Rattle.ec_avr.specs.declared.machine.FaultKind.{FaultKind}
use Rattle.ec_avr.specs.declared.machine.FaultKind.TheVariants.{DataOut, PcOut, StackOut, Unsupported}
use Rattle.ec_avr.specs.declared.machine.Stepped.{Stepped}
use Rattle.ec_avr.specs.declared.machine.Stepped.TheVariants.{Ran, Ended, Fault}
use Rattle.ec_avr.specs.State.{State, is_core_register, is_sram, pair, pointer_x, pointer_y, pointer_z, stack_pointer, raised, lowered}
use Rattle.ec_avr.specs.State.{has_rampz, far_pointer}
use Rattle.ec_avr.specs.Effects.{After, faulted}
use Rattle.ec_avr.specs.Machine.{step, effect, instruction_at, is_whole, needs_port, StaysUnlessRan}
use Rattle.ec_avr.specs.Laws.{IsAnswer}
use Rattle.ec_avr.specs.Runs.{LeadsTo}
use Rattle.ec_avr.specs.Quiet.{is_quiet, has_run, ran_quietly, is_quiet_next, RunsQuietly, accesses_port, quiet_instruction}
use Rattle.ec_avr.proofs.Runs.{leads_nowhere, leads_on}
use Rattle.ec_avr.proofs.Stays.{stays}

-- ---- by the instruction

-- a step that runs is a quiet one unless it accesses a port
abbrev IsTold : After → Bool → Type 0
IsTold after port = ran_quietly after.stepped ≡ (has_run after.stepped && not port)

of_load : (core port has : Bool) (at byte : ℕ) (moved s : State)
    → IsTold
    (if has then record { stepped = Ran (if core then Silent else (if port then In at byte else Read DataBank at byte)); state = moved }
    else faulted DataOut s)
    (is_some (if (port && not core) && has then Some at else None) || false)
of_load true true true at byte moved s = refl
of_load true false true at byte moved s = refl
of_load false true true at byte moved s = refl
of_load false false true at byte moved s = refl
of_load core port false at byte moved s = refl

of_store : (core port has : Bool) (at byte : ℕ) (moved s : State)
    → IsTold
    (if has then record { stepped = Ran (if core then Silent else (if port then Out at byte else Write at byte)); state = moved }
    else faulted DataOut s)
    (is_some (if (port && not core) && has then Some at else None))
of_store true true true at byte moved s = refl
of_store true false true at byte moved s = refl
of_store false true true at byte moved s = refl
of_store false false true at byte moved s = refl
of_store core port false at byte moved s = refl

of_test : (can : Bool) (after : After) (kind : FaultKind) (s : State) → IsTold after false
    → IsTold (if can then after else faulted kind s) false
of_test true after kind s h = h
of_test false after kind s h = refl

module _ (s : State) where
  of_load_at : (at byte : ℕ) (moved : State)
      → IsTold
      (if nat_lt at (length s.mem.data)
      then record {
        stepped = Ran (if is_core_register s.core at then Silent else (if nat_lt at 256 then In at byte else Read DataBank at byte));
        state = moved;
      }
      else faulted DataOut s)
      (is_some (if (nat_lt at 256 && not (is_core_register s.core at)) && nat_lt at (length s.mem.data) then Some at else None) || false)
  of_load_at at byte moved = of_load (is_core_register s.core at) (nat_lt at 256) (nat_lt at (length s.mem.data)) at byte moved s

  of_store_at : (at byte : ℕ) (moved : State)
      → IsTold
      (if nat_lt at (length s.mem.data)
      then record {
        stepped = Ran (if is_core_register s.core at then Silent else (if nat_lt at 256 then Out at byte else Write at byte));
        state = moved;
      }
      else faulted DataOut s)
      (is_some (if (nat_lt at 256 && not (is_core_register s.core at)) && nat_lt at (length s.mem.data) then Some at else None))
  of_store_at at byte moved = of_store (is_core_register s.core at) (nat_lt at 256) (nat_lt at (length s.mem.data)) at byte moved s

told : (i : Option Instr) (answer : ℕ) (s : State) → IsTold (effect i answer s) (accesses_port i s)
unfolding effect
told (Some (LddZ d q)) answer s = of_load_at s ((pair s pointer_z + q) % 65536) _ _
told (Some (LddY d q)) answer s = of_load_at s ((pair s pointer_y + q) % 65536) _ _
told (Some (LdX d)) answer s = of_load_at s (pair s pointer_x) _ _
told (Some (Lds d k)) answer s = of_load_at s k _ _
told (Some (InInstr d a)) answer s = of_load_at s (a + 0x20) _ _
told (Some (LdZPlus d)) answer s = of_load_at s (pair s pointer_z) _ _
told (Some (LdYPlus d)) answer s = of_load_at s (pair s pointer_y) _ _
told (Some (LdXPlus d)) answer s = of_load_at s (pair s pointer_x) _ _
told (Some (LdMinusZ d)) answer s = of_load_at s (lowered (pair s pointer_z)) _ _
told (Some (LdMinusY d)) answer s = of_load_at s (lowered (pair s pointer_y)) _ _
told (Some (LdMinusX d)) answer s = of_load_at s (lowered (pair s pointer_x)) _ _
told (Some (StdZ q r)) answer s = of_store_at s ((pair s pointer_z + q) % 65536) _ _
told (Some (StdY q r)) answer s = of_store_at s ((pair s pointer_y + q) % 65536) _ _
told (Some (StX r)) answer s = of_store_at s (pair s pointer_x) _ _
told (Some (Sts k r)) answer s = of_store_at s k _ _
told (Some (OutInstr a r)) answer s = of_store_at s (a + 0x20) _ _
told (Some (StZPlus r)) answer s = of_store_at s (pair s pointer_z) _ _
told (Some (StYPlus r)) answer s = of_store_at s (pair s pointer_y) _ _
told (Some (StXPlus r)) answer s = of_store_at s (pair s pointer_x) _ _
told (Some (StMinusZ r)) answer s = of_store_at s (lowered (pair s pointer_z)) _ _
told (Some (StMinusY r)) answer s = of_store_at s (lowered (pair s pointer_y)) _ _
told (Some (StMinusX r)) answer s = of_store_at s (lowered (pair s pointer_x)) _ _
told (Some (LpmZ d)) answer s = of_test (nat_lt (pair s pointer_z) (length s.mem.flash)) _ DataOut s refl
told (Some (LpmZPlus d)) answer s = of_test (nat_lt (pair s pointer_z) (length s.mem.flash)) _ DataOut s refl
told (Some (Elpm d)) answer s =
    of_test (has_rampz s.core) _ Unsupported s (of_test (nat_lt (far_pointer s) (length s.mem.flash)) _ DataOut s refl)
told (Some (ElpmInc d)) answer s =
    of_test (has_rampz s.core) _ Unsupported s (of_test (nat_lt (far_pointer s) (length s.mem.flash)) _ DataOut s refl)
told (Some (Push r)) answer s = of_test (is_sram s (stack_pointer s)) _ StackOut s refl
told (Some (Pop d)) answer s = of_test (is_sram s (raised (stack_pointer s))) _ StackOut s refl
told (Some (Call k)) answer s = of_test (is_sram s (stack_pointer s) && is_sram s (lowered (stack_pointer s))) _ StackOut s refl
told (Some (Rcall k)) answer s = of_test (is_sram s (stack_pointer s) && is_sram s (lowered (stack_pointer s))) _ StackOut s refl
told (Some Icall) answer s = of_test (is_sram s (stack_pointer s) && is_sram s (lowered (stack_pointer s))) _ StackOut s refl
told (Some Ret) answer s =
    of_test (is_sram s (raised (stack_pointer s)) && is_sram s (raised (raised (stack_pointer s)))) _ StackOut s refl
told _ answer s = refl

-- ---- the next step

and_true : (b : Bool) → (b && true) ≡ b
and_true true = refl
and_true false = refl

and_false : (b : Bool) → (b && false) ≡ false
and_false true = refl
and_false false = refl

abbrev IsStepOf : Instr → State → After → Type 0
IsStepOf i s after =
    (after ≡ effect (Some i) 0 s) × (ran_quietly after.stepped ≡ has_run (effect (Some i) 0 s).stepped)

quiet_when : (whole : Bool) (found : Option Instr) (i : Instr) (s : State)
    → (if whole && not (accesses_port found s) then found else None) ≡ Some i
    → IsStepOf i s (if whole then effect found 0 s else faulted PcOut s)
quiet_when false found i s e = cc
quiet_when true found i s e = by_port (accesses_port found s) refl e
  where
    by_port : (port : Bool) → accesses_port found s ≡ port → (if not port then found else None) ≡ Some i → IsStepOf i s (effect found 0 s)
    by_port true p e = cc
    by_port false p e =
        let same = ap (λ (f : Option Instr). effect f 0 s) e in (
          same,
          told found 0 s
              ∙ ap (λ (b : Bool). has_run (effect found 0 s).stepped && not b) p
              ∙ and_true (has_run (effect found 0 s).stepped)
              ∙ ap (λ (after : After). has_run after.stepped) same,
        )

unknown_is_loud : (found : Option Instr) (s : State) → found ≡ None → ran_quietly (effect found 0 s).stepped ≡ false
unfolding effect
unknown_is_loud None s e = refl
unknown_is_loud (Some i) s e = cc

loud_when : (whole : Bool) (found : Option Instr) (s : State) → (if whole && not (accesses_port found s) then found else None) ≡ None
    → ran_quietly (if whole then effect found 0 s else faulted PcOut s).stepped ≡ false
loud_when false found s e = refl
loud_when true found s e = by_port (accesses_port found s) refl e
  where
    by_port : (port : Bool) → accesses_port found s ≡ port → (if not port then found else None) ≡ None
        → ran_quietly (effect found 0 s).stepped ≡ false
    by_port true p e =
        told found 0 s
        ∙ ap (λ (b : Bool). has_run (effect found 0 s).stepped && not b) p
        ∙ and_false (has_run (effect found 0 s).stepped)
    by_port false p e = unknown_is_loud found s e

-- where there is such an instruction the next step is its effect, and a quiet one if that runs
pub quiet_step : (s : State) (i : Instr) → quiet_instruction s ≡ Some i → IsStepOf i s (step 0 s)
unfolding step
quiet_step s i e = quiet_when (is_whole s) (instruction_at s s.pc) i s e

pub loud_step : (s : State) → quiet_instruction s ≡ None → is_quiet_next s ≡ false
unfolding step
loud_step s e = loud_when (is_whole s) (instruction_at s s.pc) s e

-- it stands where it stood, unless that runs
pub made_or_kept : (s new : State) (i : Instr) (ran : Bool) → quiet_instruction s ≡ Some i → ran ≡ has_run (effect (Some i) 0 s).stepped
    → new ≡ (effect (Some i) 0 s).state → new ≡ (if ran then (step 0 s).state else s)
made_or_kept s new i true is ran state = state ∙ ap (λ (after : After). after.state) (sym (quiet_step s i is).0)
made_or_kept s new i false is ran state = state ∙ by_stepped (effect (Some i) 0 s).stepped (effect (Some i) 0 s).state (stays (Some i) 0 s) ran
  where
    by_stepped : (x : Stepped) (t : State) → StaysUnlessRan x s t → false ≡ has_run x → t ≡ s
    by_stepped (Ran a) t h e = cc
    by_stepped Ended t h e = h
    by_stepped (Fault kind pc) t h e = h.0

-- ---- runs

pub no_step : (s : State) → RunsQuietly 0 s s
no_step s = record { trace = []; long = refl; leads = leads_nowhere s; quiet = refl }

ran_access : (x : Stepped) → ran_quietly x ≡ true → (a : Access) × ((x ≡ Ran a) × IsTrue (is_quiet a))
ran_access (Ran a) e = (a, (refl, e))
ran_access Ended e = cc
ran_access (Fault kind pc) e = cc

zero_answers : (s : State) → IsAnswer s 0
zero_answers s = by_port (needs_port s)
  where
    by_port : (port : Option ℕ) → MatchOption port (◌≡◌ {A = ℕ} 0 0) (λ _. Unit {0})
    by_port None = refl
    by_port (Some port) = tt

-- one quiet step more
pub one_more : (count : ℕ) (old cur new : State) (made : Bool) → RunsQuietly count old cur → made ≡ is_quiet_next cur
    → new ≡ (if made then (step 0 cur).state else cur) → made ≡ true → RunsQuietly (count + 1) old new
one_more count old cur new false r is state is_made = cc
one_more count old cur new true r is state is_made =
    let ran = ran_access (step 0 cur).stepped (sym is) in
    let a = ran.0 in
    record {
      trace = r.trace ++ a ∷ [];
      long = length-append r.trace (a ∷ []) ∙ ap (λ (n : ℕ). n + 1) r.long;
      leads = subst (λ (t : State). LeadsTo old (r.trace ++ a ∷ []) t) (sym state)
          (leads_on old cur r.trace 0 a r.leads ran.1.0 (zero_answers cur));
      quiet = rw (list_all-append is_quiet r.trace (a ∷ []), r.quiet, ran.1.1) refl;
    }
