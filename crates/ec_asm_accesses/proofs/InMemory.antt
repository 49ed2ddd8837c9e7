-- All loads and stores of a run are of addresses in memory.
use Rattle.std.proofs.Common.{◌≡◌, ℕ, zero, suc, ◌+◌, ◌%◌, ◌<◌, Bool, true, false, ◌&&◌, List, [], ◌∷◌, refl, sym, subst, Option, Some}
use Rattle.std.proofs.Common.{None, length}
use Rattle.std.specs.Prelude.{if◌then◌else◌, nat_lt, ⊤}
use Rattle.std.specs.List.{AllByRecursion}
use Rattle.std.proofs.lemmas.Bool.{ltb-true, ltb-false}
use Rattle.ec_space.specs.Memory.{Memory}
use Rattle.ec_space.specs.declared.space.Bank.TheVariants.{Flash as FlashBank, Data as DataBank}
use Rattle.ec_isa.specs.declared.instructions.Instr.{Instr}
use Rattle.ec_isa.specs.declared.instructions.Instr.TheVariants.{LddZ, LddY, StdZ, StdY, Lds, Sts, LdX, StX, LpmZ, LdXPlus, LdZPlus}
use Rattle.ec_isa.specs.declared.instructions.Instr.TheVariants.{StXPlus, StZPlus, LpmZPlus, Elpm, ElpmInc, Pop, Push, In as InInstr, Out as OutInstr}
use Rattle.ec_isa.specs.declared.instructions.Instr.TheVariants.{Call, Ret, Rcall, LdMinusZ, LdYPlus, LdMinusY, LdMinusX, StMinusZ, StYPlus}
use Rattle.ec_isa.specs.declared.instructions.Instr.TheVariants.{StMinusY, StMinusX, Icall}
use Rattle.ec_avr.specs.declared.machine.Access.{Access}
use Rattle.ec_avr.specs.declared.machine.Access.TheVariants.{Silent, In, Out, Read, Write, Stack}
use Rattle.ec_avr.specs.declared.machine.FaultKind.TheVariants.{PcOut, DataOut, StackOut, Unsupported}
use Rattle.ec_avr.specs.declared.machine.Stepped.{Stepped}
use Rattle.ec_avr.specs.declared.machine.Stepped.TheVariants.{Ran, Ended as MEnded, Fault}
use Rattle.ec_avr.specs.Effects.{After, faulted, effect, instruction_at, load_access, store_access}
use Rattle.ec_avr.specs.Inputs.{trace_of}
use Rattle.ec_avr.specs.Laws.{StepKeeps}
use Rattle.ec_avr.specs.Machine.{State, Run, machine, continued, is_whole, step, answer_of, inputs_after, needs_port, Keeps}
use Rattle.ec_avr.specs.State.{is_core_register, is_sram, raised, lowered, stack_pointer, pair, has_rampz, far_pointer}
use Rattle.ec_space.specs.declared.Core.{Core}
use Rattle.ec_asm_accesses.specs.Allowed.{IsInMemory, AccessesAreInMemory}
use Rattle.ec_asm_accesses.proofs.Allowed.{trace_preceded}

-- ---- a step

abbrev IsStepIn : Memory → Stepped → Type 0
IsStepIn m (Ran a) = IsInMemory m a
IsStepIn m MEnded = ⊤
IsStepIn m (Fault kind pc) = ⊤

load_in : (core : Core) (m : Memory) (a byte : ℕ) → nat_lt a (length m.data) ≡ true → IsInMemory m (load_access core a byte)
load_in core m a byte inside = by_tests (is_core_register core a) (nat_lt a 256) refl where
  by_tests : (b c : Bool) → nat_lt a 256 ≡ c → IsInMemory m (if b then Silent else (if c then In a byte else Read DataBank a byte))
  by_tests true c low = tt
  by_tests false true low = tt
  by_tests false false low = (ltb-false a 256 low, ltb-true a (length m.data) inside)

store_in : (core : Core) (m : Memory) (a byte : ℕ) → nat_lt a (length m.data) ≡ true → IsInMemory m (store_access core a byte)
store_in core m a byte inside = by_tests (is_core_register core a) (nat_lt a 256) refl where
  by_tests : (b c : Bool) → nat_lt a 256 ≡ c → IsInMemory m (if b then Silent else (if c then Out a byte else Write a byte))
  by_tests true c low = tt
  by_tests false true low = tt
  by_tests false false low = (ltb-false a 256 low, ltb-true a (length m.data) inside)

-- an access that is made under a test
where_in : (m : Memory) (b : Bool) (x y : After) → (b ≡ true → IsStepIn m x.stepped) → IsStepIn m y.stepped
    → IsStepIn m (if b then x else y).stepped
where_in m true x y f g = f refl
where_in m false x y f g = g

module _ (s : State) where
  loads : (a byte : ℕ) (t : State) → IsStepIn s.mem (if nat_lt a (length s.mem.data)
      then record { stepped = Ran (load_access s.core a byte); state = t } else faulted DataOut s).stepped
  loads a byte t = where_in s.mem (nat_lt a (length s.mem.data)) _ _ (load_in s.core s.mem a byte) tt

  stores : (a byte : ℕ) (t : State) → IsStepIn s.mem (if nat_lt a (length s.mem.data)
      then record { stepped = Ran (store_access s.core a byte); state = t } else faulted DataOut s).stepped
  stores a byte t = where_in s.mem (nat_lt a (length s.mem.data)) _ _ (store_in s.core s.mem a byte) tt

  flash_loads : (a byte : ℕ) (t : State) → IsStepIn s.mem (if nat_lt a (length s.mem.flash)
      then record { stepped = Ran (Read FlashBank a byte); state = t } else faulted DataOut s).stepped
  flash_loads a byte t = where_in s.mem (nat_lt a (length s.mem.flash)) _ _ (ltb-true a (length s.mem.flash)) tt

  far_loads : (a byte : ℕ) (t : State)
      → (let inside : After =
      (if nat_lt a (length s.mem.flash) then record { stepped = Ran (Read FlashBank a byte); state = t } else faulted DataOut s) in
      IsStepIn s.mem (if has_rampz s.core then inside else faulted Unsupported s).stepped)
  far_loads a byte t = where_in s.mem (has_rampz s.core) _ _ (λ q. flash_loads a byte t) tt

  stacks : (b : Bool) (t : State) → IsStepIn s.mem (if b then record { stepped = Ran Stack; state = t } else faulted StackOut s).stepped
  stacks b t = where_in s.mem b _ _ (λ q. tt) tt

  effect_in : (i : Instr) (answer : ℕ) → IsStepIn s.mem (effect (Some i) answer s).stepped
  unfolding effect
  effect_in (Lds d k) answer = loads k _ _
  effect_in (InInstr d a) answer = loads (a + 0x20) _ _
  effect_in (LddZ d q) answer = loads ((pair s 30 + q) % 65536) _ _
  effect_in (LddY d q) answer = loads ((pair s 28 + q) % 65536) _ _
  effect_in (LdX d) answer = loads (pair s 26) _ _
  effect_in (LdXPlus d) answer = loads (pair s 26) _ _
  effect_in (LdYPlus d) answer = loads (pair s 28) _ _
  effect_in (LdZPlus d) answer = loads (pair s 30) _ _
  effect_in (LdMinusX d) answer = loads (lowered (pair s 26)) _ _
  effect_in (LdMinusY d) answer = loads (lowered (pair s 28)) _ _
  effect_in (LdMinusZ d) answer = loads (lowered (pair s 30)) _ _
  effect_in (Sts k r) answer = stores k _ _
  effect_in (OutInstr a r) answer = stores (a + 0x20) _ _
  effect_in (StdZ q r) answer = stores ((pair s 30 + q) % 65536) _ _
  effect_in (StdY q r) answer = stores ((pair s 28 + q) % 65536) _ _
  effect_in (StX r) answer = stores (pair s 26) _ _
  effect_in (StXPlus r) answer = stores (pair s 26) _ _
  effect_in (StYPlus r) answer = stores (pair s 28) _ _
  effect_in (StZPlus r) answer = stores (pair s 30) _ _
  effect_in (StMinusX r) answer = stores (lowered (pair s 26)) _ _
  effect_in (StMinusY r) answer = stores (lowered (pair s 28)) _ _
  effect_in (StMinusZ r) answer = stores (lowered (pair s 30)) _ _
  effect_in (LpmZ d) answer = flash_loads (pair s 30) _ _
  effect_in (LpmZPlus d) answer = flash_loads (pair s 30) _ _
  effect_in (Elpm d) answer = far_loads (far_pointer s) _ _
  effect_in (ElpmInc d) answer = far_loads (far_pointer s) _ _
  effect_in (Push r) answer = stacks (is_sram s (stack_pointer s)) _
  effect_in (Pop d) answer = stacks (is_sram s (raised (stack_pointer s))) _
  effect_in (Call k) answer = stacks (is_sram s (stack_pointer s) && is_sram s (lowered (stack_pointer s))) _
  effect_in (Rcall k) answer = stacks (is_sram s (stack_pointer s) && is_sram s (lowered (stack_pointer s))) _
  effect_in Icall answer = stacks (is_sram s (stack_pointer s) && is_sram s (lowered (stack_pointer s))) _
  effect_in Ret answer = stacks (is_sram s (raised (stack_pointer s)) && is_sram s (raised (raised (stack_pointer s)))) _
  effect_in _ answer = tt

  any_in : (o : Option Instr) (answer : ℕ) → IsStepIn s.mem (effect o answer s).stepped
  unfolding effect
  any_in None answer = tt
  any_in (Some i) answer = effect_in i answer

  step_in : (answer : ℕ) → IsStepIn s.mem (step answer s).stepped
  unfolding step
  step_in answer =
      where_in s.mem (is_whole s) (effect (instruction_at s s.pc) answer s) (faulted PcOut s)
      (λ q. any_in (instruction_at s s.pc) answer) tt

-- ---- runs

-- memory keeps its sizes
same_memory : (old new : State) → Keeps old new → (a : Access) → IsInMemory new.mem a → IsInMemory old.mem a
same_memory old new k Silent h = tt
same_memory old new k (In port byte) h = tt
same_memory old new k (Out port byte) h = tt
same_memory old new k (Read DataBank at byte) h = (h.0, subst (λ n. at < n) k.size h.1)
same_memory old new k (Read FlashBank at byte) h = subst (λ (l : List ℕ). at < length l) k.flash h
same_memory old new k (Write at byte) h = (h.0, subst (λ n. at < n) k.size h.1)
same_memory old new k Stack h = tt

all_same : (old new : State) → Keeps old new → (trace : List Access) → AllByRecursion (IsInMemory new.mem) trace
    → AllByRecursion (IsInMemory old.mem) trace
all_same old new k [] h = tt
all_same old new k (a ∷ trace) h = (same_memory old new k a h.0, all_same old new k trace h.1)

first_in : (m : Memory) (rest : State → Run) (did : Stepped) (t : State) → IsStepIn m did
    → AllByRecursion (IsInMemory m) (trace_of (rest t))
    → AllByRecursion (IsInMemory m) (trace_of (continued rest did t))
first_in m rest (Ran a) t ok more = subst (AllByRecursion (IsInMemory m)) (sym (trace_preceded a (rest t))) (ok, more)
first_in m rest MEnded t ok more = tt
first_in m rest (Fault kind pc) t ok more = tt

pub accesses_are_in_memory : StepKeeps → AccessesAreInMemory
unfolding machine
accesses_are_in_memory keeps zero inputs s = tt
accesses_are_in_memory keeps (suc k) inputs s =
    let answer = answer_of inputs (needs_port s) in
    let next = step answer s in
    first_in s.mem (machine k (inputs_after inputs (needs_port s))) next.stepped next.state (step_in s answer)
    (all_same s next.state (keeps answer s) (trace_of (machine k (inputs_after inputs (needs_port s)) next.state))
    (accesses_are_in_memory keeps k (inputs_after inputs (needs_port s)) next.state))
