-- A step reads the port that the machine needs before it, and from it the byte that is answered.
use Rattle.std.proofs.Common.{◌≡◌, ℕ, ◌+◌, ◌%◌, Bool, true, false, not, ◌&&◌, Option, Some, None, refl, ap, ◌∙◌, length, nat_lt}
use Rattle.std.specs.Prelude.{if◌then◌else◌, option_map, option_and_then}
use Rattle.ec_space.specs.declared.space.Bank.TheVariants.{Data as DataBank}
use Rattle.ec_isa.specs.declared.instructions.Instr.{Instr}
use Rattle.ec_isa.specs.declared.instructions.Instr.TheVariants.{LddZ, LddY, StdZ, StdY, Lds, Sts, LdZPlus, LdMinusZ, LdYPlus, LdMinusY}
use Rattle.ec_isa.specs.declared.instructions.Instr.TheVariants.{LdX, LdXPlus, LdMinusX, StZPlus, StMinusZ, StYPlus, StMinusY, StX, StXPlus}
use Rattle.ec_isa.specs.declared.instructions.Instr.TheVariants.{StMinusX, LpmZ, LpmZPlus, Elpm, ElpmInc, Pop, Push, Icall, Ret, Call, In as InInstr}
use Rattle.ec_isa.specs.declared.instructions.Instr.TheVariants.{Out as OutInstr, Rcall}
use Rattle.ec_avr.specs.declared.machine.Access.{Access}
use Rattle.ec_avr.specs.declared.machine.Access.TheVariants.{Silent, In, Out, Read, Write, Stack}
use Rattle.ec_avr.specs.declared.machine.FaultKind.{FaultKind}
use Rattle.ec_avr.specs.declared.machine.FaultKind.TheVariants.{DataOut, PcOut, StackOut, Unsupported}
use Rattle.ec_avr.specs.declared.machine.Stepped.{Stepped}
use Rattle.ec_avr.specs.declared.machine.Stepped.TheVariants.{Ran, Ended, Fault}
use Rattle.ec_avr.specs.State.{State, byte_at, is_core_register, is_sram, pair, with_pair, pointer_x, pointer_y, pointer_z, stack_pointer}
use Rattle.ec_avr.specs.State.{raised, lowered, register, with_register, passed, has_rampz, far_pointer}
use Rattle.ec_avr.specs.Effects.{After, faulted, loaded, stored, load, load_and_raise, lower_and_load, store, store_and_raise}
use Rattle.ec_avr.specs.Effects.{lower_and_store, load_flash, load_flash_and_raise, if_rampz, load_far, load_far_and_raise, push, pop, call, return_from_call, relative}
use Rattle.ec_avr.specs.Machine.{step, effect, instruction_at, load_address, port_at, port_read, read_access, needs_port, is_whole}

-- a load reads the answer where its address is a port
of_load : (core port has : Bool) (at answer old : ℕ) (moved s : State)
    → let byte : ℕ = if port && not core then answer else old in
    let after : After = if has
    then record { stepped = Ran (if core then Silent else (if port then In at byte else Read DataBank at byte)); state = moved }
    else faulted DataOut s in
    read_access after.stepped ≡ option_map (λ (p : ℕ). In p answer) (if (port && not core) && has then Some at else None)
of_load true true true at answer old moved s = refl
of_load true true false at answer old moved s = refl
of_load true false true at answer old moved s = refl
of_load true false false at answer old moved s = refl
of_load false true true at answer old moved s = refl
of_load false true false at answer old moved s = refl
of_load false false true at answer old moved s = refl
of_load false false false at answer old moved s = refl

of_store : (core port has : Bool) (at byte : ℕ) (moved s : State)
    → let after : After = if has
    then record { stepped = Ran (if core then Silent else (if port then Out at byte else Write at byte)); state = moved }
    else faulted DataOut s in
    read_access after.stepped ≡ None
of_store true port true at byte moved s = refl
of_store false true true at byte moved s = refl
of_store false false true at byte moved s = refl
of_store core port false at byte moved s = refl

of_test : (can : Bool) (after : After) (kind : FaultKind) (s : State) → read_access after.stepped ≡ None
    → read_access (if can then after else faulted kind s).stepped ≡ None
of_test true after kind s h = h
of_test false after kind s h = refl

module _ (s : State) where
  of_load_at : (d at answer words : ℕ) → read_access (load d at answer words s).stepped ≡ option_map (λ (p : ℕ). In p answer) (port_at s at)
  of_load_at d at answer words =
      of_load (is_core_register s.core at) (nat_lt at 256) (nat_lt at (length s.mem.data)) at answer (byte_at s at)
      (passed (with_register s d (loaded s at answer)) words) s

  of_load_and_raise : (d pointer answer : ℕ)
      → read_access (load_and_raise d pointer answer s).stepped ≡ option_map (λ (p : ℕ). In p answer) (port_at s (pair s pointer))
  of_load_and_raise d pointer answer =
      let at = pair s pointer in
      of_load (is_core_register s.core at) (nat_lt at 256) (nat_lt at (length s.mem.data)) at answer (byte_at s at)
      (passed (with_pair (with_register s d (loaded s at answer)) pointer (raised at)) 1) s

  of_lower_and_load : (d pointer answer : ℕ)
      → read_access (lower_and_load d pointer answer s).stepped ≡ option_map (λ (p : ℕ). In p answer) (port_at s (lowered (pair s pointer)))
  of_lower_and_load d pointer answer =
      let at = lowered (pair s pointer) in
      let moved = with_pair s pointer at in
      of_load (is_core_register s.core at) (nat_lt at 256) (nat_lt at (length s.mem.data)) at answer (byte_at moved at)
      (passed (with_register moved d (loaded moved at answer)) 1) s

  of_store_at : (at byte words : ℕ) → read_access (store at byte words s).stepped ≡ None
  of_store_at at byte words =
      of_store (is_core_register s.core at) (nat_lt at 256) (nat_lt at (length s.mem.data)) at byte (passed (stored s at byte) words) s

  of_store_and_raise : (pointer byte : ℕ) → read_access (store_and_raise pointer byte s).stepped ≡ None
  of_store_and_raise pointer byte =
      let at = pair s pointer in
      of_store (is_core_register s.core at) (nat_lt at 256) (nat_lt at (length s.mem.data)) at byte
      (passed (with_pair (stored s at byte) pointer (raised at)) 1) s

  of_lower_and_store : (pointer byte : ℕ) → read_access (lower_and_store pointer byte s).stepped ≡ None
  of_lower_and_store pointer byte =
      let at = lowered (pair s pointer) in
      of_store (is_core_register s.core at) (nat_lt at 256) (nat_lt at (length s.mem.data)) at byte
      (passed (stored (with_pair s pointer at) at byte) 1) s

  of_load_flash : (d : ℕ) → read_access (load_flash d s).stepped ≡ None
  of_load_flash d = of_test (nat_lt (pair s pointer_z) (length s.mem.flash)) _ DataOut s refl

  of_load_flash_and_raise : (d : ℕ) → read_access (load_flash_and_raise d s).stepped ≡ None
  of_load_flash_and_raise d = of_test (nat_lt (pair s pointer_z) (length s.mem.flash)) _ DataOut s refl

  of_rampz : (after : State → After) → read_access (after s).stepped ≡ None → read_access (if_rampz after s).stepped ≡ None
  of_rampz after h = of_test (has_rampz s.core) (after s) Unsupported s h

  of_load_far : (d : ℕ) → read_access (load_far d s).stepped ≡ None
  of_load_far d = of_test (nat_lt (far_pointer s) (length s.mem.flash)) _ DataOut s refl

  of_load_far_and_raise : (d : ℕ) → read_access (load_far_and_raise d s).stepped ≡ None
  of_load_far_and_raise d = of_test (nat_lt (far_pointer s) (length s.mem.flash)) _ DataOut s refl

  of_push : (byte : ℕ) → read_access (push byte s).stepped ≡ None
  of_push byte = of_test (is_sram s (stack_pointer s)) _ StackOut s refl

  of_pop : (d : ℕ) → read_access (pop d s).stepped ≡ None
  of_pop d = of_test (is_sram s (raised (stack_pointer s))) _ StackOut s refl

  of_call : (to back : ℕ) → read_access (call to back s).stepped ≡ None
  of_call to back =
      of_test (is_sram s (stack_pointer s) && is_sram s (lowered (stack_pointer s))) _ StackOut s refl

  of_return : read_access (return_from_call s).stepped ≡ None
  of_return =
      of_test (is_sram s (raised (stack_pointer s)) && is_sram s (raised (raised (stack_pointer s)))) _ StackOut s refl

read_by : (i : Option Instr) (answer : ℕ) (s : State)
    → read_access (effect i answer s).stepped ≡ option_map (λ (p : ℕ). In p answer) (option_and_then (port_at s) (load_address i s))
unfolding effect
read_by (Some (LddZ d q)) answer s = of_load_at s d ((pair s pointer_z + q) % 65536) answer 1
read_by (Some (LddY d q)) answer s = of_load_at s d ((pair s pointer_y + q) % 65536) answer 1
read_by (Some (LdX d)) answer s = of_load_at s d (pair s pointer_x) answer 1
read_by (Some (Lds d k)) answer s = of_load_at s d k answer 2
read_by (Some (InInstr d a)) answer s = of_load_at s d (a + 0x20) answer 1
read_by (Some (LdZPlus d)) answer s = of_load_and_raise s d pointer_z answer
read_by (Some (LdYPlus d)) answer s = of_load_and_raise s d pointer_y answer
read_by (Some (LdXPlus d)) answer s = of_load_and_raise s d pointer_x answer
read_by (Some (LdMinusZ d)) answer s = of_lower_and_load s d pointer_z answer
read_by (Some (LdMinusY d)) answer s = of_lower_and_load s d pointer_y answer
read_by (Some (LdMinusX d)) answer s = of_lower_and_load s d pointer_x answer
read_by (Some (StdZ q r)) answer s = of_store_at s ((pair s pointer_z + q) % 65536) (register s r) 1
read_by (Some (StdY q r)) answer s = of_store_at s ((pair s pointer_y + q) % 65536) (register s r) 1
read_by (Some (StX r)) answer s = of_store_at s (pair s pointer_x) (register s r) 1
read_by (Some (Sts k r)) answer s = of_store_at s k (register s r) 2
read_by (Some (OutInstr a r)) answer s = of_store_at s (a + 0x20) (register s r) 1
read_by (Some (StZPlus r)) answer s = of_store_and_raise s pointer_z (register s r)
read_by (Some (StYPlus r)) answer s = of_store_and_raise s pointer_y (register s r)
read_by (Some (StXPlus r)) answer s = of_store_and_raise s pointer_x (register s r)
read_by (Some (StMinusZ r)) answer s = of_lower_and_store s pointer_z (register s r)
read_by (Some (StMinusY r)) answer s = of_lower_and_store s pointer_y (register s r)
read_by (Some (StMinusX r)) answer s = of_lower_and_store s pointer_x (register s r)
read_by (Some (LpmZ d)) answer s = of_load_flash s d
read_by (Some (LpmZPlus d)) answer s = of_load_flash_and_raise s d
read_by (Some (Elpm d)) answer s = of_rampz s (load_far d) (of_load_far s d)
read_by (Some (ElpmInc d)) answer s = of_rampz s (load_far_and_raise d) (of_load_far_and_raise s d)
read_by (Some (Push r)) answer s = of_push s (register s r)
read_by (Some (Pop d)) answer s = of_pop s d
read_by (Some (Call k)) answer s = of_call s k (s.pc + 2)
read_by (Some (Rcall k)) answer s = of_call s (relative s.pc k) (s.pc + 1)
read_by (Some Icall) answer s = of_call s (pair s pointer_z) (s.pc + 1)
read_by (Some Ret) answer s = of_return s
read_by _ answer s = refl

when_whole : (whole : Bool) (i : Option Instr) (answer : ℕ) (s : State)
    → read_access (if whole then effect i answer s else faulted PcOut s).stepped
    ≡ option_map (λ (p : ℕ). In p answer) (if whole then option_and_then (port_at s) (load_address i s) else None)
when_whole true i answer s = read_by i answer s
when_whole false i answer s = refl

-- the read of a port that a step makes is one of the port that the machine needs before it, and gives the answer
pub read_access-step : (answer : ℕ) (s : State) → read_access (step answer s).stepped ≡ option_map (λ (p : ℕ). In p answer) (needs_port s)
unfolding step
read_access-step answer s = when_whole (is_whole s) (instruction_at s s.pc) answer s

-- the port of an access
abbrev port_of : Option Access → Option ℕ
port_of (Some (In port byte)) = Some port
port_of _ = None

port_of-access : (x : Stepped) → port_read x ≡ port_of (read_access x)
port_of-access (Ran Silent) = refl
port_of-access (Ran (In port byte)) = refl
port_of-access (Ran (Out port byte)) = refl
port_of-access (Ran (Read bank at byte)) = refl
port_of-access (Ran (Write at byte)) = refl
port_of-access (Ran Stack) = refl
port_of-access Ended = refl
port_of-access (Fault kind pc) = refl

port_of-needed : (answer : ℕ) (port : Option ℕ) → port_of (option_map (λ (p : ℕ). In p answer) port) ≡ port
port_of-needed answer None = refl
port_of-needed answer (Some port) = refl

pub port_read-step : (answer : ℕ) (s : State) → port_read (step answer s).stepped ≡ needs_port s
port_read-step answer s = port_of-access (step answer s).stepped ∙ ap port_of (read_access-step answer s)
    ∙ port_of-needed answer (needs_port s)
