-- Which bytes of the stack a step pushes to or pops from.
use Rattle.std.proofs.Common.{◌≡◌, ◌≢◌, ℕ, zero, suc, ◌+◌, ◌*◌, ◌%◌, ◌/◌, ◌<◌, ◌≤◌, Bool, true, false, ◌&&◌, List, [], ◌∷◌, Option, Some}
use Rattle.std.proofs.Common.{None, length, refl, sym, ap, ◌∙◌, nat_lt, arith}
use Rattle.std.specs.Prelude.{IsTrue, if◌then◌else◌, All}
use Rattle.std.proofs.lemmas.Bool.{and_parts, ltb-true}
use Rattle.std.proofs.lemmas.List.{get_or-set_other}
use Rattle.ec_isa.specs.declared.instructions.Instr.{Instr}
use Rattle.ec_isa.specs.declared.instructions.Instr.TheVariants.{LddZ, LddY, StdZ, StdY, Lds, Sts, LdZPlus, LdMinusZ, LdYPlus, LdMinusY}
use Rattle.ec_isa.specs.declared.instructions.Instr.TheVariants.{LdX, LdXPlus, LdMinusX, StZPlus, StMinusZ, StYPlus, StMinusY, StX, StXPlus}
use Rattle.ec_isa.specs.declared.instructions.Instr.TheVariants.{StMinusX, LpmZ, LpmZPlus, Elpm, ElpmInc, Pop, Push, Icall, Ret, Call, In as InInstr}
use Rattle.ec_isa.specs.declared.instructions.Instr.TheVariants.{Out as OutInstr, Rcall}
use Rattle.ec_isa.specs.Table.{in_table}
use Rattle.ec_isa.proofs.InstructionAt.{instruction_is}
use Rattle.ec_avr.specs.declared.machine.Access.{Access}
use Rattle.ec_avr.specs.declared.machine.Access.TheVariants.{Silent, In, Out, Read, Write, Stack}
use Rattle.ec_avr.specs.declared.machine.FaultKind.TheVariants.{DataOut, PcOut, StackOut, Unsupported}
use Rattle.ec_avr.specs.declared.machine.Stepped.{Stepped}
use Rattle.ec_avr.specs.declared.machine.Stepped.TheVariants.{Ran}
use Rattle.ec_space.specs.declared.space.Bank.TheVariants.{Flash as FlashBank, Data as DataBank}
use Rattle.ec_avr.specs.State.{State, word_at, byte_at, with_byte, register, with_register, pair, with_pair, pointer_x, pointer_y}
use Rattle.ec_avr.specs.State.{pointer_z, stack_pointer, with_stack_pointer, is_core_register, is_sram, raised, lowered, with_pc, passed, has_rampz}
use Rattle.ec_avr.specs.State.{far_pointer}
use Rattle.ec_avr.specs.Effects.{After, faulted, loaded, stored, load, load_and_raise, lower_and_load, store, store_and_raise}
use Rattle.ec_avr.specs.Effects.{lower_and_store, load_flash, load_flash_and_raise, load_far, load_far_and_raise, if_rampz, push, pop, call, return_from_call, relative, effect}
use Rattle.ec_avr.specs.Effects.{instruction_at}
use Rattle.ec_avr.specs.Machine.{step, is_whole}
use Rattle.ec_avr.specs.Placed.{stack_bytes, stack_bytes_of}
use Rattle.ec_avr.specs.Laws.{StackIsInside, OthersLeaveTheStack, PushesThereAlone}

abbrev is_stack : Stepped → Bool
is_stack (Ran Stack) = true
is_stack _ = false

-- the bytes of the SRAM that are none of these stay
abbrev StaysBut : List ℕ → State → State → Type 0
StaysBut bytes s t = (at : ℕ) → 256 ≤ at → All (λ byte. byte ≢ at) bytes → byte_at t at ≡ byte_at s at

-- a step that accesses no stack, and one that pushes to these bytes or pops from them where they lie in the SRAM
data StackStep (s : State) : After → List ℕ → Type 0 where
  apart : (x : After) → is_stack x.stepped ≡ false → StackStep s x []
  there : (can : Bool) (t : State) (bytes : List ℕ) → (IsTrue can → All (λ at. IsTrue (is_sram s at)) bytes) → StaysBut bytes s t
      → StackStep s (if can then record { stepped = Ran Stack; state = t } else faulted StackOut s) bytes

-- ---- steps that access no stack

of_load : (core port has : Bool) (at byte : ℕ) (moved s : State)
    → let after : After = if has
    then record { stepped = Ran (if core then Silent else (if port then In at byte else Read DataBank at byte)); state = moved }
    else faulted DataOut s in
    is_stack after.stepped ≡ false
of_load true port true at byte moved s = refl
of_load false true true at byte moved s = refl
of_load false false true at byte moved s = refl
of_load core port false at byte moved s = refl

of_store : (core port has : Bool) (at byte : ℕ) (moved s : State)
    → let after : After = if has
    then record { stepped = Ran (if core then Silent else (if port then Out at byte else Write at byte)); state = moved }
    else faulted DataOut s in
    is_stack after.stepped ≡ false
of_store true port true at byte moved s = refl
of_store false true true at byte moved s = refl
of_store false false true at byte moved s = refl
of_store core port false at byte moved s = refl

of_flash : (has : Bool) (at byte : ℕ) (moved s : State)
    → let after : After = if has then record { stepped = Ran (Read FlashBank at byte); state = moved } else faulted DataOut s in
    is_stack after.stepped ≡ false
of_flash true at byte moved s = refl
of_flash false at byte moved s = refl

of_far : (has inside : Bool) (at byte : ℕ) (moved s : State)
    → let after : After = if inside then record { stepped = Ran (Read FlashBank at byte); state = moved } else faulted DataOut s in
    is_stack (if has then after else faulted Unsupported s).stepped ≡ false
of_far true true at byte moved s = refl
of_far true false at byte moved s = refl
of_far false inside at byte moved s = refl

module _ (s : State) where
  of_load_at : (d at answer words : ℕ) → StackStep s (load d at answer words s) []
  of_load_at d at answer words =
      apart _ (of_load (is_core_register s.core at) (nat_lt at 256) (nat_lt at (length s.mem.data)) at (loaded s at answer)
      (passed (with_register s d (loaded s at answer)) words) s)

  of_load_and_raise : (d pointer answer : ℕ) → StackStep s (load_and_raise d pointer answer s) []
  of_load_and_raise d pointer answer =
      let at = pair s pointer in
      apart _ (of_load (is_core_register s.core at) (nat_lt at 256) (nat_lt at (length s.mem.data)) at (loaded s at answer)
      (passed (with_pair (with_register s d (loaded s at answer)) pointer (raised at)) 1) s)

  of_lower_and_load : (d pointer answer : ℕ) → StackStep s (lower_and_load d pointer answer s) []
  of_lower_and_load d pointer answer =
      let at = lowered (pair s pointer) in
      let moved = with_pair s pointer at in
      apart _ (of_load (is_core_register s.core at) (nat_lt at 256) (nat_lt at (length s.mem.data)) at (loaded moved at answer)
      (passed (with_register moved d (loaded moved at answer)) 1) s)

  of_store_at : (at byte words : ℕ) → StackStep s (store at byte words s) []
  of_store_at at byte words =
      apart _ (of_store (is_core_register s.core at) (nat_lt at 256) (nat_lt at (length s.mem.data)) at byte (passed (stored s at byte) words) s)

  of_store_and_raise : (pointer byte : ℕ) → StackStep s (store_and_raise pointer byte s) []
  of_store_and_raise pointer byte =
      let at = pair s pointer in
      apart _ (of_store (is_core_register s.core at) (nat_lt at 256) (nat_lt at (length s.mem.data)) at byte
      (passed (with_pair (stored s at byte) pointer (raised at)) 1) s)

  of_lower_and_store : (pointer byte : ℕ) → StackStep s (lower_and_store pointer byte s) []
  of_lower_and_store pointer byte =
      let at = lowered (pair s pointer) in
      apart _ (of_store (is_core_register s.core at) (nat_lt at 256) (nat_lt at (length s.mem.data)) at byte
      (passed (stored (with_pair s pointer at) at byte) 1) s)

  of_load_flash : (d : ℕ) → StackStep s (load_flash d s) []
  of_load_flash d = apart _ (of_flash (nat_lt (pair s pointer_z) (length s.mem.flash)) _ _ _ s)

  of_load_flash_and_raise : (d : ℕ) → StackStep s (load_flash_and_raise d s) []
  of_load_flash_and_raise d = apart _ (of_flash (nat_lt (pair s pointer_z) (length s.mem.flash)) _ _ _ s)

  of_load_far : (d : ℕ) → StackStep s (if_rampz (load_far d) s) []
  of_load_far d = apart _ (of_far (has_rampz s.core) (nat_lt (far_pointer s) (length s.mem.flash)) _ _ _ s)

  of_load_far_and_raise : (d : ℕ) → StackStep s (if_rampz (load_far_and_raise d) s) []
  of_load_far_and_raise d = apart _ (of_far (has_rampz s.core) (nat_lt (far_pointer s) (length s.mem.flash)) _ _ _ s)

-- ---- steps that access it

-- a write elsewhere
stays_at : (s : State) (place byte at : ℕ) → at ≢ place → byte_at (with_byte s place byte) at ≡ byte_at s at
stays_at s place byte at other = get_or-set_other s.mem.data place at byte 0 other

-- the stack pointer lies below the SRAM
stays_at_pointer : (s : State) (n at : ℕ) → 256 ≤ at → byte_at (with_stack_pointer s n) at ≡ byte_at s at
stays_at_pointer s n at high =
    stays_at (with_byte s 0x5D (n % 256)) 0x5E (n / 256) at (omega arith) ∙ stays_at s 0x5D (n % 256) at (omega arith)

all_one : (P : ℕ → Type 0) (a : ℕ) → P a → All P (a ∷ [])
all_one P a p zero d inside = p
all_one P a p (suc i) d inside = absurd (omega arith)

all_two : (P : ℕ → Type 0) (a b : ℕ) → P a → P b → All P (a ∷ b ∷ [])
all_two P a b p q zero d inside = p
all_two P a b p q (suc zero) d inside = q
all_two P a b p q (suc (suc i)) d inside = absurd (omega arith)

module _ (s : State) where
  of_push : (byte : ℕ) → StackStep s (push byte s) (stack_pointer s ∷ [])
  of_push byte =
      let first = stack_pointer s in
      there (is_sram s first) (passed (with_stack_pointer (with_byte s first byte) (lowered first)) 1) (first ∷ [])
      (λ can. all_one (λ at. IsTrue (is_sram s at)) first can)
      (λ at high others. stays_at_pointer (with_byte s first byte) (lowered first) at high
      ∙ stays_at s first byte at (λ e. others 0 0 (omega arith) (sym e)))

  of_pop : (d : ℕ) → d < 32 → StackStep s (pop d s) (raised (stack_pointer s) ∷ [])
  of_pop d small =
      let first = raised (stack_pointer s) in
      there (is_sram s first) (passed (with_stack_pointer (with_register s d (byte_at s first)) first) 1) (first ∷ [])
      (λ can. all_one (λ at. IsTrue (is_sram s at)) first can)
      (λ at high others. stays_at_pointer (with_register s d (byte_at s first)) first at high
      ∙ stays_at s d (byte_at s first) at (omega arith))

  of_call : (to back : ℕ) → StackStep s (call to back s) (stack_pointer s ∷ lowered (stack_pointer s) ∷ [])
  of_call to back =
      let first = stack_pointer s in
      let second = lowered first in
      let low = with_byte s first (back % 256) in
      let pushed = with_byte low second (back / 256 % 256) in
      there (is_sram s first && is_sram s second) (with_pc (with_stack_pointer pushed (lowered second)) to) (first ∷ second ∷ [])
      (λ can. let p = and_parts (is_sram s first) (is_sram s second) can in all_two (λ at. IsTrue (is_sram s at)) first second p.0 p.1)
      (λ at high others.
      stays_at_pointer pushed (lowered second) at high ∙ stays_at low second (back / 256 % 256) at (λ e. others 1 0 (omega arith) (sym e))
      ∙ stays_at s first (back % 256) at (λ e. others 0 0 (omega arith) (sym e)))

  of_return : StackStep s (return_from_call s) (raised (stack_pointer s) ∷ raised (raised (stack_pointer s)) ∷ [])
  of_return =
      let first = raised (stack_pointer s) in
      let second = raised first in
      there (is_sram s first && is_sram s second) (with_pc (with_stack_pointer s second) (256 * byte_at s first + byte_at s second))
      (first ∷ second ∷ [])
      (λ can. let p = and_parts (is_sram s first) (is_sram s second) can in all_two (λ at. IsTrue (is_sram s at)) first second p.0 p.1)
      (λ at high others. stays_at_pointer s second at high)

-- ---- the table

of_effect : (i : Instr) → IsTrue (in_table i) → (answer : ℕ) (s : State)
    → StackStep s (effect (Some i) answer s) (stack_bytes_of (Some i) s)
unfolding effect
of_effect (LddZ d q) t answer s = of_load_at s d ((pair s pointer_z + q) % 65536) answer 1
of_effect (LddY d q) t answer s = of_load_at s d ((pair s pointer_y + q) % 65536) answer 1
of_effect (LdX d) t answer s = of_load_at s d (pair s pointer_x) answer 1
of_effect (Lds d k) t answer s = of_load_at s d k answer 2
of_effect (InInstr d a) t answer s = of_load_at s d (a + 0x20) answer 1
of_effect (LdZPlus d) t answer s = of_load_and_raise s d pointer_z answer
of_effect (LdYPlus d) t answer s = of_load_and_raise s d pointer_y answer
of_effect (LdXPlus d) t answer s = of_load_and_raise s d pointer_x answer
of_effect (LdMinusZ d) t answer s = of_lower_and_load s d pointer_z answer
of_effect (LdMinusY d) t answer s = of_lower_and_load s d pointer_y answer
of_effect (LdMinusX d) t answer s = of_lower_and_load s d pointer_x answer
of_effect (StdZ q r) t answer s = of_store_at s ((pair s pointer_z + q) % 65536) (register s r) 1
of_effect (StdY q r) t answer s = of_store_at s ((pair s pointer_y + q) % 65536) (register s r) 1
of_effect (StX r) t answer s = of_store_at s (pair s pointer_x) (register s r) 1
of_effect (Sts k r) t answer s = of_store_at s k (register s r) 2
of_effect (OutInstr a r) t answer s = of_store_at s (a + 0x20) (register s r) 1
of_effect (StZPlus r) t answer s = of_store_and_raise s pointer_z (register s r)
of_effect (StYPlus r) t answer s = of_store_and_raise s pointer_y (register s r)
of_effect (StXPlus r) t answer s = of_store_and_raise s pointer_x (register s r)
of_effect (StMinusZ r) t answer s = of_lower_and_store s pointer_z (register s r)
of_effect (StMinusY r) t answer s = of_lower_and_store s pointer_y (register s r)
of_effect (StMinusX r) t answer s = of_lower_and_store s pointer_x (register s r)
of_effect (LpmZ d) t answer s = of_load_flash s d
of_effect (LpmZPlus d) t answer s = of_load_flash_and_raise s d
of_effect (Elpm d) t answer s = of_load_far s d
of_effect (ElpmInc d) t answer s = of_load_far_and_raise s d
of_effect (Push r) t answer s = of_push s (register s r)
of_effect (Pop d) t answer s = of_pop s d (ltb-true d 32 t)
of_effect (Call k) t answer s = of_call s k (s.pc + 2)
of_effect (Rcall k) t answer s = of_call s (relative s.pc k) (s.pc + 1)
of_effect Icall t answer s = of_call s (pair s pointer_z) (s.pc + 1)
of_effect Ret t answer s = of_return s
of_effect _ t answer s = apart _ refl

of_step : (answer : ℕ) (s : State) → StackStep s (step answer s) (stack_bytes s)
unfolding step effect
of_step answer s = by_test (is_whole s) (by_table (instruction_at s s.pc) refl)
  where
    by_table : (i : Option Instr) → instruction_at s s.pc ≡ i → StackStep s (effect i answer s) (stack_bytes_of i s)
    by_table None e = apart _ refl
    by_table (Some i) e = of_effect i ((instruction_is i (word_at s s.pc) (word_at s (s.pc + 1))).0 e).in_range answer s

    by_test : (b : Bool) → StackStep s (effect (instruction_at s s.pc) answer s) (stack_bytes_of (instruction_at s s.pc) s)
        → StackStep s (if b then effect (instruction_at s s.pc) answer s else faulted PcOut s)
        (if b then stack_bytes_of (instruction_at s s.pc) s else [])
    by_test true h = h
    by_test false h = apart _ refl

-- ---- the laws

inside_of : (s : State) (x : After) (bytes : List ℕ) → StackStep s x bytes → x.stepped ≡ Ran Stack → All (λ at. IsTrue (is_sram s at)) bytes
inside_of s x _ (apart _ quiet) ran = let clash : true ≡ false = sym (ap is_stack ran) ∙ quiet in cc
inside_of s _ bytes (there true t _ inside stays) ran = inside refl
inside_of s _ bytes (there false t _ inside stays) ran = cc

pub stack_is_inside : StackIsInside
stack_is_inside answer s ran = inside_of s (step answer s) (stack_bytes s) (of_step answer s) ran

none_of : (s : State) (x : After) (bytes : List ℕ) (a : Access) → StackStep s x bytes → x.stepped ≡ Ran a → a ≢ Stack → bytes ≡ []
none_of s x _ a (apart _ quiet) ran other = refl
none_of s _ bytes a (there true t _ inside stays) ran other = absurd (other cc)
none_of s _ bytes a (there false t _ inside stays) ran other = cc

pub others_leave_the_stack : OthersLeaveTheStack
others_leave_the_stack answer s a ran other = none_of s (step answer s) (stack_bytes s) a (of_step answer s) ran other

stays_of : (s : State) (x : After) (bytes : List ℕ) → StackStep s x bytes → x.stepped ≡ Ran Stack → StaysBut bytes s x.state
stays_of s x _ (apart _ quiet) ran = let clash : true ≡ false = sym (ap is_stack ran) ∙ quiet in cc
stays_of s _ bytes (there true t _ inside stays) ran = stays
stays_of s _ bytes (there false t _ inside stays) ran = cc

pub pushes_there_alone : PushesThereAlone
pushes_there_alone answer s at ran high others = stays_of s (step answer s) (stack_bytes s) (of_step answer s) ran at high others
