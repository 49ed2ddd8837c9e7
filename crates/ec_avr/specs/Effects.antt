-- What each instruction does (Microchip AVR Instruction Set Manual): first the families, and then the table.
use Rattle.std.specs.Prelude.{ℕ, ◌+◌, ◌-◌, ◌*◌, ◌/◌, ◌%◌, ◌==◌, nat_lt, Bool, true, false, ◌&&◌, length, slice_index}
use Rattle.std.specs.Prelude.{if◌then◌else◌, ℤ, pos, negsuc, Option, Some, None, bit_and, bit_or, bit_xor}
use Rattle.std.specs.Int.{bit_at}
use Rattle.ec_space.specs.declared.space.Bank.TheVariants.{Flash as FlashBank, Data as DataBank}
use Rattle.ec_isa.specs.declared.instructions.Instr.{Instr}
use Rattle.ec_isa.specs.declared.instructions.Instr.TheVariants.{Nop, Movw, Cpc, Sbc, Add, Cpse, Cp, Sub, Adc, And, Eor}
use Rattle.ec_isa.specs.declared.instructions.Instr.TheVariants.{Or, Mov, Mul, Cpi, Sbci, Subi, Ori, Andi, Ldi, LddZ}
use Rattle.ec_isa.specs.declared.instructions.Instr.TheVariants.{LddY, StdZ, StdY, Lds, Sts, LdZPlus, LdMinusZ, LdYPlus}
use Rattle.ec_isa.specs.declared.instructions.Instr.TheVariants.{LdMinusY, LdX, LdXPlus, LdMinusX, StZPlus, StMinusZ}
use Rattle.ec_isa.specs.declared.instructions.Instr.TheVariants.{StYPlus, StMinusY, StX, StXPlus, StMinusX, LpmZ}
use Rattle.ec_isa.specs.declared.instructions.Instr.TheVariants.{LpmZPlus, Elpm, ElpmInc, Pop, Push, Com, Neg, Swap, Inc, Asr, Lsr}
use Rattle.ec_isa.specs.declared.instructions.Instr.TheVariants.{Ror, Dec, Bset, Bclr, Ijmp, Icall, Ret, Break, Jmp}
use Rattle.ec_isa.specs.declared.instructions.Instr.TheVariants.{Call, Adiw, Sbiw, In as InInstr, Out as OutInstr, Rjmp}
use Rattle.ec_isa.specs.declared.instructions.Instr.TheVariants.{Rcall, Brbs, Brbc, Bld, Bst, Sbrc, Sbrs}
use Rattle.ec_isa.specs.Reading.{instruction_at as decoded}
use Rattle.ec_avr.specs.declared.machine.Access.{Access}
use Rattle.ec_avr.specs.declared.machine.Access.TheVariants.{Silent, In, Out, Read, Write, Stack}
use Rattle.ec_avr.specs.declared.machine.FaultKind.{FaultKind}
use Rattle.ec_avr.specs.declared.machine.FaultKind.TheVariants.{Unsupported, DataOut, StackOut}
use Rattle.ec_avr.specs.declared.machine.Stepped.{Stepped}
use Rattle.ec_avr.specs.declared.machine.Stepped.TheVariants.{Ran, Ended, Fault}
use Rattle.ec_avr.specs.State.{State, word_at, byte_at, with_byte, register, with_register, pair, with_pair, pointer_x}
use Rattle.ec_avr.specs.State.{pointer_y, pointer_z, far_pointer, with_far_pointer, raised_far, stack_pointer, with_stack_pointer, sreg}
use Rattle.ec_avr.specs.State.{with_sreg, flag, has_rampz, is_core_register, is_port, is_sram, raised, lowered, with_pc}
use Rattle.ec_avr.specs.State.{passed}
use Rattle.ec_space.specs.declared.Core.{Core}
use Rattle.ec_avr.specs.Flags.{with_bit, byte_sum, sum_flags, byte_difference, difference_flags, logic_flags}
use Rattle.ec_avr.specs.Flags.{complement_flags, count_flags, shifted, shift_flags, pair_sum, pair_sum_flags}
use Rattle.ec_avr.specs.Flags.{pair_difference, pair_difference_flags, product_flags}

-- what a step did, and the state after it
pub record After : Type 0 where
  pub stepped : Stepped
  pub state : State

-- the step cannot be made, and nothing changes
abbrev pub faulted : FaultKind → State → After
faulted kind s = record { stepped = Fault kind s.pc; state = s }

-- a step that accesses nothing but the core's own registers, and goes on to the next instruction
abbrev pub silent : State → After
silent s = record { stepped = Ran Silent; state = passed s 1 }

-- ---- arithmetic and logic

-- register Rd plus y and the carry
abbrev pub sum_into : (d y carry : ℕ) → State → After
sum_into d y carry s =
    silent (with_sreg (with_register s d (byte_sum (register s d) y carry)) (sum_flags (sreg s) (register s d) y carry))

-- x less y and the borrow, into register Rd
abbrev pub difference_into : (d x y borrow zero_before : ℕ) → State → After
difference_into d x y borrow zero_before s =
    silent (with_sreg (with_register s d (byte_difference x y borrow))
    (difference_flags (sreg s) x y borrow zero_before))

-- the flags of x less y and the borrow
abbrev pub compare : (x y borrow zero_before : ℕ) → State → After
compare x y borrow zero_before s = silent (with_sreg s (difference_flags (sreg s) x y borrow zero_before))

-- a bitwise result r, into register Rd
abbrev pub logic_into : (d r : ℕ) → State → After
logic_into d r s = silent (with_sreg (with_register s d r) (logic_flags (sreg s) r))

-- the ones' complement of register Rd
abbrev pub complement : ℕ → State → After
complement d s =
    let r = 255 - register s d in silent (with_sreg (with_register s d r) (complement_flags (sreg s) r))

-- register Rd counted up or down to r. V tells that r is `past` the end of the signed numbers
abbrev pub count_to : (d r past : ℕ) → State → After
count_to d r past s = silent (with_sreg (with_register s d r) (count_flags (sreg s) r past))

-- register Rd shifted to the right, with a new top bit
abbrev pub shift : (d top : ℕ) → State → After
shift d top s =
    silent (with_sreg (with_register s d (shifted (register s d) top)) (shift_flags (sreg s) (register s d) top))

-- the nibbles of register Rd exchanged
abbrev pub swap : ℕ → State → After
swap d s = silent (with_register s d (register s d % 16 * 16 + register s d / 16))

-- the pair Rd+1:Rd plus k
abbrev pub add_to_pair : (d k : ℕ) → State → After
add_to_pair d k s =
    silent (with_sreg (with_pair s d (pair_sum (pair s d) k)) (pair_sum_flags (sreg s) (pair s d) k))

-- the pair Rd+1:Rd less k
abbrev pub subtract_from_pair : (d k : ℕ) → State → After
subtract_from_pair d k s =
    silent (with_sreg (with_pair s d (pair_difference (pair s d) k)) (pair_difference_flags (sreg s) (pair s d) k))

-- R1:R0 is the product of two bytes
abbrev pub multiply : (x y : ℕ) → State → After
multiply x y s = silent (with_sreg (with_pair s 0 (x * y)) (product_flags (sreg s) (x * y)))

-- a flag of SREG, by its bit, set to a value
abbrev pub set_flag : (number value : ℕ) → State → After
set_flag number value s = silent (with_sreg s (with_bit (sreg s) number value))

-- bit b of register Rd set to a value
abbrev pub set_bit : (d b value : ℕ) → State → After
set_bit d b value s = silent (with_register s d (with_bit (register s d) b value))

-- ---- loads and stores

-- the byte that a load gives: at a port its answer, and else the byte that stands there
abbrev pub loaded : State → (at answer : ℕ) → ℕ
loaded s at answer = if is_port s.core at then answer else byte_at s at

-- a store to a port leaves the state as it is
abbrev pub stored : State → (at byte : ℕ) → State
stored s at byte = if is_port s.core at then s else with_byte s at byte

abbrev pub load_access : Core → (at byte : ℕ) → Access
load_access core at byte =
    if is_core_register core at then Silent else (if nat_lt at 256 then In at byte else Read DataBank at byte)

abbrev pub store_access : Core → (at byte : ℕ) → Access
store_access core at byte =
    if is_core_register core at then Silent else (if nat_lt at 256 then Out at byte else Write at byte)

-- Rd is loaded from an address, by an instruction of so many words
abbrev pub load : (d at answer words : ℕ) → State → After
load d at answer words s =
    if nat_lt at (length s.mem.data) then
    record {
      stepped = Ran (load_access s.core at (loaded s at answer));
      state = passed (with_register s d (loaded s at answer)) words;
    }
    else faulted DataOut s

-- Rd is loaded by the old pointer, and then the pointer rises by 1
abbrev pub load_and_raise : (d pointer answer : ℕ) → State → After
load_and_raise d pointer answer s =
    let at = pair s pointer in
    if nat_lt at (length s.mem.data) then
    record {
      stepped = Ran (load_access s.core at (loaded s at answer));
      state = passed (with_pair (with_register s d (loaded s at answer)) pointer (raised at)) 1;
    }
    else faulted DataOut s

-- the pointer falls by 1, and then Rd is loaded by the new pointer
abbrev pub lower_and_load : (d pointer answer : ℕ) → State → After
lower_and_load d pointer answer s =
    let at = lowered (pair s pointer) in
    let moved = with_pair s pointer at in
    if nat_lt at (length s.mem.data) then
    record {
      stepped = Ran (load_access s.core at (loaded moved at answer));
      state = passed (with_register moved d (loaded moved at answer)) 1;
    }
    else faulted DataOut s

-- a byte is stored to an address, by an instruction of so many words
abbrev pub store : (at byte words : ℕ) → State → After
store at byte words s =
    if nat_lt at (length s.mem.data) then
    record { stepped = Ran (store_access s.core at byte); state = passed (stored s at byte) words }
    else faulted DataOut s

-- a byte is stored by the old pointer, and then the pointer is the old one plus 1, whatever the store wrote to it
abbrev pub store_and_raise : (pointer byte : ℕ) → State → After
store_and_raise pointer byte s =
    let at = pair s pointer in
    if nat_lt at (length s.mem.data) then
    record { stepped = Ran (store_access s.core at byte); state = passed (with_pair (stored s at byte) pointer (raised at)) 1 }
    else faulted DataOut s

-- the pointer falls by 1, and then a byte is stored by the new pointer
abbrev pub lower_and_store : (pointer byte : ℕ) → State → After
lower_and_store pointer byte s =
    let at = lowered (pair s pointer) in
    if nat_lt at (length s.mem.data) then
    record { stepped = Ran (store_access s.core at byte); state = passed (stored (with_pair s pointer at) at byte) 1 }
    else faulted DataOut s

-- Rd is loaded from flash by Z
abbrev pub load_flash : ℕ → State → After
load_flash d s =
    let at = pair s pointer_z in
    let byte = slice_index s.mem.flash at in
    if nat_lt at (length s.mem.flash) then
    record { stepped = Ran (Read FlashBank at byte); state = passed (with_register s d byte) 1 }
    else faulted DataOut s

-- Rd is loaded from flash by the old Z, and then Z rises by 1
abbrev pub load_flash_and_raise : ℕ → State → After
load_flash_and_raise d s =
    let at = pair s pointer_z in
    let byte = slice_index s.mem.flash at in
    if nat_lt at (length s.mem.flash) then
    record {
      stepped = Ran (Read FlashBank at byte);
      state = passed (with_pair (with_register s d byte) pointer_z (raised at)) 1;
    }
    else faulted DataOut s

-- a step that needs RAMPZ, where the core has it
abbrev pub if_rampz : (State → After) → State → After
if_rampz after s = if has_rampz s.core then after s else faulted Unsupported s

-- Rd is loaded from flash by RAMPZ:Z
abbrev pub load_far : ℕ → State → After
load_far d s =
    let at = far_pointer s in
    let byte = slice_index s.mem.flash at in
    if nat_lt at (length s.mem.flash) then
    record { stepped = Ran (Read FlashBank at byte); state = passed (with_register s d byte) 1 }
    else faulted DataOut s

-- Rd is loaded from flash by the old RAMPZ:Z, and then RAMPZ:Z rises by 1
abbrev pub load_far_and_raise : ℕ → State → After
load_far_and_raise d s =
    let at = far_pointer s in
    let byte = slice_index s.mem.flash at in
    if nat_lt at (length s.mem.flash) then
    record {
      stepped = Ran (Read FlashBank at byte);
      state = passed (with_far_pointer (with_register s d byte) (raised_far at)) 1;
    }
    else faulted DataOut s

-- ---- the stack

-- a byte is stored at SP, and then SP falls by 1
abbrev pub push : ℕ → State → After
push byte s =
    let at = stack_pointer s in
    if is_sram s at then
    record { stepped = Ran Stack; state = passed (with_stack_pointer (with_byte s at byte) (lowered at)) 1 }
    else faulted StackOut s

-- SP rises by 1, and then Rd is loaded from there
abbrev pub pop : ℕ → State → After
pop d s =
    let at = raised (stack_pointer s) in
    if is_sram s at then
    record { stepped = Ran Stack; state = passed (with_stack_pointer (with_register s d (byte_at s at)) at) 1 }
    else faulted StackOut s

-- A call of a word address. The address to return to is pushed, its low byte first
abbrev pub call : (to back : ℕ) → State → After
call to back s =
    let first = stack_pointer s in
    let second = lowered first in
    if is_sram s first && is_sram s second then
    record {
      stepped = Ran Stack;
      state = with_pc
          (with_stack_pointer (with_byte (with_byte s first (back % 256)) second (back / 256 % 256))
          (lowered second)) to;
    }
    else faulted StackOut s

-- the address to return to is popped, its high byte first
abbrev pub return_from_call : State → After
return_from_call s =
    let first = raised (stack_pointer s) in
    let second = raised first in
    if is_sram s first && is_sram s second then
    record {
      stepped = Ran Stack;
      state = with_pc (with_stack_pointer s second) (256 * byte_at s first + byte_at s second);
    }
    else faulted StackOut s

-- ---- jumps

abbrev pub jump : ℕ → State → After
jump to s = record { stepped = Ran Silent; state = with_pc s to }

-- the word address at a distance from the word after pc, by modulo 65,536
abbrev pub relative : ℕ → ℤ → ℕ
relative pc (pos k) = pc + 1 + k
relative pc (negsuc k) = pc + 65536 - k

abbrev pub branch : Bool → ℤ → State → After
branch taken k s = jump (if taken then relative s.pc k else s.pc + 1) s

-- the instruction at a word address, by the table
abbrev pub instruction_at : State → ℕ → Option Instr
instruction_at s at = decoded (word_at s at) (word_at s (at + 1))

-- the instructions of two words. The first word alone tells them, since the table has each of them with any second word
abbrev pub has_two_words : Option Instr → Bool
has_two_words (Some (Lds d k)) = true
has_two_words (Some (Sts k r)) = true
has_two_words (Some (Jmp k)) = true
has_two_words (Some (Call k)) = true
has_two_words _ = false

-- the next instruction is passed over, with both its words if it has two. Past the flash there is no such instruction
abbrev pub skip : Bool → State → After
skip taken s =
    let next = if has_two_words (instruction_at s (s.pc + 1)) then 2 else 1 in
    jump (s.pc + 1 + (if taken then next else 0)) s

-- ---- the table

-- the effect of an instruction, where the port that it reads answers a byte
unfoldable pub effect : Option Instr → ℕ → State → After
effect None answer s = faulted Unsupported s
effect (Some Nop) answer s = silent s
effect (Some (Movw d r)) answer s = silent (with_pair s d (pair s r))
effect (Some (Mov d r)) answer s = silent (with_register s d (register s r))
effect (Some (Ldi d k)) answer s = silent (with_register s d k)
effect (Some (Add d r)) answer s = sum_into d (register s r) 0 s
effect (Some (Adc d r)) answer s = sum_into d (register s r) (flag s 0) s
effect (Some (Sub d r)) answer s = difference_into d (register s d) (register s r) 0 1 s
effect (Some (Sbc d r)) answer s = difference_into d (register s d) (register s r) (flag s 0) (flag s 1) s
effect (Some (Subi d k)) answer s = difference_into d (register s d) k 0 1 s
effect (Some (Sbci d k)) answer s = difference_into d (register s d) k (flag s 0) (flag s 1) s
effect (Some (Neg d)) answer s = difference_into d 0 (register s d) 0 1 s
effect (Some (Cp d r)) answer s = compare (register s d) (register s r) 0 1 s
effect (Some (Cpc d r)) answer s = compare (register s d) (register s r) (flag s 0) (flag s 1) s
effect (Some (Cpi d k)) answer s = compare (register s d) k 0 1 s
effect (Some (And d r)) answer s = logic_into d (bit_and (register s d) (register s r)) s
effect (Some (Andi d k)) answer s = logic_into d (bit_and (register s d) k) s
effect (Some (Or d r)) answer s = logic_into d (bit_or (register s d) (register s r)) s
effect (Some (Ori d k)) answer s = logic_into d (bit_or (register s d) k) s
effect (Some (Eor d r)) answer s = logic_into d (bit_xor (register s d) (register s r)) s
effect (Some (Com d)) answer s = complement d s
effect (Some (Inc d)) answer s = count_to d ((register s d + 1) % 256) 0x80 s
effect (Some (Dec d)) answer s = count_to d ((register s d + 255) % 256) 0x7F s
effect (Some (Asr d)) answer s = shift d (register s d / 128) s
effect (Some (Lsr d)) answer s = shift d 0 s
effect (Some (Ror d)) answer s = shift d (flag s 0) s
effect (Some (Swap d)) answer s = swap d s
effect (Some (Adiw d k)) answer s = add_to_pair d k s
effect (Some (Sbiw d k)) answer s = subtract_from_pair d k s
effect (Some (Mul d r)) answer s = multiply (register s d) (register s r) s
effect (Some (Bset number)) answer s = set_flag number 1 s
effect (Some (Bclr number)) answer s = set_flag number 0 s
effect (Some (Bst d b)) answer s = set_flag 6 (bit_at (register s d) b) s
effect (Some (Bld d b)) answer s = set_bit d b (flag s 6) s
effect (Some (LddZ d q)) answer s = load d ((pair s pointer_z + q) % 65536) answer 1 s
effect (Some (LddY d q)) answer s = load d ((pair s pointer_y + q) % 65536) answer 1 s
effect (Some (LdX d)) answer s = load d (pair s pointer_x) answer 1 s
effect (Some (Lds d k)) answer s = load d k answer 2 s
effect (Some (InInstr d a)) answer s = load d (a + 0x20) answer 1 s
effect (Some (LdZPlus d)) answer s = load_and_raise d pointer_z answer s
effect (Some (LdYPlus d)) answer s = load_and_raise d pointer_y answer s
effect (Some (LdXPlus d)) answer s = load_and_raise d pointer_x answer s
effect (Some (LdMinusZ d)) answer s = lower_and_load d pointer_z answer s
effect (Some (LdMinusY d)) answer s = lower_and_load d pointer_y answer s
effect (Some (LdMinusX d)) answer s = lower_and_load d pointer_x answer s
effect (Some (StdZ q r)) answer s = store ((pair s pointer_z + q) % 65536) (register s r) 1 s
effect (Some (StdY q r)) answer s = store ((pair s pointer_y + q) % 65536) (register s r) 1 s
effect (Some (StX r)) answer s = store (pair s pointer_x) (register s r) 1 s
effect (Some (Sts k r)) answer s = store k (register s r) 2 s
effect (Some (OutInstr a r)) answer s = store (a + 0x20) (register s r) 1 s
effect (Some (StZPlus r)) answer s = store_and_raise pointer_z (register s r) s
effect (Some (StYPlus r)) answer s = store_and_raise pointer_y (register s r) s
effect (Some (StXPlus r)) answer s = store_and_raise pointer_x (register s r) s
effect (Some (StMinusZ r)) answer s = lower_and_store pointer_z (register s r) s
effect (Some (StMinusY r)) answer s = lower_and_store pointer_y (register s r) s
effect (Some (StMinusX r)) answer s = lower_and_store pointer_x (register s r) s
effect (Some (LpmZ d)) answer s = load_flash d s
effect (Some (LpmZPlus d)) answer s = load_flash_and_raise d s
effect (Some (Elpm d)) answer s = if_rampz (load_far d) s
effect (Some (ElpmInc d)) answer s = if_rampz (load_far_and_raise d) s
effect (Some (Push r)) answer s = push (register s r) s
effect (Some (Pop d)) answer s = pop d s
effect (Some (Call k)) answer s = call k (s.pc + 2) s
effect (Some (Rcall k)) answer s = call (relative s.pc k) (s.pc + 1) s
effect (Some Icall) answer s = call (pair s pointer_z) (s.pc + 1) s
effect (Some Ret) answer s = return_from_call s
effect (Some (Jmp k)) answer s = jump k s
effect (Some (Rjmp k)) answer s = jump (relative s.pc k) s
effect (Some Ijmp) answer s = jump (pair s pointer_z) s
effect (Some (Brbs number k)) answer s = branch (flag s number == 1) k s
effect (Some (Brbc number k)) answer s = branch (flag s number == 0) k s
effect (Some (Cpse d r)) answer s = skip (register s d == register s r) s
effect (Some (Sbrc r b)) answer s = skip (bit_at (register s r) b == 0) s
effect (Some (Sbrs r b)) answer s = skip (bit_at (register s r) b == 1) s
effect (Some Break) answer s = record { stepped = Ended; state = s }

-- the address that an instruction loads from, where it loads a data byte
abbrev pub load_address : Option Instr → State → Option ℕ
load_address (Some (LddZ d q)) s = Some ((pair s pointer_z + q) % 65536)
load_address (Some (LddY d q)) s = Some ((pair s pointer_y + q) % 65536)
load_address (Some (LdX d)) s = Some (pair s pointer_x)
load_address (Some (Lds d k)) s = Some k
load_address (Some (InInstr d a)) s = Some (a + 0x20)
load_address (Some (LdZPlus d)) s = Some (pair s pointer_z)
load_address (Some (LdYPlus d)) s = Some (pair s pointer_y)
load_address (Some (LdXPlus d)) s = Some (pair s pointer_x)
load_address (Some (LdMinusZ d)) s = Some (lowered (pair s pointer_z))
load_address (Some (LdMinusY d)) s = Some (lowered (pair s pointer_y))
load_address (Some (LdMinusX d)) s = Some (lowered (pair s pointer_x))
load_address _ s = None
