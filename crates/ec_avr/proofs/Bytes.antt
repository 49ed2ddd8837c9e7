-- Bytes stay bytes.
use Rattle.std.proofs.Common.{◌≡◌, ℕ, zero, suc, ◌+◌, ◌-◌, ◌*◌, ◌/◌, ◌%◌, ◌<◌, ◌≤◌, Bool, true, false, ◌&&◌, ◌==◌, List, Option, Some, None}
use Rattle.std.proofs.Common.{length, drop, refl, sym, subst, nat_lt, ⊎_elim, arith}
use Rattle.std.specs.Prelude.{IsTrue, if◌then◌else◌, nat_le, slice_index, slice_set, bit_and, bit_or, bit_xor}
use Rattle.std.specs.Int.{from_bool}
use Rattle.std.proofs.lemmas.Bool.{and_parts, ltb-true, cases_eq, cases_lt}
use Rattle.std.proofs.lemmas.Grind.{get_or-set_at}
use Rattle.std.proofs.lemmas.List.{get_or-set_other, get_or-drop, set_past}
use Rattle.std.proofs.lemmas.Nat.{or_of_8, xor_of_8, and_le_l, mul-le}
use Rattle.ec_space.specs.Bytes.{AreBytes}
use Rattle.ec_isa.specs.declared.instructions.Instr.{Instr}
use Rattle.ec_isa.specs.declared.instructions.Instr.TheVariants.{Nop, Movw, Cpc, Sbc, Add, Cpse, Cp, Sub, Adc, And, Eor, Or, Mov, Mul, Cpi}
use Rattle.ec_isa.specs.declared.instructions.Instr.TheVariants.{Sbci, Subi, Ori, Andi, Ldi, LddZ, LddY, StdZ, StdY, Lds, Sts, LdZPlus}
use Rattle.ec_isa.specs.declared.instructions.Instr.TheVariants.{LdMinusZ, LdYPlus, LdMinusY, LdX, LdXPlus, LdMinusX, StZPlus, StMinusZ}
use Rattle.ec_isa.specs.declared.instructions.Instr.TheVariants.{StYPlus, StMinusY, StX, StXPlus, StMinusX, LpmZ, LpmZPlus, Elpm, ElpmInc, Pop, Push, Com}
use Rattle.ec_isa.specs.declared.instructions.Instr.TheVariants.{Neg, Swap, Inc, Asr, Lsr, Ror, Dec, Bset, Bclr, Ijmp, Icall, Ret, Break}
use Rattle.ec_isa.specs.declared.instructions.Instr.TheVariants.{Jmp, Call, Adiw, Sbiw, In as InInstr, Out as OutInstr, Rjmp, Rcall, Brbs}
use Rattle.ec_isa.specs.declared.instructions.Instr.TheVariants.{Brbc, Bld, Bst, Sbrc, Sbrs}
use Rattle.ec_isa.specs.Formats.{is_register}
use Rattle.ec_isa.specs.Table.{in_table}
use Rattle.ec_isa.proofs.InstructionAt.{instruction_is}
use Rattle.ec_avr.specs.declared.machine.FaultKind.{FaultKind}
use Rattle.ec_avr.specs.declared.machine.FaultKind.TheVariants.{DataOut, StackOut, PcOut, Unsupported}
use Rattle.ec_avr.specs.State.{State, word_at, byte_at, with_byte, register, with_register, pair, with_pair, pointer_x, pointer_y}
use Rattle.ec_avr.specs.State.{pointer_z, stack_pointer, sreg, with_sreg, flag, is_port, is_sram, raised, lowered, with_pc, passed, rampz}
use Rattle.ec_avr.specs.State.{has_rampz, far_pointer, with_far_pointer, raised_far}
use Rattle.ec_avr.specs.Flags.{with_flags, with_bit, byte_sum, sum_flags, byte_difference, difference_flags, logic_flags, complement_flags}
use Rattle.ec_avr.specs.Flags.{count_flags, shifted, shift_flags, pair_sum, pair_sum_flags, pair_difference, pair_difference_flags}
use Rattle.ec_avr.specs.Flags.{product_flags}
use Rattle.ec_avr.specs.Effects.{After, faulted, loaded, stored, load, load_and_raise, lower_and_load, store, store_and_raise}
use Rattle.ec_avr.specs.Effects.{lower_and_store, call, relative, effect, instruction_at}
use Rattle.ec_avr.specs.declared.machine.Stepped.{Stepped}
use Rattle.ec_avr.specs.declared.machine.Stepped.TheVariants.{Ran, Ended, Fault}
use Rattle.ec_avr.specs.Machine.{step, is_whole, Inputs, Run, Running, EndedWith, FaultedAt, machine, needs_port, answer_of, inputs_after}
use Rattle.ec_avr.specs.Machine.{continued, preceded}
use Rattle.ec_avr.specs.Inputs.{reads_of}
use Rattle.ec_avr.specs.Laws.{StepHoldsBytes, RunHoldsBytes, ResetHoldsBytes, LeftAreBytes}
use Rattle.ec_avr.specs.declared.machine.Access.{Access}
use Rattle.ec_avr.specs.Bytes.{HoldsBytes, AreByteInputs}
use Rattle.ec_avr.proofs.Bits.{bit_below, bool_below, product_of_bits, with_bit_below}

-- ---- writes

-- a list of bytes with a byte at a place
are_bytes-set : (l : List ℕ) (a x : ℕ) → AreBytes l → x < 256 → AreBytes (slice_set l a x)
are_bytes-set l a x h small k =
    ⊎_elim
    (λ inside.
    ⊎_elim (λ e. rw (get_or-set_at l a k x 0 e inside) small) (λ o. let q = get_or-set_other l a k x 0 o in rw q (h k)) (cases_eq k a))
    (λ past. rw (set_past l a x past) (h k))
    (cases_lt a (length l))

holds_byte : (s : State) (at byte : ℕ) → HoldsBytes s → byte < 256 → HoldsBytes (with_byte s at byte)
holds_byte s at byte h small = record {
  flash_bytes = h.flash_bytes;
  data_bytes = are_bytes-set s.mem.data at byte h.data_bytes small;
  word_address = h.word_address;
}

holds_pair : (s : State) (at n : ℕ) → HoldsBytes s → n < 65536 → HoldsBytes (with_pair s at n)
holds_pair s at n h small =
    holds_byte (with_byte s at (n % 256)) (at + 1) (n / 256) (holds_byte s at (n % 256) h (omega arith)) (omega arith)

holds_far : (s : State) (n : ℕ) → HoldsBytes s → n < 16777216 → HoldsBytes (with_far_pointer s n)
holds_far s n h small =
    holds_byte (with_pair s pointer_z (n % 65536)) rampz (n / 65536) (holds_pair s pointer_z (n % 65536) h (omega arith)) (omega arith)

holds_pc : (s : State) (to : ℕ) → HoldsBytes s → HoldsBytes (with_pc s to)
holds_pc s to h = record { flash_bytes = h.flash_bytes; data_bytes = h.data_bytes; word_address = omega arith }

holds_passed : (s : State) (words : ℕ) → HoldsBytes s → HoldsBytes (passed s words)
holds_passed s words h = holds_pc s (s.pc + words) h

holds_stored : (s : State) (at byte : ℕ) → HoldsBytes s → byte < 256 → HoldsBytes (stored s at byte)
holds_stored s at byte h small = split (is_port s.core at)
  where
    split : (b : Bool) → HoldsBytes (if b then s else with_byte s at byte)
    split true = h
    split false = holds_byte s at byte h small

-- a step that is made where a test allows it
of_test : (can : Bool) (after : After) (kind : FaultKind) (s : State) → HoldsBytes s → HoldsBytes after.state
    → HoldsBytes (if can then after else faulted kind s).state
of_test true after kind s h a = a
of_test false after kind s h a = h

-- ---- flags

with_flags_below : (old c z n v h : ℕ) → old < 256 → c ≤ 1 → z ≤ 1 → n ≤ 1 → v ≤ 1 → h ≤ 1 → with_flags old c z n v h < 256
with_flags_below old c z n v h b p q r s t = omega arith

sum_flags_below : (old x y carry : ℕ) → old < 256 → x < 256 → y < 256 → carry ≤ 1 → sum_flags old x y carry < 256
sum_flags_below old x y carry b p q r =
    with_flags_below old _ _ _ _ _ b (omega arith) (bool_below _) (omega arith) (bool_below _) (omega arith)

difference_flags_below : (old x y borrow zero_before : ℕ) → old < 256 → zero_before ≤ 1 → difference_flags old x y borrow zero_before < 256
difference_flags_below old x y borrow zero_before b z =
    with_flags_below old _ _ _ _ _ b (bool_below _) (product_of_bits _ _ (bool_below _) z) (omega arith) (bool_below _) (bool_below _)

logic_flags_below : (old r : ℕ) → old < 256 → r < 256 → logic_flags old r < 256
logic_flags_below old r b p =
    with_flags_below old _ _ _ _ _ b (bit_below old 0) (bool_below _) (omega arith) (omega arith) (bit_below old 5)

complement_flags_below : (old r : ℕ) → old < 256 → r < 256 → complement_flags old r < 256
complement_flags_below old r b p =
    with_flags_below old _ _ _ _ _ b (omega arith) (bool_below _) (omega arith) (omega arith) (bit_below old 5)

count_flags_below : (old r past : ℕ) → old < 256 → r < 256 → count_flags old r past < 256
count_flags_below old r past b p =
    with_flags_below old _ _ _ _ _ b (bit_below old 0) (bool_below _) (omega arith) (bool_below _) (bit_below old 5)

shift_flags_below : (old x top : ℕ) → old < 256 → x < 256 → top ≤ 1 → shift_flags old x top < 256
shift_flags_below old x top b p t =
    with_flags_below old _ _ _ _ _ b (omega arith) (bool_below _) (omega arith) (omega arith) (bit_below old 5)

pair_sum_flags_below : (old x k : ℕ) → old < 256 → x < 65536 → k < 65536 → pair_sum_flags old x k < 256
pair_sum_flags_below old x k b p q =
    with_flags_below old _ _ _ _ _ b (omega arith) (bool_below _) (omega arith) (bool_below _) (bit_below old 5)

pair_difference_flags_below : (old x k : ℕ) → old < 256 → pair_difference_flags old x k < 256
pair_difference_flags_below old x k b =
    with_flags_below old _ _ _ _ _ b (bool_below _) (bool_below _) (omega arith) (bool_below _) (bit_below old 5)

product_below : (x y : ℕ) → x < 256 → y < 256 → x * y < 65536
product_below x y p q = omega (arith, mul-le x y 255 255 (omega arith) (omega arith))

product_flags_below : (old p : ℕ) → old < 256 → p < 65536 → product_flags old p < 256
product_flags_below old p b q =
    with_bit_below (with_bit old 0 (p / 32768)) 1 (from_bool (p == 0))
    (with_bit_below old 0 (p / 32768) b (omega arith) (omega arith)) (omega arith)
    (bool_below _)

-- ---- the fields of the table

constant_below : (d k : ℕ) → IsTrue (nat_le 16 d && is_register d && nat_lt k 256) → k < 256
constant_below d k h = ltb-true k 256 (and_parts (nat_le 16 d && is_register d) (nat_lt k 256) h).1

added_below : (d k : ℕ) → IsTrue (nat_le 24 d && nat_lt d 31 && (d % 2 == 0) && nat_lt k 64) → k < 64
added_below d k h = ltb-true k 64 (and_parts (nat_le 24 d && nat_lt d 31 && (d % 2 == 0)) (nat_lt k 64) h).1

bit_number : (d b : ℕ) → IsTrue (is_register d && nat_lt b 8) → b < 8
bit_number d b h = ltb-true b 8 (and_parts (is_register d) (nat_lt b 8) h).1

-- ---- the families

module _ (s : State) (h : HoldsBytes s) where
  byte : (at : ℕ) → byte_at s at < 256
  byte at = h.data_bytes at

  two_bytes : (at : ℕ) → pair s at < 65536
  two_bytes at = let low = byte at in let high = byte (at + 1) in omega arith

  result : (d r flags : ℕ) → r < 256 → flags < 256 → HoldsBytes (passed (with_sreg (with_register s d r) flags) 1)
  result d r flags p q = holds_passed _ 1 (holds_byte (with_register s d r) 0x5F flags (holds_byte s d r h p) q)

  pair_result : (d n flags : ℕ) → n < 65536 → flags < 256 → HoldsBytes (passed (with_sreg (with_pair s d n) flags) 1)
  pair_result d n flags p q = holds_passed _ 1 (holds_byte (with_pair s d n) 0x5F flags (holds_pair s d n h p) q)

  one : (at r : ℕ) → r < 256 → HoldsBytes (passed (with_byte s at r) 1)
  one at r p = holds_passed _ 1 (holds_byte s at r h p)

  sum : (d y carry : ℕ) → y < 256 → carry ≤ 1
      → HoldsBytes (passed (with_sreg (with_register s d (byte_sum (register s d) y carry)) (sum_flags (sreg s) (register s d) y carry)) 1)
  sum d y carry p q = result d _ _ (omega arith) (sum_flags_below (sreg s) (register s d) y carry (byte 0x5F) (byte d) p q)

  difference : (d x y borrow zero_before : ℕ) → zero_before ≤ 1
      → HoldsBytes
      (passed (with_sreg (with_register s d (byte_difference x y borrow)) (difference_flags (sreg s) x y borrow zero_before)) 1)
  difference d x y borrow zero_before z = result d _ _ (omega arith) (difference_flags_below (sreg s) x y borrow zero_before (byte 0x5F) z)

  comparison : (x y borrow zero_before : ℕ) → zero_before ≤ 1
      → HoldsBytes (passed (with_sreg s (difference_flags (sreg s) x y borrow zero_before)) 1)
  comparison x y borrow zero_before z = one 0x5F _ (difference_flags_below (sreg s) x y borrow zero_before (byte 0x5F) z)

  logic : (d r : ℕ) → r < 256 → HoldsBytes (passed (with_sreg (with_register s d r) (logic_flags (sreg s) r)) 1)
  logic d r p = result d r _ p (logic_flags_below (sreg s) r (byte 0x5F) p)

  count : (d r past : ℕ) → r < 256 → HoldsBytes (passed (with_sreg (with_register s d r) (count_flags (sreg s) r past)) 1)
  count d r past p = result d r _ p (count_flags_below (sreg s) r past (byte 0x5F) p)

  shift_of : (d top : ℕ) → top ≤ 1
      → HoldsBytes (passed (with_sreg (with_register s d (shifted (register s d) top)) (shift_flags (sreg s) (register s d) top)) 1)
  shift_of d top t = let x = byte d in result d _ _ (omega arith) (shift_flags_below (sreg s) (register s d) top (byte 0x5F) (byte d) t)

  loaded_below : (at answer : ℕ) → answer < 256 → loaded s at answer < 256
  loaded_below at answer a = split (is_port s.core at)
    where
      split : (b : Bool) → (if b then answer else byte_at s at) < 256
      split true = a
      split false = byte at

  at_data : (at : ℕ) (after : After) → HoldsBytes after.state
      → HoldsBytes (if nat_lt at (length s.mem.data) then after else faulted DataOut s).state
  at_data at after a = of_test (nat_lt at (length s.mem.data)) after DataOut s h a

  loads : (d at answer words : ℕ) → answer < 256 → HoldsBytes (load d at answer words s).state
  loads d at answer words a = at_data at _ (holds_passed _ words (holds_byte s d (loaded s at answer) h (loaded_below at answer a)))

  loads_and_raises : (d pointer answer : ℕ) → answer < 256 → HoldsBytes (load_and_raise d pointer answer s).state
  loads_and_raises d pointer answer a =
      let at = pair s pointer in
      at_data at _
      (holds_passed _ 1 (holds_pair _ pointer (raised at) (holds_byte s d (loaded s at answer) h (loaded_below at answer a)) (omega arith)))

  stores : (at r words : ℕ) → r < 256 → HoldsBytes (store at r words s).state
  stores at r words p = at_data at _ (holds_passed _ words (holds_stored s at r h p))

  stores_and_raises : (pointer r : ℕ) → r < 256 → HoldsBytes (store_and_raise pointer r s).state
  stores_and_raises pointer r p =
      let at = pair s pointer in at_data at _ (holds_passed _ 1 (holds_pair _ pointer (raised at) (holds_stored s at r h p) (omega arith)))

  lowers_and_stores : (pointer r : ℕ) → r < 256 → HoldsBytes (lower_and_store pointer r s).state
  lowers_and_stores pointer r p =
      let at = lowered (pair s pointer) in at_data at _ (holds_passed _ 1 (holds_stored _ at r (holds_pair s pointer at h (omega arith)) p))

  calls : (to back : ℕ) → HoldsBytes (call to back s).state
  calls to back =
      let first = stack_pointer s in
      let second = lowered first in
      of_test (is_sram s first && is_sram s second) _ StackOut s h
      (holds_pc _ to (holds_pair _ 0x5D (lowered second)
      (holds_byte _ second (back / 256 % 256) (holds_byte s first (back % 256) h (omega arith)) (omega arith)) (omega arith)))

lowers_and_loads : (s : State) → HoldsBytes s → (d pointer answer : ℕ) → answer < 256 → HoldsBytes (lower_and_load d pointer answer s).state
lowers_and_loads s h d pointer answer a =
    let at = lowered (pair s pointer) in
    let moved = with_pair s pointer at in
    let holds = holds_pair s pointer at h (omega arith) in
    at_data s h at _ (holds_passed _ 1 (holds_byte moved d (loaded moved at answer) holds (loaded_below moved holds at answer a)))

-- ---- the table

effect_holds : (i : Instr) → IsTrue (in_table i) → (answer : ℕ) → answer < 256 → (s : State) → HoldsBytes s
    → HoldsBytes (effect (Some i) answer s).state
unfolding effect
effect_holds Nop t answer a s h = holds_passed s 1 h
effect_holds (Movw d r) t answer a s h = holds_passed _ 1 (holds_pair s d (pair s r) h (two_bytes s h r))
effect_holds (Mov d r) t answer a s h = one s h d _ (byte s h r)
effect_holds (Ldi d k) t answer a s h = one s h d k (constant_below d k t)
effect_holds (Add d r) t answer a s h = sum s h d (register s r) 0 (byte s h r) (omega arith)
effect_holds (Adc d r) t answer a s h = sum s h d (register s r) (flag s 0) (byte s h r) (bit_below (sreg s) 0)
effect_holds (Sub d r) t answer a s h = difference s h d (register s d) (register s r) 0 1 (omega arith)
effect_holds (Sbc d r) t answer a s h = difference s h d (register s d) (register s r) (flag s 0) (flag s 1) (bit_below (sreg s) 1)
effect_holds (Subi d k) t answer a s h = difference s h d (register s d) k 0 1 (omega arith)
effect_holds (Sbci d k) t answer a s h = difference s h d (register s d) k (flag s 0) (flag s 1) (bit_below (sreg s) 1)
effect_holds (Neg d) t answer a s h = difference s h d 0 (register s d) 0 1 (omega arith)
effect_holds (Cp d r) t answer a s h = comparison s h (register s d) (register s r) 0 1 (omega arith)
effect_holds (Cpc d r) t answer a s h = comparison s h (register s d) (register s r) (flag s 0) (flag s 1) (bit_below (sreg s) 1)
effect_holds (Cpi d k) t answer a s h = comparison s h (register s d) k 0 1 (omega arith)
effect_holds (And d r) t answer a s h =
    let x = byte s h d in
    logic s h d (bit_and (register s d) (register s r)) (omega (arith, and_le_l (register s d) (register s r)))
effect_holds (Andi d k) t answer a s h =
    let x = byte s h d in
    logic s h d (bit_and (register s d) k) (omega (arith, and_le_l (register s d) k))
effect_holds (Or d r) t answer a s h = logic s h d (bit_or (register s d) (register s r)) (or_of_8 _ _ (byte s h d) (byte s h r))
effect_holds (Ori d k) t answer a s h = logic s h d (bit_or (register s d) k) (or_of_8 _ _ (byte s h d) (constant_below d k t))
effect_holds (Eor d r) t answer a s h = logic s h d (bit_xor (register s d) (register s r)) (xor_of_8 _ _ (byte s h d) (byte s h r))
effect_holds (Com d) t answer a s h =
    result s h d (255 - register s d) _ (omega arith) (complement_flags_below (sreg s) (255 - register s d) (byte s h 0x5F) (omega arith))
effect_holds (Inc d) t answer a s h = count s h d _ 0x80 (omega arith)
effect_holds (Dec d) t answer a s h = count s h d _ 0x7F (omega arith)
effect_holds (Asr d) t answer a s h = let x = byte s h d in shift_of s h d (register s d / 128) (omega arith)
effect_holds (Lsr d) t answer a s h = shift_of s h d 0 (omega arith)
effect_holds (Ror d) t answer a s h = shift_of s h d (flag s 0) (bit_below (sreg s) 0)
effect_holds (Swap d) t answer a s h = let x = byte s h d in one s h d _ (omega arith)
effect_holds (Adiw d k) t answer a s h =
    pair_result s h d (pair_sum (pair s d) k) _ (omega arith)
    (pair_sum_flags_below (sreg s) (pair s d) k (byte s h 0x5F) (two_bytes s h d) (omega (arith, added_below d k t)))
effect_holds (Sbiw d k) t answer a s h =
    pair_result s h d (pair_difference (pair s d) k) _ (omega arith) (pair_difference_flags_below (sreg s) (pair s d) k (byte s h 0x5F))
effect_holds (Mul d r) t answer a s h =
    let small = product_below (register s d) (register s r) (byte s h d) (byte s h r) in
    pair_result s h 0 (register s d * register s r) _ small
    (product_flags_below (sreg s) (register s d * register s r) (byte s h 0x5F) small)
effect_holds (Bset n) t answer a s h = one s h 0x5F _ (with_bit_below (sreg s) n 1 (byte s h 0x5F) (ltb-true n 8 t) (omega arith))
effect_holds (Bclr n) t answer a s h = one s h 0x5F _ (with_bit_below (sreg s) n 0 (byte s h 0x5F) (ltb-true n 8 t) (omega arith))
effect_holds (Bst d b) t answer a s h =
    one s h 0x5F _ (with_bit_below (sreg s) 6 _ (byte s h 0x5F) (omega arith) (bit_below (register s d) b))
effect_holds (Bld d b) t answer a s h =
    one s h d _ (with_bit_below (register s d) b _ (byte s h d) (bit_number d b t) (bit_below (sreg s) 6))
effect_holds (LddZ d q) t answer a s h = loads s h d ((pair s pointer_z + q) % 65536) answer 1 a
effect_holds (LddY d q) t answer a s h = loads s h d ((pair s pointer_y + q) % 65536) answer 1 a
effect_holds (LdX d) t answer a s h = loads s h d (pair s pointer_x) answer 1 a
effect_holds (Lds d k) t answer a s h = loads s h d k answer 2 a
effect_holds (InInstr d p) t answer a s h = loads s h d (p + 0x20) answer 1 a
effect_holds (LdZPlus d) t answer a s h = loads_and_raises s h d pointer_z answer a
effect_holds (LdYPlus d) t answer a s h = loads_and_raises s h d pointer_y answer a
effect_holds (LdXPlus d) t answer a s h = loads_and_raises s h d pointer_x answer a
effect_holds (LdMinusZ d) t answer a s h = lowers_and_loads s h d pointer_z answer a
effect_holds (LdMinusY d) t answer a s h = lowers_and_loads s h d pointer_y answer a
effect_holds (LdMinusX d) t answer a s h = lowers_and_loads s h d pointer_x answer a
effect_holds (StdZ q r) t answer a s h = stores s h ((pair s pointer_z + q) % 65536) (register s r) 1 (byte s h r)
effect_holds (StdY q r) t answer a s h = stores s h ((pair s pointer_y + q) % 65536) (register s r) 1 (byte s h r)
effect_holds (StX r) t answer a s h = stores s h (pair s pointer_x) (register s r) 1 (byte s h r)
effect_holds (Sts k r) t answer a s h = stores s h k (register s r) 2 (byte s h r)
effect_holds (OutInstr p r) t answer a s h = stores s h (p + 0x20) (register s r) 1 (byte s h r)
effect_holds (StZPlus r) t answer a s h = stores_and_raises s h pointer_z (register s r) (byte s h r)
effect_holds (StYPlus r) t answer a s h = stores_and_raises s h pointer_y (register s r) (byte s h r)
effect_holds (StXPlus r) t answer a s h = stores_and_raises s h pointer_x (register s r) (byte s h r)
effect_holds (StMinusZ r) t answer a s h = lowers_and_stores s h pointer_z (register s r) (byte s h r)
effect_holds (StMinusY r) t answer a s h = lowers_and_stores s h pointer_y (register s r) (byte s h r)
effect_holds (StMinusX r) t answer a s h = lowers_and_stores s h pointer_x (register s r) (byte s h r)
effect_holds (LpmZ d) t answer a s h =
    let at = pair s pointer_z in
    of_test (nat_lt at (length s.mem.flash)) _ DataOut s h (one s h d (slice_index s.mem.flash at) (h.flash_bytes at))
effect_holds (LpmZPlus d) t answer a s h =
    let at = pair s pointer_z in
    of_test (nat_lt at (length s.mem.flash)) _ DataOut s h
    (holds_passed _ 1 (holds_pair _ pointer_z (raised at) (holds_byte s d (slice_index s.mem.flash at) h (h.flash_bytes at)) (omega arith)))
effect_holds (Elpm d) t answer a s h =
    let at = far_pointer s in
    of_test (has_rampz s.core) _ Unsupported s h
    (of_test (nat_lt at (length s.mem.flash)) _ DataOut s h (one s h d (slice_index s.mem.flash at) (h.flash_bytes at)))
effect_holds (ElpmInc d) t answer a s h =
    let at = far_pointer s in
    of_test (has_rampz s.core) _ Unsupported s h
    (of_test (nat_lt at (length s.mem.flash)) _ DataOut s h
    (holds_passed _ 1 (holds_far _ (raised_far at) (holds_byte s d (slice_index s.mem.flash at) h (h.flash_bytes at)) (omega arith))))
effect_holds (Push r) t answer a s h =
    let at = stack_pointer s in
    of_test (is_sram s at) _ StackOut s h
    (holds_passed _ 1 (holds_pair _ 0x5D (lowered at) (holds_byte s at (register s r) h (byte s h r)) (omega arith)))
effect_holds (Pop d) t answer a s h =
    let at = raised (stack_pointer s) in
    of_test (is_sram s at) _ StackOut s h
    (holds_passed _ 1 (holds_pair _ 0x5D at (holds_byte s d (byte_at s at) h (byte s h at)) (omega arith)))
effect_holds (Call k) t answer a s h = calls s h k (s.pc + 2)
effect_holds (Rcall k) t answer a s h = calls s h (relative s.pc k) (s.pc + 1)
effect_holds Icall t answer a s h = calls s h (pair s pointer_z) (s.pc + 1)
effect_holds Ret t answer a s h =
    let first = raised (stack_pointer s) in
    let second = raised first in
    of_test (is_sram s first && is_sram s second) _ StackOut s h (holds_pc _ _ (holds_pair s 0x5D second h (omega arith)))
effect_holds (Jmp k) t answer a s h = holds_pc s _ h
effect_holds (Rjmp k) t answer a s h = holds_pc s _ h
effect_holds Ijmp t answer a s h = holds_pc s _ h
effect_holds (Brbs n k) t answer a s h = holds_pc s _ h
effect_holds (Brbc n k) t answer a s h = holds_pc s _ h
effect_holds (Cpse d r) t answer a s h = holds_pc s _ h
effect_holds (Sbrc r b) t answer a s h = holds_pc s _ h
effect_holds (Sbrs r b) t answer a s h = holds_pc s _ h
effect_holds Break t answer a s h = h

pub step_holds : StepHoldsBytes
unfolding step effect
step_holds answer s a h = of_test (is_whole s) (effect (instruction_at s s.pc) answer s) PcOut s h (by_table (instruction_at s s.pc) refl)
  where
    by_table : (i : Option Instr) → instruction_at s s.pc ≡ i → HoldsBytes (effect i answer s).state
    by_table None e = h
    by_table (Some i) e = effect_holds i ((instruction_is i (word_at s s.pc) (word_at s (s.pc + 1))).0 e).in_range answer a s h

-- ---- runs

pub reset_holds : ResetHoldsBytes
reset_holds core image s reset bytes = record {
  flash_bytes = subst AreBytes (sym reset.flash) bytes;
  data_bytes = reset.bytes;
  word_address = let p = reset.begin in omega arith;
}

dropped : (n : ℕ) (l : List ℕ) → AreBytes l → AreBytes (drop n l)
dropped n l h k = rw (get_or-drop n l k 0) (h (n + k))

pub left_are_bytes : LeftAreBytes
left_are_bytes trace inputs h port = dropped (reads_of port trace) (inputs port) (h port)

answer_below : (inputs : Inputs) (port : Option ℕ) → AreByteInputs inputs → answer_of inputs port < 256
answer_below inputs None h = omega arith
answer_below inputs (Some port) h = h port 0

after_are_bytes : (inputs : Inputs) (port : Option ℕ) → AreByteInputs inputs → AreByteInputs (inputs_after inputs port)
after_are_bytes inputs None h q = h q
after_are_bytes inputs (Some port) h q = split (q == port)
  where
    split : (b : Bool) → AreBytes (if b then drop 1 (inputs q) else inputs q)
    split true = dropped 1 (inputs q) (h q)
    split false = h q

-- the state where a run stands
abbrev StandsOnBytes : Run → Type 0
StandsOnBytes (Running trace t) = HoldsBytes t
StandsOnBytes (EndedWith trace result) = Unit {0}
StandsOnBytes (FaultedAt trace kind pc) = Unit {0}

stands_before : (a : Access) (r : Run) → StandsOnBytes r → StandsOnBytes (preceded a r)
stands_before a (Running trace t) h = h
stands_before a (EndedWith trace result) h = tt
stands_before a (FaultedAt trace kind pc) h = tt

first_stands : (m : ℕ) (left : Inputs) (t : State) → StandsOnBytes (machine m left t) → (x : Stepped)
    → StandsOnBytes (continued (machine m left) x t)
first_stands m left t h (Ran a) = stands_before a (machine m left t) h
first_stands m left t h Ended = tt
first_stands m left t h (Fault kind pc) = tt

stands : (m : ℕ) (inputs : Inputs) (s : State) → AreByteInputs inputs → HoldsBytes s → StandsOnBytes (machine m inputs s)
unfolding machine
stands zero inputs s a h = h
stands (suc m) inputs s a h =
    let port = needs_port s in
    let next = step (answer_of inputs port) s in
    first_stands m (inputs_after inputs port) next.state
    (stands m (inputs_after inputs port) next.state (after_are_bytes inputs port a)
    (step_holds (answer_of inputs port) s (answer_below inputs port a) h)) next.stepped

pub run_holds : RunHoldsBytes
run_holds m inputs s t trace a h is = subst StandsOnBytes is (stands m inputs s a h)
