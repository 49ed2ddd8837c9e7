-- What no step changes.
use Rattle.std.proofs.Common.{◌≡◌, ◌≢◌, ℕ, ◌+◌, ◌/◌, ◌%◌, ◌<◌, Bool, true, false, not, ◌&&◌, ◌==◌, Some, refl, sym, ◌∙◌, subst, length}
use Rattle.std.proofs.Common.{nat_lt, arith}
use Rattle.std.specs.Prelude.{IsTrue, if◌then◌else◌, nat_le}
use Rattle.std.proofs.lemmas.Bool.{and_parts, ltb-true, leb-true, lt-ltb, eqb-true}
use Rattle.std.proofs.lemmas.List.{get_or-set_other}
use Rattle.std.proofs.Math.ListN.{length-set}
use Rattle.ec_isa.specs.declared.instructions.Instr.{Instr}
use Rattle.ec_isa.specs.declared.instructions.Instr.TheVariants.{Movw, Cpc, Sbc, Add, Cp, Sub, Adc, And, Eor, Or, Mov, Mul, Cpi, Sbci, Subi}
use Rattle.ec_isa.specs.declared.instructions.Instr.TheVariants.{Ori, Andi, Ldi, LddZ, LddY, StdZ, StdY, Lds, Sts, LdZPlus, LdMinusZ}
use Rattle.ec_isa.specs.declared.instructions.Instr.TheVariants.{LdYPlus, LdMinusY, LdX, LdXPlus, LdMinusX, StZPlus, StMinusZ, StYPlus}
use Rattle.ec_isa.specs.declared.instructions.Instr.TheVariants.{StMinusY, StX, StXPlus, StMinusX, LpmZ, LpmZPlus, Elpm, ElpmInc, Pop, Push, Com, Neg}
use Rattle.ec_isa.specs.declared.instructions.Instr.TheVariants.{Swap, Inc, Asr, Lsr, Ror, Dec, Bset, Bclr, Icall, Ret, Call, Adiw, Sbiw}
use Rattle.ec_isa.specs.declared.instructions.Instr.TheVariants.{In as InInstr, Out as OutInstr, Rcall, Bld, Bst}
use Rattle.ec_isa.specs.Formats.{is_register}
use Rattle.ec_isa.specs.Table.{in_table}
use Rattle.ec_avr.specs.declared.machine.FaultKind.{FaultKind}
use Rattle.ec_avr.specs.declared.machine.FaultKind.TheVariants.{DataOut, StackOut, Unsupported}
use Rattle.ec_avr.specs.State.{State, byte_at, with_byte, register, with_register, with_pair, with_sreg, is_port, is_sram, pair, pointer_x}
use Rattle.ec_avr.specs.State.{pointer_y, pointer_z, stack_pointer, raised, lowered, KeepsBoth, Keeps, rampz, has_rampz, far_pointer, with_far_pointer}
use Rattle.ec_avr.specs.State.{raised_far}
use Rattle.ec_space.specs.Memory.{Memory}
use Rattle.ec_space.specs.declared.Core.{Core}
use Rattle.ec_avr.specs.Effects.{After, faulted, stored, store, store_and_raise, lower_and_store, call, relative, effect}

-- ---- places that are no ports

and_false : (b : Bool) → (b && false) ≡ false
and_false true = refl
and_false false = refl

register_is_none : (core : Core) (d : ℕ) → IsTrue (is_register d) → is_port core d ≡ false
register_is_none core d h = rw h (and_false (nat_lt d 256))

below_is_none : (core : Core) (d : ℕ) → d < 32 → is_port core d ≡ false
below_is_none core d h = register_is_none core d (lt-ltb d 32 h)

not_below : (at : ℕ) (b : Bool) → nat_lt at 256 ≡ b → IsTrue (nat_le 256 at) → nat_lt at 256 ≡ false
not_below at true e h = let low = ltb-true at 256 e in let high = leb-true 256 at h in absurd (omega arith)
not_below at false e h = e

sram_is_none : (s : State) (at : ℕ) → IsTrue (is_sram s at) → is_port s.core at ≡ false
sram_is_none s at h =
    let p = and_parts (nat_le 256 at) (nat_lt at (length s.mem.data)) h in
    let high = not_below at (nat_lt at 256) refl p.0 in
    rw high refl

-- ---- writes

keeps_byte : (s : State) (at byte : ℕ) → is_port s.core at ≡ false → Keeps s (with_byte s at byte)
keeps_byte s at byte none = record {
  same = refl;
  flash = refl;
  size = length-set s.mem.data at byte;
  ports = λ p port.
      let apart : p ≢ at = λ e.
      let yes : is_port s.core at ≡ true = subst (λ q. is_port s.core q ≡ true) e port in
      let clash : true ≡ false = sym yes ∙ none in
      cc in
      get_or-set_other s.mem.data at p byte 0 apart;
}

pub unchanged : (s : State) → Keeps s s
unchanged s = record { same = refl; flash = refl; size = refl; ports = λ p port. refl }

followed : {k l m : Core} {a b c : Memory} → KeepsBoth k a l b → KeepsBoth l b m c → KeepsBoth k a m c
followed f g = record {
  same = g.same ∙ f.same;
  flash = g.flash ∙ f.flash;
  size = g.size ∙ f.size;
  ports = λ p port. g.ports p (subst (λ core. IsTrue (is_port core p)) (sym f.same) port) ∙ f.ports p port;
}

keeps_pair : (s : State) (at n : ℕ) → is_port s.core at ≡ false → is_port s.core (at + 1) ≡ false → Keeps s (with_pair s at n)
keeps_pair s at n low high =
    followed (keeps_byte s at (n % 256) low) (keeps_byte (with_byte s at (n % 256)) (at + 1) (n / 256) high)

-- a register and SREG
keeps_result : (s : State) (d byte flags : ℕ) → IsTrue (is_register d) → Keeps s (with_sreg (with_register s d byte) flags)
keeps_result s d byte flags h =
    followed (keeps_byte s d byte (register_is_none s.core d h)) (keeps_byte (with_byte s d byte) 0x5F flags refl)

keeps_pair_result : (s : State) (d n flags : ℕ) → is_port s.core d ≡ false → is_port s.core (d + 1) ≡ false
    → Keeps s (with_sreg (with_pair s d n) flags)
keeps_pair_result s d n flags low high =
    followed (keeps_pair s d n low high) (keeps_byte (with_pair s d n) 0x5F flags refl)

keeps_register : (s : State) (d byte : ℕ) → IsTrue (is_register d) → Keeps s (with_register s d byte)
keeps_register s d byte h = keeps_byte s d byte (register_is_none s.core d h)

keeps_stored : (s : State) (at byte : ℕ) → Keeps s (stored s at byte)
keeps_stored s at byte = split (is_port s.core at) refl
  where
    split : (b : Bool) → is_port s.core at ≡ b → Keeps s (if b then s else with_byte s at byte)
    split true e = unchanged s
    split false e = keeps_byte s at byte e

-- a step that is made where a test allows it
of_test : (can : Bool) (after : After) (kind : FaultKind) (s : State) → (IsTrue can → Keeps s after.state)
    → Keeps s (if can then after else faulted kind s).state
of_test true after kind s h = h refl
of_test false after kind s h = unchanged s

at_data : (at : ℕ) (after : After) (s : State) → Keeps s after.state
    → Keeps s (if nat_lt at (length s.mem.data) then after else faulted DataOut s).state
at_data at after s h = of_test (nat_lt at (length s.mem.data)) after DataOut s (λ _. h)

-- ---- the table: the registers that an instruction names are below 32

first_of : (a b : Bool) → IsTrue (a && b) → IsTrue a
first_of a b h = (and_parts a b h).0

-- two registers of one format
two : (d r : ℕ) → IsTrue (is_register d && is_register r) → IsTrue (is_register d)
two d r h = first_of (is_register d) (is_register r) h

upper : (d k : ℕ) → IsTrue (nat_le 16 d && is_register d && nat_lt k 256) → IsTrue (is_register d)
upper d k h = (and_parts (nat_le 16 d) (is_register d) (first_of (nat_le 16 d && is_register d) (nat_lt k 256) h)).1

beside : (d pointer : ℕ) → IsTrue (is_register d && not (d == pointer) && not (d == pointer + 1)) → IsTrue (is_register d)
beside d pointer h =
    first_of (is_register d) (not (d == pointer))
    (first_of (is_register d && not (d == pointer)) (not (d == pointer + 1)) h)

-- the pair of an instruction that adds to it
pair_below : (d k : ℕ) → IsTrue (nat_le 24 d && nat_lt d 31 && (d % 2 == 0) && nat_lt k 64) → d < 31
pair_below d k h =
    let p = first_of (nat_le 24 d && nat_lt d 31 && (d % 2 == 0)) (nat_lt k 64) h in
    let q = first_of (nat_le 24 d && nat_lt d 31) (d % 2 == 0) p in
    ltb-true d 31 (and_parts (nat_le 24 d) (nat_lt d 31) q).1

-- an even register has another above it
even_below : (d r : ℕ) → IsTrue (is_register d && is_register r && (d % 2 == 0) && (r % 2 == 0)) → d < 31
even_below d r h =
    let p = and_parts (is_register d && is_register r && (d % 2 == 0)) (r % 2 == 0) h in
    let q = and_parts (is_register d && is_register r) (d % 2 == 0) p.0 in
    let small = ltb-true d 32 (two d r q.0) in
    let even = eqb-true (d % 2) 0 q.1 in
    omega arith

pair_of_two : (s : State) (d n : ℕ) → d < 31 → Keeps s (with_pair s d n)
pair_of_two s d n h = keeps_pair s d n (below_is_none s.core d (omega arith)) (below_is_none s.core (d + 1) (omega arith))

pair_result : (s : State) (d n flags : ℕ) → d < 31 → Keeps s (with_sreg (with_pair s d n) flags)
pair_result s d n flags h =
    keeps_pair_result s d n flags (below_is_none s.core d (omega arith)) (below_is_none s.core (d + 1) (omega arith))

-- a load that moves a pointer
loads_and_moves : (s : State) (d byte pointer at : ℕ) → IsTrue (is_register d) → pointer < 31
    → Keeps s (with_pair (with_register s d byte) pointer at)
loads_and_moves s d byte pointer at h p =
    followed (keeps_register s d byte h) (pair_of_two (with_register s d byte) pointer at p)

-- a load that moves the far pointer, on a core that has RAMPZ
loads_and_moves_far : (s : State) (d byte at : ℕ) → IsTrue (is_register d) → IsTrue (has_rampz s.core)
    → Keeps s (with_far_pointer (with_register s d byte) at)
loads_and_moves_far s d byte at h has =
    let moved = with_pair (with_register s d byte) pointer_z (at % 65536) in
    let none : is_port s.core rampz ≡ false = rw has refl in
    followed (loads_and_moves s d byte pointer_z (at % 65536) h (omega arith)) (keeps_byte moved rampz (at / 65536) none)

moves_and_loads : (s : State) (d byte pointer at : ℕ) → IsTrue (is_register d) → pointer < 31
    → Keeps s (with_register (with_pair s pointer at) d byte)
moves_and_loads s d byte pointer at h p =
    followed (pair_of_two s pointer at p) (keeps_register (with_pair s pointer at) d byte h)

stores_and_moves : (s : State) (to byte pointer at : ℕ) → pointer < 31 → Keeps s (with_pair (stored s to byte) pointer at)
stores_and_moves s to byte pointer at p =
    followed (keeps_stored s to byte) (pair_of_two (stored s to byte) pointer at p)

moves_and_stores : (s : State) (to byte pointer at : ℕ) → pointer < 31 → Keeps s (stored (with_pair s pointer at) to byte)
moves_and_stores s to byte pointer at p =
    followed (pair_of_two s pointer at p) (keeps_stored (with_pair s pointer at) to byte)

stores : (s : State) (at byte words : ℕ) → Keeps s (store at byte words s).state
stores s at byte words = at_data at _ s (keeps_stored s at byte)

stores_and_raises : (s : State) (pointer byte : ℕ) → pointer < 31 → Keeps s (store_and_raise pointer byte s).state
stores_and_raises s pointer byte p =
    let at = pair s pointer in at_data at _ s (stores_and_moves s at byte pointer (raised at) p)

lowers_and_stores : (s : State) (pointer byte : ℕ) → pointer < 31 → Keeps s (lower_and_store pointer byte s).state
lowers_and_stores s pointer byte p =
    let at = lowered (pair s pointer) in at_data at _ s (moves_and_stores s at byte pointer at p)

calls : (to back : ℕ) (s : State) → Keeps s (call to back s).state
calls to back s =
    let first = stack_pointer s in
    let second = lowered first in
    of_test (is_sram s first && is_sram s second) _ StackOut s
    (λ can. let p = and_parts (is_sram s first) (is_sram s second) can in
    let one = with_byte s first (back % 256) in
    let two = with_byte one second (back / 256 % 256) in
    followed
    (followed (keeps_byte s first (back % 256) (sram_is_none s first p.0))
    (keeps_byte one second (back / 256 % 256) (sram_is_none s second p.1)))
    (keeps_pair two 0x5D (lowered second) refl refl))

pub keeps : (i : Instr) → IsTrue (in_table i) → (answer : ℕ) (s : State) → Keeps s (effect (Some i) answer s).state
unfolding effect
keeps (Movw d r) h answer s = pair_of_two s d _ (even_below d r h)
keeps (Mov d r) h answer s = keeps_register s d _ (two d r h)
keeps (Ldi d k) h answer s = keeps_register s d _ (upper d k h)
keeps (Add d r) h answer s = keeps_result s d _ _ (two d r h)
keeps (Adc d r) h answer s = keeps_result s d _ _ (two d r h)
keeps (Sub d r) h answer s = keeps_result s d _ _ (two d r h)
keeps (Sbc d r) h answer s = keeps_result s d _ _ (two d r h)
keeps (Subi d k) h answer s = keeps_result s d _ _ (upper d k h)
keeps (Sbci d k) h answer s = keeps_result s d _ _ (upper d k h)
keeps (Neg d) h answer s = keeps_result s d _ _ h
keeps (Cp d r) h answer s = keeps_byte s 0x5F _ refl
keeps (Cpc d r) h answer s = keeps_byte s 0x5F _ refl
keeps (Cpi d k) h answer s = keeps_byte s 0x5F _ refl
keeps (And d r) h answer s = keeps_result s d _ _ (two d r h)
keeps (Andi d k) h answer s = keeps_result s d _ _ (upper d k h)
keeps (Or d r) h answer s = keeps_result s d _ _ (two d r h)
keeps (Ori d k) h answer s = keeps_result s d _ _ (upper d k h)
keeps (Eor d r) h answer s = keeps_result s d _ _ (two d r h)
keeps (Com d) h answer s = keeps_result s d _ _ h
keeps (Inc d) h answer s = keeps_result s d _ _ h
keeps (Dec d) h answer s = keeps_result s d _ _ h
keeps (Asr d) h answer s = keeps_result s d _ _ h
keeps (Lsr d) h answer s = keeps_result s d _ _ h
keeps (Ror d) h answer s = keeps_result s d _ _ h
keeps (Swap d) h answer s = keeps_register s d _ h
keeps (Adiw d k) h answer s = pair_result s d _ _ (pair_below d k h)
keeps (Sbiw d k) h answer s = pair_result s d _ _ (pair_below d k h)
keeps (Mul d r) h answer s = pair_result s 0 _ _ (omega arith)
keeps (Bset n) h answer s = keeps_byte s 0x5F _ refl
keeps (Bclr n) h answer s = keeps_byte s 0x5F _ refl
keeps (Bst d b) h answer s = keeps_byte s 0x5F _ refl
keeps (Bld d b) h answer s = keeps_register s d _ (first_of (is_register d) (nat_lt b 8) h)
keeps (LddZ d q) h answer s = at_data ((pair s pointer_z + q) % 65536) _ s (keeps_register s d _ (first_of (is_register d) (nat_lt q 64) h))
keeps (LddY d q) h answer s = at_data ((pair s pointer_y + q) % 65536) _ s (keeps_register s d _ (first_of (is_register d) (nat_lt q 64) h))
keeps (LdX d) h answer s = at_data (pair s pointer_x) _ s (keeps_register s d _ h)
keeps (Lds d k) h answer s = at_data k _ s (keeps_register s d _ (first_of (is_register d) (nat_lt k 65536) h))
keeps (InInstr d a) h answer s = at_data (a + 0x20) _ s (keeps_register s d _ (first_of (is_register d) (nat_lt a 64) h))
keeps (LdZPlus d) h answer s = at_data (pair s pointer_z) _ s (loads_and_moves s d _ pointer_z _ (beside d 30 h) (omega arith))
keeps (LdYPlus d) h answer s = at_data (pair s pointer_y) _ s (loads_and_moves s d _ pointer_y _ (beside d 28 h) (omega arith))
keeps (LdXPlus d) h answer s = at_data (pair s pointer_x) _ s (loads_and_moves s d _ pointer_x _ (beside d 26 h) (omega arith))
keeps (LdMinusZ d) h answer s = at_data (lowered (pair s pointer_z)) _ s (moves_and_loads s d _ pointer_z _ (beside d 30 h) (omega arith))
keeps (LdMinusY d) h answer s = at_data (lowered (pair s pointer_y)) _ s (moves_and_loads s d _ pointer_y _ (beside d 28 h) (omega arith))
keeps (LdMinusX d) h answer s = at_data (lowered (pair s pointer_x)) _ s (moves_and_loads s d _ pointer_x _ (beside d 26 h) (omega arith))
keeps (StdZ q r) h answer s = stores s ((pair s pointer_z + q) % 65536) (register s r) 1
keeps (StdY q r) h answer s = stores s ((pair s pointer_y + q) % 65536) (register s r) 1
keeps (StX r) h answer s = stores s (pair s pointer_x) (register s r) 1
keeps (Sts k r) h answer s = stores s k (register s r) 2
keeps (OutInstr a r) h answer s = stores s (a + 0x20) (register s r) 1
keeps (StZPlus r) h answer s = stores_and_raises s pointer_z (register s r) (omega arith)
keeps (StYPlus r) h answer s = stores_and_raises s pointer_y (register s r) (omega arith)
keeps (StXPlus r) h answer s = stores_and_raises s pointer_x (register s r) (omega arith)
keeps (StMinusZ r) h answer s = lowers_and_stores s pointer_z (register s r) (omega arith)
keeps (StMinusY r) h answer s = lowers_and_stores s pointer_y (register s r) (omega arith)
keeps (StMinusX r) h answer s = lowers_and_stores s pointer_x (register s r) (omega arith)
keeps (LpmZ d) h answer s =
    of_test (nat_lt (pair s pointer_z) (length s.mem.flash)) _ DataOut s (λ _. keeps_register s d _ h)
keeps (LpmZPlus d) h answer s =
    of_test (nat_lt (pair s pointer_z) (length s.mem.flash)) _ DataOut s
    (λ _. loads_and_moves s d _ pointer_z _ (beside d 30 h) (omega arith))
keeps (Elpm d) h answer s =
    of_test (has_rampz s.core) _ Unsupported s
    (λ has. of_test (nat_lt (far_pointer s) (length s.mem.flash)) _ DataOut s (λ _. keeps_register s d _ h))
keeps (ElpmInc d) h answer s =
    of_test (has_rampz s.core) _ Unsupported s
    (λ has. of_test (nat_lt (far_pointer s) (length s.mem.flash)) _ DataOut s
    (λ _. loads_and_moves_far s d _ (raised_far (far_pointer s)) (beside d 30 h) has))
keeps (Push r) h answer s =
    let at = stack_pointer s in
    of_test (is_sram s at) _ StackOut s
    (λ can. followed (keeps_byte s at (register s r) (sram_is_none s at can))
    (keeps_pair (with_byte s at (register s r)) 0x5D (lowered at) refl refl))
keeps (Pop d) h answer s =
    let at = raised (stack_pointer s) in
    of_test (is_sram s at) _ StackOut s
    (λ can. followed (keeps_register s d (byte_at s at) h)
    (keeps_pair (with_register s d (byte_at s at)) 0x5D at refl refl))
keeps (Call k) h answer s = calls k (s.pc + 2) s
keeps (Rcall k) h answer s = calls (relative s.pc k) (s.pc + 1) s
keeps Icall h answer s = calls (pair s pointer_z) (s.pc + 1) s
keeps Ret h answer s =
    let first = raised (stack_pointer s) in
    of_test (is_sram s first && is_sram s (raised first)) _ StackOut s (λ _. keeps_pair s 0x5D (raised first) refl refl)
keeps _ h answer s = unchanged s
