-- What each instruction of the table does to the SRAM.
use Rattle.std.proofs.Common.{◌≡◌, ◌≢◌, ℕ, ◌+◌, ◌/◌, ◌%◌, ◌<◌, Bool, true, false, not, ◌&&◌, ◌==◌, List, [], ◌∷◌, Option, Some}
use Rattle.std.proofs.Common.{None, refl, length, nat_lt, arith}
use Rattle.std.specs.Prelude.{IsTrue, if◌then◌else◌, nat_le, ⊤, slice_index}
use Rattle.std.proofs.lemmas.Bool.{and_parts, ltb-true, ltb-false}
use Rattle.std.proofs.lemmas.Bool.Decides.{nat_tests}
use Rattle.ec_isa.specs.declared.instructions.Instr.{Instr}
use Rattle.ec_isa.specs.declared.instructions.Instr.TheVariants.{Movw, Cpc, Sbc, Add, Cp, Sub, Adc, And, Eor, Or, Mov, Mul, Cpi, Sbci, Subi}
use Rattle.ec_isa.specs.declared.instructions.Instr.TheVariants.{Ori, Andi, Ldi, LddZ, LddY, StdZ, StdY, Lds, Sts, LdZPlus, LdMinusZ}
use Rattle.ec_isa.specs.declared.instructions.Instr.TheVariants.{LdYPlus, LdMinusY, LdX, LdXPlus, LdMinusX, StZPlus, StMinusZ, StYPlus}
use Rattle.ec_isa.specs.declared.instructions.Instr.TheVariants.{StMinusY, StX, StXPlus, StMinusX, LpmZ, LpmZPlus, Elpm, ElpmInc, Pop, Push, Com}
use Rattle.ec_isa.specs.declared.instructions.Instr.TheVariants.{Neg, Swap, Inc, Asr, Lsr, Ror, Dec, Bset, Bclr, Icall, Ret, Call, Adiw, Sbiw}
use Rattle.ec_isa.specs.declared.instructions.Instr.TheVariants.{In as InInstr, Out as OutInstr, Rcall, Bld, Bst, Break}
use Rattle.ec_isa.specs.Formats.{is_register}
use Rattle.ec_isa.specs.Table.{in_table}
use Rattle.ec_isa.proofs.InstructionAt.{instruction_is}
use Rattle.ec_space.specs.declared.space.Bank.TheVariants.{Flash as FlashBank, Data as DataBank}
use Rattle.ec_avr.specs.declared.machine.Access.TheVariants.{Silent, In, Out, Read, Write, Stack}
use Rattle.ec_avr.specs.declared.machine.FaultKind.TheVariants.{DataOut, StackOut, PcOut, Unsupported}
use Rattle.ec_avr.specs.declared.machine.Stepped.{Stepped}
use Rattle.ec_avr.specs.declared.machine.Stepped.TheVariants.{Ran, Ended, Fault}
use Rattle.ec_avr.specs.State.{State, word_at, register, with_register, pair, with_pair, pointer_x, pointer_y, pointer_z}
use Rattle.ec_avr.specs.State.{stack_pointer, is_core_register, is_sram, raised, lowered, passed, has_rampz, far_pointer, with_far_pointer}
use Rattle.ec_avr.specs.State.{rampz, raised_far}
use Rattle.ec_space.specs.declared.Core.{Core}
use Rattle.ec_avr.specs.Effects.{After, faulted, loaded, stored, load, load_and_raise, lower_and_load, store, store_and_raise}
use Rattle.ec_avr.specs.Effects.{lower_and_store, load_access, store_access, effect, instruction_at}
use Rattle.ec_avr.specs.Machine.{step, is_whole}
use Rattle.ec_avr.specs.Placed.{stack_bytes, stack_bytes_of}
use Rattle.ec_avr_accesses.proofs.Places.{SramStays, through, low_byte, low_pair, low_result, low_pair_result, IsStored, stores, and_moved}
use Rattle.ec_avr_accesses.proofs.Places.{moved_before, kept_size, and_passed}

-- what is told of a step that did something, where it pushes and pops some bytes
abbrev pub Told : State → Stepped → (stacked : List ℕ) → State → Type 0
Told s (Ran Silent) stacked t = SramStays s t
Told s (Ran (In port byte)) stacked t = SramStays s t
Told s (Ran (Out port byte)) stacked t = SramStays s t
Told s (Ran (Read bank at byte)) stacked t = SramStays s t
Told s (Ran (Write at byte)) stacked t = IsTrue (is_sram s at) × IsStored s at byte t
Told s (Ran Stack) stacked t = stacked ≢ []
Told s Ended stacked t = ⊤
Told s (Fault kind pc) stacked t = ⊤

-- ---- accesses

core_is_low : (core : Core) (at : ℕ) → is_core_register core at ≡ true → at < 256
core_is_low core at h = grind (arith, nat_tests)

stays_below : (s t : State) (at byte : ℕ) → IsStored s at byte t → at < 256 → SramStays s t
stays_below s t at byte h low a high = h.others a high (λ e. let same : a ≡ at = e in omega (arith, same))

by_load : (s t : State) (at byte : ℕ) → SramStays s t → Told s (Ran (load_access s.core at byte)) [] t
by_load s t at byte h = by_tests (is_core_register s.core at) (nat_lt at 256)
  where
    by_tests : (core low : Bool) → Told s (Ran (if core then Silent else (if low then In at byte else Read DataBank at byte))) [] t
    by_tests true low = h
    by_tests false true = h
    by_tests false false = h

by_store : (s t : State) (at byte : ℕ) → nat_lt at (length s.mem.data) ≡ true → IsStored s at byte t
    → Told s (Ran (store_access s.core at byte)) [] t
by_store s t at byte inside h = by_tests (is_core_register s.core at) (nat_lt at 256) refl refl
  where
    in_sram : nat_lt at 256 ≡ false → IsTrue (is_sram s at)
    in_sram low = let high = ltb-false at 256 low in grind (arith, nat_tests)

    by_tests : (core low : Bool) → is_core_register s.core at ≡ core → nat_lt at 256 ≡ low
        → Told s (Ran (if core then Silent else (if low then Out at byte else Write at byte))) [] t
    by_tests true low c l = stays_below s t at byte h (core_is_low s.core at c)
    by_tests false true c l = stays_below s t at byte h (ltb-true at 256 l)
    by_tests false false c l = (in_sram l, h)

-- a step that is made where a test allows it
where_told : (s : State) (can : Bool) (x y : After) (stacked : List ℕ) → (can ≡ true → Told s x.stepped stacked x.state)
    → Told s y.stepped stacked y.state
    → Told s (if can then x else y).stepped stacked (if can then x else y).state
where_told s true x y stacked f g = f refl
where_told s false x y stacked f g = g

-- the registers that an instruction names are below 32
first_of : (a b : Bool) → IsTrue (a && b) → IsTrue a
first_of a b h = (and_parts a b h).0

small : (d : ℕ) → IsTrue (is_register d) → d < 32
small d h = ltb-true d 32 h

two : (d r : ℕ) → IsTrue (is_register d && is_register r) → d < 32
two d r h = small d (first_of (is_register d) (is_register r) h)

pairs : (d r : ℕ) → IsTrue (is_register d && is_register r && (d % 2 == 0) && (r % 2 == 0)) → d < 32
pairs d r h =
    two d r (first_of (is_register d && is_register r) (d % 2 == 0)
    (first_of (is_register d && is_register r && (d % 2 == 0)) (r % 2 == 0) h))

upper : (d k : ℕ) → IsTrue (nat_le 16 d && is_register d && nat_lt k 256) → d < 32
upper d k h = small d (and_parts (nat_le 16 d) (is_register d) (first_of (nat_le 16 d && is_register d) (nat_lt k 256) h)).1

beside : (d pointer : ℕ) → IsTrue (is_register d && not (d == pointer) && not (d == pointer + 1)) → d < 32
beside d pointer h =
    small d (first_of (is_register d) (not (d == pointer)) (first_of (is_register d && not (d == pointer)) (not (d == pointer + 1)) h))

adds_to : (d k : ℕ) → IsTrue (nat_le 24 d && nat_lt d 31 && (d % 2 == 0) && nat_lt k 64) → d < 32
adds_to d k h =
    let p = first_of (nat_le 24 d && nat_lt d 31 && (d % 2 == 0)) (nat_lt k 64) h in
    let low = ltb-true d 31 (and_parts (nat_le 24 d) (nat_lt d 31) (first_of (nat_le 24 d && nat_lt d 31) (d % 2 == 0) p)).1 in
    omega (arith, low)

module _ (s : State) where
  -- ---- families

  loads : (d at answer words : ℕ) → d < 32 → let x = load d at answer words s in Told s x.stepped [] x.state
  loads d at answer words low =
      where_told s (nat_lt at (length s.mem.data)) _ _ []
      (λ can. by_load s (passed (with_register s d (loaded s at answer)) words) at (loaded s at answer) (low_byte s d _ (omega arith))) tt

  loads_and_raises : (d pointer answer : ℕ) → d < 32 → pointer < 32
      → let x = load_and_raise d pointer answer s in Told s x.stepped [] x.state
  loads_and_raises d pointer answer low below =
      let at = pair s pointer in
      let byte = loaded s at answer in
      where_told s (nat_lt at (length s.mem.data)) _ _ []
      (λ can. by_load s (passed (with_pair (with_register s d byte) pointer (raised at)) 1) at byte
      (through s (with_register s d byte) (with_pair (with_register s d byte) pointer (raised at)) (low_byte s d byte (omega arith))
      (low_pair (with_register s d byte) pointer (raised at) (omega arith)))) tt

  lowers_and_loads : (d pointer answer : ℕ) → d < 32 → pointer < 32
      → let x = lower_and_load d pointer answer s in Told s x.stepped [] x.state
  lowers_and_loads d pointer answer low below =
      let at = lowered (pair s pointer) in
      let moved = with_pair s pointer at in
      let byte = loaded moved at answer in
      where_told s (nat_lt at (length s.mem.data)) _ _ []
      (λ can. by_load s (passed (with_register moved d byte) 1) at byte
      (through s moved (with_register moved d byte) (low_pair s pointer at (omega arith)) (low_byte moved d byte (omega arith)))) tt

  stores_at : (at byte words : ℕ) → let x = store at byte words s in Told s x.stepped [] x.state
  stores_at at byte words =
      where_told s (nat_lt at (length s.mem.data)) _ _ []
      (λ can. by_store s (passed (stored s at byte) words) at byte can (and_passed s (stored s at byte) at byte words (stores s at byte
      (ltb-true at (length s.mem.data) can)))) tt

  stores_and_raises : (pointer byte : ℕ) → pointer < 32 → let x = store_and_raise pointer byte s in Told s x.stepped [] x.state
  stores_and_raises pointer byte below =
      let at = pair s pointer in
      where_told s (nat_lt at (length s.mem.data)) _ _ []
      (λ can. by_store s (passed (with_pair (stored s at byte) pointer (raised at)) 1) at byte can
      (and_passed s (with_pair (stored s at byte) pointer (raised at)) at byte 1
      (and_moved s (stored s at byte) at byte pointer (raised at) (omega arith) (stores s at byte (ltb-true at
      (length s.mem.data) can))))) tt

  lowers_and_stores : (pointer byte : ℕ) → pointer < 32 → let x = lower_and_store pointer byte s in Told s x.stepped [] x.state
  lowers_and_stores pointer byte below =
      let at = lowered (pair s pointer) in
      let moved = with_pair s pointer at in
      where_told s (nat_lt at (length s.mem.data)) _ _ []
      (λ can. by_store s (passed (stored moved at byte) 1) at byte can
      (and_passed s (stored moved at byte) at byte 1
      (moved_before s moved (stored moved at byte) at byte (low_pair s pointer at (omega arith))
      (stores moved at byte (omega (arith, ltb-true at (length s.mem.data) can, kept_size s pointer at)))))) tt

  loads_flash : (at byte : ℕ) (t : State) → SramStays s t
      → let x = (if nat_lt at (length s.mem.flash) then record {
        stepped = Ran
            (Read FlashBank at byte);
        state = t;
      } else faulted DataOut s) in
      Told s x.stepped [] x.state
  loads_flash at byte t h = where_told s (nat_lt at (length s.mem.flash)) _ _ [] (λ can. h) tt

  loads_far : (at byte : ℕ) (t : State) → SramStays s t
      → let inside : After =
      (if nat_lt at (length s.mem.flash) then record { stepped = Ran (Read FlashBank at byte); state = t } else faulted DataOut s) in
      let x : After = (if has_rampz s.core then inside else faulted Unsupported s) in Told s x.stepped [] x.state
  loads_far at byte t h = where_told s (has_rampz s.core) _ _ [] (λ has. loads_flash at byte t h) tt

  stacks : (can : Bool) (t : State) (a : ℕ) (rest : List ℕ)
      → let x = (if can then record { stepped = Ran Stack; state = t } else faulted StackOut s) in Told s x.stepped (a ∷ rest) x.state
  stacks can t a rest = where_told s can _ _ (a ∷ rest) (λ c e. cc) tt

  -- ---- the table

  of_effect : (i : Instr) → IsTrue (in_table i) → (answer : ℕ)
      → Told s (effect (Some i) answer s).stepped (stack_bytes_of (Some i) s) (effect (Some i) answer s).state
  unfolding effect
  of_effect (Movw d r) h answer = low_pair s d _ (omega (arith, pairs d r h))
  of_effect (Mov d r) h answer = low_byte s d _ (omega (arith, two d r h))
  of_effect (Ldi d k) h answer = low_byte s d _ (omega (arith, upper d k h))
  of_effect (Add d r) h answer = low_result s d _ _ (two d r h)
  of_effect (Adc d r) h answer = low_result s d _ _ (two d r h)
  of_effect (Sub d r) h answer = low_result s d _ _ (two d r h)
  of_effect (Sbc d r) h answer = low_result s d _ _ (two d r h)
  of_effect (And d r) h answer = low_result s d _ _ (two d r h)
  of_effect (Or d r) h answer = low_result s d _ _ (two d r h)
  of_effect (Eor d r) h answer = low_result s d _ _ (two d r h)
  of_effect (Subi d k) h answer = low_result s d _ _ (upper d k h)
  of_effect (Sbci d k) h answer = low_result s d _ _ (upper d k h)
  of_effect (Andi d k) h answer = low_result s d _ _ (upper d k h)
  of_effect (Ori d k) h answer = low_result s d _ _ (upper d k h)
  of_effect (Neg d) h answer = low_result s d _ _ (small d h)
  of_effect (Com d) h answer = low_result s d _ _ (small d h)
  of_effect (Inc d) h answer = low_result s d _ _ (small d h)
  of_effect (Dec d) h answer = low_result s d _ _ (small d h)
  of_effect (Asr d) h answer = low_result s d _ _ (small d h)
  of_effect (Lsr d) h answer = low_result s d _ _ (small d h)
  of_effect (Ror d) h answer = low_result s d _ _ (small d h)
  of_effect (Swap d) h answer = low_byte s d _ (omega (arith, small d h))
  of_effect (Cp d r) h answer = low_byte s 0x5F _ (omega arith)
  of_effect (Cpc d r) h answer = low_byte s 0x5F _ (omega arith)
  of_effect (Cpi d k) h answer = low_byte s 0x5F _ (omega arith)
  of_effect (Adiw d k) h answer = low_pair_result s d _ _ (adds_to d k h)
  of_effect (Sbiw d k) h answer = low_pair_result s d _ _ (adds_to d k h)
  of_effect (Mul d r) h answer = low_pair_result s 0 _ _ (omega arith)
  of_effect (Bset n) h answer = low_byte s 0x5F _ (omega arith)
  of_effect (Bclr n) h answer = low_byte s 0x5F _ (omega arith)
  of_effect (Bst d b) h answer = low_byte s 0x5F _ (omega arith)
  of_effect (Bld d b) h answer = low_byte s d _ (omega (arith, small d (first_of (is_register d) (nat_lt b 8) h)))
  of_effect (LddZ d q) h answer = loads d ((pair s pointer_z + q) % 65536) answer 1 (small d (first_of (is_register d) (nat_lt q 64) h))
  of_effect (LddY d q) h answer = loads d ((pair s pointer_y + q) % 65536) answer 1 (small d (first_of (is_register d) (nat_lt q 64) h))
  of_effect (LdX d) h answer = loads d (pair s pointer_x) answer 1 (small d h)
  of_effect (Lds d k) h answer = loads d k answer 2 (small d (first_of (is_register d) (nat_lt k 65536) h))
  of_effect (InInstr d a) h answer = loads d (a + 0x20) answer 1 (small d (first_of (is_register d) (nat_lt a 64) h))
  of_effect (LdZPlus d) h answer = loads_and_raises d pointer_z answer (beside d 30 h) (omega arith)
  of_effect (LdYPlus d) h answer = loads_and_raises d pointer_y answer (beside d 28 h) (omega arith)
  of_effect (LdXPlus d) h answer = loads_and_raises d pointer_x answer (beside d 26 h) (omega arith)
  of_effect (LdMinusZ d) h answer = lowers_and_loads d pointer_z answer (beside d 30 h) (omega arith)
  of_effect (LdMinusY d) h answer = lowers_and_loads d pointer_y answer (beside d 28 h) (omega arith)
  of_effect (LdMinusX d) h answer = lowers_and_loads d pointer_x answer (beside d 26 h) (omega arith)
  of_effect (StdZ q r) h answer = stores_at ((pair s pointer_z + q) % 65536) (register s r) 1
  of_effect (StdY q r) h answer = stores_at ((pair s pointer_y + q) % 65536) (register s r) 1
  of_effect (StX r) h answer = stores_at (pair s pointer_x) (register s r) 1
  of_effect (Sts k r) h answer = stores_at k (register s r) 2
  of_effect (OutInstr a r) h answer = stores_at (a + 0x20) (register s r) 1
  of_effect (StZPlus r) h answer = stores_and_raises pointer_z (register s r) (omega arith)
  of_effect (StYPlus r) h answer = stores_and_raises pointer_y (register s r) (omega arith)
  of_effect (StXPlus r) h answer = stores_and_raises pointer_x (register s r) (omega arith)
  of_effect (StMinusZ r) h answer = lowers_and_stores pointer_z (register s r) (omega arith)
  of_effect (StMinusY r) h answer = lowers_and_stores pointer_y (register s r) (omega arith)
  of_effect (StMinusX r) h answer = lowers_and_stores pointer_x (register s r) (omega arith)
  of_effect (LpmZ d) h answer = loads_flash (pair s pointer_z) _ _ (low_byte s d _ (omega (arith, small d h)))
  of_effect (LpmZPlus d) h answer =
      let at = pair s pointer_z in
      let byte = slice_index s.mem.flash at in
      loads_flash at byte (passed (with_pair (with_register s d byte) pointer_z (raised at)) 1)
      (through s (with_register s d byte) (with_pair (with_register s d byte) pointer_z (raised at))
      (low_byte s d byte (omega (arith, beside d 30 h))) (low_pair (with_register s d byte) pointer_z (raised at) (omega arith)))
  of_effect (Elpm d) h answer = loads_far (far_pointer s) _ _ (low_byte s d _ (omega (arith, small d h)))
  of_effect (ElpmInc d) h answer =
      let at = far_pointer s in
      let byte = slice_index s.mem.flash at in
      let loaded_byte = with_register s d byte in
      let n = raised_far at in
      let moved = with_pair loaded_byte pointer_z (n % 65536) in
      loads_far at byte (passed (with_far_pointer loaded_byte n) 1)
      (through s loaded_byte (with_far_pointer loaded_byte n) (low_byte s d byte (omega (arith, beside d 30 h)))
      (through loaded_byte moved (with_far_pointer loaded_byte n) (low_pair loaded_byte pointer_z (n % 65536) (omega arith))
      (low_byte moved rampz (n / 65536) (omega arith))))
  of_effect (Push r) h answer = stacks (is_sram s (stack_pointer s)) _ _ _
  of_effect (Pop d) h answer = stacks (is_sram s (raised (stack_pointer s))) _ _ _
  of_effect (Call k) h answer = stacks (is_sram s (stack_pointer s) && is_sram s (lowered (stack_pointer s))) _ _ _
  of_effect (Rcall k) h answer = stacks (is_sram s (stack_pointer s) && is_sram s (lowered (stack_pointer s))) _ _ _
  of_effect Icall h answer = stacks (is_sram s (stack_pointer s) && is_sram s (lowered (stack_pointer s))) _ _ _
  of_effect Ret h answer = stacks (is_sram s (raised (stack_pointer s)) && is_sram s (raised (raised (stack_pointer s)))) _ _ _
  of_effect Break h answer = tt
  of_effect _ h answer = λ at high. refl

  pub of_step : (answer : ℕ) → Told s (step answer s).stepped (stack_bytes s) (step answer s).state
  unfolding step effect
  of_step answer = by_test (is_whole s) (by_table (instruction_at s s.pc) refl)
    where
      by_table : (i : Option Instr) → instruction_at s s.pc ≡ i
          → Told s (effect i answer s).stepped (stack_bytes_of i s) (effect i answer s).state
      by_table None e = tt
      by_table (Some i) e = of_effect i ((instruction_is i (word_at s s.pc) (word_at s (s.pc + 1))).0 e).in_range answer

      by_test : (b : Bool)
          → (let x = effect (instruction_at s s.pc) answer s in Told s x.stepped (stack_bytes_of (instruction_at s s.pc) s) x.state)
          → let x = (if b then effect (instruction_at s s.pc) answer s else faulted PcOut s) in
          Told s x.stepped (if b then stack_bytes_of (instruction_at s s.pc) s else []) x.state
      by_test true h = h
      by_test false h = tt
