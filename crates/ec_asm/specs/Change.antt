-- What an instruction that goes on to the next one does to the view.
use Rattle.std.specs.Prelude.{ℕ, zero, suc, ◌+◌, ◌-◌, ◌*◌, ◌/◌, ◌%◌, ◌==◌, nat_lt, Bool, true, false, if◌then◌else◌}
use Rattle.std.specs.Prelude.{List, [], ◌∷◌, ◌++◌, slice_index, drop, bit_and, bit_or, bit_xor}
use Rattle.std.specs.Int.{bit_at, from_bool}
use Rattle.ec_space.specs.declared.Core.{Core}
use Rattle.ec_space.specs.declared.space.Bank.TheVariants.{Flash as FlashBank, Data as DataBank}
use Rattle.ec_isa.specs.declared.instructions.Instr.{Instr}
use Rattle.ec_isa.specs.declared.instructions.Instr.TheVariants.{Nop, Movw, Cpc, Sbc, Add, Cpse, Cp, Sub, Adc, And, Eor}
use Rattle.ec_isa.specs.declared.instructions.Instr.TheVariants.{Or, Mov, Mul, Cpi, Sbci, Subi, Ori, Andi, Ldi, LddZ}
use Rattle.ec_isa.specs.declared.instructions.Instr.TheVariants.{LddY, StdZ, StdY, Lds, Sts, LdZPlus, LdX, LdXPlus}
use Rattle.ec_isa.specs.declared.instructions.Instr.TheVariants.{StZPlus, StX, StXPlus, LpmZ, LpmZPlus, Pop, Push, Com}
use Rattle.ec_isa.specs.declared.instructions.Instr.TheVariants.{Elpm, ElpmInc}
use Rattle.ec_isa.specs.declared.instructions.Instr.TheVariants.{Neg, Swap, Inc, Asr, Lsr, Ror, Dec, Bset, Bclr, Ijmp}
use Rattle.ec_isa.specs.declared.instructions.Instr.TheVariants.{Icall, Ret, Break, Jmp, Call, Adiw, Sbiw}
use Rattle.ec_isa.specs.declared.instructions.Instr.TheVariants.{In as InInstr, Out as OutInstr, Rjmp, Rcall, Brbs}
use Rattle.ec_isa.specs.declared.instructions.Instr.TheVariants.{Brbc, Bst, Sbrc, Sbrs}
use Rattle.ec_avr.specs.declared.machine.Access.{Access}
use Rattle.ec_avr.specs.declared.machine.Access.TheVariants.{In, Out, Read, Write}
use Rattle.ec_avr.specs.State.{has_rampz, raised, raised_far, lowered}
use Rattle.ec_avr.specs.Flags.{byte_sum, byte_difference, sum_overflow, difference_overflow, pair_sum, pair_difference}
use Rattle.ec_avr.specs.Flags.{shifted}
use Rattle.ec_avr.specs.Machine.{Inputs}
use Rattle.ec_asm.specs.View.{Flags, View, put, pair, put_pair}
pub use Rattle.ec_asm.specs.Bytes.{words}

-- what stands at a data address, for the code that is looked at: a place of its own, a byte of an object, a port, a
-- byte of the stack, RAMPZ, or what it must not touch
pub data Kind : Type 0 where
  Own : Kind
  Object : Kind
  Port : Kind
  Stacked : Kind
  Page : Kind
  Barred : Kind

-- What is outside the code: the core, the flash, the word of each label (65,536 or more for one that has none), the
-- address of each byte of an object, modulo 65,536 and whole, the base, which is the address that Y holds all along
-- (65,536 or more where Y is free), what stands at each data address, and what at each address of the flash
pub record Env : Type 0 where
  pub core : Core
  pub flash : List ℕ
  pub word_of : ℕ → ℕ
  pub address_of : ℕ → ℕ → ℕ
  pub far_of : ℕ → ℕ → ℕ
  pub base : ℕ
  pub kind : ℕ → Kind
  pub table : ℕ → Kind

-- the same where Y is free
abbrev pub unbased : Env → Env
unbased e = record e { base = 65536 }

-- ---- flags

abbrev pub flags_with : Flags → (c z n v : ℕ) → Flags
flags_with f c z n v = record f { c = c; z = z; n = n; v = v; s = (n + v) % 2 }

abbrev pub sum_flags : Flags → (x y carry : ℕ) → Flags
sum_flags f x y carry =
    let r = byte_sum x y carry in
    flags_with f ((x + y + carry) / 256) (from_bool (r == 0)) (r / 128) (sum_overflow 128 x y r)

abbrev pub difference_flags : Flags → (x y borrow zero_before : ℕ) → Flags
difference_flags f x y borrow zero_before =
    let r = byte_difference x y borrow in
    flags_with f (from_bool (nat_lt x (y + borrow))) (from_bool (r == 0) * zero_before) (r / 128)
    (difference_overflow 128 x y r)

-- Z, N and V of a result, where C stays
abbrev pub result_flags : Flags → (r v : ℕ) → Flags
result_flags f r v = flags_with f f.c (from_bool (r == 0)) (r / 128) v

abbrev pub shift_flags : Flags → (x top : ℕ) → Flags
shift_flags f x top =
    let r = shifted x top in flags_with f (x % 2) (from_bool (r == 0)) (r / 128) ((r / 128 + x % 2) % 2)

-- ADIW and SBIW
abbrev pub pair_sum_flags : Flags → (x k : ℕ) → Flags
pair_sum_flags f x k =
    let r = pair_sum x k in
    flags_with f ((x + k) / 65536) (from_bool (r == 0)) (r / 32768) (sum_overflow 32768 x k r)

abbrev pub pair_difference_flags : Flags → (x k : ℕ) → Flags
pair_difference_flags f x k =
    let r = pair_difference x k in
    flags_with f (from_bool (nat_lt x k)) (from_bool (r == 0)) (r / 32768) (difference_overflow 32768 x k r)

-- MUL with the product p
abbrev pub product_flags : Flags → ℕ → Flags
product_flags f p = record f { c = p / 32768; z = from_bool (p == 0) }

abbrev pub flag_put : Flags → ℕ → ℕ → Flags
flag_put f zero x = record f { c = x }
flag_put f (suc zero) x = record f { z = x }
flag_put f (suc (suc zero)) x = record f { n = x }
flag_put f (suc (suc (suc zero))) x = record f { v = x }
flag_put f (suc (suc (suc (suc zero)))) x = record f { s = x }
flag_put f (suc (suc (suc (suc (suc (suc zero)))))) x = record f { t = x }
flag_put f _ x = f

abbrev pub flag_at : Flags → ℕ → ℕ
flag_at f zero = f.c
flag_at f (suc zero) = f.z
flag_at f (suc (suc zero)) = f.n
flag_at f (suc (suc (suc zero))) = f.v
flag_at f (suc (suc (suc (suc zero)))) = f.s
flag_at f (suc (suc (suc (suc (suc (suc zero)))))) = f.t
flag_at f _ = 0

-- ---- families

abbrev pub bar : View → View
bar v = record v { safe = false }

abbrev pub see : Access → View → View
see a v = record v { seen = v.seen ++ a ∷ [] }

abbrev pub set : ℕ → ℕ → View → View
set d x v = record v { at = put v.at d x }

abbrev pub set_both : ℕ → ℕ → Flags → View → View
set_both d x f v = record v { at = put v.at d x; flags = f }

abbrev pub set_pair_both : ℕ → ℕ → Flags → View → View
set_pair_both d n f v = record v { at = put_pair v.at d n; flags = f }

-- the next byte of a port, 0 past its list's end
abbrev pub given : View → ℕ → ℕ
given v a = slice_index (v.inputs a) 0

abbrev pub taken : Inputs → ℕ → Inputs
taken inputs a = λ q. if q == a then drop 1 (inputs q) else inputs q

abbrev pub load_by : Kind → (d a : ℕ) → View → View
load_by Own d a v = set d (v.at a) v
load_by Object d a v = see (Read DataBank a (v.at a)) (set d (v.at a) v)
load_by Port d a v =
    record v { at = put v.at d (given v a); inputs = taken v.inputs a; seen = v.seen ++ In a (given v a) ∷ [] }
load_by Stacked d a v = bar v
load_by Page d a v = bar v
load_by Barred d a v = bar v

abbrev pub store_by : Kind → (a x : ℕ) → View → View
store_by Own a x v = set a x v
store_by Object a x v = see (Write a x) (set a x v)
store_by Port a x v = see (Out a x) v
store_by Stacked a x v = bar v
store_by Page a x v = record v { page = x }
store_by Barred a x v = bar v

abbrev pub flash_by : Kind → (d a x : ℕ) → View → View
flash_by Own d a x v = set d x v
flash_by Object d a x v = see (Read FlashBank a x) (set d x v)
flash_by Port d a x v = bar v
flash_by Stacked d a x v = bar v
flash_by Page d a x v = bar v
flash_by Barred d a x v = bar v

-- a pointer is set to an address
abbrev pub move_to : (pointer at : ℕ) → View → View
move_to pointer at v = record v { at = put_pair v.at pointer at }

-- the number in RAMPZ:Z, and what is left where it is set
abbrev pub far_z : View → ℕ
far_z v = 65536 * v.page + pair v.at 30

abbrev pub move_far : ℕ → View → View
move_far n v = record v { at = put_pair v.at 30 (n % 65536); page = n / 65536 }

-- what needs RAMPZ is barred on a core that has none
abbrev pub by_rampz : Core → View → View → View
by_rampz core w v = if has_rampz core then w else bar v

-- the stack pointer
abbrev pub sp : View → ℕ
sp v = pair v.at 0x5D

abbrev pub push_by : Kind → ℕ → View → View
push_by Stacked x v = record v { at = put_pair (put v.at (sp v) x) 0x5D (lowered (sp v)) }
push_by _ x v = bar v

abbrev pub pop_by : Kind → ℕ → View → View
pop_by Stacked d v = record v { at = put_pair (put v.at d (v.at (raised (sp v)))) 0x5D (raised (sp v)) }
pop_by _ d v = bar v

-- the address in Y: the base, where it is held there
abbrev pub y_of : Env → View → ℕ
y_of e v = if nat_lt e.base 65536 then e.base else pair v.at 28

-- ---- the instructions. One that is not listed does nothing here, and is not usable
abbrev pub change : Env → Instr → View → View
change e Nop v = v
change e (Movw d r) v = record v { at = put_pair v.at d (pair v.at r) }
change e (Mov d r) v = set d (v.at r) v
change e (Ldi d k) v = set d k v
change e (Add d r) v = set_both d (byte_sum (v.at d) (v.at r) 0) (sum_flags v.flags (v.at d) (v.at r) 0) v
change e (Adc d r) v =
    set_both d (byte_sum (v.at d) (v.at r) v.flags.c) (sum_flags v.flags (v.at d) (v.at r) v.flags.c) v
change e (Sub d r) v =
    set_both d (byte_difference (v.at d) (v.at r) 0) (difference_flags v.flags (v.at d) (v.at r) 0 1) v
change e (Sbc d r) v =
    set_both d (byte_difference (v.at d) (v.at r) v.flags.c)
    (difference_flags v.flags (v.at d) (v.at r) v.flags.c v.flags.z) v
change e (Subi d k) v = set_both d (byte_difference (v.at d) k 0) (difference_flags v.flags (v.at d) k 0 1) v
change e (Sbci d k) v =
    set_both d (byte_difference (v.at d) k v.flags.c) (difference_flags v.flags (v.at d) k v.flags.c v.flags.z) v
change e (Neg d) v = set_both d (byte_difference 0 (v.at d) 0) (difference_flags v.flags 0 (v.at d) 0 1) v
change e (Cp d r) v = record v { flags = difference_flags v.flags (v.at d) (v.at r) 0 1 }
change e (Cpc d r) v = record v { flags = difference_flags v.flags (v.at d) (v.at r) v.flags.c v.flags.z }
change e (Cpi d k) v = record v { flags = difference_flags v.flags (v.at d) k 0 1 }
change e (And d r) v = let x = bit_and (v.at d) (v.at r) in set_both d x (result_flags v.flags x 0) v
change e (Andi d k) v = let x = bit_and (v.at d) k in set_both d x (result_flags v.flags x 0) v
change e (Or d r) v = let x = bit_or (v.at d) (v.at r) in set_both d x (result_flags v.flags x 0) v
change e (Ori d k) v = let x = bit_or (v.at d) k in set_both d x (result_flags v.flags x 0) v
change e (Eor d r) v = let x = bit_xor (v.at d) (v.at r) in set_both d x (result_flags v.flags x 0) v
change e (Com d) v = let x = 255 - v.at d in set_both d x (flags_with v.flags 1 (from_bool (x == 0)) (x / 128) 0) v
change e (Inc d) v = let x = (v.at d + 1) % 256 in set_both d x (result_flags v.flags x (from_bool (x == 0x80))) v
change e (Dec d) v = let x = (v.at d + 255) % 256 in set_both d x (result_flags v.flags x (from_bool (x == 0x7F))) v
change e (Asr d) v = set_both d (shifted (v.at d) (v.at d / 128)) (shift_flags v.flags (v.at d) (v.at d / 128)) v
change e (Lsr d) v = set_both d (shifted (v.at d) 0) (shift_flags v.flags (v.at d) 0) v
change e (Ror d) v = set_both d (shifted (v.at d) v.flags.c) (shift_flags v.flags (v.at d) v.flags.c) v
change e (Swap d) v = set d (v.at d % 16 * 16 + v.at d / 16) v
change e (Adiw d k) v = set_pair_both d (pair_sum (pair v.at d) k) (pair_sum_flags v.flags (pair v.at d) k) v
change e (Sbiw d k) v =
    set_pair_both d (pair_difference (pair v.at d) k) (pair_difference_flags v.flags (pair v.at d) k) v
change e (Mul d r) v = set_pair_both 0 (v.at d * v.at r) (product_flags v.flags (v.at d * v.at r)) v
change e (Bset b) v = record v { flags = flag_put v.flags b 1 }
change e (Bclr b) v = record v { flags = flag_put v.flags b 0 }
change e (Bst d b) v = record v { flags = record v.flags { t = bit_at (v.at d) b } }
change e (Lds d k) v = load_by (e.kind k) d k v
change e (Sts k r) v = store_by (e.kind k) k (v.at r) v
change e (InInstr d a) v = load_by (e.kind (a + 0x20)) d (a + 0x20) v
change e (OutInstr a r) v = store_by (e.kind (a + 0x20)) (a + 0x20) (v.at r) v
change e (LddZ d q) v = let a = (pair v.at 30 + q) % 65536 in load_by (e.kind a) d a v
change e (StdZ q r) v = let a = (pair v.at 30 + q) % 65536 in store_by (e.kind a) a (v.at r) v
change e (LddY d q) v = let a = (y_of e v + q) % 65536 in load_by (e.kind a) d a v
change e (StdY q r) v = let a = (y_of e v + q) % 65536 in store_by (e.kind a) a (v.at r) v
change e (LdX d) v = let a = pair v.at 26 in load_by (e.kind a) d a v
change e (StX r) v = let a = pair v.at 26 in store_by (e.kind a) a (v.at r) v
change e (LpmZ d) v = let a = pair v.at 30 in flash_by (e.table a) d a (slice_index e.flash a) v
change e (LdXPlus d) v = let a = pair v.at 26 in move_to 26 (raised a) (load_by (e.kind a) d a v)
change e (LdZPlus d) v = let a = pair v.at 30 in move_to 30 (raised a) (load_by (e.kind a) d a v)
change e (StXPlus r) v = let a = pair v.at 26 in move_to 26 (raised a) (store_by (e.kind a) a (v.at r) v)
change e (StZPlus r) v = let a = pair v.at 30 in move_to 30 (raised a) (store_by (e.kind a) a (v.at r) v)
change e (LpmZPlus d) v =
    let a = pair v.at 30 in
    move_to 30 (raised a) (flash_by (e.table a) d a (slice_index e.flash a) v)
change e (Elpm d) v = let a = far_z v in by_rampz e.core (flash_by (e.table a) d a (slice_index e.flash a) v) v
change e (ElpmInc d) v =
    let a = far_z v in
    by_rampz e.core (move_far (raised_far a) (flash_by (e.table a) d a (slice_index e.flash a) v)) v
change e (Push r) v = push_by (e.kind (sp v)) (v.at r) v
change e (Pop d) v = pop_by (e.kind (raised (sp v))) d v
change e _ v = bar v

-- an instruction that goes on to the next one
abbrev pub goes_on : Instr → Bool
goes_on (Jmp k) = false
goes_on (Call k) = false
goes_on Ret = false
goes_on Break = false
goes_on Ijmp = false
goes_on Icall = false
goes_on (Rjmp k) = false
goes_on (Rcall k) = false
goes_on (Brbs b k) = false
goes_on (Brbc b k) = false
goes_on (Cpse d r) = false
goes_on (Sbrc r b) = false
goes_on (Sbrs r b) = false
goes_on i = true
