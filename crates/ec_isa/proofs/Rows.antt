-- The candidate at the words of an instruction is that instruction: a lemma for each format, over the bits of the
-- opcode, and then a line for each row.
use Rattle.std.proofs.Common.{◌≡◌, ℕ, suc, ◌+◌, ◌-◌, ◌*◌, ◌/◌, ◌%◌, ◌<◌, true, false, not, ◌&&◌, Some, Option, refl, ap, ◌∙◌, arith, ⊎_elim}
use Rattle.std.specs.Prelude.{ℤ, pos, negsuc, IsTrue, ◌==◌, nat_lt, nat_le}
use Rattle.std.proofs.lemmas.Bool.{cases_lt, and_parts, ltb-true, leb-true, eqb-true, lt-ltb, le-ltb}
use Rattle.ec_isa.specs.declared.instructions.Instr.{Instr}
use Rattle.ec_isa.specs.declared.instructions.Instr.TheVariants.{Nop, Movw, Cpc, Sbc, Add, Cpse, Cp, Sub, Adc, And, Eor, Or, Mov, Mul, Cpi}
use Rattle.ec_isa.specs.declared.instructions.Instr.TheVariants.{Sbci, Subi, Ori, Andi, Ldi, LddZ, LddY, StdZ, StdY, Lds, Sts, LdZPlus}
use Rattle.ec_isa.specs.declared.instructions.Instr.TheVariants.{LdMinusZ, LdYPlus, LdMinusY, LdX, LdXPlus, LdMinusX, StZPlus, StMinusZ}
use Rattle.ec_isa.specs.declared.instructions.Instr.TheVariants.{StYPlus, StMinusY, StX, StXPlus, StMinusX, LpmZ, LpmZPlus, Elpm, ElpmInc, Pop, Push, Com}
use Rattle.ec_isa.specs.declared.instructions.Instr.TheVariants.{Neg, Swap, Inc, Asr, Lsr, Ror, Dec, Bset, Bclr, Ijmp, Icall, Ret, Break}
use Rattle.ec_isa.specs.declared.instructions.Instr.TheVariants.{Jmp, Call, Adiw, Sbiw, In, Out, Rjmp, Rcall, Brbs, Brbc, Bld, Bst, Sbrc}
use Rattle.ec_isa.specs.declared.instructions.Instr.TheVariants.{Sbrs}
use Rattle.ec_isa.specs.Formats.{is_register, is_signed, twos_complement}
use Rattle.ec_isa.specs.Table.{Decodes}
use Rattle.ec_isa.specs.Reading.{candidate, by_page, register, source, upper_register, constant, offset, pair, pair_constant, io_address}
use Rattle.ec_isa.specs.Reading.{signed, two_registers, immediate, displacement, load, store, flag_or_return, one_register, pair_immediate}
use Rattle.ec_isa.specs.Reading.{page_nine, port, bit_or_branch}

-- the words of a page are read as one of that page's instructions
at_page : (page w next : ℕ) → w / 4096 ≡ page → candidate w next ≡ by_page page w next
at_page page w next e = ap (λ p. by_page p w next) e

two_registers_row : (key d r w next : ℕ) → IsTrue (is_register d && is_register r) →
    w ≡ key * 1024 + r / 16 * 512 + d * 16 + r % 16 →
    ((v : ℕ) → by_page (key / 4) v next ≡ two_registers (v / 1024) (register v) (source v) v) →
    candidate w next ≡ two_registers key d r w
two_registers_row key d r w next h e page =
    let p = and_parts (is_register d) (is_register r) h in
    let d_in = ltb-true d 32 p.0 in
    let r_in = ltb-true r 32 p.1 in
    let page_is : w / 4096 ≡ key / 4 = omega arith in
    let key_is : w / 1024 ≡ key = omega arith in
    let d_is : register w ≡ d = omega arith in
    let r_is : source w ≡ r = omega arith in
    at_page (key / 4) w next page_is ∙ page w ∙ rw (key_is, d_is, r_is) refl

pairs_row : (d r w next : ℕ) → IsTrue (is_register d && is_register r && (d % 2 == 0) && (r % 2 == 0)) →
    w ≡ 256 + d / 2 * 16 + r / 2 → candidate w next ≡ Some (Movw d r)
pairs_row d r w next h e =
    let p = and_parts (is_register d && is_register r && (d % 2 == 0)) (r % 2 == 0) h in
    let q = and_parts (is_register d && is_register r) (d % 2 == 0) p.0 in
    let s = and_parts (is_register d) (is_register r) q.0 in
    let d_in = ltb-true d 32 s.0 in
    let r_in = ltb-true r 32 s.1 in
    let d_even = eqb-true (d % 2) 0 q.1 in
    let r_even = eqb-true (r % 2) 0 p.1 in
    let page_is : w / 4096 ≡ 0 = omega arith in
    let key_is : w / 1024 ≡ 0 = omega arith in
    let group_is : w / 256 ≡ 1 = omega arith in
    let d_is : w / 16 % 16 * 2 ≡ d = omega arith in
    let r_is : w % 16 * 2 ≡ r = omega arith in
    at_page 0 w next page_is ∙ rw (key_is, group_is, d_is, r_is) refl

product_row : (d r w next : ℕ) → IsTrue (is_register d && is_register r) →
    w ≡ 39936 + r / 16 * 512 + d * 16 + r % 16 → candidate w next ≡ Some (Mul d r)
product_row d r w next h e =
    let p = and_parts (is_register d) (is_register r) h in
    let d_in = ltb-true d 32 p.0 in
    let r_in = ltb-true r 32 p.1 in
    let page_is : w / 4096 ≡ 9 = omega arith in
    let d_is : register w ≡ d = omega arith in
    let r_is : source w ≡ r = omega arith in
    at_page 9 w next page_is ∙
    ⊎_elim (λ low. let group_is : w / 512 % 8 ≡ 6 = omega arith in rw (group_is, d_is, r_is) refl)
    (λ high. let group_is : w / 512 % 8 ≡ 7 = omega arith in rw (group_is, d_is, r_is) refl) (cases_lt r 16)

immediate_row : (page d k w next : ℕ) → IsTrue (nat_le 16 d && is_register d && nat_lt k 256) →
    w ≡ page * 4096 + k / 16 * 256 + (d - 16) * 16 + k % 16 →
    ((v : ℕ) → by_page page v next ≡ immediate page (upper_register v) (constant v)) →
    candidate w next ≡ immediate page d k
immediate_row page d k w next h e reads =
    let p = and_parts (nat_le 16 d && is_register d) (nat_lt k 256) h in
    let q = and_parts (nat_le 16 d) (is_register d) p.0 in
    let d_low = leb-true 16 d q.0 in
    let d_in = ltb-true d 32 q.1 in
    let k_in = ltb-true k 256 p.1 in
    let page_is : w / 4096 ≡ page = omega arith in
    let d_is : upper_register w ≡ d = omega arith in
    let k_is : constant w ≡ k = omega arith in
    at_page page w next page_is ∙ reads w ∙ rw (d_is, k_is) refl

displacement_row : (store y d q w next : ℕ) → IsTrue (nat_lt store 2 && nat_lt y 2) →
    IsTrue (is_register d && nat_lt q 64) →
    w ≡ 32768 + store * 512 + y * 8 + q / 32 * 8192 + q / 8 % 4 * 1024 + d * 16 + q % 8 →
    candidate w next ≡ displacement store y d q
displacement_row store y d q w next f h e =
    let o = and_parts (nat_lt store 2) (nat_lt y 2) f in
    let store_in = ltb-true store 2 o.0 in
    let y_in = ltb-true y 2 o.1 in
    let p = and_parts (is_register d) (nat_lt q 64) h in
    let d_in = ltb-true d 32 p.0 in
    let q_in = ltb-true q 64 p.1 in
    let store_is : w / 512 % 2 ≡ store = omega arith in
    let y_is : w / 8 % 2 ≡ y = omega arith in
    let d_is : register w ≡ d = omega arith in
    let q_is : offset w ≡ q = omega arith in
    ⊎_elim (λ low. let page_is : w / 4096 ≡ 8 = omega arith in at_page 8 w next page_is)
    (λ high. let page_is : w / 4096 ≡ 10 = omega arith in at_page 10 w next page_is) (cases_lt q 32) ∙
    rw (store_is, y_is, d_is, q_is) refl

-- a row of the loads, the stores and the operations on one register
form_row : (read : ℕ → ℕ → ℕ → Option Instr) (group form d w next : ℕ) → IsTrue (nat_lt group 3 && nat_lt form 16) →
    IsTrue (is_register d) → w ≡ 36864 + group * 512 + form + d * 16 →
    ((v : ℕ) → page_nine group v next ≡ read (v % 16) (register v) v) →
    candidate w next ≡ read form d w
form_row read group form d w next f h e reads =
    let o = and_parts (nat_lt group 3) (nat_lt form 16) f in
    let group_in = ltb-true group 3 o.0 in
    let form_in = ltb-true form 16 o.1 in
    let d_in = ltb-true d 32 h in
    let page_is : w / 4096 ≡ 9 = omega arith in
    let group_is : w / 512 % 8 ≡ group = omega arith in
    let form_is : w % 16 ≡ form = omega arith in
    let d_is : register w ≡ d = omega arith in
    at_page 9 w next page_is ∙ ap (λ g. page_nine g w next) group_is ∙ reads w ∙
    ap (λ n. read n (register w) w) form_is ∙ ap (λ n. read form n w) d_is

load_row : (form d w next : ℕ) → IsTrue (nat_lt form 16) → IsTrue (is_register d) → w ≡ 36864 + form + d * 16 →
    candidate w next ≡ load form d next
load_row form d w next f h e = form_row (λ n m v. load n m next) 0 form d w next f h (omega arith) (λ v. refl)

store_row : (form r w next : ℕ) → IsTrue (nat_lt form 16) → IsTrue (is_register r) → w ≡ 37376 + form + r * 16 →
    candidate w next ≡ store form r next
store_row form r w next f h e = form_row (λ n m v. store n m next) 1 form r w next f h (omega arith) (λ v. refl)

one_register_row : (form d w next : ℕ) → IsTrue (nat_lt form 16) → IsTrue (is_register d) →
    w ≡ 37888 + form + d * 16 → candidate w next ≡ one_register form d w next
one_register_row form d w next f h e =
    form_row (λ n m v. one_register n m v next) 2 form d w next f h (omega arith) (λ v. refl)

-- a register that is none of a pointer's two
beside : (d pointer : ℕ) → IsTrue (is_register d && not (d == pointer) && not (d == pointer + 1)) → IsTrue (is_register d)
beside d pointer h =
    (and_parts (is_register d) (not (d == pointer))
    (and_parts (is_register d && not (d == pointer)) (not (d == pointer + 1)) h).0).0

flag_row : (key s w next : ℕ) → IsTrue (nat_lt key 2) → IsTrue (nat_lt s 8) → w ≡ 37896 + key * 128 + s * 16 →
    candidate w next ≡ flag_or_return key s
flag_row key s w next f h e =
    let key_in = ltb-true key 2 f in
    let s_in = ltb-true s 8 h in
    let d_in : key * 8 + s < 32 = omega arith in
    let e' : w ≡ 37888 + 8 + (key * 8 + s) * 16 = omega arith in
    let key_is : w / 128 % 4 ≡ key = omega arith in
    let s_is : w / 16 % 8 ≡ s = omega arith in
    one_register_row 8 (key * 8 + s) w next refl (lt-ltb (key * 8 + s) 32 d_in) e' ∙ rw (key_is, s_is) refl

pair_row : (key d k w next : ℕ) → IsTrue (nat_lt key 2) →
    IsTrue (nat_le 24 d && nat_lt d 31 && (d % 2 == 0) && nat_lt k 64) →
    w ≡ 38400 + key * 256 + k / 16 * 64 + (d - 24) / 2 * 16 + k % 16 → candidate w next ≡ pair_immediate key d k
pair_row key d k w next f h e =
    let key_in = ltb-true key 2 f in
    let p = and_parts (nat_le 24 d && nat_lt d 31 && (d % 2 == 0)) (nat_lt k 64) h in
    let q = and_parts (nat_le 24 d && nat_lt d 31) (d % 2 == 0) p.0 in
    let s = and_parts (nat_le 24 d) (nat_lt d 31) q.0 in
    let d_low = leb-true 24 d s.0 in
    let d_in = ltb-true d 31 s.1 in
    let d_even = eqb-true (d % 2) 0 q.1 in
    let k_in = ltb-true k 64 p.1 in
    let page_is : w / 4096 ≡ 9 = omega arith in
    let group_is : w / 512 % 8 ≡ 3 = omega arith in
    let key_is : w / 256 % 2 ≡ key = omega arith in
    let d_is : pair w ≡ d = omega arith in
    let k_is : pair_constant w ≡ k = omega arith in
    at_page 9 w next page_is ∙ ap (λ g. page_nine g w next) group_is ∙ rw (key_is, d_is, k_is) refl

port_row : (out d a w next : ℕ) → IsTrue (nat_lt out 2) → IsTrue (is_register d && nat_lt a 64) →
    w ≡ 45056 + out * 2048 + a / 16 * 512 + d * 16 + a % 16 → candidate w next ≡ port out d a
port_row out d a w next f h e =
    let out_in = ltb-true out 2 f in
    let p = and_parts (is_register d) (nat_lt a 64) h in
    let d_in = ltb-true d 32 p.0 in
    let a_in = ltb-true a 64 p.1 in
    let page_is : w / 4096 ≡ 11 = omega arith in
    let out_is : w / 2048 % 2 ≡ out = omega arith in
    let d_is : register w ≡ d = omega arith in
    let a_is : io_address w ≡ a = omega arith in
    at_page 11 w next page_is ∙ rw (out_is, d_is, a_is) refl

-- a signed number is read back from its field
signed_is : (half : ℕ) (k : ℤ) → IsTrue (is_signed half k) → signed half (twos_complement (2 * half) k) ≡ k
signed_is half (pos k) h = rw h refl
signed_is half (negsuc k) h =
    let k_in = ltb-true k half h in
    let above : nat_lt (2 * half - suc k) half ≡ false = le-ltb (2 * half - suc k) half (omega arith) in
    let same : 2 * half - 1 - (2 * half - suc k) ≡ k = omega arith in
    rw (above, same) refl

field_below : (half : ℕ) (k : ℤ) → IsTrue (is_signed half k) → twos_complement (2 * half) k < 2 * half
field_below half (pos k) h = let k_in = ltb-true k half h in omega arith
field_below half (negsuc k) h = let k_in = ltb-true k half h in omega arith

relative_row : (page w next x : ℕ) → x < 4096 → w ≡ page * 4096 + x →
    (candidate w next ≡ by_page page w next) × (w % 4096 ≡ x)
relative_row page w next x x_in e =
    let page_is : w / 4096 ≡ page = omega arith in
    let x_is : w % 4096 ≡ x = omega arith in
    (at_page page w next page_is, x_is)

jump_row : (w next : ℕ) (k : ℤ) → IsTrue (is_signed 2048 k) → w ≡ 49152 + twos_complement 4096 k →
    candidate w next ≡ Some (Rjmp k)
jump_row w next k h e =
    let r = relative_row 12 w next (twos_complement 4096 k) (field_below 2048 k h) e in
    r.0 ∙ ap (λ x. Some (Rjmp (signed 2048 x))) r.1 ∙ ap (λ n. Some (Rjmp n)) (signed_is 2048 k h)

call_row : (w next : ℕ) (k : ℤ) → IsTrue (is_signed 2048 k) → w ≡ 53248 + twos_complement 4096 k →
    candidate w next ≡ Some (Rcall k)
call_row w next k h e =
    let r = relative_row 13 w next (twos_complement 4096 k) (field_below 2048 k h) e in
    r.0 ∙ ap (λ x. Some (Rcall (signed 2048 x))) r.1 ∙ ap (λ n. Some (Rcall n)) (signed_is 2048 k h)

-- a branch, over the number x in its field
branch_at : (clear s w next x : ℕ) → IsTrue (nat_lt clear 2) → s < 8 → x < 128 →
    w ≡ 61440 + clear * 1024 + x * 8 + s →
    candidate w next ≡ bit_or_branch (clear * 2 + x / 64) (register w) s (signed 64 x)
branch_at clear s w next x f s_in x_in e =
    let clear_in = ltb-true clear 2 f in
    let page_is : w / 4096 ≡ 15 = omega arith in
    let group_is : w / 512 % 8 ≡ clear * 2 + x / 64 = omega arith in
    let s_is : w % 8 ≡ s = omega arith in
    let x_is : w / 8 % 128 ≡ x = omega arith in
    at_page 15 w next page_is ∙ ap (λ g. bit_or_branch g (register w) (w % 8) (signed 64 (w / 8 % 128))) group_is ∙
    ap (λ n. bit_or_branch (clear * 2 + x / 64) (register w) n (signed 64 (w / 8 % 128))) s_is ∙
    ap (λ n. bit_or_branch (clear * 2 + x / 64) (register w) s (signed 64 n)) x_is

-- of each sort of branch there are two groups, by the sign of the distance
branch_set : (d s x : ℕ) (k : ℤ) → x < 128 → bit_or_branch (0 + x / 64) d s k ≡ Some (Brbs s k)
branch_set d s x k x_in =
    let below : nat_lt (0 + x / 64) 2 ≡ true = lt-ltb (0 + x / 64) 2 (omega arith) in rw below refl

branch_clear : (d s x : ℕ) (k : ℤ) → x < 128 → bit_or_branch (2 + x / 64) d s k ≡ Some (Brbc s k)
branch_clear d s x k x_in =
    let above : nat_lt (2 + x / 64) 2 ≡ false = le-ltb (2 + x / 64) 2 (omega arith) in
    let below : nat_lt (2 + x / 64) 4 ≡ true = lt-ltb (2 + x / 64) 4 (omega arith) in rw (above, below) refl

branch_set_row : (s w next : ℕ) (k : ℤ) → IsTrue (nat_lt s 8 && is_signed 64 k) →
    w ≡ 61440 + twos_complement 128 k * 8 + s → candidate w next ≡ Some (Brbs s k)
branch_set_row s w next k h e =
    let p = and_parts (nat_lt s 8) (is_signed 64 k) h in
    let x = twos_complement 128 k in
    let x_in = field_below 64 k p.1 in
    branch_at 0 s w next x refl (ltb-true s 8 p.0) x_in e ∙ branch_set (register w) s x (signed 64 x) x_in ∙
    ap (λ n. Some (Brbs s n)) (signed_is 64 k p.1)

branch_clear_row : (s w next : ℕ) (k : ℤ) → IsTrue (nat_lt s 8 && is_signed 64 k) →
    w ≡ 62464 + twos_complement 128 k * 8 + s → candidate w next ≡ Some (Brbc s k)
branch_clear_row s w next k h e =
    let p = and_parts (nat_lt s 8) (is_signed 64 k) h in
    let x = twos_complement 128 k in
    let x_in = field_below 64 k p.1 in
    branch_at 1 s w next x refl (ltb-true s 8 p.0) x_in e ∙ branch_clear (register w) s x (signed 64 x) x_in ∙
    ap (λ n. Some (Brbc s n)) (signed_is 64 k p.1)

register_bit_row : (group d b w next : ℕ) → IsTrue (nat_lt group 8) → IsTrue (is_register d && nat_lt b 8) →
    w ≡ 61440 + group * 512 + d * 16 + b →
    candidate w next ≡ bit_or_branch group d b (signed 64 (w / 8 % 128))
register_bit_row group d b w next f h e =
    let group_in = ltb-true group 8 f in
    let p = and_parts (is_register d) (nat_lt b 8) h in
    let d_in = ltb-true d 32 p.0 in
    let b_in = ltb-true b 8 p.1 in
    let page_is : w / 4096 ≡ 15 = omega arith in
    let group_is : w / 512 % 8 ≡ group = omega arith in
    let d_is : register w ≡ d = omega arith in
    let b_is : w % 8 ≡ b = omega arith in
    at_page 15 w next page_is ∙ ap (λ g. bit_or_branch g (register w) (w % 8) (signed 64 (w / 8 % 128))) group_is ∙
    ap (λ n. bit_or_branch group n (w % 8) (signed 64 (w / 8 % 128))) d_is ∙
    ap (λ n. bit_or_branch group d n (signed 64 (w / 8 % 128))) b_is

pub reads : (i : Instr) (w next : ℕ) → Decodes w next i → candidate w next ≡ Some i
reads Nop w n h = rw h.first refl
reads (Movw d r) w n h = pairs_row d r w n h.in_range h.first
reads (Cpc d r) w n h = two_registers_row 1 d r w n h.in_range h.first (λ v. refl)
reads (Sbc d r) w n h = two_registers_row 2 d r w n h.in_range h.first (λ v. refl)
reads (Add d r) w n h = two_registers_row 3 d r w n h.in_range h.first (λ v. refl)
reads (Cpse d r) w n h = two_registers_row 4 d r w n h.in_range h.first (λ v. refl)
reads (Cp d r) w n h = two_registers_row 5 d r w n h.in_range h.first (λ v. refl)
reads (Sub d r) w n h = two_registers_row 6 d r w n h.in_range h.first (λ v. refl)
reads (Adc d r) w n h = two_registers_row 7 d r w n h.in_range h.first (λ v. refl)
reads (And d r) w n h = two_registers_row 8 d r w n h.in_range h.first (λ v. refl)
reads (Eor d r) w n h = two_registers_row 9 d r w n h.in_range h.first (λ v. refl)
reads (Or d r) w n h = two_registers_row 10 d r w n h.in_range h.first (λ v. refl)
reads (Mov d r) w n h = two_registers_row 11 d r w n h.in_range h.first (λ v. refl)
reads (Mul d r) w n h = product_row d r w n h.in_range h.first
reads (Cpi d k) w n h = immediate_row 3 d k w n h.in_range h.first (λ v. refl)
reads (Sbci d k) w n h = immediate_row 4 d k w n h.in_range h.first (λ v. refl)
reads (Subi d k) w n h = immediate_row 5 d k w n h.in_range h.first (λ v. refl)
reads (Ori d k) w n h = immediate_row 6 d k w n h.in_range h.first (λ v. refl)
reads (Andi d k) w n h = immediate_row 7 d k w n h.in_range h.first (λ v. refl)
reads (Ldi d k) w n h = immediate_row 14 d k w n h.in_range h.first (λ v. refl)
reads (LddZ d q) w n h = displacement_row 0 0 d q w n refl h.in_range h.first
reads (LddY d q) w n h = displacement_row 0 1 d q w n refl h.in_range h.first
reads (StdZ q r) w n h = displacement_row 1 0 r q w n refl h.in_range h.first
reads (StdY q r) w n h = displacement_row 1 1 r q w n refl h.in_range h.first
reads (Lds d k) w n h = load_row 0 d w n refl (and_parts (is_register d) (nat_lt k 65536) h.in_range).0 h.first
    ∙ ap (λ x. Some (Lds d x)) h.second
reads (Sts k r) w n h = store_row 0 r w n refl (and_parts (is_register r) (nat_lt k 65536) h.in_range).0 h.first
    ∙ ap (λ x. Some (Sts x r)) h.second
reads (LdZPlus d) w n h = load_row 1 d w n refl (beside d 30 h.in_range) h.first
reads (LdMinusZ d) w n h = load_row 2 d w n refl (beside d 30 h.in_range) h.first
reads (LdYPlus d) w n h = load_row 9 d w n refl (beside d 28 h.in_range) h.first
reads (LdMinusY d) w n h = load_row 10 d w n refl (beside d 28 h.in_range) h.first
reads (LdX d) w n h = load_row 12 d w n refl h.in_range h.first
reads (LdXPlus d) w n h = load_row 13 d w n refl (beside d 26 h.in_range) h.first
reads (LdMinusX d) w n h = load_row 14 d w n refl (beside d 26 h.in_range) h.first
reads (StZPlus r) w n h = store_row 1 r w n refl (beside r 30 h.in_range) h.first
reads (StMinusZ r) w n h = store_row 2 r w n refl (beside r 30 h.in_range) h.first
reads (StYPlus r) w n h = store_row 9 r w n refl (beside r 28 h.in_range) h.first
reads (StMinusY r) w n h = store_row 10 r w n refl (beside r 28 h.in_range) h.first
reads (StX r) w n h = store_row 12 r w n refl h.in_range h.first
reads (StXPlus r) w n h = store_row 13 r w n refl (beside r 26 h.in_range) h.first
reads (StMinusX r) w n h = store_row 14 r w n refl (beside r 26 h.in_range) h.first
reads (LpmZ d) w n h = load_row 4 d w n refl h.in_range h.first
reads (LpmZPlus d) w n h = load_row 5 d w n refl (beside d 30 h.in_range) h.first
reads (Elpm d) w n h = load_row 6 d w n refl h.in_range h.first
reads (ElpmInc d) w n h = load_row 7 d w n refl (beside d 30 h.in_range) h.first
reads (Pop d) w n h = load_row 15 d w n refl h.in_range h.first
reads (Push r) w n h = store_row 15 r w n refl h.in_range h.first
reads (Com d) w n h = one_register_row 0 d w n refl h.in_range h.first
reads (Neg d) w n h = one_register_row 1 d w n refl h.in_range h.first
reads (Swap d) w n h = one_register_row 2 d w n refl h.in_range h.first
reads (Inc d) w n h = one_register_row 3 d w n refl h.in_range h.first
reads (Asr d) w n h = one_register_row 5 d w n refl h.in_range h.first
reads (Lsr d) w n h = one_register_row 6 d w n refl h.in_range h.first
reads (Ror d) w n h = one_register_row 7 d w n refl h.in_range h.first
reads (Dec d) w n h = one_register_row 10 d w n refl h.in_range h.first
reads (Bset s) w n h = flag_row 0 s w n refl h.in_range h.first
reads (Bclr s) w n h = flag_row 1 s w n refl h.in_range h.first
reads Ijmp w n h = rw h.first refl
reads Icall w n h = rw h.first refl
reads Ret w n h = rw h.first refl
reads Break w n h = rw h.first refl
reads (Jmp k) w n h = rw (h.first, h.second) refl
reads (Call k) w n h = rw (h.first, h.second) refl
reads (Adiw d k) w n h = pair_row 0 d k w n refl h.in_range h.first
reads (Sbiw d k) w n h = pair_row 1 d k w n refl h.in_range h.first
reads (In d a) w n h = port_row 0 d a w n refl h.in_range h.first
reads (Out a r) w n h = port_row 1 r a w n refl h.in_range h.first
reads (Rjmp k) w n h = jump_row w n k h.in_range h.first
reads (Rcall k) w n h = call_row w n k h.in_range h.first
reads (Brbs s k) w n h = branch_set_row s w n k h.in_range h.first
reads (Brbc s k) w n h = branch_clear_row s w n k h.in_range h.first
reads (Bld d b) w n h = register_bit_row 4 d b w n refl h.in_range h.first
reads (Bst d b) w n h = register_bit_row 5 d b w n refl h.in_range h.first
reads (Sbrc r b) w n h = register_bit_row 6 r b w n refl h.in_range h.first
reads (Sbrs r b) w n h = register_bit_row 7 r b w n refl h.in_range h.first
