-- The text of an instruction is read as that instruction: a lemma for each format, and a line for each row of the table.
use Rattle.std.proofs.Common.{◌≡◌, ℕ, suc, ◌+◌, ◌-◌, ◌*◌, ◌/◌, ◌%◌, ◌<◌, true, not, ◌&&◌, Some, refl, arith}
use Rattle.std.specs.Prelude.{pos, negsuc, IsTrue, ◌==◌, nat_lt, nat_le}
use Rattle.std.proofs.lemmas.Bool.{and_parts, ltb-true, leb-true}
use Rattle.ec_isa.specs.declared.instructions.Instr.{Instr}
use Rattle.ec_isa.specs.declared.instructions.Instr.TheVariants.{Nop, Movw, Cpc, Sbc, Add, Cpse, Cp, Sub, Adc, And}
use Rattle.ec_isa.specs.declared.instructions.Instr.TheVariants.{Eor, Or, Mov, Mul, Cpi, Sbci, Subi, Ori, Andi, Ldi}
use Rattle.ec_isa.specs.declared.instructions.Instr.TheVariants.{LddZ, LddY, StdZ, StdY, Lds, Sts, LdZPlus, LdMinusZ}
use Rattle.ec_isa.specs.declared.instructions.Instr.TheVariants.{LdYPlus, LdMinusY, LdX, LdXPlus, LdMinusX, StZPlus}
use Rattle.ec_isa.specs.declared.instructions.Instr.TheVariants.{StMinusZ, StYPlus, StMinusY, StX, StXPlus, StMinusX}
use Rattle.ec_isa.specs.declared.instructions.Instr.TheVariants.{LpmZ, LpmZPlus, Elpm, ElpmInc, Pop, Push, Com, Neg}
use Rattle.ec_isa.specs.declared.instructions.Instr.TheVariants.{Swap, Inc, Asr, Lsr, Ror, Dec, Bset, Bclr, Ijmp, Icall, Ret, Break}
use Rattle.ec_isa.specs.declared.instructions.Instr.TheVariants.{Jmp, Call, Adiw, Sbiw, In, Out, Rjmp, Rcall, Brbs}
use Rattle.ec_isa.specs.declared.instructions.Instr.TheVariants.{Brbc, Bld, Bst, Sbrc, Sbrs}
use Rattle.ec_isa.specs.Formats.{is_register, is_signed}
use Rattle.ec_isa.specs.Table.{in_table, first_word, second_word, SecondIs}
use Rattle.ec_isa.specs.Reading.{instruction_at}
use Rattle.ec_isa.proofs.InstructionAt.{instruction_is}
use Rattle.ec_list.specs.Texts.{text}
use Rattle.ec_list.specs.Scanning.{begin}
use Rattle.ec_list.specs.Reading.{guess_by, form_words}
use Rattle.ec_list.proofs.Patterns.{taken, is_sound}

-- ---- words

at_words : (i : Instr) (w0 w1 : ℕ) → IsTrue (in_table i) → w0 ≡ first_word i → SecondIs (second_word i) w1 →
    instruction_at w0 w1 ≡ Some i
at_words i w0 w1 h e s = (instruction_is i w0 w1).1 (record { in_range = h; first = e; second = s })

register_below : (d : ℕ) → IsTrue (is_register d) → d < 32
register_below d h = ltb-true d 32 h

two_words : (op d r : ℕ) → IsTrue (nat_lt op 60000) → IsTrue (is_register d && is_register r) →
    (d < 65536) × ((r < 65536) × ((op + r / 16 % 2 * 512 + d % 32 * 16 + r % 16) % 65536 ≡ op + r / 16 * 512 + d * 16 + r % 16))
two_words op d r o h =
    let op_in = ltb-true op 60000 o in
    let p = and_parts (is_register d) (is_register r) h in
    let d_in = ltb-true d 32 p.0 in
    let r_in = ltb-true r 32 p.1 in
    (omega arith, (omega arith, omega arith))

pairs_words : (op d r : ℕ) → IsTrue (nat_lt op 60000) →
    IsTrue (is_register d && is_register r && (d % 2 == 0) && (r % 2 == 0)) →
    (d < 65536) × ((r < 65536) × ((op + d / 2 % 16 * 16 + r / 2 % 16) % 65536 ≡ op + d / 2 * 16 + r / 2))
pairs_words op d r o h =
    let op_in = ltb-true op 60000 o in
    let p = and_parts (is_register d && is_register r && (d % 2 == 0)) (r % 2 == 0) h in
    let q = and_parts (is_register d && is_register r) (d % 2 == 0) p.0 in
    let s = and_parts (is_register d) (is_register r) q.0 in
    let d_in = ltb-true d 32 s.0 in
    let r_in = ltb-true r 32 s.1 in
    (omega arith, (omega arith, omega arith))

immediate_words : (op d k : ℕ) → IsTrue (nat_lt op 60000) → IsTrue (nat_le 16 d && is_register d && nat_lt k 256) →
    (d < 65536) × ((k < 65536) × ((op + k / 16 % 16 * 256 + d % 16 * 16 + k % 16) % 65536 ≡ op + k / 16 * 256 + (d - 16) * 16 + k % 16))
immediate_words op d k o h =
    let op_in = ltb-true op 60000 o in
    let p = and_parts (nat_le 16 d && is_register d) (nat_lt k 256) h in
    let q = and_parts (nat_le 16 d) (is_register d) p.0 in
    let d_low = leb-true 16 d q.0 in
    let d_in = ltb-true d 32 q.1 in
    let k_in = ltb-true k 256 p.1 in
    (omega arith, (omega arith, omega arith))

displaced_words : (op d q : ℕ) → IsTrue (nat_lt op 50000) → IsTrue (is_register d && nat_lt q 64) →
    (d < 65536) × ((q < 65536) × ((op + q / 32 % 2 * 8192 + q / 8 % 4 * 1024 + d % 32 * 16 + q % 8) % 65536
    ≡ op + q / 32 * 8192 + q / 8 % 4 * 1024 + d * 16 + q % 8))
displaced_words op d q o h =
    let op_in = ltb-true op 50000 o in
    let p = and_parts (is_register d) (nat_lt q 64) h in
    let d_in = ltb-true d 32 p.0 in
    let q_in = ltb-true q 64 p.1 in
    (omega arith, (omega arith, omega arith))

direct_words : (op d k : ℕ) → IsTrue (nat_lt op 60000) → IsTrue (is_register d && nat_lt k 65536) →
    (d < 65536) × ((k < 65536) × ((op + d % 32 * 16) % 65536 ≡ op + d * 16))
direct_words op d k o h =
    let op_in = ltb-true op 60000 o in
    let p = and_parts (is_register d) (nat_lt k 65536) h in
    let d_in = ltb-true d 32 p.0 in
    (omega arith, (ltb-true k 65536 p.1, omega arith))

register_words : (op d : ℕ) → IsTrue (nat_lt op 60000) → IsTrue (is_register d) →
    (d < 65536) × ((op + d % 32 * 16) % 65536 ≡ op + d * 16)
register_words op d o h =
    let op_in = ltb-true op 60000 o in
    let d_in = ltb-true d 32 h in
    (omega arith, omega arith)

-- a register that is none of a pointer's two
beside : (d pointer : ℕ) → IsTrue (is_register d && not (d == pointer) && not (d == pointer + 1)) → IsTrue (is_register d)
beside d pointer h =
    (and_parts (is_register d) (not (d == pointer))
    (and_parts (is_register d && not (d == pointer)) (not (d == pointer + 1)) h).0).0

flag_words : (op s : ℕ) → IsTrue (nat_lt op 60000) → IsTrue (nat_lt s 8) →
    (s < 65536) × ((op + s % 32 * 16) % 65536 ≡ op + s * 16)
flag_words op s o h =
    let op_in = ltb-true op 60000 o in
    let s_in = ltb-true s 8 h in
    (omega arith, omega arith)

pair_words : (op d k : ℕ) → IsTrue (nat_lt op 60000) →
    IsTrue (nat_le 24 d && nat_lt d 31 && (d % 2 == 0) && nat_lt k 64) →
    (d < 65536) × ((k < 65536) × ((op + k / 16 % 4 * 64 + d % 8 / 2 * 16 + k % 16) % 65536 ≡ op + k / 16 * 64 + (d - 24) / 2 * 16 + k % 16))
pair_words op d k o h =
    let op_in = ltb-true op 60000 o in
    let p = and_parts (nat_le 24 d && nat_lt d 31 && (d % 2 == 0)) (nat_lt k 64) h in
    let q = and_parts (nat_le 24 d && nat_lt d 31) (d % 2 == 0) p.0 in
    let s = and_parts (nat_le 24 d) (nat_lt d 31) q.0 in
    let d_low = leb-true 24 d s.0 in
    let d_in = ltb-true d 31 s.1 in
    let k_in = ltb-true k 64 p.1 in
    (omega arith, (omega arith, omega arith))

port_words : (op d a : ℕ) → IsTrue (nat_lt op 60000) → IsTrue (is_register d && nat_lt a 64) →
    (d < 65536) × ((a < 65536) × ((op + a / 16 % 4 * 512 + d % 32 * 16 + a % 16) % 65536 ≡ op + a / 16 * 512 + d * 16 + a % 16))
port_words op d a o h =
    let op_in = ltb-true op 60000 o in
    let p = and_parts (is_register d) (nat_lt a 64) h in
    let d_in = ltb-true d 32 p.0 in
    let a_in = ltb-true a 64 p.1 in
    (omega arith, (omega arith, omega arith))

forward_words : (op n : ℕ) → IsTrue (nat_lt op 60000) → IsTrue (nat_lt n 2048) →
    (n < 65536) × ((op + n % 4096) % 65536 ≡ op + n)
forward_words op n o h =
    let op_in = ltb-true op 60000 o in
    let n_in = ltb-true n 2048 h in
    (omega arith, omega arith)

back_words : (op n : ℕ) → IsTrue (nat_lt op 60000) → IsTrue (nat_lt n 2048) →
    (suc n < 65536) × ((op + 2048 + (4096 - suc n % 4096) % 2048) % 65536 ≡ op + (4096 - suc n))
back_words op n o h =
    let op_in = ltb-true op 60000 o in
    let n_in = ltb-true n 2048 h in
    (omega arith, omega arith)

branch_words : (op s n : ℕ) → IsTrue (nat_lt op 63000) → IsTrue (nat_lt s 8) → IsTrue (nat_lt n 64) →
    (s < 65536) × ((n < 65536) × ((op + n % 128 * 8 + s % 8) % 65536 ≡ op + n * 8 + s))
branch_words op s n o g h =
    let op_in = ltb-true op 63000 o in
    let s_in = ltb-true s 8 g in
    let n_in = ltb-true n 64 h in
    (omega arith, (omega arith, omega arith))

branch_back_words : (op s n : ℕ) → IsTrue (nat_lt op 63000) → IsTrue (nat_lt s 8) → IsTrue (nat_lt n 64) →
    (s < 65536) × ((suc n < 65536) × ((op + 512 + (128 - suc n % 128) % 64 * 8 + s % 8) % 65536 ≡ op + (128 - suc n) * 8 + s))
branch_back_words op s n o g h =
    let op_in = ltb-true op 63000 o in
    let s_in = ltb-true s 8 g in
    let n_in = ltb-true n 64 h in
    (omega arith, (omega arith, omega arith))

bit_words : (op d b : ℕ) → IsTrue (nat_lt op 65025) → IsTrue (is_register d && nat_lt b 8) →
    (d < 65536) × ((b < 65536) × ((op + d % 32 * 16 + b % 8) % 65536 ≡ op + d * 16 + b))
bit_words op d b o h =
    let op_in = ltb-true op 65025 o in
    let p = and_parts (is_register d) (nat_lt b 8) h in
    let d_in = ltb-true d 32 p.0 in
    let b_in = ltb-true b 8 p.1 in
    (omega arith, (omega arith, omega arith))

-- ---- the rows

-- the numbers of the text are small, and what is scanned of it tells the instruction
pub record IsRead (i : Instr) : Type 0 where
  pub first : (text i).first < 65536
  pub second : (text i).second < 65536
  pub guess : guess_by (taken (text i).pattern (text i).first (text i).second begin) ≡ Some i

row : (i : Instr) → (text i).first < 65536 → (text i).second < 65536
    → guess_by (taken (text i).pattern (text i).first (text i).second begin) ≡ Some i → IsRead i
row i n m g = record { first = n; second = m; guess = g }

small_zero : 0 < 65536
small_zero = omega arith

pub reads : (i : Instr) → IsTrue (in_table i) → IsRead i
unfolding form_words instruction_at
reads Nop h = row Nop small_zero small_zero refl
reads (Movw d r) h =
    let w = pairs_words 256 d r refl h in
    row (Movw d r) w.0 w.1.0 (at_words (Movw d r) _ _ h w.1.1 tt)
reads (Cpc d r) h =
    let w = two_words 1024 d r refl h in
    row (Cpc d r) w.0 w.1.0 (at_words (Cpc d r) _ _ h w.1.1 tt)
reads (Sbc d r) h =
    let w = two_words 2048 d r refl h in
    row (Sbc d r) w.0 w.1.0 (at_words (Sbc d r) _ _ h w.1.1 tt)
reads (Add d r) h =
    let w = two_words 3072 d r refl h in
    row (Add d r) w.0 w.1.0 (at_words (Add d r) _ _ h w.1.1 tt)
reads (Cpse d r) h =
    let w = two_words 4096 d r refl h in
    row (Cpse d r) w.0 w.1.0 (at_words (Cpse d r) _ _ h w.1.1 tt)
reads (Cp d r) h =
    let w = two_words 5120 d r refl h in
    row (Cp d r) w.0 w.1.0 (at_words (Cp d r) _ _ h w.1.1 tt)
reads (Sub d r) h =
    let w = two_words 6144 d r refl h in
    row (Sub d r) w.0 w.1.0 (at_words (Sub d r) _ _ h w.1.1 tt)
reads (Adc d r) h =
    let w = two_words 7168 d r refl h in
    row (Adc d r) w.0 w.1.0 (at_words (Adc d r) _ _ h w.1.1 tt)
reads (And d r) h =
    let w = two_words 8192 d r refl h in
    row (And d r) w.0 w.1.0 (at_words (And d r) _ _ h w.1.1 tt)
reads (Eor d r) h =
    let w = two_words 9216 d r refl h in
    row (Eor d r) w.0 w.1.0 (at_words (Eor d r) _ _ h w.1.1 tt)
reads (Or d r) h =
    let w = two_words 10240 d r refl h in
    row (Or d r) w.0 w.1.0 (at_words (Or d r) _ _ h w.1.1 tt)
reads (Mov d r) h =
    let w = two_words 11264 d r refl h in
    row (Mov d r) w.0 w.1.0 (at_words (Mov d r) _ _ h w.1.1 tt)
reads (Mul d r) h =
    let w = two_words 39936 d r refl h in
    row (Mul d r) w.0 w.1.0 (at_words (Mul d r) _ _ h w.1.1 tt)
reads (Cpi d k) h =
    let w = immediate_words 12288 d k refl h in
    row (Cpi d k) w.0 w.1.0 (at_words (Cpi d k) _ _ h w.1.1 tt)
reads (Sbci d k) h =
    let w = immediate_words 16384 d k refl h in
    row (Sbci d k) w.0 w.1.0 (at_words (Sbci d k) _ _ h w.1.1 tt)
reads (Subi d k) h =
    let w = immediate_words 20480 d k refl h in
    row (Subi d k) w.0 w.1.0 (at_words (Subi d k) _ _ h w.1.1 tt)
reads (Ori d k) h =
    let w = immediate_words 24576 d k refl h in
    row (Ori d k) w.0 w.1.0 (at_words (Ori d k) _ _ h w.1.1 tt)
reads (Andi d k) h =
    let w = immediate_words 28672 d k refl h in
    row (Andi d k) w.0 w.1.0 (at_words (Andi d k) _ _ h w.1.1 tt)
reads (Ldi d k) h =
    let w = immediate_words 57344 d k refl h in
    row (Ldi d k) w.0 w.1.0 (at_words (Ldi d k) _ _ h w.1.1 tt)
reads (LddZ d q) h =
    let w = displaced_words 32768 d q refl h in
    row (LddZ d q) w.0 w.1.0 (at_words (LddZ d q) _ _ h w.1.1 tt)
reads (LddY d q) h =
    let w = displaced_words 32776 d q refl h in
    row (LddY d q) w.0 w.1.0 (at_words (LddY d q) _ _ h w.1.1 tt)
reads (StdZ q r) h =
    let w = displaced_words 33280 r q refl h in
    row (StdZ q r) w.1.0 w.0 (at_words (StdZ q r) _ _ h w.1.1 tt)
reads (StdY q r) h =
    let w = displaced_words 33288 r q refl h in
    row (StdY q r) w.1.0 w.0 (at_words (StdY q r) _ _ h w.1.1 tt)
reads (Lds d k) h =
    let w = direct_words 36864 d k refl h in
    row (Lds d k) w.0 w.1.0 (at_words (Lds d k) _ _ h w.1.1 refl)
reads (Sts k r) h =
    let w = direct_words 37376 r k refl h in
    row (Sts k r) w.1.0 w.0 (at_words (Sts k r) _ _ h w.1.1 refl)
reads (LdZPlus d) h =
    let w = register_words 36865 d refl (beside d 30 h) in row (LdZPlus d) w.0 small_zero (at_words (LdZPlus d) _ _ h w.1 tt)
reads (LdMinusZ d) h =
    let w = register_words 36866 d refl (beside d 30 h) in row (LdMinusZ d) w.0 small_zero (at_words (LdMinusZ d) _ _ h w.1 tt)
reads (LdYPlus d) h =
    let w = register_words 36873 d refl (beside d 28 h) in row (LdYPlus d) w.0 small_zero (at_words (LdYPlus d) _ _ h w.1 tt)
reads (LdMinusY d) h =
    let w = register_words 36874 d refl (beside d 28 h) in row (LdMinusY d) w.0 small_zero (at_words (LdMinusY d) _ _ h w.1 tt)
reads (LdX d) h =
    let w = register_words 36876 d refl h in row (LdX d) w.0 small_zero (at_words (LdX d) _ _ h w.1 tt)
reads (LdXPlus d) h =
    let w = register_words 36877 d refl (beside d 26 h) in row (LdXPlus d) w.0 small_zero (at_words (LdXPlus d) _ _ h w.1 tt)
reads (LdMinusX d) h =
    let w = register_words 36878 d refl (beside d 26 h) in row (LdMinusX d) w.0 small_zero (at_words (LdMinusX d) _ _ h w.1 tt)
reads (StZPlus r) h =
    let w = register_words 37377 r refl (beside r 30 h) in row (StZPlus r) w.0 small_zero (at_words (StZPlus r) _ _ h w.1 tt)
reads (StMinusZ r) h =
    let w = register_words 37378 r refl (beside r 30 h) in row (StMinusZ r) w.0 small_zero (at_words (StMinusZ r) _ _ h w.1 tt)
reads (StYPlus r) h =
    let w = register_words 37385 r refl (beside r 28 h) in row (StYPlus r) w.0 small_zero (at_words (StYPlus r) _ _ h w.1 tt)
reads (StMinusY r) h =
    let w = register_words 37386 r refl (beside r 28 h) in row (StMinusY r) w.0 small_zero (at_words (StMinusY r) _ _ h w.1 tt)
reads (StX r) h =
    let w = register_words 37388 r refl h in row (StX r) w.0 small_zero (at_words (StX r) _ _ h w.1 tt)
reads (StXPlus r) h =
    let w = register_words 37389 r refl (beside r 26 h) in row (StXPlus r) w.0 small_zero (at_words (StXPlus r) _ _ h w.1 tt)
reads (StMinusX r) h =
    let w = register_words 37390 r refl (beside r 26 h) in row (StMinusX r) w.0 small_zero (at_words (StMinusX r) _ _ h w.1 tt)
reads (LpmZ d) h =
    let w = register_words 36868 d refl h in row (LpmZ d) w.0 small_zero (at_words (LpmZ d) _ _ h w.1 tt)
reads (LpmZPlus d) h =
    let w = register_words 36869 d refl (beside d 30 h) in row (LpmZPlus d) w.0 small_zero (at_words (LpmZPlus d) _ _ h w.1 tt)
reads (Elpm d) h =
    let w = register_words 36870 d refl h in row (Elpm d) w.0 small_zero (at_words (Elpm d) _ _ h w.1 tt)
reads (ElpmInc d) h =
    let w = register_words 36871 d refl (beside d 30 h) in row (ElpmInc d) w.0 small_zero (at_words (ElpmInc d) _ _ h w.1 tt)
reads (Pop d) h =
    let w = register_words 36879 d refl h in row (Pop d) w.0 small_zero (at_words (Pop d) _ _ h w.1 tt)
reads (Push r) h =
    let w = register_words 37391 r refl h in row (Push r) w.0 small_zero (at_words (Push r) _ _ h w.1 tt)
reads (Com d) h =
    let w = register_words 37888 d refl h in row (Com d) w.0 small_zero (at_words (Com d) _ _ h w.1 tt)
reads (Neg d) h =
    let w = register_words 37889 d refl h in row (Neg d) w.0 small_zero (at_words (Neg d) _ _ h w.1 tt)
reads (Swap d) h =
    let w = register_words 37890 d refl h in row (Swap d) w.0 small_zero (at_words (Swap d) _ _ h w.1 tt)
reads (Inc d) h =
    let w = register_words 37891 d refl h in row (Inc d) w.0 small_zero (at_words (Inc d) _ _ h w.1 tt)
reads (Asr d) h =
    let w = register_words 37893 d refl h in row (Asr d) w.0 small_zero (at_words (Asr d) _ _ h w.1 tt)
reads (Lsr d) h =
    let w = register_words 37894 d refl h in row (Lsr d) w.0 small_zero (at_words (Lsr d) _ _ h w.1 tt)
reads (Ror d) h =
    let w = register_words 37895 d refl h in row (Ror d) w.0 small_zero (at_words (Ror d) _ _ h w.1 tt)
reads (Dec d) h =
    let w = register_words 37898 d refl h in row (Dec d) w.0 small_zero (at_words (Dec d) _ _ h w.1 tt)
reads (Bset s) h =
    let w = flag_words 37896 s refl h in row (Bset s) w.0 small_zero (at_words (Bset s) _ _ h w.1 tt)
reads (Bclr s) h =
    let w = flag_words 38024 s refl h in row (Bclr s) w.0 small_zero (at_words (Bclr s) _ _ h w.1 tt)
reads Ijmp h = row Ijmp small_zero small_zero refl
reads Icall h = row Icall small_zero small_zero refl
reads Ret h = row Ret small_zero small_zero refl
reads Break h = row Break small_zero small_zero refl
reads (Jmp k) h = row (Jmp k) (ltb-true k 65536 h) small_zero (at_words (Jmp k) _ _ h refl refl)
reads (Call k) h = row (Call k) (ltb-true k 65536 h) small_zero (at_words (Call k) _ _ h refl refl)
reads (Adiw d k) h =
    let w = pair_words 38400 d k refl h in
    row (Adiw d k) w.0 w.1.0 (at_words (Adiw d k) _ _ h w.1.1 tt)
reads (Sbiw d k) h =
    let w = pair_words 38656 d k refl h in
    row (Sbiw d k) w.0 w.1.0 (at_words (Sbiw d k) _ _ h w.1.1 tt)
reads (In d a) h =
    let w = port_words 45056 d a refl h in
    row (In d a) w.0 w.1.0 (at_words (In d a) _ _ h w.1.1 tt)
reads (Out a r) h =
    let w = port_words 47104 r a refl h in
    row (Out a r) w.1.0 w.0 (at_words (Out a r) _ _ h w.1.1 tt)
reads (Rjmp (pos k)) h =
    let w = forward_words 49152 k refl h in
    row (Rjmp (pos k)) w.0 small_zero (at_words (Rjmp (pos k)) _ _ h w.1 tt)
reads (Rjmp (negsuc k)) h =
    let w = back_words 49152 k refl h in
    row (Rjmp (negsuc k)) w.0 small_zero (at_words (Rjmp (negsuc k)) _ _ h w.1 tt)
reads (Rcall (pos k)) h =
    let w = forward_words 53248 k refl h in
    row (Rcall (pos k)) w.0 small_zero (at_words (Rcall (pos k)) _ _ h w.1 tt)
reads (Rcall (negsuc k)) h =
    let w = back_words 53248 k refl h in
    row (Rcall (negsuc k)) w.0 small_zero (at_words (Rcall (negsuc k)) _ _ h w.1 tt)
reads (Brbs s (pos k)) h =
    let p = and_parts (nat_lt s 8) (is_signed 64 (pos k)) h in
    let w = branch_words 61440 s k refl p.0 p.1 in
    row (Brbs s (pos k)) w.0 w.1.0 (at_words (Brbs s (pos k)) _ _ h w.1.1 tt)
reads (Brbs s (negsuc k)) h =
    let p = and_parts (nat_lt s 8) (is_signed 64 (negsuc k)) h in
    let w = branch_back_words 61440 s k refl p.0 p.1 in
    row (Brbs s (negsuc k)) w.0 w.1.0 (at_words (Brbs s (negsuc k)) _ _ h w.1.1 tt)
reads (Brbc s (pos k)) h =
    let p = and_parts (nat_lt s 8) (is_signed 64 (pos k)) h in
    let w = branch_words 62464 s k refl p.0 p.1 in
    row (Brbc s (pos k)) w.0 w.1.0 (at_words (Brbc s (pos k)) _ _ h w.1.1 tt)
reads (Brbc s (negsuc k)) h =
    let p = and_parts (nat_lt s 8) (is_signed 64 (negsuc k)) h in
    let w = branch_back_words 62464 s k refl p.0 p.1 in
    row (Brbc s (negsuc k)) w.0 w.1.0 (at_words (Brbc s (negsuc k)) _ _ h w.1.1 tt)
reads (Bld d b) h =
    let w = bit_words 63488 d b refl h in
    row (Bld d b) w.0 w.1.0 (at_words (Bld d b) _ _ h w.1.1 tt)
reads (Bst d b) h =
    let w = bit_words 64000 d b refl h in
    row (Bst d b) w.0 w.1.0 (at_words (Bst d b) _ _ h w.1.1 tt)
reads (Sbrc r b) h =
    let w = bit_words 64512 r b refl h in
    row (Sbrc r b) w.0 w.1.0 (at_words (Sbrc r b) _ _ h w.1.1 tt)
reads (Sbrs r b) h =
    let w = bit_words 65024 r b refl h in
    row (Sbrs r b) w.0 w.1.0 (at_words (Sbrs r b) _ _ h w.1.1 tt)

-- ---- the patterns

pub sound : (i : Instr) → is_sound (text i).pattern (text i).first (text i).second ≡ true
sound Nop = refl
sound (Movw d r) = refl
sound (Cpc d r) = refl
sound (Sbc d r) = refl
sound (Add d r) = refl
sound (Cpse d r) = refl
sound (Cp d r) = refl
sound (Sub d r) = refl
sound (Adc d r) = refl
sound (And d r) = refl
sound (Eor d r) = refl
sound (Or d r) = refl
sound (Mov d r) = refl
sound (Mul d r) = refl
sound (Cpi d k) = refl
sound (Sbci d k) = refl
sound (Subi d k) = refl
sound (Ori d k) = refl
sound (Andi d k) = refl
sound (Ldi d k) = refl
sound (LddZ d q) = refl
sound (LddY d q) = refl
sound (StdZ q r) = refl
sound (StdY q r) = refl
sound (Lds d k) = refl
sound (Sts k r) = refl
sound (LdZPlus d) = refl
sound (LdMinusZ d) = refl
sound (LdYPlus d) = refl
sound (LdMinusY d) = refl
sound (LdX d) = refl
sound (LdXPlus d) = refl
sound (LdMinusX d) = refl
sound (StZPlus r) = refl
sound (StMinusZ r) = refl
sound (StYPlus r) = refl
sound (StMinusY r) = refl
sound (StX r) = refl
sound (StXPlus r) = refl
sound (StMinusX r) = refl
sound (LpmZ d) = refl
sound (LpmZPlus d) = refl
sound (Elpm d) = refl
sound (ElpmInc d) = refl
sound (Pop d) = refl
sound (Push r) = refl
sound (Com d) = refl
sound (Neg d) = refl
sound (Swap d) = refl
sound (Inc d) = refl
sound (Asr d) = refl
sound (Lsr d) = refl
sound (Ror d) = refl
sound (Dec d) = refl
sound (Bset s) = refl
sound (Bclr s) = refl
sound Ijmp = refl
sound Icall = refl
sound Ret = refl
sound Break = refl
sound (Jmp k) = refl
sound (Call k) = refl
sound (Adiw d k) = refl
sound (Sbiw d k) = refl
sound (In d a) = refl
sound (Out a r) = refl
sound (Rjmp (pos k)) = refl
sound (Rjmp (negsuc k)) = refl
sound (Rcall (pos k)) = refl
sound (Rcall (negsuc k)) = refl
sound (Brbs s (pos k)) = refl
sound (Brbs s (negsuc k)) = refl
sound (Brbc s (pos k)) = refl
sound (Brbc s (negsuc k)) = refl
sound (Bld d b) = refl
sound (Bst d b) = refl
sound (Sbrc r b) = refl
sound (Sbrs r b) = refl
