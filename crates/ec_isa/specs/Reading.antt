-- The instruction of some words as a function. The bits of the words name the one instruction that they may be, the
-- candidate, and it is their instruction where the table has these words for it. That this is the instruction that the
-- table relates to the words, and that there is no other, is what decode ensures.
use Rattle.std.specs.Prelude.{ℕ, Bool, true, false, ◌&&◌, ◌+◌, ◌-◌, ◌*◌, ◌/◌, ◌%◌, ◌==◌, nat_lt, nat_le, ℤ, pos, negsuc}
use Rattle.std.specs.Prelude.{Option, Some, None, if◌then◌else◌}
use Rattle.ec_isa.specs.declared.instructions.Instr.{Instr}
use Rattle.ec_isa.specs.declared.instructions.Instr.TheVariants.{Nop, Movw, Cpc, Sbc, Add, Cpse, Cp, Sub, Adc, And, Eor}
use Rattle.ec_isa.specs.declared.instructions.Instr.TheVariants.{Or, Mov, Mul, Cpi, Sbci, Subi, Ori, Andi, Ldi, LddZ}
use Rattle.ec_isa.specs.declared.instructions.Instr.TheVariants.{LddY, StdZ, StdY, Lds, Sts, LdZPlus, LdMinusZ, LdYPlus}
use Rattle.ec_isa.specs.declared.instructions.Instr.TheVariants.{LdMinusY, LdX, LdXPlus, LdMinusX, StZPlus, StMinusZ}
use Rattle.ec_isa.specs.declared.instructions.Instr.TheVariants.{StYPlus, StMinusY, StX, StXPlus, StMinusX, LpmZ}
use Rattle.ec_isa.specs.declared.instructions.Instr.TheVariants.{LpmZPlus, Elpm, ElpmInc, Pop, Push, Com, Neg, Swap, Inc, Asr, Lsr}
use Rattle.ec_isa.specs.declared.instructions.Instr.TheVariants.{Ror, Dec, Bset, Bclr, Ijmp, Icall, Ret, Break, Jmp}
use Rattle.ec_isa.specs.declared.instructions.Instr.TheVariants.{Call, Adiw, Sbiw, In, Out, Rjmp, Rcall, Brbs, Brbc}
use Rattle.ec_isa.specs.declared.instructions.Instr.TheVariants.{Bld, Bst, Sbrc, Sbrs}
use Rattle.ec_isa.specs.declared.instructions.Words.{Words}
use Rattle.ec_isa.specs.Formats.{words_of}
use Rattle.ec_isa.specs.Table.{row}

-- the fields of a word

-- .... ...d dddd ....
abbrev pub register : ℕ → ℕ
register w = w / 16 % 32

-- .... ..r. .... rrrr
abbrev pub source : ℕ → ℕ
source w = w / 512 % 2 * 16 + w % 16

-- .... .... dddd ...., as 16 to 31
abbrev pub upper_register : ℕ → ℕ
upper_register w = 16 + w / 16 % 16

-- .... KKKK .... KKKK
abbrev pub constant : ℕ → ℕ
constant w = w / 256 % 16 * 16 + w % 16

-- ..q. qq.. .... .qqq
abbrev pub offset : ℕ → ℕ
offset w = w / 8192 % 2 * 32 + w / 1024 % 4 * 8 + w % 8

-- .... .... ..dd ...., as 24, 26, 28 and 30
abbrev pub pair : ℕ → ℕ
pair w = 24 + w / 16 % 4 * 2

-- .... .... KK.. KKKK
abbrev pub pair_constant : ℕ → ℕ
pair_constant w = w / 64 % 4 * 16 + w % 16

-- .... .AA. .... AAAA
abbrev pub io_address : ℕ → ℕ
io_address w = w / 512 % 4 * 16 + w % 16

-- the signed number that a field of 2 * half values holds
abbrev pub signed : ℕ → ℕ → ℤ
signed half x = if nat_lt x half then pos x else negsuc (2 * half - 1 - x)

-- the instructions of one format, by the bits of the opcode: the page is a word's top four bits, the group the three
-- bits below them, the form its lowest four bits, and a key what else tells the instructions of a format apart

abbrev pub no_source : ℕ → Option Instr
no_source w =
    if w / 256 == 0 then (if w == 0 then Some Nop else None)
    else Some (Movw (w / 16 % 16 * 2) (w % 16 * 2))

abbrev pub two_registers : ℕ → ℕ → ℕ → ℕ → Option Instr
two_registers key d r w =
    if key == 0 then no_source w
    else (if key == 1 then Some (Cpc d r)
    else (if key == 2 then Some (Sbc d r)
    else (if key == 3 then Some (Add d r)
    else (if key == 4 then Some (Cpse d r)
    else (if key == 5 then Some (Cp d r)
    else (if key == 6 then Some (Sub d r)
    else (if key == 7 then Some (Adc d r)
    else (if key == 8 then Some (And d r)
    else (if key == 9 then Some (Eor d r)
    else (if key == 10 then Some (Or d r)
    else (if key == 11 then Some (Mov d r)
    else None)))))))))))

abbrev pub immediate : ℕ → ℕ → ℕ → Option Instr
immediate page d k =
    if page == 3 then Some (Cpi d k)
    else (if page == 4 then Some (Sbci d k)
    else (if page == 5 then Some (Subi d k)
    else (if page == 6 then Some (Ori d k)
    else (if page == 7 then Some (Andi d k)
    else (if page == 14 then Some (Ldi d k)
    else None)))))

abbrev pub displacement : ℕ → ℕ → ℕ → ℕ → Option Instr
displacement store y d q =
    if store == 0 then (if y == 0 then Some (LddZ d q) else Some (LddY d q))
    else (if y == 0 then Some (StdZ q d) else Some (StdY q d))

abbrev pub load : ℕ → ℕ → ℕ → Option Instr
load form d next =
    if form == 0 then Some (Lds d next)
    else (if form == 1 then Some (LdZPlus d)
    else (if form == 2 then Some (LdMinusZ d)
    else (if form == 4 then Some (LpmZ d)
    else (if form == 5 then Some (LpmZPlus d)
    else (if form == 6 then Some (Elpm d)
    else (if form == 7 then Some (ElpmInc d)
    else (if form == 9 then Some (LdYPlus d)
    else (if form == 10 then Some (LdMinusY d)
    else (if form == 12 then Some (LdX d)
    else (if form == 13 then Some (LdXPlus d)
    else (if form == 14 then Some (LdMinusX d)
    else (if form == 15 then Some (Pop d)
    else None))))))))))))

abbrev pub store : ℕ → ℕ → ℕ → Option Instr
store form r next =
    if form == 0 then Some (Sts next r)
    else (if form == 1 then Some (StZPlus r)
    else (if form == 2 then Some (StMinusZ r)
    else (if form == 9 then Some (StYPlus r)
    else (if form == 10 then Some (StMinusY r)
    else (if form == 12 then Some (StX r)
    else (if form == 13 then Some (StXPlus r)
    else (if form == 14 then Some (StMinusX r)
    else (if form == 15 then Some (Push r)
    else None))))))))

-- 1001 010. .sss 1000
abbrev pub flag_or_return : ℕ → ℕ → Option Instr
flag_or_return key s =
    if key == 0 then Some (Bset s)
    else (if key == 1 then Some (Bclr s)
    else (if key == 2 then Some Ret
    else Some Break))

abbrev pub one_register : ℕ → ℕ → ℕ → ℕ → Option Instr
one_register form d w next =
    if form == 0 then Some (Com d)
    else (if form == 1 then Some (Neg d)
    else (if form == 2 then Some (Swap d)
    else (if form == 3 then Some (Inc d)
    else (if form == 5 then Some (Asr d)
    else (if form == 6 then Some (Lsr d)
    else (if form == 7 then Some (Ror d)
    else (if form == 8 then flag_or_return (w / 128 % 4) (w / 16 % 8)
    else (if form == 9 then (if w / 256 % 2 == 0 then Some Ijmp else Some Icall)
    else (if form == 10 then Some (Dec d)
    else (if form == 12 then Some (Jmp next)
    else (if form == 14 then Some (Call next)
    else None)))))))))))

abbrev pub pair_immediate : ℕ → ℕ → ℕ → Option Instr
pair_immediate key d k = if key == 0 then Some (Adiw d k) else Some (Sbiw d k)

-- 1001 ...
abbrev pub page_nine : ℕ → ℕ → ℕ → Option Instr
page_nine group w next =
    if group == 0 then load (w % 16) (register w) next
    else (if group == 1 then store (w % 16) (register w) next
    else (if group == 2 then one_register (w % 16) (register w) w next
    else (if group == 3 then pair_immediate (w / 256 % 2) (pair w) (pair_constant w)
    else (if nat_le 6 group then Some (Mul (register w) (source w))
    else None))))

abbrev pub port : ℕ → ℕ → ℕ → Option Instr
port out d a = if out == 0 then Some (In d a) else Some (Out a d)

-- 1111 ...
abbrev pub bit_or_branch : ℕ → ℕ → ℕ → ℤ → Option Instr
bit_or_branch group d b k =
    if nat_lt group 2 then Some (Brbs b k)
    else (if nat_lt group 4 then Some (Brbc b k)
    else (if group == 4 then Some (Bld d b)
    else (if group == 5 then Some (Bst d b)
    else (if group == 6 then Some (Sbrc d b)
    else Some (Sbrs d b)))))

abbrev pub page_fifteen : ℕ → Option Instr
page_fifteen w = bit_or_branch (w / 512 % 8) (register w) (w % 8) (signed 64 (w / 8 % 128))

abbrev pub by_page : ℕ → ℕ → ℕ → Option Instr
by_page page w next =
    if nat_le page 2 then two_registers (w / 1024) (register w) (source w) w
    else (if nat_le page 7 then immediate page (upper_register w) (constant w)
    else (if page == 8 then displacement (w / 512 % 2) (w / 8 % 2) (register w) (offset w)
    else (if page == 9 then page_nine (w / 512 % 8) w next
    else (if page == 10 then displacement (w / 512 % 2) (w / 8 % 2) (register w) (offset w)
    else (if page == 11 then port (w / 2048 % 2) (register w) (io_address w)
    else (if page == 12 then Some (Rjmp (signed 2048 (w % 4096)))
    else (if page == 13 then Some (Rcall (signed 2048 (w % 4096)))
    else (if page == 14 then immediate page (upper_register w) (constant w)
    else (if page == 15 then page_fifteen w
    else None)))))))))

abbrev pub candidate : ℕ → ℕ → Option Instr
candidate w next = by_page (w / 4096) w next

-- the word is the second one of an instruction, if that has one
abbrev pub is_second : Option ℕ → ℕ → Bool
is_second None w = true
is_second (Some word) w = word == w

-- these are the words of an instruction, if the table has it
abbrev pub are_words : Option Words → ℕ → ℕ → Bool
are_words None w0 w1 = false
are_words (Some words) w0 w1 = (words.first == w0) && is_second words.second w1

-- the candidate, where the table has the words for it
abbrev pub confirmed : Option Instr → ℕ → ℕ → Option Instr
confirmed None w0 w1 = None
confirmed (Some i) w0 w1 = if are_words (words_of (row i)) w0 w1 then Some i else None

-- the instruction of the words w0 and w1
unfoldable pub instruction_at : ℕ → ℕ → Option Instr
instruction_at w0 w1 = confirmed (candidate w0 w1) w0 w1
