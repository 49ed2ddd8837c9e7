-- The decode table: the words of each instruction (Microchip AVR Instruction Set Manual). Each line has the
-- instruction, the format of its fields, its opcode and, behind the dashes, the bits as the manual prints them.
use Rattle.std.specs.Prelude.{◌≡◌, ℕ, Bool, Option, Some, None, IsTrue}
use Rattle.ec_isa.specs.declared.instructions.Instr.{Instr}
use Rattle.ec_isa.specs.declared.instructions.Instr.TheVariants.{Nop, Movw, Cpc, Sbc, Add, Cpse, Cp, Sub, Adc, And, Eor}
use Rattle.ec_isa.specs.declared.instructions.Instr.TheVariants.{Or, Mov, Mul, Cpi, Sbci, Subi, Ori, Andi, Ldi, LddZ}
use Rattle.ec_isa.specs.declared.instructions.Instr.TheVariants.{LddY, StdZ, StdY, Lds, Sts, LdZPlus, LdMinusZ, LdYPlus}
use Rattle.ec_isa.specs.declared.instructions.Instr.TheVariants.{LdMinusY, LdX, LdXPlus, LdMinusX, StZPlus, StMinusZ}
use Rattle.ec_isa.specs.declared.instructions.Instr.TheVariants.{StYPlus, StMinusY, StX, StXPlus, StMinusX, LpmZ}
use Rattle.ec_isa.specs.declared.instructions.Instr.TheVariants.{LpmZPlus, Elpm, ElpmInc, Pop, Push, Com, Neg, Swap, Inc, Asr, Lsr}
use Rattle.ec_isa.specs.declared.instructions.Instr.TheVariants.{Ror, Dec, Bset, Bclr, Ijmp, Icall, Ret, Break, Jmp}
use Rattle.ec_isa.specs.declared.instructions.Instr.TheVariants.{Call, Adiw, Sbiw, In, Out, Rjmp, Rcall, Brbs, Brbc}
use Rattle.ec_isa.specs.declared.instructions.Instr.TheVariants.{Bld, Bst, Sbrc, Sbrs}
use Rattle.ec_isa.specs.Formats.{Row, bare, register_pairs, two_registers, immediate, displacement, register}
use Rattle.ec_isa.specs.Formats.{register_beside, register_and_address, flag, address, pair_immediate, port, relative}
use Rattle.ec_isa.specs.Formats.{branch, register_bit}

-- the row of an instruction. Left out are the loads and stores that change X beside R26 and R27, Y beside R28 and R29,
-- Z beside R30 and R31, and LPM Z+ and ELPM Z+ into R30 and R31: the manual leaves undefined what they do
abbrev pub row : Instr → Row
row Nop = bare 0x0000  -- 0000 0000 0000 0000
row (Movw d r) = register_pairs 0x0100 d r  -- 0000 0001 dddd rrrr
row (Cpc d r) = two_registers 0x0400 d r  -- 0000 01rd dddd rrrr
row (Sbc d r) = two_registers 0x0800 d r  -- 0000 10rd dddd rrrr
row (Add d r) = two_registers 0x0C00 d r  -- 0000 11rd dddd rrrr
row (Cpse d r) = two_registers 0x1000 d r  -- 0001 00rd dddd rrrr
row (Cp d r) = two_registers 0x1400 d r  -- 0001 01rd dddd rrrr
row (Sub d r) = two_registers 0x1800 d r  -- 0001 10rd dddd rrrr
row (Adc d r) = two_registers 0x1C00 d r  -- 0001 11rd dddd rrrr
row (And d r) = two_registers 0x2000 d r  -- 0010 00rd dddd rrrr
row (Eor d r) = two_registers 0x2400 d r  -- 0010 01rd dddd rrrr
row (Or d r) = two_registers 0x2800 d r  -- 0010 10rd dddd rrrr
row (Mov d r) = two_registers 0x2C00 d r  -- 0010 11rd dddd rrrr
row (Mul d r) = two_registers 0x9C00 d r  -- 1001 11rd dddd rrrr
row (Cpi d k) = immediate 0x3000 d k  -- 0011 KKKK dddd KKKK
row (Sbci d k) = immediate 0x4000 d k  -- 0100 KKKK dddd KKKK
row (Subi d k) = immediate 0x5000 d k  -- 0101 KKKK dddd KKKK
row (Ori d k) = immediate 0x6000 d k  -- 0110 KKKK dddd KKKK
row (Andi d k) = immediate 0x7000 d k  -- 0111 KKKK dddd KKKK
row (Ldi d k) = immediate 0xE000 d k  -- 1110 KKKK dddd KKKK
row (LddZ d q) = displacement 0x8000 d q  -- 10q0 qq0d dddd 0qqq
row (LddY d q) = displacement 0x8008 d q  -- 10q0 qq0d dddd 1qqq
row (StdZ q r) = displacement 0x8200 r q  -- 10q0 qq1r rrrr 0qqq
row (StdY q r) = displacement 0x8208 r q  -- 10q0 qq1r rrrr 1qqq
row (Lds d k) = register_and_address 0x9000 d k  -- 1001 000d dddd 0000, kkkk kkkk kkkk kkkk
row (Sts k r) = register_and_address 0x9200 r k  -- 1001 001r rrrr 0000, kkkk kkkk kkkk kkkk
row (LdZPlus d) = register_beside 30 0x9001 d  -- 1001 000d dddd 0001
row (LdMinusZ d) = register_beside 30 0x9002 d  -- 1001 000d dddd 0010
row (LdYPlus d) = register_beside 28 0x9009 d  -- 1001 000d dddd 1001
row (LdMinusY d) = register_beside 28 0x900A d  -- 1001 000d dddd 1010
row (LdX d) = register 0x900C d  -- 1001 000d dddd 1100
row (LdXPlus d) = register_beside 26 0x900D d  -- 1001 000d dddd 1101
row (LdMinusX d) = register_beside 26 0x900E d  -- 1001 000d dddd 1110
row (StZPlus r) = register_beside 30 0x9201 r  -- 1001 001r rrrr 0001
row (StMinusZ r) = register_beside 30 0x9202 r  -- 1001 001r rrrr 0010
row (StYPlus r) = register_beside 28 0x9209 r  -- 1001 001r rrrr 1001
row (StMinusY r) = register_beside 28 0x920A r  -- 1001 001r rrrr 1010
row (StX r) = register 0x920C r  -- 1001 001r rrrr 1100
row (StXPlus r) = register_beside 26 0x920D r  -- 1001 001r rrrr 1101
row (StMinusX r) = register_beside 26 0x920E r  -- 1001 001r rrrr 1110
row (LpmZ d) = register 0x9004 d  -- 1001 000d dddd 0100
row (LpmZPlus d) = register_beside 30 0x9005 d  -- 1001 000d dddd 0101
row (Elpm d) = register 0x9006 d  -- 1001 000d dddd 0110
row (ElpmInc d) = register_beside 30 0x9007 d  -- 1001 000d dddd 0111
row (Pop d) = register 0x900F d  -- 1001 000d dddd 1111
row (Push r) = register 0x920F r  -- 1001 001r rrrr 1111
row (Com d) = register 0x9400 d  -- 1001 010d dddd 0000
row (Neg d) = register 0x9401 d  -- 1001 010d dddd 0001
row (Swap d) = register 0x9402 d  -- 1001 010d dddd 0010
row (Inc d) = register 0x9403 d  -- 1001 010d dddd 0011
row (Asr d) = register 0x9405 d  -- 1001 010d dddd 0101
row (Lsr d) = register 0x9406 d  -- 1001 010d dddd 0110
row (Ror d) = register 0x9407 d  -- 1001 010d dddd 0111
row (Dec d) = register 0x940A d  -- 1001 010d dddd 1010
row (Bset s) = flag 0x9408 s  -- 1001 0100 0sss 1000
row (Bclr s) = flag 0x9488 s  -- 1001 0100 1sss 1000
row Ijmp = bare 0x9409  -- 1001 0100 0000 1001
row Icall = bare 0x9509  -- 1001 0101 0000 1001
row Ret = bare 0x9508  -- 1001 0101 0000 1000
row Break = bare 0x9598  -- 1001 0101 1001 1000
row (Jmp k) = address 0x940C k  -- 1001 0100 0000 1100, kkkk kkkk kkkk kkkk
row (Call k) = address 0x940E k  -- 1001 0100 0000 1110, kkkk kkkk kkkk kkkk
row (Adiw d k) = pair_immediate 0x9600 d k  -- 1001 0110 KKdd KKKK
row (Sbiw d k) = pair_immediate 0x9700 d k  -- 1001 0111 KKdd KKKK
row (In d a) = port 0xB000 d a  -- 1011 0AAd dddd AAAA
row (Out a r) = port 0xB800 r a  -- 1011 1AAr rrrr AAAA
row (Rjmp k) = relative 0xC000 k  -- 1100 kkkk kkkk kkkk
row (Rcall k) = relative 0xD000 k  -- 1101 kkkk kkkk kkkk
row (Brbs s k) = branch 0xF000 s k  -- 1111 00kk kkkk ksss
row (Brbc s k) = branch 0xF400 s k  -- 1111 01kk kkkk ksss
row (Bld d b) = register_bit 0xF800 d b  -- 1111 100d dddd 0bbb
row (Bst d b) = register_bit 0xFA00 d b  -- 1111 101d dddd 0bbb
row (Sbrc r b) = register_bit 0xFC00 r b  -- 1111 110r rrrr 0bbb
row (Sbrs r b) = register_bit 0xFE00 r b  -- 1111 111r rrrr 0bbb

-- the fields are in the row's ranges, and the table has the instruction
abbrev pub in_table : Instr → Bool
in_table i = (row i).in_range

abbrev pub first_word : Instr → ℕ
first_word i = (row i).first

-- the second word, of the instructions that have one
abbrev pub second_word : Instr → Option ℕ
second_word i = (row i).second

-- the word is the second one, if there is one
abbrev pub SecondIs : Option ℕ → ℕ → Type 0
SecondIs None w = Unit {0}
SecondIs (Some k) w = w ≡ k

-- the table relates the words w0 and w1 to the instruction i. Where i has one word, w1 is any word
pub record Decodes (w0 w1 : ℕ) (i : Instr) : Type 0 where
  pub in_range : IsTrue (in_table i)
  pub first : w0 ≡ first_word i
  pub second : SecondIs (second_word i) w1
