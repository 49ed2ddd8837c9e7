-- The text of each instruction: its name as the Microchip AVR Instruction Set Manual has it and, behind a space, its
-- operands, joined by commas. Registers stand by their own numbers, and numbers in decimal, `-` before a negative one.
use Rattle.std.specs.Prelude.{ℕ, ℤ, pos, negsuc, suc, ◌==◌, if◌then◌else◌, List, [], ◌∷◌, ◌++◌, codes}
use Rattle.std.specs.Fmt.{decimal}
use Rattle.ec_isa.specs.declared.instructions.Instr.{Instr}
use Rattle.ec_isa.specs.declared.instructions.Instr.TheVariants.{Nop, Movw, Cpc, Sbc, Add, Cpse, Cp, Sub, Adc, And}
use Rattle.ec_isa.specs.declared.instructions.Instr.TheVariants.{Eor, Or, Mov, Mul, Cpi, Sbci, Subi, Ori, Andi, Ldi}
use Rattle.ec_isa.specs.declared.instructions.Instr.TheVariants.{LddZ, LddY, StdZ, StdY, Lds, Sts, LdZPlus, LdMinusZ}
use Rattle.ec_isa.specs.declared.instructions.Instr.TheVariants.{LdYPlus, LdMinusY, LdX, LdXPlus, LdMinusX, StZPlus}
use Rattle.ec_isa.specs.declared.instructions.Instr.TheVariants.{StMinusZ, StYPlus, StMinusY, StX, StXPlus, StMinusX}
use Rattle.ec_isa.specs.declared.instructions.Instr.TheVariants.{LpmZ, LpmZPlus, Elpm, ElpmInc, Pop, Push, Com, Neg}
use Rattle.ec_isa.specs.declared.instructions.Instr.TheVariants.{Swap, Inc, Asr, Lsr, Ror, Dec, Bset, Bclr, Ijmp, Icall, Ret, Break}
use Rattle.ec_isa.specs.declared.instructions.Instr.TheVariants.{Jmp, Call, Adiw, Sbiw, In, Out, Rjmp, Rcall, Brbs}
use Rattle.ec_isa.specs.declared.instructions.Instr.TheVariants.{Brbc, Bld, Bst, Sbrc, Sbrs}
use Rattle.ec_list.specs.declared.texts.Format.{Format}
use Rattle.ec_list.specs.declared.texts.Format.TheVariants as formats

-- the pattern of a text, in which `#` stands for a number, its numbers in order, 0 where there are fewer than two, and
-- where these stand in the words
pub record Text : Type 0 where
  pub format : Format
  pub pattern : List ℕ
  pub first : ℕ
  pub second : ℕ

abbrev pub bare : List ℕ → Text
bare pattern = record { format = formats.Bare; pattern = pattern; first = 0; second = 0 }

abbrev pub one : Format → List ℕ → ℕ → Text
one format pattern n = record { format = format; pattern = pattern; first = n; second = 0 }

abbrev pub two : Format → List ℕ → ℕ → ℕ → Text
two format pattern n m = record { format = format; pattern = pattern; first = n; second = m }

-- a distance has a pattern of its own where it is negative
abbrev pub relative : List ℕ → List ℕ → ℤ → Text
relative ahead back (pos k) = one formats.Relative ahead k
relative ahead back (negsuc k) = one formats.RelativeBack back (suc k)

abbrev pub branch : List ℕ → List ℕ → ℕ → ℤ → Text
branch ahead back s (pos k) = two formats.Branch ahead s k
branch ahead back s (negsuc k) = two formats.BranchBack back s (suc k)

-- the table: a line for each instruction
abbrev pub text : Instr → Text
text Nop = bare (codes "NOP")
text (Movw d r) = two formats.Pairs (codes "MOVW R#, R#") d r
text (Cpc d r) = two formats.Two (codes "CPC R#, R#") d r
text (Sbc d r) = two formats.Two (codes "SBC R#, R#") d r
text (Add d r) = two formats.Two (codes "ADD R#, R#") d r
text (Cpse d r) = two formats.Two (codes "CPSE R#, R#") d r
text (Cp d r) = two formats.Two (codes "CP R#, R#") d r
text (Sub d r) = two formats.Two (codes "SUB R#, R#") d r
text (Adc d r) = two formats.Two (codes "ADC R#, R#") d r
text (And d r) = two formats.Two (codes "AND R#, R#") d r
text (Eor d r) = two formats.Two (codes "EOR R#, R#") d r
text (Or d r) = two formats.Two (codes "OR R#, R#") d r
text (Mov d r) = two formats.Two (codes "MOV R#, R#") d r
text (Mul d r) = two formats.Two (codes "MUL R#, R#") d r
text (Cpi d k) = two formats.Immediate (codes "CPI R#, #") d k
text (Sbci d k) = two formats.Immediate (codes "SBCI R#, #") d k
text (Subi d k) = two formats.Immediate (codes "SUBI R#, #") d k
text (Ori d k) = two formats.Immediate (codes "ORI R#, #") d k
text (Andi d k) = two formats.Immediate (codes "ANDI R#, #") d k
text (Ldi d k) = two formats.Immediate (codes "LDI R#, #") d k
text (LddZ d q) = two formats.LoadDisplaced (codes "LDD R#, Z+#") d q
text (LddY d q) = two formats.LoadDisplaced (codes "LDD R#, Y+#") d q
text (StdZ q r) = two formats.StoreDisplaced (codes "STD Z+#, R#") q r
text (StdY q r) = two formats.StoreDisplaced (codes "STD Y+#, R#") q r
text (Lds d k) = two formats.LoadDirect (codes "LDS R#, #") d k
text (Sts k r) = two formats.StoreDirect (codes "STS #, R#") k r
text (LdZPlus d) = one formats.One (codes "LD R#, Z+") d
text (LdMinusZ d) = one formats.One (codes "LD R#, -Z") d
text (LdYPlus d) = one formats.One (codes "LD R#, Y+") d
text (LdMinusY d) = one formats.One (codes "LD R#, -Y") d
text (LdX d) = one formats.One (codes "LD R#, X") d
text (LdXPlus d) = one formats.One (codes "LD R#, X+") d
text (LdMinusX d) = one formats.One (codes "LD R#, -X") d
text (StZPlus r) = one formats.One (codes "ST Z+, R#") r
text (StMinusZ r) = one formats.One (codes "ST -Z, R#") r
text (StYPlus r) = one formats.One (codes "ST Y+, R#") r
text (StMinusY r) = one formats.One (codes "ST -Y, R#") r
text (StX r) = one formats.One (codes "ST X, R#") r
text (StXPlus r) = one formats.One (codes "ST X+, R#") r
text (StMinusX r) = one formats.One (codes "ST -X, R#") r
text (LpmZ d) = one formats.One (codes "LPM R#, Z") d
text (LpmZPlus d) = one formats.One (codes "LPM R#, Z+") d
text (Elpm d) = one formats.One (codes "ELPM R#, Z") d
text (ElpmInc d) = one formats.One (codes "ELPM R#, Z+") d
text (Pop d) = one formats.One (codes "POP R#") d
text (Push r) = one formats.One (codes "PUSH R#") r
text (Com d) = one formats.One (codes "COM R#") d
text (Neg d) = one formats.One (codes "NEG R#") d
text (Swap d) = one formats.One (codes "SWAP R#") d
text (Inc d) = one formats.One (codes "INC R#") d
text (Asr d) = one formats.One (codes "ASR R#") d
text (Lsr d) = one formats.One (codes "LSR R#") d
text (Ror d) = one formats.One (codes "ROR R#") d
text (Dec d) = one formats.One (codes "DEC R#") d
text (Bset s) = one formats.One (codes "BSET #") s
text (Bclr s) = one formats.One (codes "BCLR #") s
text Ijmp = bare (codes "IJMP")
text Icall = bare (codes "ICALL")
text Ret = bare (codes "RET")
text Break = bare (codes "BREAK")
text (Jmp k) = one formats.Direct (codes "JMP #") k
text (Call k) = one formats.Direct (codes "CALL #") k
text (Adiw d k) = two formats.PairImmediate (codes "ADIW R#, #") d k
text (Sbiw d k) = two formats.PairImmediate (codes "SBIW R#, #") d k
text (In d a) = two formats.In (codes "IN R#, #") d a
text (Out a r) = two formats.Out (codes "OUT #, R#") a r
text (Rjmp k) = relative (codes "RJMP #") (codes "RJMP -#") k
text (Rcall k) = relative (codes "RCALL #") (codes "RCALL -#") k
text (Brbs s k) = branch (codes "BRBS #, #") (codes "BRBS #, -#") s k
text (Brbc s k) = branch (codes "BRBC #, #") (codes "BRBC #, -#") s k
text (Bld d b) = two formats.Bit (codes "BLD R#, #") d b
text (Bst d b) = two formats.Bit (codes "BST R#, #") d b
text (Sbrc r b) = two formats.Bit (codes "SBRC R#, #") r b
text (Sbrs r b) = two formats.Bit (codes "SBRS R#, #") r b

-- a pattern with its numbers
abbrev pub filled : List ℕ → ℕ → ℕ → List ℕ
filled [] n m = []
filled (c ∷ pattern) n m = if c == 35 then decimal n ++ filled pattern m 0 else c ∷ filled pattern n m

abbrev pub instruction_text : Instr → List ℕ
instruction_text i = filled (text i).pattern (text i).first (text i).second
