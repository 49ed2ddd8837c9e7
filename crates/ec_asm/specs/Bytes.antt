-- The words of instructions, and the instructions for bytes of numbers (Microchip AVR Instruction Set Manual).
use Rattle.std.specs.Prelude.{ℕ, zero, suc}
use Rattle.ec_isa.specs.declared.instructions.Instr.{Instr}
use Rattle.ec_isa.specs.declared.instructions.Instr.TheVariants.{Add, Adc, Cp, Cpc, Lds, Sts, Jmp, Call}

-- the words of an instruction
abbrev pub words : Instr → ℕ
words (Lds d k) = 2
words (Sts k r) = 2
words (Jmp k) = 2
words (Call k) = 2
words i = 1

-- the sum at a byte: the lowest byte takes no carry
abbrev pub sums : ℕ → (d r : ℕ) → Instr
sums zero d r = Add d r
sums (suc i) d r = Adc d r

-- the comparison of a byte: the lowest byte takes no borrow
abbrev pub compares : ℕ → (ℕ → ℕ → Instr)
compares zero d r = Cp d r
compares (suc i) d r = Cpc d r
