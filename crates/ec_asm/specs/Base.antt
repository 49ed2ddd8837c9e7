-- Code that leaves Y, which is R29:R28, as it is, so that it can hold an address all along.
use Rattle.std.specs.Prelude.{ℕ, nat_le, nat_lt, Bool, true, false, ◌||◌}
use Rattle.ec_isa.specs.declared.instructions.Instr.{Instr}
use Rattle.ec_isa.specs.declared.instructions.Instr.TheVariants.{Movw, Sbc, Add, Sub, Adc, And, Eor, Or, Mov, Sbci}
use Rattle.ec_isa.specs.declared.instructions.Instr.TheVariants.{Subi, Ori, Andi, Ldi, LddZ, LddY, Lds, LdZPlus}
use Rattle.ec_isa.specs.declared.instructions.Instr.TheVariants.{LdMinusZ, LdYPlus, LdMinusY, LdX, LdXPlus, LdMinusX}
use Rattle.ec_isa.specs.declared.instructions.Instr.TheVariants.{StYPlus, StMinusY, LpmZ, LpmZPlus, Elpm, ElpmInc, Pop, Com, Neg}
use Rattle.ec_isa.specs.declared.instructions.Instr.TheVariants.{Swap, Inc, Asr, Lsr, Ror, Dec, Adiw, Sbiw, Bld}
use Rattle.ec_isa.specs.declared.instructions.Instr.TheVariants.{In as InInstr}

-- a register that is none of Y's, and two neighbouring ones of which none is
abbrev pub is_beside : ℕ → Bool
is_beside d = nat_lt d 28 || nat_le 30 d

abbrev pub are_beside : ℕ → Bool
are_beside d = nat_lt d 27 || nat_le 30 d

-- An instruction that leaves Y as it is (Microchip AVR Instruction Set Manual). Stores are not looked at: they are of
-- addresses, those of registers among them
abbrev pub leaves_base : Instr → Bool
leaves_base (Movw d r) = are_beside d
leaves_base (Sbc d r) = is_beside d
leaves_base (Add d r) = is_beside d
leaves_base (Sub d r) = is_beside d
leaves_base (Adc d r) = is_beside d
leaves_base (And d r) = is_beside d
leaves_base (Eor d r) = is_beside d
leaves_base (Or d r) = is_beside d
leaves_base (Mov d r) = is_beside d
leaves_base (Sbci d k) = is_beside d
leaves_base (Subi d k) = is_beside d
leaves_base (Ori d k) = is_beside d
leaves_base (Andi d k) = is_beside d
leaves_base (Ldi d k) = is_beside d
leaves_base (LddZ d q) = is_beside d
leaves_base (LddY d q) = is_beside d
leaves_base (Lds d k) = is_beside d
leaves_base (LdZPlus d) = is_beside d
leaves_base (LdMinusZ d) = is_beside d
leaves_base (LdYPlus d) = false
leaves_base (LdMinusY d) = false
leaves_base (LdX d) = is_beside d
leaves_base (LdXPlus d) = is_beside d
leaves_base (LdMinusX d) = is_beside d
leaves_base (StYPlus r) = false
leaves_base (StMinusY r) = false
leaves_base (LpmZ d) = is_beside d
leaves_base (LpmZPlus d) = is_beside d
leaves_base (Elpm d) = is_beside d
leaves_base (ElpmInc d) = is_beside d
leaves_base (Pop d) = is_beside d
leaves_base (Com d) = is_beside d
leaves_base (Neg d) = is_beside d
leaves_base (Swap d) = is_beside d
leaves_base (Inc d) = is_beside d
leaves_base (Asr d) = is_beside d
leaves_base (Lsr d) = is_beside d
leaves_base (Ror d) = is_beside d
leaves_base (Dec d) = is_beside d
leaves_base (Adiw d k) = are_beside d
leaves_base (Sbiw d k) = are_beside d
leaves_base (InInstr d a) = is_beside d
leaves_base (Bld d b) = is_beside d
leaves_base i = true
