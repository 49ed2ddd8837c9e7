-- A step that does not run changes nothing.
use Rattle.std.proofs.Common.{ℕ, ◌+◌, ◌%◌, Bool, true, false, ◌&&◌, Option, Some, None, refl, length, nat_lt}
use Rattle.std.specs.Prelude.{if◌then◌else◌}
use Rattle.ec_isa.specs.declared.instructions.Instr.{Instr}
use Rattle.ec_isa.specs.declared.instructions.Instr.TheVariants.{LddZ, LddY, StdZ, StdY, Lds, Sts, LdZPlus, LdMinusZ, LdYPlus, LdMinusY}
use Rattle.ec_isa.specs.declared.instructions.Instr.TheVariants.{LdX, LdXPlus, LdMinusX, StZPlus, StMinusZ, StYPlus, StMinusY, StX, StXPlus}
use Rattle.ec_isa.specs.declared.instructions.Instr.TheVariants.{StMinusX, LpmZ, LpmZPlus, Elpm, ElpmInc, Pop, Push, Icall, Ret, Call, In as InInstr}
use Rattle.ec_isa.specs.declared.instructions.Instr.TheVariants.{Out as OutInstr, Rcall, Break}
use Rattle.ec_avr.specs.declared.machine.FaultKind.{FaultKind}
use Rattle.ec_avr.specs.declared.machine.FaultKind.TheVariants.{DataOut, StackOut, Unsupported}
use Rattle.ec_avr.specs.State.{State, is_sram, pair, pointer_x, pointer_y, pointer_z, stack_pointer, raised, lowered, has_rampz, far_pointer}
use Rattle.ec_avr.specs.Effects.{After, faulted}
use Rattle.ec_avr.specs.Machine.{effect, StaysUnlessRan}

abbrev pub Stays : After → State → Type 0
Stays after s = StaysUnlessRan after.stepped s after.state

of_test : (can : Bool) (after : After) (kind : FaultKind) (s : State) → Stays after s
    → Stays (if can then after else faulted kind s) s
of_test true after kind s h = h
of_test false after kind s h = (refl, refl)

-- a load or store at a data address
at_data : (at : ℕ) (after : After) (s : State) → Stays after s
    → Stays (if nat_lt at (length s.mem.data) then after else faulted DataOut s) s
at_data at after s h = of_test (nat_lt at (length s.mem.data)) after DataOut s h

pub stays : (i : Option Instr) (answer : ℕ) (s : State) → Stays (effect i answer s) s
unfolding effect
stays (Some (LddZ d q)) answer s = at_data ((pair s pointer_z + q) % 65536) _ s tt
stays (Some (LddY d q)) answer s = at_data ((pair s pointer_y + q) % 65536) _ s tt
stays (Some (LdX d)) answer s = at_data (pair s pointer_x) _ s tt
stays (Some (Lds d k)) answer s = at_data k _ s tt
stays (Some (InInstr d a)) answer s = at_data (a + 0x20) _ s tt
stays (Some (LdZPlus d)) answer s = at_data (pair s pointer_z) _ s tt
stays (Some (LdYPlus d)) answer s = at_data (pair s pointer_y) _ s tt
stays (Some (LdXPlus d)) answer s = at_data (pair s pointer_x) _ s tt
stays (Some (LdMinusZ d)) answer s = at_data (lowered (pair s pointer_z)) _ s tt
stays (Some (LdMinusY d)) answer s = at_data (lowered (pair s pointer_y)) _ s tt
stays (Some (LdMinusX d)) answer s = at_data (lowered (pair s pointer_x)) _ s tt
stays (Some (StdZ q r)) answer s = at_data ((pair s pointer_z + q) % 65536) _ s tt
stays (Some (StdY q r)) answer s = at_data ((pair s pointer_y + q) % 65536) _ s tt
stays (Some (StX r)) answer s = at_data (pair s pointer_x) _ s tt
stays (Some (Sts k r)) answer s = at_data k _ s tt
stays (Some (OutInstr a r)) answer s = at_data (a + 0x20) _ s tt
stays (Some (StZPlus r)) answer s = at_data (pair s pointer_z) _ s tt
stays (Some (StYPlus r)) answer s = at_data (pair s pointer_y) _ s tt
stays (Some (StXPlus r)) answer s = at_data (pair s pointer_x) _ s tt
stays (Some (StMinusZ r)) answer s = at_data (lowered (pair s pointer_z)) _ s tt
stays (Some (StMinusY r)) answer s = at_data (lowered (pair s pointer_y)) _ s tt
stays (Some (StMinusX r)) answer s = at_data (lowered (pair s pointer_x)) _ s tt
stays (Some (LpmZ d)) answer s = of_test (nat_lt (pair s pointer_z) (length s.mem.flash)) _ DataOut s tt
stays (Some (LpmZPlus d)) answer s = of_test (nat_lt (pair s pointer_z) (length s.mem.flash)) _ DataOut s tt
stays (Some (Elpm d)) answer s =
    of_test (has_rampz s.core) _ Unsupported s (of_test (nat_lt (far_pointer s) (length s.mem.flash)) _ DataOut s tt)
stays (Some (ElpmInc d)) answer s =
    of_test (has_rampz s.core) _ Unsupported s (of_test (nat_lt (far_pointer s) (length s.mem.flash)) _ DataOut s tt)
stays (Some (Push r)) answer s = of_test (is_sram s (stack_pointer s)) _ StackOut s tt
stays (Some (Pop d)) answer s = of_test (is_sram s (raised (stack_pointer s))) _ StackOut s tt
stays (Some (Call k)) answer s = of_test (is_sram s (stack_pointer s) && is_sram s (lowered (stack_pointer s))) _ StackOut s tt
stays (Some (Rcall k)) answer s = of_test (is_sram s (stack_pointer s) && is_sram s (lowered (stack_pointer s))) _ StackOut s tt
stays (Some Icall) answer s = of_test (is_sram s (stack_pointer s) && is_sram s (lowered (stack_pointer s))) _ StackOut s tt
stays (Some Ret) answer s =
    of_test (is_sram s (raised (stack_pointer s)) && is_sram s (raised (raised (stack_pointer s)))) _ StackOut s tt
stays (Some Break) answer s = refl
stays None answer s = (refl, refl)
stays (Some _) answer s = tt
