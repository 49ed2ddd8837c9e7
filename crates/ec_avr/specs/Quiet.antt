-- Steps that access no port, and runs of such steps.
use Rattle.std.specs.Prelude.{◌≡◌, ℕ, ◌+◌, ◌%◌, Bool, true, false, not, ◌&&◌, ◌||◌, if◌then◌else◌, IsTrue}
use Rattle.std.specs.Prelude.{Option, Some, None, is_some, option_and_then, List, length}
use Rattle.std.specs.List.{list_all}
use Rattle.ec_isa.specs.declared.instructions.Instr.{Instr}
use Rattle.ec_isa.specs.declared.instructions.Instr.TheVariants.{StdZ, StdY, Sts, StZPlus, StMinusZ, StYPlus, StMinusY}
use Rattle.ec_isa.specs.declared.instructions.Instr.TheVariants.{StX, StXPlus, StMinusX, Out as OutInstr}
use Rattle.ec_avr.specs.declared.machine.Access.{Access}
use Rattle.ec_avr.specs.declared.machine.Access.TheVariants.{In, Out}
use Rattle.ec_avr.specs.declared.machine.Stepped.{Stepped}
use Rattle.ec_avr.specs.declared.machine.Stepped.TheVariants.{Ran}
use Rattle.ec_avr.specs.State.{State, pair, pointer_x, pointer_y, pointer_z, lowered}
use Rattle.ec_avr.specs.Effects.{instruction_at, load_address}
use Rattle.ec_avr.specs.Machine.{step, port_at, is_whole}
use Rattle.ec_avr.specs.Runs.{LeadsTo}

-- an access that is none of a port
abbrev pub is_quiet : Access → Bool
is_quiet (In port byte) = false
is_quiet (Out port byte) = false
is_quiet _ = true

-- a step that ran, and one that ran and accessed no port
abbrev pub has_run : Stepped → Bool
has_run (Ran access) = true
has_run _ = false

abbrev pub ran_quietly : Stepped → Bool
ran_quietly (Ran access) = is_quiet access
ran_quietly _ = false

-- The next step runs and accesses no port. So it reads none, and no answer matters
abbrev pub is_quiet_next : State → Bool
is_quiet_next s = ran_quietly (step 0 s).stepped

-- so many steps lead from one state to another, and none of them accesses a port
pub record RunsQuietly (count : ℕ) (old new : State) : Type 0 where
  pub trace : List Access
  pub long : length trace ≡ count
  pub leads : LeadsTo old trace new
  pub quiet : IsTrue (list_all is_quiet trace)

-- ---- by the instruction

-- the address that an instruction stores to, where it stores a data byte
abbrev pub store_address : Option Instr → State → Option ℕ
store_address (Some (StdZ q r)) s = Some ((pair s pointer_z + q) % 65536)
store_address (Some (StdY q r)) s = Some ((pair s pointer_y + q) % 65536)
store_address (Some (StX r)) s = Some (pair s pointer_x)
store_address (Some (Sts k r)) s = Some k
store_address (Some (OutInstr a r)) s = Some (a + 0x20)
store_address (Some (StZPlus r)) s = Some (pair s pointer_z)
store_address (Some (StYPlus r)) s = Some (pair s pointer_y)
store_address (Some (StXPlus r)) s = Some (pair s pointer_x)
store_address (Some (StMinusZ r)) s = Some (lowered (pair s pointer_z))
store_address (Some (StMinusY r)) s = Some (lowered (pair s pointer_y))
store_address (Some (StMinusX r)) s = Some (lowered (pair s pointer_x))
store_address _ s = None

-- there is an address, and it is that of a port
abbrev pub is_at_port : State → Option ℕ → Bool
is_at_port s at = is_some (option_and_then (port_at s) at)

-- an instruction loads from a port or stores to one
abbrev pub accesses_port : Option Instr → State → Bool
accesses_port i s = is_at_port s (load_address i s) || is_at_port s (store_address i s)

-- the instruction of the next step, where all its words lie in flash and it accesses no port
abbrev pub quiet_instruction : State → Option Instr
quiet_instruction s =
    if is_whole s && not (accesses_port (instruction_at s s.pc) s) then instruction_at s s.pc else None
