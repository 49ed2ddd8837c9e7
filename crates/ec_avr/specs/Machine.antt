-- The machine: its steps and its runs (Microchip AVR Instruction Set Manual).
use Rattle.std.specs.Prelude.{ℕ, zero, suc, ◌+◌, ◌*◌, ◌≡◌, ◌==◌, nat_lt, Bool, true, false, not, ◌&&◌, ◌||◌}
use Rattle.std.specs.Prelude.{if◌then◌else◌, ℤ, Option, Some, None, option_and_then, List, [], ◌∷◌, length, drop}
use Rattle.std.specs.Prelude.{slice_index, map}
use Rattle.std.specs.Int.{cast_signed, w16}
use Rattle.std.specs.List.{range_with_len}
use Rattle.ec_space.specs.Bytes.{AreBytes}
use Rattle.ec_space.specs.Memory.{data_size}
use Rattle.ec_space.specs.declared.Core.{Core}
use Rattle.ec_avr.specs.declared.machine.Access.{Access}
use Rattle.ec_avr.specs.declared.machine.Access.TheVariants.{In}
use Rattle.ec_avr.specs.declared.machine.FaultKind.{FaultKind}
use Rattle.ec_avr.specs.declared.machine.FaultKind.TheVariants.{PcOut}
use Rattle.ec_avr.specs.declared.machine.PortAnswer.{PortAnswer}
use Rattle.ec_avr.specs.declared.machine.PortAnswer.TheVariants.{Nothing, Byte}
use Rattle.ec_avr.specs.declared.machine.Stepped.{Stepped}
use Rattle.ec_avr.specs.declared.machine.Stepped.TheVariants.{Ran, Ended, Fault}
pub use Rattle.ec_avr.specs.State.{State, word_at, is_in_flash, register, with_register, is_port, Keeps}
pub use Rattle.ec_avr.specs.Effects.{After, faulted, silent, instruction_at, has_two_words, load_address}
unfoldable pub use Rattle.ec_avr.specs.Effects.{effect}

-- every word of the instruction at the program counter lies in flash
abbrev pub is_whole : State → Bool
is_whole s = is_in_flash s s.pc && (not (has_two_words (instruction_at s s.pc)) || is_in_flash s (s.pc + 1))

-- A step, where the port that it reads answers a byte. The fault is the first that holds of these: a word of the
-- instruction lies past the flash, the table has no such instruction or the core has not, a load or store lies past the
-- memory, a push or pop lies outside the SRAM
unfoldable pub step : ℕ → State → After
step answer s = if is_whole s then effect (instruction_at s s.pc) answer s else faulted PcOut s

-- the address, if it is that of a port
abbrev pub port_at : State → ℕ → Option ℕ
port_at s at = if is_port s.core at && nat_lt at (length s.mem.data) then Some at else None

-- the port that the next step reads
abbrev pub needs_port : State → Option ℕ
needs_port s = if is_whole s then option_and_then (port_at s) (load_address (instruction_at s s.pc) s) else None

-- the port that a step read
abbrev pub port_read : Stepped → Option ℕ
port_read (Ran (In port byte)) = Some port
port_read _ = None

-- the read of a port that a step made
abbrev pub read_access : Stepped → Option Access
read_access (Ran (In port byte)) = Some (In port byte)
read_access _ = None

-- only a step that ran changes something, and a fault tells the program counter
abbrev pub StaysUnlessRan : Stepped → State → State → Type 0
StaysUnlessRan (Ran access) old new = Unit {0}
StaysUnlessRan Ended old new = new ≡ old
StaysUnlessRan (Fault kind pc) old new = (new ≡ old) × (pc ≡ old.pc)

-- what a port answers, and 0 where none is read
abbrev pub byte_of : PortAnswer → ℕ
byte_of Nothing = 0
byte_of (Byte byte) = byte

abbrev pub is_byte : PortAnswer → Bool
is_byte Nothing = false
is_byte (Byte byte) = true

-- R25:R24 as a signed number
abbrev pub machine_result : State → ℤ
machine_result s = cast_signed w16 (register s 24 + 256 * register s 25)

-- the bytes that each port is going to give
abbrev pub Inputs : Type 0
Inputs = ℕ → List ℕ

-- the next byte of a port, 0 past its list's end
abbrev pub answer_of : Inputs → Option ℕ → ℕ
answer_of inputs None = 0
answer_of inputs (Some port) = slice_index (inputs port) 0

-- the bytes after that one
abbrev pub inputs_after : Inputs → Option ℕ → Inputs
inputs_after inputs None = inputs
inputs_after inputs (Some port) = λ q. if q == port then drop 1 (inputs q) else inputs q

-- what some steps did: the accesses in order, and how it stands after them
pub data Run : Type 0 where
  Running : List Access → State → Run
  EndedWith : List Access → ℤ → Run
  FaultedAt : List Access → FaultKind → ℕ → Run

-- a run with one more access before it
abbrev pub preceded : Access → Run → Run
preceded a (Running trace s) = Running (a ∷ trace) s
preceded a (EndedWith trace result) = EndedWith (a ∷ trace) result
preceded a (FaultedAt trace kind pc) = FaultedAt (a ∷ trace) kind pc

-- a step and, where it ran, the run from its state on
abbrev pub continued : (State → Run) → Stepped → State → Run
continued rest (Ran a) s = preceded a (rest s)
continued rest Ended s = EndedWith [] (machine_result s)
continued rest (Fault kind pc) s = FaultedAt [] kind pc

-- at most so many steps
unfoldable pub machine : ℕ → Inputs → State → Run
machine zero inputs s = Running [] s
machine (suc m) inputs s =
    let next = step (answer_of inputs (needs_port s)) s in
    continued (machine m (inputs_after inputs (needs_port s))) next.stepped next.state

-- a state after a reset: the core and the flash are given, and registers, SP, SREG, RAMPZ and SRAM hold anything
pub record IsReset (core : Core) (image : List ℕ) (s : State) : Type 0 where
  pub begin : s.pc ≡ 0
  pub same : s.core ≡ core
  pub flash : s.mem.flash ≡ image
  pub size : length s.mem.data ≡ data_size core
  pub bytes : AreBytes s.mem.data

-- the reset state whose registers, SP, SREG, RAMPZ and SRAM hold one byte. No byte stands at a port, where 0 is kept
abbrev pub reset_with : Core → List ℕ → ℕ → State
reset_with core image fill = record {
  core = core;
  mem = record {
    flash = image;
    «data» = map (λ at. if is_port core at then 0 else fill) (range_with_len 0 (data_size core));
  };
  pc = 0;
}
