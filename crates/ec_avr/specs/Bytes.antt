-- States and inputs that hold bytes. A list of numbers need not, so where memory has to stay bytes these are premises.
use Rattle.std.specs.Prelude.{ℕ, ◌<◌}
use Rattle.ec_space.specs.Bytes.{AreBytes}
use Rattle.ec_avr.specs.Machine.{State, Inputs}

-- both banks hold bytes, and the program counter is a number of 16 bits
pub record HoldsBytes (s : State) : Type 0 where
  pub flash_bytes : AreBytes s.mem.flash
  pub data_bytes : AreBytes s.mem.data
  pub word_address : s.pc < 65536

-- what each port is going to give are bytes
abbrev pub AreByteInputs : Inputs → Type 0
AreByteInputs inputs = (port : ℕ) → AreBytes (inputs port)
