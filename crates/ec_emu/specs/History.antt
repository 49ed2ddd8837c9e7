-- What is kept of the reads and writes of a run so far, and what its ports are asked by it.
use Rattle.std.specs.Prelude.{ℕ, ◌≡◌, ◌<◌, List, [], ◌∷◌, Option, Some, None, length, slice_index}
use Rattle.ec_avr.specs.declared.machine.Access.{Access}
use Rattle.ec_avr.specs.Inputs.{reads_of}
use Rattle.ec_emu.specs.declared.ask.Ask.{Ask}
use Rattle.ec_emu.specs.declared.history.PortHistory.{PortHistory}
use Rattle.ec_emu.specs.Answers.{Answered, answered, WereAsked, last_written, reads_in, writes_in}

abbrev pub ask_of : PortHistory → ℕ → Ask
ask_of history port =
    record { port = port; index = slice_index history.reads port; last = slice_index history.last port }

pub record IsHistory (trace : List Access) (history : PortHistory) : Type 0 where
  pub reads : (port : ℕ) → port < 256 → slice_index history.reads port ≡ reads_of port trace
  pub last : (port : ℕ) → port < 256 → slice_index history.last port ≡ last_written 0 port trace
  pub all_reads : history.all_reads ≡ reads_in trace
  pub all_writes : history.all_writes ≡ writes_in trace
  pub read_ports : length history.reads ≡ 256
  pub written_ports : length history.last ≡ 256

-- At a step that reads a port its ports are asked once, and the byte may be answered. At one that reads none they are
-- not asked, and the byte is 0
abbrev pub IsAnsweredBy : (gives : Ask → ℕ → Type 0) (old new : Option (List Answered)) → PortHistory → Option ℕ
    → (byte : ℕ) → Type 0
IsAnsweredBy gives old new history None byte = (byte ≡ 0) × WereAsked old new []
IsAnsweredBy gives old new history (Some port) byte =
    gives (ask_of history port) byte × WereAsked old new (answered (ask_of history port) byte ∷ [])
