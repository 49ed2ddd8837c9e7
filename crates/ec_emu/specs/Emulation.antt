-- What a run of the emulator is, and what it leaves in a sink.
use Rattle.std.specs.Prelude.{ℕ, ◌-◌, ◌<◌, ◌≤◌, ◌≡◌, ◌≢◌, List, [], ◌∷◌, ◌++◌, Option, length, take}
use Rattle.std.specs.Io.KnownBytes.{Appends}
use Rattle.ec_io.specs.Causes.{Rose}
use Rattle.ec_avr.specs.declared.machine.Access.{Access}
use Rattle.ec_avr.specs.Machine.{State, Inputs, Running, EndedWith, FaultedAt, machine}
use Rattle.ec_emu.specs.declared.ask.Ask.{Ask}
use Rattle.ec_emu.specs.declared.run.EmuEnd.{EmuEnd}
use Rattle.ec_emu.specs.declared.run.EmuEnd.TheVariants.{Ended, StepsOut, Fault, WriteFault}
use Rattle.ec_emu.specs.declared.run.EmuReport.{EmuReport}
use Rattle.ec_avr.specs.Runs.{answers, and_then}
use Rattle.ec_emu.specs.Answers.{AreGiven, reads_in, writes_in}
use Rattle.ec_emu.specs.Lines.{port_line, port_lines}

-- how a run of at most so many steps ends, where its accesses were these: whatever the ports would give after the
-- answers given, it is the machine's run
abbrev pub EndsBy : ℕ → State → EmuEnd → List Access → Type 0
EndsBy steps s (Ended result) trace =
    (more : Inputs) → machine steps (and_then (answers trace) more) s ≡ EndedWith trace result
EndsBy steps s StepsOut trace = length trace ≡ steps
EndsBy steps s (Fault kind pc) trace =
    (more : Inputs) → machine steps (and_then (answers trace) more) s ≡ FaultedAt trace kind pc
EndsBy steps s WriteFault trace = 0 < length trace

-- these are the accesses of the steps that were made, each of which has one
pub record IsRun (gives : Ask → ℕ → Type 0) (steps : ℕ) (old new : State) (report : EmuReport)
    (trace : List Access) : Type 0 where
  pub within : length trace ≤ steps
  -- the bytes that were read may be answered
  pub given : AreGiven gives trace
  -- the steps are those of the machine on the answers given, and it stands as after them
  pub made : (more : Inputs) → machine (length trace) (and_then (answers trace) more) old ≡ Running trace new
  pub ended : EndsBy steps old report.end trace
  pub reads : report.reads ≡ reads_in trace
  pub writes : report.writes ≡ writes_in trace

-- a prefix of the last line is missing nothing but its end: all other lines went out whole
abbrev pub CutsLast : Option (List ℕ) → Option (List ℕ) → List Access → Type 0
CutsLast old new trace =
    (before : List Access) × ((last : Access)
    × ((trace ≡ before ++ last ∷ []) × ((n : ℕ) × ((n < length (port_line last))
    × Appends old new (port_lines before ++ take n (port_line last))))))

-- the sink received the lines of the run; after a failed write, all but a part of the last
abbrev pub IsPrinted : Option (List ℕ) → Option (List ℕ) → EmuEnd → List Access → Type 0
IsPrinted old new WriteFault trace = CutsLast old new trace
IsPrinted old new _ trace = Appends old new (port_lines trace)

-- a sink that was calm for all lines is calm for what is left, and had no fault
pub record SinkCalm (before now : ℕ) (calm : ℕ → Type 0) (room : ℕ) (end : EmuEnd) (trace : List Access) : Type 0 where
  pub written : end ≢ WriteFault
  pub same : now ≡ before
  pub left : calm (room - length (port_lines trace))

-- the count never falls, and a failed write has made it rise
pub record RunCause (before now : ℕ) (end : EmuEnd) : Type 0 where
  pub later : before ≤ now
  pub failed : end ≡ WriteFault → Rose before now
