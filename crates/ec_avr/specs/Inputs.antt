-- How far a run depends on what the ports are going to give.
use Rattle.std.specs.Prelude.{ℕ, ◌+◌, ◌<◌, ◌≡◌, ◌==◌, if◌then◌else◌, List, [], ◌∷◌, slice_index}
use Rattle.ec_avr.specs.declared.machine.Access.{Access}
use Rattle.ec_avr.specs.declared.machine.Access.TheVariants.{In}
use Rattle.ec_avr.specs.Machine.{Inputs, Run, Running, EndedWith, FaultedAt}

-- the accesses of a run, in order
abbrev pub trace_of : Run → List Access
trace_of (Running trace s) = trace
trace_of (EndedWith trace result) = trace
trace_of (FaultedAt trace kind pc) = trace

-- how many bytes of a port a trace reads
abbrev pub reads_of : ℕ → List Access → ℕ
reads_of port [] = 0
reads_of port (In p byte ∷ trace) = if p == port then 1 + reads_of port trace else reads_of port trace
reads_of port (_ ∷ trace) = reads_of port trace

-- two inputs give the bytes that a trace reads alike
abbrev pub AgreeOn : List Access → Inputs → Inputs → Type 0
AgreeOn trace a b = (port k : ℕ) → k < reads_of port trace → slice_index (a port) k ≡ slice_index (b port) k
