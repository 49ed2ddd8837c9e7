use Rattle.std.proofs.Common.{length, ◌-◌, ◌≡◌, ◌≤◌, ℕ, take}
use Rattle.std.specs.Io.KnownBytes.{Appends}
use Rattle.ec_io.proofs.write.write_all.Given as goal

abbrev pub invariant-left : goal.invariant-left
invariant-left g l = record {
  within : l.done ≤ length l.bytes;
  written : Appends (g.O.Sink.written l.fn.sink) (g.O.Sink.written l.sink) (take l.done l.bytes);
  rest : g.O.Sink.rest l.sink ≡ g.O.Sink.rest l.fn.sink;
  later : g.O.Sink.faults l.fn.sink ≤ g.O.Sink.faults l.sink;
  calm : (room : ℕ) → g.O.Sink.calm l.fn.sink room → length l.bytes ≤ room
      → (g.O.Sink.faults l.sink ≡ g.O.Sink.faults l.fn.sink) × g.O.Sink.calm l.sink (room - l.done);
}

abbrev pub decreases-left : goal.decreases-left
decreases-left g l = length l.bytes - l.done
