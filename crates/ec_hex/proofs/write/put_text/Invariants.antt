use Rattle.std.proofs.Common.{◌≡◌, ◌-◌, ◌*◌, ◌≤◌, ℕ, length, drop}
use Rattle.ec_hex.specs.Text.{contents, hex_text, text_from}
use Rattle.ec_hex.proofs.Sending.{Sent}
use Rattle.ec_hex.proofs.write.put_text.Given as goal

abbrev pub invariant-runs : goal.invariant-runs
invariant-runs g l = record {
  within : l.at ≤ length l.bytes;
  few : l.done ≤ 60 * l.at;
  sent : Sent (g.O.Sink.written l.fn.sink) (g.O.Sink.written l.sink) l.done
      (text_from l.base l.at 0 (drop l.at (contents l.bytes l.written))) (hex_text l.bytes l.written);
  rest : g.O.Sink.rest l.sink ≡ g.O.Sink.rest l.fn.sink;
  later : g.O.Sink.faults l.fn.sink ≤ g.O.Sink.faults l.sink;
  calm : (room : ℕ) → g.O.Sink.calm l.fn.sink room → length (hex_text l.bytes l.written) ≤ room
      → (g.O.Sink.faults l.sink ≡ g.O.Sink.faults l.fn.sink) × g.O.Sink.calm l.sink (room - l.done);
}

abbrev pub decreases-runs : goal.decreases-runs
decreases-runs g l = length l.bytes - l.at
