use Rattle.std.proofs.Common.{◌≡◌, ℕ, ◌-◌, ◌≤◌, length, take}
use Rattle.std.specs.Prelude.{flat_map}
use Rattle.std.specs.Io.KnownBytes.{Appends}
use Rattle.ec_commands.specs.Lines.{bytes_of}
use Rattle.ec_commands.proofs.line.write_parts.Given as goal

-- the parts so far went out, and took so much of the room
abbrev pub invariant-loop-part : goal.invariant-loop-part
invariant-loop-part g l =
    let so_far = flat_map bytes_of (take l.part-index l.parts) in
    record {
      written : Appends (g.O.Sink.written l.fn.out) (g.O.Sink.written l.out) so_far;
      rest : g.O.Sink.rest l.out ≡ g.O.Sink.rest l.fn.out;
      later : g.O.Sink.faults l.fn.out ≤ g.O.Sink.faults l.out;
      calm : (room : ℕ) → g.O.Sink.calm l.fn.out room → length (flat_map bytes_of l.parts) ≤ room
          → (g.O.Sink.faults l.out ≡ g.O.Sink.faults l.fn.out) × g.O.Sink.calm l.out (room - length so_far);
    }
