use Rattle.std.proofs.Common.{◌≡◌, ◌-◌, ◌≤◌, ◌↔◌, ℕ, List, length}
use Rattle.std.specs.Io.KnownBytes.{Appends}
use Rattle.ec_avr.specs.declared.machine.Access.{Access}
use Rattle.ec_emu.specs.declared.ask.Ask.{Ask}
use Rattle.ec_emu.specs.Answers.{AreGiven, WereAsked, asks_of}
use Rattle.ec_emu.specs.Lines.{port_lines}
use Rattle.ec_emu.specs.History.{IsHistory}
use Rattle.ec_emu.specs.Stops.{has_stack, HasNoStop}
use Rattle.ec_avr.specs.Runs.{LeadsTo}
use Rattle.ec_emu.proofs.run.emulate_until.Given as goal

abbrev pub invariant-steps : goal.invariant-steps
invariant-steps g l = record {
  trace : List Access;
  made : length trace ≡ l._made;
  goes : LeadsTo l.fn.machine trace l.machine;
  given : AreGiven (g.P.Ports.gives l.fn.ports) trace;
  begun : l.begun ≡ has_stack trace;
  none : HasNoStop (g.S.Stop.stops l.stop) l.fn.machine trace;
  history : IsHistory trace l.history;
  asked : WereAsked (g.P.Ports.asked l.fn.ports) (g.P.Ports.asked l.ports) (asks_of trace);
  written : Appends (g.O.Sink.written l.fn.sink) (g.O.Sink.written l.sink) (port_lines trace);
  calm : (room : ℕ) → g.O.Sink.calm l.fn.sink room → length (port_lines trace) ≤ room
      → (g.O.Sink.faults l.sink ≡ g.O.Sink.faults l.fn.sink) × g.O.Sink.calm l.sink (room - length (port_lines trace));
  later : g.O.Sink.faults l.fn.sink ≤ g.O.Sink.faults l.sink;
  rest : g.O.Sink.rest l.sink ≡ g.O.Sink.rest l.fn.sink;
  can : g.P.Ports.can_ask l.ports;
  stays : (ask : Ask) (byte : ℕ) → g.P.Ports.gives l.ports ask byte ↔ g.P.Ports.gives l.fn.ports ask byte;
  passed_on : (ask : Ask) (byte : ℕ) → g.P.Ports.passed_on l.ports ask byte ↔ g.P.Ports.passed_on l.fn.ports ask byte;
  held : g.P.Ports.held l.ports ≡ g.P.Ports.held l.fn.ports;
}
