use Rattle.std.proofs.Common.{◌≡◌, ◌-◌, ◌≤◌, ◌↔◌, ℕ, List, length}
use Rattle.ec_avr.specs.declared.machine.Access.{Access}
use Rattle.ec_avr.specs.Runs.{LeadsTo}
use Rattle.ec_emu.specs.declared.ask.Ask.{Ask}
use Rattle.ec_emu.proofs.QuietSteps.{IsTold}
use Rattle.ec_emu.proofs.run.emulate.Given as goal

abbrev pub invariant-steps : goal.invariant-steps
invariant-steps g l = record {
  trace : List Access;
  long : length trace ≡ l.made;
  within : l.made ≤ l.fn.steps;
  goes : LeadsTo l.fn.machine trace l.machine;
  told : IsTold (g.P.Ports.gives l.fn.ports) (g.P.Ports.asked l.fn.ports) (g.P.Ports.asked l.ports) (g.O.Sink.written l.fn.sink)
      (g.O.Sink.written l.sink) (g.O.Sink.calm l.fn.sink) (g.O.Sink.calm l.sink) (g.O.Sink.faults l.fn.sink) (g.O.Sink.faults l.sink)
      l.history trace;
  later : g.O.Sink.faults l.fn.sink ≤ g.O.Sink.faults l.sink;
  rest : g.O.Sink.rest l.sink ≡ g.O.Sink.rest l.fn.sink;
  can : g.P.Ports.can_ask l.ports;
  stays : (ask : Ask) (byte : ℕ) → g.P.Ports.gives l.ports ask byte ↔ g.P.Ports.gives l.fn.ports ask byte;
  passed_on : (ask : Ask) (byte : ℕ) → g.P.Ports.passed_on l.ports ask byte ↔ g.P.Ports.passed_on l.fn.ports ask byte;
  held : g.P.Ports.held l.ports ≡ g.P.Ports.held l.fn.ports;
}

abbrev pub decreases-steps : goal.decreases-steps
decreases-steps g l = l.fn.steps - l.made
