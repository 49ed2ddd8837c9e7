-- Accesses of the machine: those that are allowed, and where all of them are.
use Rattle.std.specs.Prelude.{◌≡◌, ℕ, ◌<◌, ◌≤◌, ⊤, true, IsTrue, length}
use Rattle.std.specs.List.{AllByRecursion}
use Rattle.ec_space.specs.Memory.{Memory}
use Rattle.ec_space.specs.declared.space.Bank.TheVariants.{Flash as FlashBank, Data as DataBank}
use Rattle.ec_avr.specs.declared.machine.Access.{Access}
use Rattle.ec_avr.specs.declared.machine.Access.TheVariants.{Silent, In, Out, Read, Write, Stack}
use Rattle.ec_avr.specs.Inputs.{trace_of}
use Rattle.ec_avr.specs.Machine.{State, Inputs, machine}
use Rattle.ec_asm.specs.Change.{Env, Port, Stacked}
use Rattle.ec_asm.specs.Pieces.{is_held}
use Rattle.ec_asm.specs.Run.{Running, run, is_safe}
use Rattle.ec_asm.specs.Shows.{Shows, Fits}
use Rattle.ec_asm.specs.View.{View}

-- ---- where the run of the view is safe

-- A read or a write is one of a byte which is code's own or an object's, in data memory above the ports, and what goes
-- in or out does so at a port. A push or a pop is there only where an address is the stack's; which bytes it moves is
-- told by a law of its own
abbrev pub IsAllowed : Env → Access → Type 0
IsAllowed e Silent = ⊤
IsAllowed e (In port byte) = e.kind port ≡ Port
IsAllowed e (Out port byte) = e.kind port ≡ Port
IsAllowed e (Read DataBank at byte) = (256 ≤ at) × IsTrue (is_held (e.kind at))
IsAllowed e (Read FlashBank at byte) = IsTrue (is_held (e.table at))
IsAllowed e (Write at byte) = (256 ≤ at) × IsTrue (is_held (e.kind at))
IsAllowed e Stack = (at : ℕ) × (e.kind at ≡ Stacked)

-- where the run of the view is safe, so is each access of the machine
abbrev pub AccessesAreAllowed : Type 0
AccessesAreAllowed =
    (e : Env) (size m k : ℕ) (s : State) (v : View) → Fits e size → Shows e size s.core s.mem v
    → is_safe (run e m (Running s.pc v)) ≡ true → k ≤ m
    → AllByRecursion (IsAllowed e) (trace_of (machine k v.inputs s))

-- ---- whatever runs

-- a load or a store is of an address in memory, and one of data memory stands above the ports
abbrev pub IsInMemory : Memory → Access → Type 0
IsInMemory m Silent = ⊤
IsInMemory m (In port byte) = ⊤
IsInMemory m (Out port byte) = ⊤
IsInMemory m (Read DataBank at byte) = (256 ≤ at) × (at < length m.data)
IsInMemory m (Read FlashBank at byte) = at < length m.flash
IsInMemory m (Write at byte) = (256 ≤ at) × (at < length m.data)
IsInMemory m Stack = ⊤

abbrev pub AccessesAreInMemory : Type 0
AccessesAreInMemory =
    (k : ℕ) (inputs : Inputs) (s : State) → AllByRecursion (IsInMemory s.mem) (trace_of (machine k inputs s))
