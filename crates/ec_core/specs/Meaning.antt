-- What a program does (ISO/IEC 9899:1999, 5.1.2.2 and 6.9).
use Rattle.std.specs.Prelude.{◌≢◌, ℕ, ◌*◌, true, false, ℤ, pos, [], map, length, replicate, Some, None}
use Rattle.ec_runs.specs.Behaviours.{Behaviour, Running, Ended, Failed}
use Rattle.ec_core.specs.declared.programs.LeafInit.{LeafInit}
use Rattle.ec_core.specs.declared.programs.LeafInit.TheVariants.{Number as TheNumber, Null as TheNull, Address}
use Rattle.ec_core.specs.declared.values.Undefined.{Undefined}
use Rattle.ec_core.specs.declared.values.Undefined.TheVariants.{ZeroDivisor, ShiftCount, FixedOverflow, WholePart}
use Rattle.ec_core.specs.declared.values.Undefined.TheVariants.{Access, Unset, ConstWrite, Narrowing, Unrelated}
use Rattle.ec_core.specs.declared.values.Undefined.TheVariants.{PointerUse, PointerRange, ClosedPort, BufferIndex}
use Rattle.ec_core.specs.declared.values.Undefined.TheVariants.{NoResult, UnboundGroup, Invalid}
use Rattle.ec_core.specs.declared.values.Value.{Value}
use Rattle.ec_core.specs.declared.values.Value.TheVariants.{Number, Pointer}
use Rattle.ec_core.specs.Accesses.{leaf_count}
use Rattle.ec_core.specs.Plain.{PlainStorage, static, local, param, register, PlainProgram}
use Rattle.ec_core.specs.PortTable.{PlainTable}
use Rattle.ec_core.specs.State.{Inputs, Setting, Event, ObjectState, State, Outcome, got, more, undefined}
use Rattle.ec_core.specs.Statements.{calls_within}
use Rattle.ec_core.specs.Words.{program_words}

-- ---- the beginning

-- an initial value (6.7.8): a pointer is into the only instance of a static object
abbrev pub initial_value : LeafInit → Value
initial_value (TheNumber n) = Number n
initial_value TheNull = Pointer None
initial_value (Address o offset) = Pointer (Some (record { object = o; instance = 0; offset = offset }))

-- static objects have their initial values, named registers are unset, and other objects do not live yet (6.2.4; TR
-- 18037, 5.2)
abbrev pub initial_object : ℕ → PlainStorage → ObjectState
initial_object leaves (static inits) =
    record { serial = 0; live = true; leaves = map (λ init. Some (initial_value init)) inits }
initial_object leaves (local f) = record { serial = 0; live = false; leaves = replicate leaves None }
initial_object leaves (param f) = record { serial = 0; live = false; leaves = replicate leaves None }
initial_object leaves (register r) = record { serial = 0; live = true; leaves = replicate leaves None }

abbrev pub initial_state : PlainProgram → PlainTable → State
initial_state program table = record {
  objects = map (λ o. initial_object (leaf_count program o.ty) o.storage) program.objects;
  groups = record { acquired = map (λ g. false) table.groups; choices = map (λ d. None) table.dynamics };
  events = [];
  work = program_words;
}

-- ---- the run

abbrev pub setting : PlainProgram → PlainTable → Inputs → Setting
setting program table inputs = record { program = program; table = table; inputs = inputs }

-- main is called, and each execution of a loop has at most n turns
abbrev pub run : PlainProgram → PlainTable → Inputs → ℕ → Outcome Value
run program table inputs n =
    calls_within (setting program table inputs) n (length program.functions) program.main []
    (initial_state program table)

-- the undefined points by number; the last is what no valid program meets
abbrev pub number_of_point : Undefined → ℕ
number_of_point ZeroDivisor = 1
number_of_point ShiftCount = 2
number_of_point FixedOverflow = 3
number_of_point WholePart = 4
number_of_point Access = 5
number_of_point Unset = 6
number_of_point ConstWrite = 7
number_of_point Narrowing = 8
number_of_point Unrelated = 9
number_of_point PointerUse = 10
number_of_point PointerRange = 11
number_of_point ClosedPort = 12
number_of_point BufferIndex = 13
number_of_point NoResult = 14
number_of_point UnboundGroup = 15
number_of_point Invalid = 16

-- main gives an int
abbrev pub number_of : Value → ℤ
number_of (Number n) = n
number_of (Pointer p) = pos 0

-- the events and the result of a program that ended, the events of one that is out of turns, or the undefined point
-- that was met
abbrev pub behaviour_of : Outcome Value → Behaviour Event ℤ Undefined
behaviour_of (got x s) = Ended s.events (number_of x)
behaviour_of (more s) = Running s.events
behaviour_of (undefined point s) = Failed point

abbrev pub source : PlainProgram → PlainTable → Inputs → ℕ → Behaviour Event ℤ Undefined
source program table inputs n = behaviour_of (run program table inputs n)

-- the program meets no undefined point under these inputs
abbrev pub Defined : PlainProgram → PlainTable → Inputs → Type 0
Defined program table inputs = (n : ℕ) (point : Undefined) → source program table inputs n ≢ Failed point

-- ---- work

abbrev pub state_of : {A : Type 0} → Outcome A → State
state_of (got x s) = s
state_of (more s) = s
state_of (undefined point s) = s

-- 64 times the words of what the run came to
abbrev pub work : PlainProgram → PlainTable → Inputs → ℕ → ℕ
work program table inputs n = 64 * (state_of (run program table inputs n)).work
