-- Which bytes a run reads and writes at ports (ISO/IEC TR 18037:2008, 6: a program designates a port by its name alone,
-- and the table gives its place).
use Rattle.std.specs.Prelude.{◌≡◌, ℕ, ◌+◌, ◌*◌, ◌≤◌, ◌<◌, ℤ, ⊤, Bool, IsTrue, List, All, Some, None, slice_get}
use Rattle.std.specs.List.{AllByRecursion}
use Rattle.ec_runs.specs.Behaviours.{Behaviour, Running, Ended, Failed}
use Rattle.ec_iohw.specs.declared.table.Choice.{Choice}
use Rattle.ec_iohw.specs.declared.table.Dynamic.{Dynamic}
use Rattle.ec_iohw.specs.declared.table.IoTable.{IoTable}
use Rattle.ec_iohw.specs.declared.table.Pair.{Pair}
use Rattle.ec_iohw.specs.declared.table.Port.{Port}
use Rattle.ec_iohw.specs.declared.table.PortGroup.{PortGroup}
use Rattle.ec_iohw.specs.Valid.{bases_of}
use Rattle.ec_core.specs.declared.values.Undefined.{Undefined}
use Rattle.ec_core.specs.Meaning.{run, source, state_of}
use Rattle.ec_core.specs.Plain.{PlainProgram}
use Rattle.ec_core.specs.PortAccesses.{pairs_of}
use Rattle.ec_core.specs.PortTable.{PlainPort, PlainGroup, PlainTable, plain_table, choices_of}
use Rattle.ec_core.specs.State.{Inputs, Event, In, Out, Read, Write}

-- An address is that of a byte of a port, of which `width * count` lie from its address on; with a dynamic group they
-- lie from the base of a choice and its address on. Or it is the port of a pair that is written to acquire a group or
-- to release it
pub data IsPortByte (table : PlainTable) (a : ℕ) : Type 0 where
  of_port : (x : ℕ) (port : PlainPort) → slice_get table.ports x ≡ Some port → port.dynamic ≡ None → port.address ≤ a
      → a < port.address + port.width * port.count → IsPortByte table a
  of_choice : (x d k : ℕ) (port : PlainPort) (c : Choice) → slice_get table.ports x ≡ Some port
      → port.dynamic ≡ Some d → slice_get (choices_of table d) k ≡ Some c → c.base + port.address ≤ a
      → a < c.base + port.address + port.width * port.count → IsPortByte table a
  of_group : (acquire : Bool) (g k : ℕ) (group : PlainGroup) (pair : Pair) → slice_get table.groups g ≡ Some group
      → slice_get (pairs_of acquire group) k ≡ Some pair → a ≡ pair.port → IsPortByte table a

-- what an event reads or writes at a port is a byte of the table
abbrev pub AccessesPorts : PlainTable → Event → Type 0
AccessesPorts table (In port byte) = IsPortByte table port
AccessesPorts table (Out port byte) = IsPortByte table port
AccessesPorts table (Read object leaf space value) = ⊤
AccessesPorts table (Write object leaf space value) = ⊤

-- so it is in every run, whatever comes of it
abbrev pub RunsAccessPorts : Type 0
RunsAccessPorts =
    (program : PlainProgram) (table : PlainTable) (inputs : Inputs) (n : ℕ)
    → AllByRecursion (AccessesPorts table) (state_of (run program table inputs n)).events

-- the events that a behaviour shows
abbrev pub ShowsPorts : PlainTable → Behaviour Event ℤ Undefined → Type 0
ShowsPorts table (Running events) = AllByRecursion (AccessesPorts table) events
ShowsPorts table (Ended events result) = AllByRecursion (AccessesPorts table) events
ShowsPorts table (Failed point) = ⊤

abbrev pub SourcesAccessPorts : Type 0
SourcesAccessPorts =
    (program : PlainProgram) (table : PlainTable) (inputs : Inputs) (n : ℕ)
    → ShowsPorts table (source program table inputs n)

-- ---- what holds of all bytes of a table

-- a test holds of each byte of a port, whatever its dynamic group is bound to
abbrev pub PassesPort : List Dynamic → (ℕ → Bool) → Port → Type 0
PassesPort dynamics test p =
    All (λ base. (k : ℕ) → k < p.width * p.count → IsTrue (test (base + p.address + k)))
    (bases_of dynamics p.dynamic)

abbrev pub PassesPairs : (ℕ → Bool) → List Pair → Type 0
PassesPairs test pairs = All (λ pair. IsTrue (test pair.port)) pairs

-- and of the port of each pair of a group
abbrev pub PassesGroup : (ℕ → Bool) → PortGroup → Type 0
PassesGroup test g = PassesPairs test g.acquire.items × PassesPairs test g.release.items

-- what holds of the bytes of all ports and of the pairs of all groups holds of each address that is a byte of the table
abbrev pub PortBytesPass : Type 0
PortBytesPass =
    (io : IoTable) (test : ℕ → Bool) → All (PassesPort io.dynamics.items test) io.ports.items
    → All (PassesGroup test) io.groups.items → (a : ℕ) → IsPortByte (plain_table io) a → IsTrue (test a)
