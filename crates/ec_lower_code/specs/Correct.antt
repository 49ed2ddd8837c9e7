-- What the operations of a program have to do with it.
use Rattle.std.specs.Prelude.{◌≡◌, ⊤, ℕ, ◌+◌, ◌<◌, ◌≤◌, nat_le, Bool, Contains, [], length, Some, slice_get}
use Rattle.std.specs.List.{AllByRecursion}
use Rattle.ec_runs.specs.Behaviours.{Reaches, IsWithin}
use Rattle.ec_iohw.specs.declared.table.Choice.{Choice}
use Rattle.ec_iohw.specs.declared.table.Dynamic.{Dynamic}
use Rattle.ec_iohw.specs.declared.table.IoTable.{IoTable}
use Rattle.ec_iohw.specs.declared.table.Pair.{Pair}
use Rattle.ec_iohw.specs.declared.table.PortGroup.{PortGroup}
use Rattle.ec_core.specs.Meaning.{source, work}
use Rattle.ec_core.specs.Needs.{stmt_need, stmt_calls}
use Rattle.ec_core.specs.Plain.{PlainFunction, PlainProgram}
use Rattle.ec_core.specs.PortTable.{plain_table}
use Rattle.ec_core.specs.State.{Inputs}
use Rattle.ec_core.specs.Valid.{Valid}
use Rattle.ec_core.specs.ValueTypes.{GiveBytes}
use Rattle.ec_core.specs.Weight.{objects_weight, weight}
use Rattle.ec_core.specs.Words.{program_words}
use Rattle.ec_ir.specs.Costs.{functions_words}
use Rattle.ec_ir.specs.Meaning.{meaning, steps_of}
use Rattle.ec_ir.specs.Operations.{PlainIr}
use Rattle.ec_ir.specs.Operations.{port_in, port_out, cell_port, PlainIrFunction, PlainIrProgram}
use Rattle.ec_ir.specs.Valid.{count, called_in, ValidIr}
use Rattle.ec_lower_code.specs.Code.{lowered}

-- the numbers of pairs and the bases of choices are bytes, as their types say: no law knows the ranges of types
abbrev pub IsBytePair : Pair → Type 0
IsBytePair pair = (pair.port < 0x100) × (pair.byte < 0x100)

abbrev pub HasBytePairs : PortGroup → Type 0
HasBytePairs g = AllByRecursion IsBytePair g.acquire.items × AllByRecursion IsBytePair g.release.items

abbrev pub HasByteBase : Choice → Type 0
HasByteBase c = c.base < 0x100

abbrev pub HasByteBases : Dynamic → Type 0
HasByteBases d = AllByRecursion HasByteBase d.choices.items

abbrev pub GroupsHaveBytes : IoTable → Type 0
GroupsHaveBytes io = AllByRecursion HasBytePairs io.groups.items × AllByRecursion HasByteBases io.dynamics.items

-- the steps that m operations may take are within the work of n turns, less that of the program's own row: 64 times its
-- 200 words
abbrev pub is_paid : PlainProgram → IoTable → PlainIrProgram → Inputs → ℕ → ℕ → Bool
is_paid program io ir inputs n m = nat_le (steps_of ir inputs m + 12_800) (work program (plain_table io) inputs n)

-- for all inputs, the operations reach all that the program shows, within its work, and stay within it
pub record Follows (program : PlainProgram) (io : IoTable) (ir : PlainIrProgram) : Type 0 where
  pub reaches : (inputs : Inputs) → GiveBytes inputs
      → Reaches (is_paid program io ir inputs) (source program (plain_table io) inputs) (meaning ir inputs)
  pub within : (inputs : Inputs) → GiveBytes inputs → (m : ℕ)
      → IsWithin (source program (plain_table io) inputs m) (meaning ir inputs m)

abbrev pub LoweredFollows : Type 0
LoweredFollows =
    (program : PlainProgram) (io : IoTable) → Valid program io → GroupsHaveBytes io
    → Follows program io (lowered program (plain_table io))

-- A function of the program and that of the operations with its number: labels stand once, there are as many places for
-- temporaries as its expressions need at once, and it calls none that the function of the program does not call
pub record IsLoweredFunction (f : PlainFunction) (g : PlainIrFunction) : Type 0 where
  pub labels : (l : ℕ) → count l g.code ≤ 1
  pub places : g.slots ≡ stmt_need f.body
  pub calls : (k : ℕ) → Contains (called_in g.code) k → Contains (stmt_calls f.body []) k

-- the operations keep their rules, with a cell for each dynamic group, and their words, with the rows of the program
-- and its objects, are within the weight
pub record IsMadeOf (program : PlainProgram) (io : IoTable) (ir : PlainIrProgram) : Type 0 where
  pub valid : ValidIr (length io.dynamics.items) ir
  pub functions : (n : ℕ) (f : PlainFunction) (g : PlainIrFunction) → slice_get program.functions n ≡ Some f
      → slice_get ir.functions n ≡ Some g → IsLoweredFunction f g
  pub words : program_words + objects_weight program.objects + functions_words ir.functions
      ≤ weight program (plain_table io)

abbrev pub LoweredIsMadeOf : Type 0
LoweredIsMadeOf =
    (program : PlainProgram) (io : IoTable) → Valid program io → GroupsHaveBytes io
    → IsMadeOf program io (lowered program (plain_table io))

-- an operation that reads or writes a port has all bytes of the port at 0xFF or below; where its address counts from
-- what a cell holds, what it adds lies there
abbrev pub IsOnPorts : PlainIr → Type 0
IsOnPorts (port_in to port index width) = port + width ≤ 0x100
IsOnPorts (port_out from port index width) = port + width ≤ 0x100
IsOnPorts (cell_port read t cell offset index width) = offset < 0x100
IsOnPorts i = ⊤

-- no operation leaves the ports
abbrev pub OperationsStayOnPorts : Type 0
OperationsStayOnPorts =
    (program : PlainProgram) (io : IoTable) → Valid program io → GroupsHaveBytes io
    → AllByRecursion (λ g. AllByRecursion IsOnPorts g.code) (lowered program (plain_table io)).functions
