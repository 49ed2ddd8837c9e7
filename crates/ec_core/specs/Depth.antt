-- What no valid program meets, and how deep its calls nest.
use Rattle.std.specs.Prelude.{◌≡◌, ◌≢◌, ℕ, ◌≤◌, [], length}
use Rattle.ec_iohw.specs.declared.table.IoTable.{IoTable}
use Rattle.ec_runs.specs.Behaviours.{Failed}
use Rattle.ec_core.specs.declared.values.Undefined.TheVariants.{Invalid}
use Rattle.ec_core.specs.Meaning.{setting, initial_state, run, source}
use Rattle.ec_core.specs.Plain.{PlainProgram}
use Rattle.ec_core.specs.PortTable.{plain_table}
use Rattle.ec_core.specs.State.{Inputs}
use Rattle.ec_core.specs.Statements.{calls_within}
use Rattle.ec_core.specs.Valid.{Valid}
use Rattle.ec_core.specs.ValueTypes.{GiveBytes}

-- a run of a valid program whose ports give bytes never meets what no valid program has
abbrev pub InvalidIsNeverMet : Type 0
InvalidIsNeverMet =
    (program : PlainProgram) (io : IoTable) (inputs : Inputs) → Valid program io → GiveBytes inputs → (n : ℕ)
    → source program (plain_table io) inputs n ≢ Failed Invalid

-- and its calls never nest deeper than it has functions: with more depth the run is the same
abbrev pub CallsNestNoDeeper : Type 0
CallsNestNoDeeper =
    (program : PlainProgram) (io : IoTable) (inputs : Inputs) → Valid program io → GiveBytes inputs → (n depth : ℕ)
    → length program.functions ≤ depth
    → calls_within (setting program (plain_table io) inputs) n depth program.main []
    (initial_state program (plain_table io)) ≡ run program (plain_table io) inputs n
