-- The numbers that a run writes (ISO/IEC 9899:1999, 6.5.16.1: what is stored is converted to the type of the object).
use Rattle.std.specs.Prelude.{ℕ, ◌≡◌, ⊤, None, MatchOption, IsSomeAnd, slice_get}
use Rattle.std.specs.List.{AllByRecursion}
use Rattle.ec_iohw.specs.declared.table.IoTable.{IoTable}
use Rattle.ec_core.specs.declared.programs.LeafInit.{LeafInit}
use Rattle.ec_core.specs.declared.programs.LeafInit.TheVariants.{Number, Null, Address}
use Rattle.ec_core.specs.ArithmeticTypes.{arithmetic_of}
use Rattle.ec_core.specs.ArithmeticValues.{HoldsNumber}
use Rattle.ec_core.specs.Layout.{leaves_of_type}
use Rattle.ec_core.specs.Meaning.{run, state_of}
use Rattle.ec_core.specs.Plain.{PlainType, PlainProgram}
use Rattle.ec_core.specs.PortTable.{plain_table}
use Rattle.ec_core.specs.State.{Inputs, Event, In, Out, Read, Write}
use Rattle.ec_core.specs.Valid.{Valid}
use Rattle.ec_core.specs.ValueTypes.{GiveBytes}

-- where the type is arithmetic, it is a number that the type holds
abbrev pub IsNumberOf : PlainType → LeafInit → Type 0
IsNumberOf ty (Number n) = MatchOption (arithmetic_of ty) ⊤ (λ t. HoldsNumber t n)
IsNumberOf ty Null = arithmetic_of ty ≡ None
IsNumberOf ty (Address o offset) = arithmetic_of ty ≡ None

-- so it is with a write of leaf k of object o, and the type of that leaf
abbrev pub WritesNumber : PlainProgram → Event → Type 0
WritesNumber program (In port byte) = ⊤
WritesNumber program (Out port byte) = ⊤
WritesNumber program (Read o k space value) = ⊤
WritesNumber program (Write o k space value) =
    IsSomeAnd (slice_get program.objects o)
    (λ d. IsSomeAnd (slice_get (leaves_of_type program.structs d.ty) k) (λ leaf. IsNumberOf leaf.ty value))

-- and with all writes of a run, whatever comes of it
abbrev pub WritesHoldNumbers : Type 0
WritesHoldNumbers =
    (program : PlainProgram) (io : IoTable) (inputs : Inputs) (n : ℕ) → Valid program io → GiveBytes inputs
    → AllByRecursion (WritesNumber program) (state_of (run program (plain_table io) inputs n)).events
