-- What contracts see of uses, rows and tables, and what the emitters ask.
use Rattle.std.specs.Prelude.{◌≡◌, ℕ, List, [], true, get_or, Some, slice_get, slice_index}
use Rattle.ec_space.specs.declared.Core.{Core}
use Rattle.ec_core.specs.Plain.{PlainProgram}
use Rattle.ec_ir.specs.Operations.{PlainIr, plain_ir}
use Rattle.ec_select_live.specs.Tables.{needs_of}
use Rattle.ec_select_operations.specs.declared.homes.Homes.{Homes}
use Rattle.ec_select_operations.specs.Emitted.{CanBeEmitted, CanBeCalled}
use Rattle.ec_select_operations.specs.Needs.{Need}
use Rattle.ec_select_operations.specs.Routines.{CanBeRoutine}
use Rattle.ec_select.specs.declared.sharing.Row as measured_row
use Rattle.ec_select.specs.declared.uses.Use as measured_use
use Rattle.ec_select.specs.Sharing.{is_shaped, shape_of, Use, Row, alone}

-- ---- what is measured

abbrev pub plain_use : measured_use.Use → Use
plain_use u = record { operation = plain_ir u.operation.now; own = u.own; call = u.call }

abbrev pub row_operation : measured_row.Row → PlainIr
row_operation r = plain_ir r.operation.now

abbrev pub plain_row : measured_row.Row → Row
plain_row r = record { shape = shape_of (row_operation r); once = r.once }

-- what rows of bytes tell for each function
abbrev pub tables_in : List (List (List ℕ)) → ℕ → ℕ → Need
tables_in tables f = needs_of (get_or tables f [])

-- ---- what the emitters ask

-- the code of an operation may stand once, and it has a routine
abbrev pub HasRoutine : PlainIr → Type 0
HasRoutine i = (is_shaped i ≡ true) × CanBeRoutine i

-- where the code of an operation may stand once, it has code of its own and can be called, with so many bytes of its result
abbrev pub CanBeUsed : Core → PlainProgram → Homes → (wanted : ℕ) → PlainIr → Type 0
CanBeUsed core p h wanted i = is_shaped i ≡ true → CanBeEmitted p (alone core h) wanted i × CanBeCalled wanted i

abbrev pub CanBeUses : Core → PlainProgram → Homes → (wanted : List ℕ) → List PlainIr → Type 0
CanBeUses core p h wanted code =
    (j : ℕ) (i : PlainIr) → slice_get code j ≡ Some i → CanBeUsed core p h (slice_index wanted j) i
