-- The code of a list of operations, for each of which numbers tell how many bytes are wanted.
use Rattle.std.specs.Prelude.{◌≡◌, ℕ, zero, suc, List, [], ◌∷◌, Option, Some, None, slice_get, slice_index, get_or}
use Rattle.std.specs.Prelude.{option_and_then, length, map}
use Rattle.ec_space.specs.declared.Core.{Core}
use Rattle.ec_asm.specs.declared.items.AsmItem.{AsmItem}
use Rattle.ec_asm.specs.declared.items.AsmItem.TheVariants.{Label}
use Rattle.ec_asm.specs.declared.pieces.Location.{Location}
use Rattle.ec_asm.specs.Items.{chain}
use Rattle.ec_core.specs.Plain.{PlainProgram}
use Rattle.ec_ir.specs.declared.operations.Temp.{Temp}
use Rattle.ec_ir.specs.Operations.{PlainIr, call_function}
use Rattle.ec_ir_known.specs.declared.known.RightNumber.{RightNumber}
use Rattle.ec_ir_known.specs.Known.{right_numbers}
use Rattle.ec_select_operations.specs.declared.calls.Linking.{Linking}
use Rattle.ec_select_operations.specs.declared.families.Told.{Told}
use Rattle.ec_select_operations.specs.Code.{Linkage, register_places, operation_code, tells_any, is_waiting, look, wanted_bytes, ops_code}
use Rattle.ec_select_operations.specs.Code.{index_row}
use Rattle.ec_select_operations.specs.Code.{function_code, called_code, linked_code, routine_used}
use Rattle.ec_select_operations.specs.Emitted.{CanBeLinked}
use Rattle.ec_select_operations.specs.Homes.{home}
use Rattle.ec_select_operations.specs.Needs.{Need, without_result, Facts, facts_of, needs}
use Rattle.ec_select_operations.specs.Pointers.{has_tables}

-- what is needed of each place, where a row tells it of the first ones. Of the others nothing is
abbrev pub need_in : List ℕ → Need
need_in row place = get_or row place 0

-- what a row tells of the place of an index: that of a call is of other places
abbrev pub index_in : Option PlainIr → (row : List ℕ) → ℕ
index_in (Some (call_function f to)) row = 0
index_in i row = get_or row 0 0

-- what operation j has been told, where the first one has been told so much
abbrev pub told_from : Core → PlainProgram → (Temp → Location) → (first : Option Told) → (wanted : List ℕ) → (kept : List (List ℕ))
    → (known : List (Option RightNumber)) → List PlainIr → ℕ → Option Told
told_from core p home first wanted kept known code zero = first
told_from core p home first wanted kept known code (suc j) =
    option_and_then
    (λ i. tells_any core p (get_or known j None) (told_from core p home first wanted kept known code j) i (slice_get code (suc j))
    (slice_get code (suc (suc j))) (slice_index wanted (suc j)) (index_in (slice_get code (suc j)) (get_or kept (suc j) []))
    (is_waiting p home (told_from core p home first wanted kept known code j) i (slice_get code (suc j))
    (look 8 code wanted known (suc j)) (look 8 code wanted known (suc (suc j)))))
    (slice_get code j)

-- no operation stands before the first one
abbrev pub told_at : Core → PlainProgram → (Temp → Location) → (wanted : List ℕ) → (kept : List (List ℕ))
    → (known : List (Option RightNumber)) → List PlainIr → ℕ → Option Told
told_at core p home wanted kept known code j = told_from core p home None wanted kept known code j

-- an operation, or the call of its routine
abbrev pub operation_at : PlainProgram → (Temp → Location) → Linkage → (told telling : Option Told)
    → (known : Option RightNumber) → (routine : Option ℕ) → (wanted : ℕ) → (row : List ℕ) → Option PlainIr → List AsmItem
operation_at p home k told telling known routine wanted row None = []
operation_at p home k told telling known routine wanted row (Some i) =
    linked_code (routine_used known i routine) (λ l. called_code home l wanted i)
    (operation_code p home k told telling known wanted (need_in row) i)

-- the code of the first n operations: `wanted` has for each the bytes that are needed behind it, `kept` what a call
-- keeps and what is needed behind an operation of the place of its index, `known` the number that the second operand is
-- known to hold, and `routines` the label of the routine that is called, if there is one
abbrev pub written_code : PlainProgram → (Temp → Location) → Linkage → (wanted : List ℕ) → (kept : List (List ℕ))
    → (known : List (Option RightNumber)) → (routines : List (Option ℕ)) → List PlainIr → ℕ → List AsmItem
written_code p home k wanted kept known routines code n =
    chain (λ j. operation_at p home k (told_at k.core p home wanted kept known code j)
    (told_at k.core p home wanted kept known code (suc j)) (get_or known j None) (get_or routines j None) (slice_index wanted j)
    (get_or kept j []) (slice_get code j)) n

-- that of a function, which begins with its label
abbrev pub written_function : PlainProgram → Linkage → (f : ℕ) → (wanted : List ℕ) → (kept : List (List ℕ))
    → (known : List (Option RightNumber)) → (routines : List (Option ℕ)) → List PlainIr → List AsmItem
written_function p k f wanted kept known routines code =
    Label (k.entry_of f) ∷ written_code p (home k.homes) k wanted kept known routines code (length code)

abbrev pub CanBeWritten : PlainProgram → Linking → List ℕ → (known : List (Option RightNumber)) → (routines : List (Option ℕ))
    → List PlainIr → Type 0
CanBeWritten p k wanted known routines code =
    (j : ℕ) (i : PlainIr) → slice_get code j ≡ Some i
    → CanBeLinked (routine_used (get_or known j None) i (get_or routines j None)) p k (slice_index wanted j) i

-- what is needed of so many places, from a first one on
abbrev pub row_from : (count place : ℕ) → Need → List ℕ
row_from zero place need = []
row_from (suc count) place need = need place ∷ row_from count (suc place) need

-- and for each call what is kept of the places that may have registers
abbrev pub kept_row : (slots : ℕ) → Need → PlainIr → List ℕ
kept_row slots need (call_function f to) = row_from (register_places slots) 0 (without_result to need)
kept_row slots need i = index_row need i

abbrev pub kept_rows : (slots : ℕ) → Facts → List PlainIr → List (List ℕ)
kept_rows slots at [] = []
kept_rows slots at (i ∷ code) = kept_row slots (needs at code) i ∷ kept_rows slots at code

-- the same functions with other routines
abbrev pub routed : Linkage → (PlainIr → Option ℕ) → Linkage
routed k routine_of = record k { routine_of = routine_of }

-- code that is written with these numbers and routines is the code of the operations
abbrev pub NeededCodeIsWritten : Type 0
NeededCodeIsWritten =
    (p : PlainProgram) (home : Temp → Location) (k : Linkage) (routine_of : PlainIr → Option ℕ) (labels : ℕ → Need)
    (code : List PlainIr) → let at = facts_of (has_tables p.objects) labels code in
    written_code p home k (wanted_bytes at code) (kept_rows k.slots at code) (right_numbers code) (map routine_of code) code
    (length code)
    ≡ ops_code p home (routed k routine_of) at None code

abbrev pub NeededFunctionsAreWritten : Type 0
NeededFunctionsAreWritten =
    (p : PlainProgram) (k : Linkage) (routine_of : PlainIr → Option ℕ) (f : ℕ) (labels : ℕ → Need) (code : List PlainIr)
    → let at = facts_of (has_tables p.objects) labels code in
    written_function p k f (wanted_bytes at code) (kept_rows k.slots at code) (right_numbers code) (map routine_of code) code
    ≡ function_code p (routed k routine_of) f labels code
