-- Units (ISO/IEC 9899:1999, 6.9), and the program that all units make.
use Rattle.std.specs.Prelude.{ℕ, ◌+◌, Bool, true, false, ◌&&◌, if◌then◌else◌, is_none, Option, Some, None}
use Rattle.std.specs.Prelude.{List, [], ◌∷◌, length, nat_le}
use Rattle.ec_check_operands.specs.declared.faults.Fault.{Fault}
use Rattle.ec_check_operands.specs.Faults.{rule}
use Rattle.ec_grammar.specs.Trees as t
use Rattle.ec_iohw.specs.declared.table.IoTable.{IoTable}
use Rattle.ec_core.specs.Plain.{PlainProgram}
use Rattle.ec_check_names.specs.declared.linkage.Linkage.TheVariants.{External}
use Rattle.ec_check_names.specs.Definitions.{Definition, definitions, number_of}
use Rattle.ec_check_declarations.specs.Sites.{Site, on, told}
use Rattle.ec_check_declarations.specs.Structures.{structure_sites}
use Rattle.ec_check_statements.specs.Around.{with_pragma}
use Rattle.ec_check_file_scope.specs.FileObjects.{after_register, file_register_sites}
use Rattle.ec_check_file_scope.specs.FileScope.{after_declaration, declaration_sites, after_structure}
use Rattle.ec_check_file_scope.specs.States.{Setting, State, known_of, with_modes, nothing_declared, in_unit}
use Rattle.ec_check.specs.Definitions.{after_definition, definition_sites}

-- ---- external declarations

abbrev pub after_external : Setting → t.External → State → State
after_external r (t.pragma_item p) s = with_modes (with_pragma p s.modes) s
after_external r (t.structure_item d) s = after_structure r d s
after_external r (t.register_item d) s = after_register r d s
after_external r (t.declaration_item d) s = after_declaration r d s
after_external r (t.function_item f) s = after_definition r f s

abbrev pub external_sites : Setting → t.External → State → List Site → List Site
external_sites r (t.pragma_item p) s rest = rest
external_sites r (t.structure_item d) s rest = structure_sites (known_of r.ports s) d rest
external_sites r (t.register_item d) s rest = file_register_sites r d s rest
external_sites r (t.declaration_item d) s rest = declaration_sites r d s rest
external_sites r (t.function_item f) s rest = definition_sites r f s rest

abbrev pub after_externals : Setting → List t.External → State → State
after_externals r [] s = s
after_externals r (x ∷ xs) s = after_externals r xs (after_external r x s)

abbrev pub externals_sites : Setting → List t.External → State → List Site → List Site
externals_sites r [] s rest = rest
externals_sites r (x ∷ xs) s rest = external_sites r x s (externals_sites r xs (after_external r x s) rest)

-- ---- units

-- the number of `main`, if a unit defines it as a name of all units
abbrev pub main_of : List Definition → Option ℕ
main_of ds = number_of (109 ∷ 97 ∷ 105 ∷ 110 ∷ []) 0 External true ds

abbrev pub after_unit : Setting → t.Tree → State → State
after_unit r (t.tree xs end) s = after_externals r xs (in_unit s)

-- 18, at the end of the last unit
abbrev pub unit_sites : Setting → (last : Bool) → t.Tree → State → List Site → List Site
unit_sites r last (t.tree xs end) s rest =
    externals_sites r xs (in_unit s) (on (rule 18 (last && is_none (main_of r.definitions)) end.index ∷ []) ∷ rest)

-- the least fault that is told in a unit
abbrev pub unit_fault : Setting → (last : Bool) → t.Tree → State → Option Fault
unit_fault r last u s = told None (unit_sites r last u s [])

abbrev pub setting_of : List Definition → IoTable → (unit : ℕ) → Setting
setting_of ds io unit = record { definitions = ds; ports = io; unit = unit }

abbrev pub is_last : List t.Tree → Bool
is_last [] = true
is_last (u ∷ us) = false

-- the state behind units, the first of which has this number
abbrev pub after_units : List Definition → IoTable → (unit : ℕ) → List t.Tree → State → State
after_units ds io unit [] s = s
after_units ds io unit (u ∷ us) s = after_units ds io (unit + 1) us (after_unit (setting_of ds io unit) u s)

-- a fault of the first unit that has one
pub record UnitFault : Type 0 where
  pub unit : ℕ
  pub fault : Fault

abbrev pub or_later : (unit : ℕ) → Option Fault → Option UnitFault → Option UnitFault
or_later unit None later = later
or_later unit (Some f) later = Some (record { unit = unit; fault = f })

abbrev pub first_fault : List Definition → IoTable → (unit : ℕ) → List t.Tree → State → Option UnitFault
first_fault ds io unit [] s = None
first_fault ds io unit (u ∷ us) s =
    or_later unit (unit_fault (setting_of ds io unit) (is_last us) u s)
    (first_fault ds io (unit + 1) us (after_unit (setting_of ds io unit) u s))

-- ---- the program

-- the structs, objects and functions that a walk has come to
abbrev pub program_in : (main : ℕ) → State → PlainProgram
program_in main s = record { structs = s.structs; objects = s.scope.objects; functions = s.functions; main = main }

abbrev pub program_by : Option ℕ → State → Option PlainProgram
program_by None s = None
program_by (Some main) s = if s.whole && nat_le (length s.functions) 65_536 then Some (program_in main s) else None

-- the program of units: structs, objects and functions in the order of their definitions
abbrev pub program_of : List t.Tree → IoTable → Option PlainProgram
program_of us io = program_by (main_of (definitions us)) (after_units (definitions us) io 0 us nothing_declared)

-- the least broken rule of all units, by unit, token and rule
abbrev pub least_fault : List t.Tree → IoTable → Option UnitFault
least_fault us io = first_fault (definitions us) io 0 us nothing_declared
