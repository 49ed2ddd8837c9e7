-- What the answers of `check` say.
use Rattle.std.specs.Prelude.{ℕ, ◌≡◌, ◌<◌, ◌≤◌, ⊤, Option, Some, None, option_map, IfSome, IsSomeAnd, Result, Ok, Err}
use Rattle.std.specs.Prelude.{List, length, map, slice_get}
use Rattle.ec_grammar.specs.Trees as t
use Rattle.ec_iohw.specs.declared.table.IoTable.{IoTable}
use Rattle.ec_core.specs.Layout.{AreStructs}
use Rattle.ec_core.specs.Plain.{PlainProgram, plain_program, plain_struct}
use Rattle.ec_core.specs.declared.programs.Program.{Program}
use Rattle.ec_check_names.specs.Counts.{most_objects, most_functions, objects_declared, functions_defined}
use Rattle.ec_check_recursion.specs.Recursion.{IsFirstRecursive, NothingRecurs}
use Rattle.ec_check_typed.specs.Units.{Typed}
use Rattle.ec_check.specs.declared.checking.CheckStop.{CheckStop}
use Rattle.ec_check.specs.declared.checking.CheckStop.TheVariants as stops
use Rattle.ec_check.specs.Units.{program_of, least_fault, UnitFault, first_fault, after_units, main_of, program_by}
use Rattle.ec_check.specs.Broken.{NothingIsBroken, IsLeastBroken}
use Rattle.ec_check_file_scope.specs.States.{nothing_declared}
use Rattle.ec_check_names.specs.Definitions.{Definition}
use Rattle.ec_check_declarations.specs.declared.units.UnitFault as unit_fault_code

-- P is the program of the units, by the relation between trees and programs
abbrev pub IsTyped : List t.Tree → IoTable → PlainProgram → Type 0
IsTyped us io p = Typed us io p

-- and no other is
abbrev pub IsOnlyTyped : List t.Tree → IoTable → PlainProgram → Type 0
IsOnlyTyped us io p = (q : PlainProgram) → IsTyped us io q → q ≡ p

-- the numbers of objects and functions keep their limits
pub record IsWithinLimits (us : List t.Tree) : Type 0 where
  pub objects : objects_declared us ≤ most_objects
  pub functions : functions_defined us ≤ most_functions

-- the name is that of the function, first by place of definition, that reaches itself by calls
pub record IsRecursion (program : PlainProgram) (name : List ℕ) : Type 0 where
  pub function : ℕ
  pub first : IsFirstRecursive program function
  pub named : IsSomeAnd (slice_get program.functions function) (λ f. f.name ≡ name)

pub record IsRecursive (us : List t.Tree) (io : IoTable) (name : List ℕ) : Type 0 where
  pub program : PlainProgram
  pub typed : IsTyped us io program
  pub recursion : IsRecursion program name

-- Each answer has its cause, and no two of the causes hold together; want of memory has none. A constraint that is told
-- holds where it is told, and none that holds comes before it, by unit, by token and by number.
abbrev pub Checked : List t.Tree → IoTable → Result Program CheckStop → Type 0
Checked us io (Ok p) =
    IsWithinLimits us × NothingIsBroken us io × IsTyped us io (plain_program p) × NothingRecurs (plain_program p)
    × IsOnlyTyped us io (plain_program p)
Checked us io (Err stops.NoMemory) = ⊤
Checked us io (Err stops.TooManyObjects) = most_objects < objects_declared us
Checked us io (Err stops.TooManyFunctions) =
    (objects_declared us ≤ most_objects) × (most_functions < functions_defined us)
Checked us io (Err (stops.Constraint unit token rule)) = IsWithinLimits us × IsLeastBroken us io unit token rule
Checked us io (Err (stops.Recursion name)) =
    IsWithinLimits us × NothingIsBroken us io × IsRecursive us io name.items

-- ---- parts of the check

-- the program that the walk over the units gives
abbrev pub IsWalked : List t.Tree → IoTable → PlainProgram → Type 0
IsWalked us io p = program_of us io ≡ Some p

-- the function that reaches itself by calls in that program
pub record IsRecursiveWalked (us : List t.Tree) (io : IoTable) (name : List ℕ) : Type 0 where
  pub program : PlainProgram
  pub typed : IsWalked us io program
  pub recursion : IsRecursion program name

-- so of what the walk over the units finds
abbrev pub FollowsWalk : List t.Tree → IoTable → Result Program CheckStop → Type 0
FollowsWalk us io (Ok p) =
    IsWithinLimits us × (least_fault us io ≡ None) × IsWalked us io (plain_program p) × NothingRecurs (plain_program p)
FollowsWalk us io (Err stops.NoMemory) = ⊤
FollowsWalk us io (Err stops.TooManyObjects) = most_objects < objects_declared us
FollowsWalk us io (Err stops.TooManyFunctions) =
    (objects_declared us ≤ most_objects) × (most_functions < functions_defined us)
FollowsWalk us io (Err (stops.Constraint unit token rule)) =
    IsWithinLimits us × (least_fault us io ≡ Some (record { unit = unit; fault = record { at = token; rule = rule } }))
FollowsWalk us io (Err (stops.Recursion name)) =
    IsWithinLimits us × (least_fault us io ≡ None) × IsRecursiveWalked us io name.items

abbrev pub plain_unit_fault : unit_fault_code.UnitFault → UnitFault
plain_unit_fault f = record { unit = f.unit; fault = record { at = f.token; rule = f.rule } }

-- what the walk over all units tells
abbrev pub Walks : List Definition → IoTable → List t.Tree → Result (Option Program) unit_fault_code.UnitFault → Type 0
Walks ds io us (Ok p) =
    (first_fault ds io 0 us nothing_declared ≡ None)
    × (option_map plain_program p ≡ program_by (main_of ds) (after_units ds io 0 us nothing_declared))
Walks ds io us (Err f) = first_fault ds io 0 us nothing_declared ≡ Some (plain_unit_fault f)

abbrev pub HasFewFunctions : Result (Option Program) unit_fault_code.UnitFault → Type 0
HasFewFunctions (Ok p) = IfSome p (λ p. length p.funcs.items ≤ 65_536)
HasFewFunctions (Err f) = ⊤

-- the structs of a program have layouts
abbrev pub HasStructs : Result (Option Program) unit_fault_code.UnitFault → Type 0
HasStructs (Ok p) = IfSome p (λ p. AreStructs (map plain_struct p.structs.items))
HasStructs (Err f) = ⊤

-- what is told of recursion
abbrev pub Recurs : PlainProgram → Result Program CheckStop → Type 0
Recurs program (Ok p) = (plain_program p ≡ program) × NothingRecurs program
Recurs program (Err stops.NoMemory) = ⊤
Recurs program (Err stops.TooManyObjects) = ⊥
Recurs program (Err stops.TooManyFunctions) = ⊥
Recurs program (Err (stops.Constraint unit token rule)) = ⊥
Recurs program (Err (stops.Recursion name)) = IsRecursion program name.items
