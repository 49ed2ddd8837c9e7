-- Where units keep the limits and break no rule, there is their program.
use Rattle.std.specs.Prelude.{ℕ, ◌+◌, ◌≡◌, ◌≤◌, ◌↔◌, None, List, [], ◌∷◌, length}
use Rattle.std.specs.List.{AllByRecursion}
use Rattle.ec_grammar.specs.Spelling.{of_tree}
use Rattle.ec_grammar.specs.Trees.{External, pragma_item, structure_item, register_item, declaration_item}
use Rattle.ec_grammar.specs.Trees.{function_item, Tree, tree}
use Rattle.ec_iohw.specs.declared.table.IoTable.{IoTable}
use Rattle.ec_core.specs.Plain.{PlainProgram}
use Rattle.ec_check_names.specs.Counts.{objects_declared, functions_defined}
use Rattle.ec_check.specs.Answers.{IsTyped, IsWalked, IsWithinLimits}
use Rattle.ec_check.specs.Broken.{NothingIsBroken}
use Rattle.ec_check.specs.Units.{least_fault}

-- ---- how many structs units define

-- as many as there are numbers of 32 bits
abbrev pub most_structs : ℕ
most_structs = 4_294_967_296

abbrev pub structs_in_external : External → ℕ
structs_in_external (pragma_item p) = 0
structs_in_external (structure_item s) = 1
structs_in_external (register_item r) = 0
structs_in_external (declaration_item d) = 0
structs_in_external (function_item f) = 0

abbrev pub structs_in_externals : List External → ℕ
structs_in_externals [] = 0
structs_in_externals (x ∷ xs) = structs_in_external x + structs_in_externals xs

abbrev pub structs_in_unit : Tree → ℕ
structs_in_unit (tree xs end) = structs_in_externals xs

abbrev pub structs_defined : List Tree → ℕ
structs_defined [] = 0
structs_defined (u ∷ us) = structs_in_unit u + structs_defined us

-- each unit spells at most 65,536 tokens
abbrev pub AreShort : List Tree → Type 0
AreShort us = AllByRecursion (λ u. length (of_tree u []) ≤ 65_536) us

-- up to 16 such units define no more structs than that
abbrev pub StructsAreFew : Type 0
StructsAreFew = (us : List Tree) → AreShort us → length us ≤ 16 → structs_defined us ≤ most_structs

-- ---- programs

-- the program of the units: with no more objects than they declare, and the functions that they define
pub record IsProgramOf (us : List Tree) (io : IoTable) (p : PlainProgram) : Type 0 where
  pub typed : IsWalked us io p
  pub objects : length p.objects ≤ objects_declared us
  pub functions : length p.functions ≡ functions_defined us

-- units have a program where they keep the limits and no rule is told; structs have numbers of 32 bits
abbrev pub ProgramsExist : Type 0
ProgramsExist =
    (us : List Tree) (io : IoTable) → 1 ≤ length us → IsWithinLimits us → structs_defined us ≤ most_structs
    → least_fault us io ≡ None → (p : PlainProgram) × IsProgramOf us io p

-- The program of the relation between trees and programs is the one that the walk over the units gives, so there is only one; and
-- there is one where units keep the limits and break no constraint.
pub record ProgramsAreTyped : Type 0 where
  pub walked : (us : List Tree) (io : IoTable) (p : PlainProgram) → IsTyped us io p ↔ IsWalked us io p
  pub only : (us : List Tree) (io : IoTable) (p q : PlainProgram) → IsTyped us io p → IsTyped us io q → p ≡ q
  pub exists : (us : List Tree) (io : IoTable) → 1 ≤ length us → IsWithinLimits us → structs_defined us ≤ most_structs
      → NothingIsBroken us io → (p : PlainProgram) × IsTyped us io p
