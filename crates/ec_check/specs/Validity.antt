-- The program of units that keep the rules is a valid program.
use Rattle.std.specs.Prelude.{◌≡◌, ◌≤◌, None, List, []}
use Rattle.std.specs.List.{AllByRecursion}
use Rattle.ec_grammar.specs.Spelling.{of_tree}
use Rattle.ec_grammar.specs.Trees.{Tree}
use Rattle.ec_iohw.specs.declared.table.IoTable.{IoTable}
use Rattle.ec_iohw.specs.Valid.{ValidIo}
use Rattle.ec_core.specs.Plain.{PlainProgram}
use Rattle.ec_core.specs.Valid.{Valid}
use Rattle.ec_check_expression_laws.specs.Suits.{AreHeld}
use Rattle.ec_check_recursion.specs.Recursion.{NothingRecurs}
use Rattle.ec_check.specs.Answers.{IsWalked, IsWithinLimits}
use Rattle.ec_check.specs.Laws.{most_structs, structs_defined, AreShort}
use Rattle.ec_check.specs.Units.{least_fault}

-- each constant in the units stands for a number of its type
abbrev pub HoldNumbers : List Tree → Type 0
HoldNumbers us = AllByRecursion (λ u. AreHeld (of_tree u [])) us

-- the program of units is valid, where they keep the limits, no rule is told, and no function reaches itself; structs
-- have numbers of 32 bits
abbrev pub ProgramsAreValid : Type 0
ProgramsAreValid =
    (us : List Tree) (io : IoTable) (p : PlainProgram) → ValidIo io → IsWithinLimits us
    → structs_defined us ≤ most_structs → HoldNumbers us → AreShort us → least_fault us io ≡ None → IsWalked us io p
    → NothingRecurs p → Valid p io
