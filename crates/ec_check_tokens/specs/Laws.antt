-- Overflow states at each expression are those that the tokens before it say.
use Rattle.std.specs.Prelude.{ℕ, ◌≡◌, Some, List, slice_get}
use Rattle.std.specs.List.{AllByRecursion}
use Rattle.ec_grammar.specs.Grammar.{Derives}
use Rattle.ec_grammar.specs.Tokens.{Placed}
use Rattle.ec_grammar.specs.Trees.{Tree}
use Rattle.ec_iohw.specs.declared.table.IoTable.{IoTable}
use Rattle.ec_core.specs.Plain.{PlainProgram}
use Rattle.ec_check.specs.Answers.{IsTyped}
use Rattle.ec_check_parts.specs.Parts.{Part}
use Rattle.ec_check_parts.specs.Units.{Stands}
use Rattle.ec_check_tokens.specs.NodeStates.{StatementKeeps}
use Rattle.ec_check_tokens.specs.Parts.{PartKnowsStates}

-- Where a part stands in a unit, the states that are known are those that the tokens before it say, at the first token of each
-- expression in the part.
abbrev pub TokensSayStates : Type 0
TokensSayStates =
    (us : List Tree) (io : IoTable) (unit : ℕ) (u : Tree) (tokens : List Placed) (p : Part) → slice_get us unit ≡ Some u
    → Derives tokens u → Stands us io unit p → PartKnowsStates tokens p

-- the tokens of each unit, by its number
abbrev pub AreTexts : (texts : ℕ → List Placed) → List Tree → Type 0
AreTexts texts us = (unit : ℕ) (u : Tree) → slice_get us unit ≡ Some u → Derives (texts unit) u

-- In the program of units each node of an expression of a statement has the mode that the tokens before the statement say of its
-- type.
abbrev pub TokensSayModes : Type 0
TokensSayModes =
    (us : List Tree) (io : IoTable) (p : PlainProgram) (texts : ℕ → List Placed) → AreTexts texts us → IsTyped us io p
    → AllByRecursion (λ f. StatementKeeps texts f.body) p.functions
