-- What is known after some lines of a text.
use Rattle.std.specs.Prelude.{ℕ, zero, suc, ◌+◌, ◌<◌, ◌≤◌, ◌≡◌, ◌⊎◌, ◌==◌, ◌&&◌, not, Bool, true, List, [], ◌∷◌, ◌++◌, length}
use Rattle.std.specs.Prelude.{slice_set, MatchResult, Result}
use Rattle.ec_space.specs.declared.Core.{Core}
use Rattle.ec_list.specs.Lines.{text_of, Suits, AreLines, end_after}
use Rattle.ec_list.specs.ReadingLines.{IsLineOf}
use Rattle.ec_list.specs.Lists.{HasJust}
use Rattle.ec_list.specs.declared.assembling.AsmStop.{AsmStop}
use Rattle.ec_list.specs.declared.assembling.AsmStop.TheVariants as stops
use Rattle.ec_list.specs.declared.assembling.Assembler.{Assembler}
use Rattle.ec_list.specs.declared.line.Line.{Line}

-- no character is a line feed
abbrev pub has_no_end : List ℕ → Bool
has_no_end [] = true
has_no_end (c ∷ text) = not (c == 10) && has_no_end text

-- a list with values put over it from an index on
abbrev pub put_over : {X : Type 0} → List X → ℕ → List X → List X
put_over xs at [] = xs
put_over xs at (y ∷ ys) = put_over (slice_set xs at y) (at + 1) ys

abbrev pub all_true : ℕ → List Bool
all_true zero = []
all_true (suc n) = true ∷ all_true n

-- a text without its end is no line that may follow one with this end, by this rule
abbrev pub BreaksRule : Core → ℕ → List ℕ → ℕ → Type 0
BreaksRule core from text rule =
    ((rule ≡ 1) × ((l : Line) → ¬ IsLineOf text l))
    ⊎ (((rule ≡ 2) × ((l : Line) × (IsLineOf text l × ¬ Suits core l)))
    ⊎ ((rule ≡ 3) × ((l : Line) × (IsLineOf text l × (Suits core l × (l.at < from))))))

-- a text without its end is a line that may follow
pub record Follows (core : Core) (from : ℕ) (text : List ℕ) (l : Line) : Type 0 where
  pub is_line : IsLineOf text l
  pub suits : Suits core l
  pub order : from ≤ l.at

abbrev pub StopsLine : Core → ℕ → ℕ → List ℕ → AsmStop → Type 0
StopsLine core number from text (stops.Line line rule) = (line ≡ number) × BreaksRule core from text rule
StopsLine core number from text stops.NoMemory = Unit {0}

-- the image has just the bytes of lines, and the number of the next line and the end of the last are known
pub record HasTaken (lines : List Line) (a : Assembler) : Type 0 where
  pub are_lines : AreLines a.image.core lines
  pub image : HasJust a.image.core lines a.image.bytes.items a.image.written.items
  pub count : a.line ≡ length lines + 1
  pub end : a.end ≡ end_after 0 lines

-- a line was taken behind others, or not
abbrev pub TakesLine : Assembler → List ℕ → Result Unit AsmStop → Assembler → Type 0
TakesLine old text result new =
    (lines : List Line) → HasTaken lines old
    → MatchResult result (λ _. (l : Line) × (IsLineOf text l × HasTaken (lines ++ l ∷ []) new))
    (StopsLine old.image.core (length lines + 1) (end_after 0 lines) text)

-- the text so far was taken
pub record TakenTo (text rest : List ℕ) (a : Assembler) : Type 0 where
  pub lines : List Line
  pub text_is : text ≡ text_of lines ++ rest
  pub taken : HasTaken lines a
