-- Which image a text lists, why a text lists none, and the listing of an image.
use Rattle.std.specs.Prelude.{ℕ, ◌+◌, ◌*◌, ◌<◌, ◌≤◌, ◌≡◌, ◌≢◌, ◌⊎◌, Bool, List, [], ◌∷◌, ◌++◌, length, Some, is_some}
use Rattle.std.specs.Prelude.{unwrap_or, slice_get}
use Rattle.ec_space.specs.declared.Core.{Core}
use Rattle.ec_avr.specs.Flash.{flash_size}
use Rattle.ec_hex.specs.Text.{contents}
use Rattle.ec_list.specs.Lines.{line_text, text_of, IsInRange, Suits, AreLines, end_after, byte_by}
use Rattle.ec_list.specs.Walking.{lines_from}
use Rattle.ec_list.specs.declared.line.Line.{Line}
use Rattle.ec_list.specs.declared.assembling.AsmStop.{AsmStop}
use Rattle.ec_list.specs.declared.assembling.AsmStop.TheVariants as stops

-- ---- what a text lists

-- the written bytes of an image are just those of lines
pub record HasJust (core : Core) (lines : List Line) (bytes : List ℕ) (written : List Bool) : Type 0 where
  pub sized : length bytes ≡ flash_size core
  pub flagged : length written ≡ flash_size core
  pub bytes_are : (k : ℕ) → k < flash_size core → slice_get bytes k ≡ Some (unwrap_or (byte_by lines k) 255)
  pub flags_are : (k : ℕ) → k < flash_size core → slice_get written k ≡ Some (is_some (byte_by lines k))

-- a text lists the image of a core with these bytes and flags
pub record Lists (core : Core) (text bytes : List ℕ) (written : List Bool) : Type 0 where
  pub lines : List Line
  pub text_is : text ≡ text_of lines
  pub are_lines : AreLines core lines
  pub image : HasJust core lines bytes written

-- ---- why a text lists none

-- a text begins with a line that has the form, and ends with LF
pub record Begins (text : List ℕ) (l : Line) : Type 0 where
  pub address : l.at < 1048576
  pub range : IsInRange l.item
  pub more : List ℕ
  pub text_is : text ≡ line_text l ++ 10 ∷ more

-- the line with which a text begins breaks a rule, and none before it. 1: it has the form of a line, with operands in
-- range, and ends with LF. 2: its bytes lie in flash, and an instruction's address is even. 3: it begins at or after the
-- end of the line before
abbrev pub Breaks : Core → ℕ → List ℕ → ℕ → Type 0
Breaks core from text rule =
    ((rule ≡ 1) × ((text ≢ []) × ((l : Line) → ¬ Begins text l)))
    ⊎ (((rule ≡ 2) × ((l : Line) × (Begins text l × ¬ Suits core l)))
    ⊎ ((rule ≡ 3) × ((l : Line) × (Begins text l × (Suits core l × (l.at < from))))))

-- this line, counted from 1, is the first that breaks a rule, and this rule the least that it breaks
pub record StopsAt (core : Core) (text : List ℕ) (line rule : ℕ) : Type 0 where
  pub lines : List Line
  pub rest : List ℕ
  pub text_is : text ≡ text_of lines ++ rest
  pub are_lines : AreLines core lines
  pub line_is : line ≡ length lines + 1
  pub breaks : Breaks core (end_after 0 lines) rest rule

abbrev pub HasStop : Core → List ℕ → AsmStop → Type 0
HasStop core text (stops.Line line rule) = StopsAt core text line rule
HasStop core text stops.NoMemory = Unit {0}

-- ---- the listing of an image

abbrev pub listing : List ℕ → List Bool → List ℕ
listing bytes written = text_of (lines_from 0 0 (contents bytes written))

-- ---- laws

-- a text lists at most one image of a core
abbrev pub ListsOneImage : Type 0
ListsOneImage =
    (core : Core) (text bytes others : List ℕ) (written flags : List Bool) → Lists core text bytes written
    → Lists core text others flags → (bytes ≡ others) × (written ≡ flags)

-- it has at most 16 bytes for each byte of flash
abbrev pub ListsShortly : Type 0
ListsShortly =
    (core : Core) (text bytes : List ℕ) (written : List Bool) → Lists core text bytes written
    → length text ≤ 16 * flash_size core
