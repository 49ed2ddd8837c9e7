-- The sources that the words name, from one word on, and what reading them does.
use Rattle.std.specs.Prelude.{ℕ, ◌+◌, ◌-◌, ◌*◌, ◌≤◌, ◌<◌, ◌≡◌, List, map, length, All, Some, ⊤}
use Rattle.std.specs.List.{AllZip}
use Rattle.std.specs.FinMap.{get}
use Rattle.ec_space.specs.Listed.{Listed}
use Rattle.ec_io.specs.Causes.{Counted}
use Rattle.ec_io.specs.Disk.{Files}
use Rattle.ec_io.specs.Views.{StoreView}
use Rattle.ec_commands.specs.Words.{Words, word, words_from, names_from}
use Rattle.ec_commands.specs.Shown.{Told, IsWithin, IsPast, IsUnread}
use Rattle.ec_commands.specs.declared.stop.Limit.TheVariants.{SourceBytes}
use Rattle.ec_commands.specs.declared.stop.CommandError.{CommandError}
use Rattle.ec_commands.specs.declared.stop.CommandError.TheVariants.{CannotRead, TooMany, NoMemory}

-- the bytes of each text
abbrev pub texts : List (Listed ℕ) → List (List ℕ)
texts sources = map (λ source. source.items) sources

-- the named files hold these texts, one for each name
abbrev pub HoldTexts : List (List ℕ) → List (List ℕ) → Files → Type 0
HoldTexts names sources files = AllZip (λ name text. get files name ≡ Some text) names sources

-- the sources were read, each within its limit
pub record ReadsSources (words : Words) (first : ℕ) (old : StoreView) (sources : List (List ℕ)) : Type 0 where
  pub told : Told (HoldTexts (names_from words first) sources) old.disk
  pub within : All (λ text. length text ≤ 65536) sources
  pub many : length sources ≡ words_from words first

-- the files of the words from one on and before another are within the limit of a source
abbrev pub AreWithin : Words → ℕ → ℕ → Files → Type 0
AreWithin words first last files = (j : ℕ) → first ≤ j → j < last → IsWithin (word words j) 65536 files

-- the source that the word at i names
pub record IsSourceWord (words : Words) (first i : ℕ) : Type 0 where
  pub after : first ≤ i
  pub there : i < length words

-- Why the sources were not read, after P was seen of the files and at most so many bytes had come: a fault in reading
-- one, or one past its limit, and those before it are within theirs
abbrev pub StopsReadingSources : Words → ℕ → (Files → Type 0) → ℕ → StoreView → StoreView → CommandError → Type 0
StopsReadingSources words first P most old new (CannotRead i) =
    IsSourceWord words first i × IsUnread (word words i) old new
    × Told (λ files. P files × AreWithin words first i files) old.disk
StopsReadingSources words first P most old new (TooMany SourceBytes) =
    (i : ℕ) × (IsSourceWord words first i
    × Told (λ files. P files × AreWithin words first i files × IsPast (word words i) 65536 files) old.disk
    × ((n : ℕ) × ((n ≤ most + 65536 * (i - first)) × Counted old.received new.received (n + (65536 + 1)))))
StopsReadingSources words first P most old new NoMemory = ⊤
StopsReadingSources words first P most old new stop = ⊥
