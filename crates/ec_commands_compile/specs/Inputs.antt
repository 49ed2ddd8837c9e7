-- The files that a build, a bound, an exec and a watch read, and what reading them does.
use Rattle.std.specs.Prelude.{ℕ, ◌+◌, ◌≤◌, ◌≡◌, ◌⊎◌, List, ◌∷◌, length, All, Some, ⊤}
use Rattle.std.specs.FinMap.{get}
use Rattle.ec_io.specs.Causes.{Counted}
use Rattle.ec_io.specs.Disk.{Files}
use Rattle.ec_io.specs.Views.{StoreView}
use Rattle.ec_commands.specs.Shown.{Told, IsWithin, IsPast, IsUnread, StopsReading}
use Rattle.ec_commands.specs.Sources.{HoldTexts, StopsReadingSources}
use Rattle.ec_commands.specs.Words.{Words, map_name, script_name, names_from}
use Rattle.ec_commands.specs.declared.stop.Limit.TheVariants.{MapBytes, ScriptBytes}
use Rattle.ec_commands.specs.declared.stop.CommandError.{CommandError}
use Rattle.ec_commands.specs.declared.stop.CommandError.TheVariants.{CannotRead, TooMany, NoMemory}

-- the named files hold this map and these sources, which are named from one word on, and are within their limits
pub record AreInputs (words : Words) (first : ℕ) (map : List ℕ) (sources : List (List ℕ)) (files : Files) : Type 0 where
  pub map_there : get files (map_name words) ≡ Some map
  pub map_fits : length map ≤ 16384
  pub sources_there : HoldTexts (names_from words first) sources files
  pub sources_fit : All (λ text. length text ≤ 65536) sources

-- the names of the files that a build reads, whose sources are named from one word on
abbrev pub build_inputs : Words → ℕ → List (List ℕ)
build_inputs words first = map_name words ∷ names_from words first

-- the map is within its limit
abbrev pub HasMap : Words → Files → Type 0
HasMap words = IsWithin (map_name words) 16384

-- why they are not read: the map is not, or is too long; or it is not, and a source is
abbrev pub StopsReadingBuild : Words → ℕ → StoreView → StoreView → CommandError → Type 0
StopsReadingBuild words first old new stop =
    StopsReading words 1 MapBytes old new stop ⊎ StopsReadingSources words first (HasMap words) 16384 old new stop

-- ---- exec and watch

-- the named files hold this map, this script and these sources, which are named from one word on, and are within their
-- limits
pub record AreExecInputs (words : Words) (first : ℕ) (map lines : List ℕ) (sources : List (List ℕ)) (files : Files)
    : Type 0 where
  pub inputs : AreInputs words first map sources files
  pub script_there : get files (script_name words) ≡ Some lines
  pub script_fits : length lines ≤ 65536

-- the names of the files that they read
abbrev pub exec_inputs : Words → ℕ → List (List ℕ)
exec_inputs words first = map_name words ∷ script_name words ∷ names_from words first

-- the map and the script are within their limits
pub record HasScript (words : Words) (files : Files) : Type 0 where
  pub map : HasMap words files
  pub script : IsWithin (script_name words) 65536 files

-- the map was read, and the script is not, or is too long
abbrev pub StopsReadingScript : Words → StoreView → StoreView → CommandError → Type 0
StopsReadingScript words old new (CannotRead i) =
    (i ≡ 2) × IsUnread (script_name words) old new × Told (HasMap words) old.disk
StopsReadingScript words old new (TooMany ScriptBytes) =
    Told (λ files. HasMap words files × IsPast (script_name words) 65536 files) old.disk
    × ((n : ℕ) × ((n ≤ 16384) × Counted old.received new.received (n + (65536 + 1))))
StopsReadingScript words old new NoMemory = ⊤
StopsReadingScript words old new stop = ⊥

-- why they are not read: the map is not; or it is, and the script is not; or both are, and a source is not
abbrev pub StopsReadingExec : Words → ℕ → StoreView → StoreView → CommandError → Type 0
StopsReadingExec words first old new stop =
    StopsReading words 1 MapBytes old new stop ⊎ (StopsReadingScript words old new stop
    ⊎ StopsReadingSources words first (HasScript words) 81920 old new stop)
