-- Texts of maps.
use Rattle.std.specs.Prelude.{ℕ, ◌≡◌, ⊤, List, None, Some, IsSomeAnd, IsUtf8}
use Rattle.ec_map.specs.Maps.{IsMap, ValidMap}
use Rattle.ec_map.specs.Rules.{broken}
use Rattle.ec_map.specs.Values.{document}
use Rattle.ec_map.specs.declared.map.Map.{Map}
use Rattle.ec_map.specs.declared.read.MapStop.{MapStop}
use Rattle.ec_map.specs.declared.read.MapStop.TheVariants as map_stops
use Rattle.ec_build.specs.declared.stop.BuildStop.{BuildStop}
use Rattle.ec_build.specs.declared.stop.BuildStop.TheVariants.{Map as MapFault, NoMemory}

-- a text is a map: it is UTF-8 and a TOML document, whose table is the map and keeps all rules
pub record IsMapText (text : List ℕ) (m : Map) : Type 0 where
  pub utf8 : IsUtf8 text
  pub map : IsSomeAnd (document text) (IsMap m)
  pub valid : ValidMap m

abbrev pub HasMap : List ℕ → Type 0
HasMap text = (m : Map) × IsMapText text m

-- it is no document, or its table breaks a rule first
abbrev pub IsNoMap : List ℕ → MapStop → Type 0
IsNoMap text map_stops.NotToml = IsUtf8 text → document text ≡ None
IsNoMap text (map_stops.MapRule k) = IsUtf8 text × IsSomeAnd (document text) (λ d. broken d ≡ Some k)
IsNoMap text map_stops.NoMemory = ⊥

-- the answer that tells why
abbrev pub StopsMap : List ℕ → BuildStop → Type 0
StopsMap text (MapFault stop) = IsNoMap text stop
StopsMap text NoMemory = ⊤
StopsMap text _ = ⊥
