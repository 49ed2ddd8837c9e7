-- What is accepted has no cause to be refused: the map and the units.
use Rattle.std.proofs.Common.{◌≡◌, ℕ, zero, suc, List, [], ◌∷◌, Option, Some, None, subst, IsSomeAnd, slice_get}
use Rattle.ec_grammar.specs.Trees as t
use Rattle.ec_lex.specs.declared.stop.LexStop.{LexStop}
use Rattle.ec_parse.specs.declared.stop.ParseStop.{ParseStop}
use Rattle.ec_map.specs.Maps.{IsMap}
use Rattle.ec_map.specs.Rules.{broken}
use Rattle.ec_map.specs.Values.{document}
use Rattle.ec_map.specs.declared.map.Map.{Map}
use Rattle.ec_map.specs.declared.read.MapStop.{MapStop}
use Rattle.ec_map.specs.declared.read.MapStop.TheVariants as map_stops
use Rattle.ec_build.specs.MapTexts.{IsMapText, IsNoMap}
use Rattle.ec_parse_sources.specs.Units.{IsUnit, AreUnits, IsFaulty, IsUnparsed}

-- ---- the map

both : {A : Type 0} (o : Option A) (P Q : A → Type 0) → IsSomeAnd o P → IsSomeAnd o Q → (x : A) × P x × Q x
both None P Q h g = absurd h
both (Some x) P Q h g = (x, h, g)

pub map_not_refused : (text : List ℕ) (m : Map) (stop : MapStop) → IsMapText text m → IsNoMap text stop → ⊥
map_not_refused text m map_stops.NotToml h why = subst (λ d. IsSomeAnd d (IsMap m)) (why h.utf8) h.map
map_not_refused text m (map_stops.MapRule k) h why =
    let x = both (document text) (IsMap m) (λ d. broken d ≡ Some k) h.map why.1 in
    let kept = x.1.kept in
    let is = x.2 in
    cc
map_not_refused text m map_stops.NoMemory h why = why

-- ---- the units

-- a text that has a tree is not told
unit_there : (P : List ℕ → Type 0) (i : ℕ) (sources : List (List ℕ)) (units : List t.Tree)
    → ((bytes : List ℕ) (u : t.Tree) → IsUnit bytes u → ¬ P bytes) → AreUnits sources units → ¬ IsSomeAnd (slice_get sources i) P
unit_there P i [] [] never h told = told
unit_there P i [] (u ∷ units) never h told = h
unit_there P i (s ∷ sources) [] never h told = h
unit_there P zero (s ∷ sources) (u ∷ units) never h told = never s u h.0 told
unit_there P (suc i) (s ∷ sources) (u ∷ units) never h told = unit_there P i sources units never h.1 told

pub no_fault : (i : ℕ) (sources : List (List ℕ)) (units : List t.Tree) (stop : LexStop) → AreUnits sources units
    → ¬ IsSomeAnd (slice_get sources i) (λ bytes. IsFaulty bytes stop)
no_fault i sources units stop h =
    unit_there (λ bytes. IsFaulty bytes stop) i sources units (λ bytes u unit faulty. faulty.none unit.list unit.lexed) h

pub no_unparsed : (i : ℕ) (sources : List (List ℕ)) (units : List t.Tree) (stop : ParseStop) → AreUnits sources units
    → ¬ IsSomeAnd (slice_get sources i) (λ bytes. IsUnparsed bytes stop)
no_unparsed i sources units stop h = unit_there (λ bytes. IsUnparsed bytes stop) i sources units (λ bytes u unit why. why.none u unit) h
