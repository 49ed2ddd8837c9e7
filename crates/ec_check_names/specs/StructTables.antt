-- How a struct of a program is found: by its tag and the names of its members, of which those have the places that have the
-- same.
use Rattle.std.specs.Prelude.{◌≡◌, ℕ, ◌<◌, Bool, false, if◌then◌else◌, Option, Some, None, List, [], ◌∷◌, ◌++◌, length}
use Rattle.std.specs.Prelude.{slice_get}
use Rattle.std.specs.Str.{bytes_eq}
use Rattle.std.specs.List.{AllByRecursion}
use Rattle.std.specs.Map.{lookup}
use Rattle.ec_space.specs.Listed.{Listed}
use Rattle.ec_core.specs.Plain.{PlainMember, PlainStruct}
use Rattle.ec_check_names.specs.Structs.{same_struct, struct_place}

-- the bytes of the members' names, one behind the other, behind these
abbrev pub names_behind : List ℕ → List PlainMember → List ℕ
names_behind front [] = front
names_behind front (m ∷ ms) = names_behind (front ++ m.name) ms

-- what a struct is found by: equal structs have the same
abbrev pub struct_key : PlainStruct → List ℕ
struct_key s = names_behind s.tag s.members

abbrev pub same_at : PlainStruct → Option PlainStruct → Bool
same_at s None = false
same_at s (Some t) = same_struct s t

-- the first of these places of a list at which the same struct stands
abbrev pub found_in : List PlainStruct → List ℕ → PlainStruct → Option ℕ
found_in ts [] s = None
found_in ts (i ∷ places) s = if same_at s (slice_get ts i) then Some i else found_in ts places s

-- the places of structs by their key
abbrev pub Places : Type 0
Places = List (Listed ℕ × Listed ℕ)

abbrev pub those_of : Option (Listed ℕ) → List ℕ
those_of None = []
those_of (Some places) = places.items

-- the places of a key, of which there are none where the table has it not
abbrev pub places_of : List ℕ → Places → List ℕ
places_of key es = those_of (lookup (λ k. bytes_eq key k.items) es)

-- at these places each struct that has a key is found, where it stands in the list
pub record Finds (key : List ℕ) (places : List ℕ) (ts : List PlainStruct) : Type 0 where
  pub found : (s : PlainStruct) → struct_key s ≡ key → found_in ts places s ≡ struct_place s ts
  pub below : AllByRecursion (λ i. i < length ts) places

abbrev pub AreFound : List PlainStruct → Places → Type 0
AreFound ts es = (key : List ℕ) → Finds key (places_of key es) ts

-- the places of one table are those of another
abbrev pub KeepsPlaces : Places → Places → Type 0
KeepsPlaces es new = (key : List ℕ) → places_of key new ≡ places_of key es

-- these are the places of a key, and those of other keys are as before
abbrev pub Puts : List ℕ → List ℕ → Places → Places → Type 0
Puts key places es new = (k : List ℕ) → places_of k new ≡ (if bytes_eq key k then places else places_of k es)

-- one place more stands at the end of those of its key
abbrev pub AddsTo : List ℕ → ℕ → Places → Places → Type 0
AddsTo key place es new = Puts key (places_of key es ++ place ∷ []) es new
