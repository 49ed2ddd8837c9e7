-- What the values of a TOML document hold, as far as a map is made of them.
use Rattle.std.specs.Prelude.{ℕ, ℤ, pos, negsuc, nat_le, if◌then◌else◌, List, [], ◌∷◌, map, Option}
use Rattle.std.specs.Prelude.{Some, None, option_map, option_and_then, unwrap_or}
use Rattle.std.specs.Option.{option_map_or}
use Rattle.toml.specs.Data.{Data, table, Items, no_items, item, Members, no_members, member}
use Rattle.toml.specs.Data.{get, at, as_str, as_integer, as_array, as_table}
use Rattle.toml.specs.Parse.{parse_document}

-- the table that a text is read as, where it is a document
abbrev pub document : List ℕ → Option Data
document text = option_map table (parse_document text)

-- ---- arrays

abbrev pub list_of : Items → List Data
list_of no_items = []
list_of (item d ds) = d ∷ list_of ds

-- the values of an array, and of the array at a key
abbrev pub array_of : Data → Option (List Data)
array_of d = option_map list_of (as_array d)

abbrev pub array_at : List ℕ → Data → Option (List Data)
array_at key d = option_and_then array_of (get key d)

-- the same, and no values where there is no array
abbrev pub values_at : List ℕ → Data → List Data
values_at key d = unwrap_or (array_at key d) []

-- ---- tables

-- the keys of a table with their values, by rising bytes of the keys
abbrev pub entries_of : Members → List (List ℕ × Data)
entries_of no_members = []
entries_of (member key d ms) = (key, d) ∷ entries_of ms

-- those of a value that is a table, and none of another
abbrev pub entries : Data → List (List ℕ × Data)
entries d = option_map_or entries_of (as_table d) []

abbrev pub keys : Data → List (List ℕ)
keys d = map (λ e. e.0) (entries d)

-- those of the table at a key
abbrev pub entries_at : List ℕ → Data → List (List ℕ × Data)
entries_at key d = option_map_or entries (get key d) []

-- ---- texts and numbers

abbrev pub text_at : List ℕ → Data → Option (List ℕ)
text_at key d = option_and_then as_str (get key d)

-- an integer from 0 to a limit
abbrev pub bounded : ℕ → ℤ → Option ℕ
bounded limit (pos n) = if nat_le n limit then Some n else None
bounded limit (negsuc n) = None

abbrev pub number_of : ℕ → Data → Option ℕ
number_of limit d = option_and_then (bounded limit) (as_integer d)

abbrev pub number_at : ℕ → List ℕ → Data → Option ℕ
number_at limit key d = option_and_then (number_of limit) (get key d)

-- the value at an index of an array, as a byte, and 0 where there is none
abbrev pub byte_in : ℕ → Data → ℕ
byte_in n d = unwrap_or (option_and_then (number_of 255) (at n d)) 0
