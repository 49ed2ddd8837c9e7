-- A store's files by name, the place of reading and the file that is written.
use Rattle.std.specs.Prelude.{ℕ, ◌+◌, List, [], ◌++◌, take, Option, Some, unwrap_or, option_map}
use Rattle.std.specs.Ordering.{nat_cmp}
use Rattle.std.specs.Cmp.Lexicographic.{slice_cmp}
use Rattle.std.specs.FinMap.{FinMap, get, insert}

-- the contents of files by their names
abbrev pub Files : Type 0
Files = FinMap (slice_cmp nat_cmp) (List ℕ)

pub record Disk : Type 0 where
  pub files : Files
  -- the file that is read, and how many of its bytes were read
  pub input : Option (List ℕ × ℕ)
  -- the file that is written
  pub output : Option (List ℕ)

-- what a file holds; nothing where there is none
abbrev pub content : Files → List ℕ → List ℕ
content files name = unwrap_or (get files name) []

-- the part of a name by which a store tells a file: all of it, up to 4,096 bytes, which no name of a system has
abbrev pub known_name : List ℕ → List ℕ
known_name name = take 4096 name

-- the name of the file that is read, if one is
abbrev pub input_name : Disk → Option (List ℕ)
input_name disk = option_map (λ place. known_name place.0) disk.input

-- after the named file was opened
abbrev pub opened : List ℕ → Disk → Disk
opened name disk = record disk { input = Some (name, 0) }

-- after the named file was created
abbrev pub created : List ℕ → Disk → Disk
created name disk = record disk { files = insert disk.files name []; output = Some name }

-- after n bytes were read of the file `place.0` from `place.1` on
abbrev pub read_on : List ℕ × ℕ → ℕ → Disk → Disk
read_on place n disk = record disk { input = Some (place.0, place.1 + n) }

-- with these bytes behind what the file holds
abbrev pub appended : List ℕ → List ℕ → Disk → Disk
appended name bytes disk = record disk { files = insert disk.files name (content disk.files name ++ bytes) }
