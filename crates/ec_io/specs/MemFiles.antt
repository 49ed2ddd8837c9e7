-- The files of a store in memory.
use Rattle.std.specs.Prelude.{ℕ, ◌≡◌, List, [], ◌∷◌, Bool, true, false, Option, Some, slice_get, option_map, bytes_eq}
use Rattle.std.specs.FinMap.{get, insert, empty}
use Rattle.ec_io.specs.Disk.{Files}
use Rattle.ec_io.specs.declared.mem_file.MemFile.{MemFile}
use Rattle.ec_io.specs.declared.mem_file.Source.{Source}
use Rattle.ec_io.specs.declared.mem_file.Source.TheVariants.{Given, Made}

-- the files of a list, of which the first counts where two have one name
abbrev pub files_of : List MemFile → Files
files_of [] = empty
files_of (f ∷ fs) = insert (files_of fs) f.name.items f.bytes.items

-- with the created file, where it stands
abbrev pub told_files : List MemFile → MemFile → Bool → Files
told_files files made true = insert (files_of files) made.name.items made.bytes.items
told_files files made false = files_of files

-- the name and the bytes of a file
abbrev pub name_of : List MemFile → MemFile → Source → Option (List ℕ)
name_of files made (Given i) = option_map (λ f. f.name.items) (slice_get files i)
name_of files made Made = Some made.name.items

abbrev pub bytes_of : List MemFile → MemFile → Source → Option (List ℕ)
bytes_of files made (Given i) = option_map (λ f. f.bytes.items) (slice_get files i)
bytes_of files made Made = Some made.bytes.items

-- the file at i has the name, and is the one that the name stands for
pub record IsFirst (files : List MemFile) (name : List ℕ) (i : ℕ) : Type 0 where
  pub named : option_map (λ f. f.name.items) (slice_get files i) ≡ Some name
  pub bytes : option_map (λ f. f.bytes.items) (slice_get files i) ≡ get (files_of files) name

-- the source is the first file of this name in the list
abbrev pub IsFound : List MemFile → List ℕ → Source → Type 0
IsFound files name (Given i) = IsFirst files name i
IsFound files name Made = ⊥

-- the source is the file of this name: the created one, or else the first of the list
abbrev pub Names : List MemFile → MemFile → Bool → List ℕ → Source → Type 0
Names files made stands name (Given i) = IsFirst files name i × (bytes_eq name made.name.items ≡ false)
Names files made stands name Made = (stands ≡ true) × (made.name.items ≡ name)
