-- The declarations of each name, of all that stand at file scope, and what has to hold of them: what those of a name tell is
-- what all declarations tell of it.
use Rattle.std.specs.Prelude.{◌≡◌, ℕ, ◌-◌, Bool, false, not, ◌&&◌, ◌||◌, if◌then◌else◌, is_some, Option, Some, None}
use Rattle.std.specs.Prelude.{◌==◌, List, [], ◌∷◌, ◌++◌, map, length, slice_get}
use Rattle.std.specs.Str.{bytes_eq}
use Rattle.std.specs.Map.{lookup}
use Rattle.ec_space.specs.Listed.{Listed}
use Rattle.ec_check_names.specs.Definitions.{same_linkage}
use Rattle.ec_check_file_scope.specs.declared.file_names.FileName as file_name
use Rattle.ec_check_file_scope.specs.FileNames.{FileKind, an_object, a_register, a_function, FileName, plain_file_name}
use Rattle.ec_check_file_scope.specs.FileNames.{other_kind, conflicts, earlier_link, is_registered}

-- the groups of a table by name
abbrev pub Groups : Type 0
Groups = List (Listed ℕ × Listed file_name.FileName)

abbrev pub those_of : Option (Listed file_name.FileName) → List FileName
those_of None = []
those_of (Some group) = map plain_file_name group.items

-- the group of a name, which is empty where the table has none
abbrev pub group_of : List ℕ → Groups → List FileName
group_of n es = those_of (lookup (λ k. bytes_eq n k.items) es)

-- the types of a kind are known, and it is none of a named register
abbrev pub is_whole : FileKind → Bool
is_whole (an_object ty konst space) = is_some ty
is_whole (a_register first ty konst) = false
is_whole (a_function returns count params) = is_some returns && is_some params

-- a declaration tells all that another one tells: it is of the same name in the same unit, with the same linkage, kind and
-- types, and it is a definition where the other is one
abbrev pub says_all : FileName → FileName → Bool
says_all e d =
    is_whole e.kind && is_whole d.kind && not (other_kind e.kind d.kind) && bytes_eq e.name d.name && e.unit == d.unit
    && same_linkage e.linkage d.linkage && (e.defines || not d.defines)

abbrev pub says_all_by : Option FileName → FileName → Bool
says_all_by None d = false
says_all_by (Some e) d = says_all e d

-- the last of some declarations tells all that this one tells
abbrev pub ends_told : List FileName → FileName → Bool
ends_told some d = says_all_by (slice_get some (length some - 1)) d

-- what some declarations tell of a name is what all tell of it
pub record TellAll (n : List ℕ) (some all : List FileName) : Type 0 where
  pub conflicting : (d : FileName) → d.name ≡ n → conflicts d some ≡ conflicts d all
  pub linked : (unit : ℕ) → earlier_link n unit some ≡ earlier_link n unit all
  pub registered : is_registered n some ≡ is_registered n all

abbrev pub AreGrouped : List FileName → Groups → Type 0
AreGrouped ds es = (n : List ℕ) → TellAll n (group_of n es) ds

-- the groups of one table are those of another
abbrev pub KeepsGroups : Groups → Groups → Type 0
KeepsGroups es new = (n : List ℕ) → group_of n new ≡ group_of n es

-- these are the group of a name, and the groups of other names are as before
abbrev pub Puts : List ℕ → List FileName → Groups → Groups → Type 0
Puts n some es new = (m : List ℕ) → group_of m new ≡ (if bytes_eq n m then some else group_of m es)

-- one declaration more stands at the end of the group of its name
abbrev pub AddsTo : FileName → Groups → Groups → Type 0
AddsTo d es new = Puts d.name (group_of d.name es ++ d ∷ []) es new

-- groups of declarations are those of one declaration more
abbrev pub TakesNote : FileName → Groups → Groups → Type 0
TakesNote d es new = (ds : List FileName) → AreGrouped ds es → AreGrouped (ds ++ d ∷ []) new
