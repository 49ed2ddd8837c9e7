-- The linkage of a declaration at file scope (ISO/IEC 9899:1999, 6.2.2).
use Rattle.std.specs.Prelude.{ℕ, ◌≡◌, ◌↔◌, ⊤, Bool, true, false, Option, Some, None, List, [], ◌∷◌}
use Rattle.ec_check_names.specs.declared.linkage.Linkage.{Linkage}
use Rattle.ec_check_names.specs.declared.linkage.Linkage.TheVariants.{Internal, External}
use Rattle.ec_check_names.specs.declared.specifiers.StorageWord.{StorageWord}
use Rattle.ec_check_names.specs.declared.specifiers.StorageWord.TheVariants.{Extern, Static}
use Rattle.ec_check_names.specs.Linkage.{linkage_of}
use Rattle.ec_check_file_scope.specs.FileNames.{FileName, earlier_link}

-- a declaration declares the name, in the unit
abbrev pub Declares : (n : List ℕ) → (unit : ℕ) → FileName → Type 0
Declares n unit d = (d.name ≡ n) × (d.unit ≡ unit)

abbrev pub NoneDeclares : (n : List ℕ) → (unit : ℕ) → List FileName → Type 0
NoneDeclares n unit [] = ⊤
NoneDeclares n unit (d ∷ ds) = (¬ Declares n unit d) × NoneDeclares n unit ds

-- of some declarations the last one of the name in the unit has this linkage
pub data IsPrior (n : List ℕ) (unit : ℕ) : List FileName → Linkage → Type 0 where
  last : {d : FileName} {ds : List FileName} → Declares n unit d → NoneDeclares n unit ds → IsPrior n unit (d ∷ ds) d.linkage
  later : {d : FileName} {ds : List FileName} {l : Linkage} → IsPrior n unit ds l → IsPrior n unit (d ∷ ds) l

-- The linkage of a name that is declared in a unit behind these declarations, of an object or of a function, with a storage word or
-- none.
pub data HasLinkage (n : List ℕ) (unit : ℕ) (before : List FileName) : Option StorageWord → (function : Bool) → Linkage → Type 0 where
  -- `static` is internal (3)
  static : {function : Bool} → HasLinkage n unit before (Some Static) function Internal
  -- `extern` has the linkage of the declaration before it, and without one is external (4)
  as_before : {function : Bool} {l : Linkage} → IsPrior n unit before l → HasLinkage n unit before (Some Extern) function l
  first : {function : Bool} → NoneDeclares n unit before → HasLinkage n unit before (Some Extern) function External
  -- a function without a storage word is as if with `extern`, and an object without one is external (5)
  as_extern : {l : Linkage} → HasLinkage n unit before (Some Extern) true l → HasLinkage n unit before None true l
  object : HasLinkage n unit before None false External

-- the linkages of the walk, which are those of the parts that stand in units, are these
abbrev pub LinkagesAreFound : Type 0
LinkagesAreFound =
    (n : List ℕ) (unit : ℕ) (before : List FileName) (word : Option StorageWord) (function : Bool) (l : Linkage)
    → HasLinkage n unit before word function l ↔ linkage_of word function (earlier_link n unit before) ≡ l
