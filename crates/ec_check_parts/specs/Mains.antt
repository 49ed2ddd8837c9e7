-- The function that a program begins with, in words (ISO/IEC 9899:1999, 5.1.2.2.1).
use Rattle.std.specs.Prelude.{ℕ, ◌≡◌, ◌↔◌, true, Some, List, ◌∷◌}
use Rattle.ec_check_names.specs.declared.linkage.Linkage.TheVariants.{External}
use Rattle.ec_check_names.specs.declared.numbering.Defined.TheVariants.{Function}
use Rattle.ec_check_names.specs.Definitions.{Definition, number_of}
use Rattle.ec_check_parts.specs.FileNames.{main}

-- a definition of a function of the name `main`, which all units see
pub record DefinesMain (d : Definition) : Type 0 where
  pub named : d.name ≡ main
  pub external : d.linkage ≡ External
  pub function : d.kind ≡ Function

-- the first such among some definitions has this number
pub data IsMain : List Definition → ℕ → Type 0 where
  at_first : {d : Definition} {ds : List Definition} → DefinesMain d → IsMain (d ∷ ds) d.number
  behind : {d : Definition} {ds : List Definition} {n : ℕ} → ¬ DefinesMain d → IsMain ds n → IsMain (d ∷ ds) n

-- none is
abbrev pub HasNoMain : List Definition → Type 0
HasNoMain ds = (n : ℕ) → ¬ IsMain ds n

-- the walk finds just that
abbrev pub MainsAreFound : Type 0
MainsAreFound = (ds : List Definition) (n : ℕ) → number_of main 0 External true ds ≡ Some n ↔ IsMain ds n
