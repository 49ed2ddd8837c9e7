-- Where a text defines a function, and what explains that a function reaches itself by calls.
use Rattle.std.specs.Prelude.{ℕ, ◌≡◌, List, [], ◌∷◌, ◌++◌, Contains, Option, Some, None, bytes_eq, codes, if◌then◌else◌}
use Rattle.ec_grammar.specs.declared.Spot.{Spot}
use Rattle.ec_grammar.specs.Tokens.{Placed}
use Rattle.ec_grammar.specs.Trees as t
use Rattle.ec_grammar.specs.Grammar.{Derives}
use Rattle.ec_io.specs.Disk.{Disk}
use Rattle.ec_lex.specs.Text.{Tokens}
use Rattle.ec_where.specs.declared.place.Place.TheVariants.{Token}
use Rattle.ec_where.specs.Located.{Holds, IsExplained}

-- the token of the name, where the part of a unit defines a function of this name
abbrev pub defined_by : List ℕ → t.External → Option ℕ
defined_by name (t.function_item (t.function result (t.identifier spot own) opening given closing body)) =
    if bytes_eq own name then Some spot.index else None
defined_by name other = None

abbrev pub defined_from : Option ℕ → Option ℕ → Option ℕ
defined_from (Some index) later = Some index
defined_from None later = later

-- the token of the name in the first definition of a function of this name
abbrev pub definition_in : List ℕ → List t.External → Option ℕ
definition_in name [] = None
definition_in name (item ∷ items) = defined_from (defined_by name item) (definition_in name items)

-- the text is a unit whose first definition of a function of this name has it as this token
pub record DefinesAt (text name : List ℕ) (index : ℕ) : Type 0 where
  pub list : List Placed
  pub items : List t.External
  pub last : Spot
  pub tokens : Tokens text list
  pub derives : Derives list (t.tree items last)
  pub first : definition_in name items ≡ Some index

abbrev pub recursion_message : List ℕ → List ℕ
recursion_message name =
    codes "the function `" ++ (name ++ codes "` reaches itself by calls, and there is no recursion: write a loop")

-- the text points at the name in the first definition that this file has of a function of this name
pub record IsShownIn (disk : Option Disk) (file name text : List ℕ) : Type 0 where
  pub source : List ℕ
  pub index : ℕ
  pub held : Holds disk file source
  pub defines : DefinesAt source name index
  pub explained : IsExplained file source (Token index) (recursion_message name) text

-- so in one of these files
abbrev pub IsRecursionTold : Option Disk → List (List ℕ) → List ℕ → List ℕ → Type 0
IsRecursionTold disk files name text = (file : List ℕ) × Contains files file × IsShownIn disk file name text
