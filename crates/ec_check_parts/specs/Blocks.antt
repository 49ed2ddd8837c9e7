-- Declarations in blocks, and the constraints on them, in words (ISO/IEC 9899:1999, 6.2.1 and 6.7; that no storage word and no
-- function stands in a block is this project's profile).
use Rattle.std.specs.Prelude.{ℕ, ◌≡◌, ◌⊎◌, true, Option, List, [], ◌∷◌, drop}
use Rattle.ec_grammar.specs.Trees as t
use Rattle.ec_check_operands.specs.declared.faults.Fault.{Fault}
use Rattle.ec_check_names.specs.Names.{Entry, Names}
use Rattle.ec_check_names.specs.Tags.{Tags}
use Rattle.ec_check_expressions.specs.Known.{Known}
use Rattle.ec_check_parts.specs.Words.{words_among, IsStorageWord, HasFirstAt}
use Rattle.ec_check_parts.specs.Specifiers.{BreakSpecifiers}
use Rattle.ec_check_parts.specs.Heads.{block_object}
use Rattle.ec_check_parts.specs.Objects.{BreakObject}
use Rattle.ec_check_parts.specs.Structures.{IsFunction}

pub data BreakBlockSpecifiers (tags : Tags) (ss : t.Specs) (f : Fault) : Type 0 where
  block_specified : BreakSpecifiers tags true ss f → BreakBlockSpecifiers tags ss f
  -- `extern` or `static` stands in a block
  stored_in_block : f.rule ≡ 16 → HasFirstAt IsStorageWord (words_among ss) f.at → BreakBlockSpecifiers tags ss f

-- one of some entries has the name
abbrev pub AreOfName : List ℕ → List Entry → Type 0
AreOfName n [] = ⊥
AreOfName n (e ∷ es) = (e.name ≡ n) ⊎ AreOfName n es

-- a block that began where blocks had so many names declares the name
abbrev pub DeclaresName : (first : ℕ) → List ℕ → Names → Type 0
DeclaresName first n names = AreOfName n (drop first names.inside)

-- the declarator of an object in a block, with its name at a token, in a block that began where blocks had so many names
pub data BreakBlockObject (k : Known) (first : ℕ) (ss : t.Specs) (stars : List t.Star) (at : ℕ) (n : List ℕ) (shape : t.Shape)
    (start : Option t.Start) (f : Fault) : Type 0 where
  block_declared : BreakObject k block_object ss stars at shape start f → BreakBlockObject k first ss stars at n shape start f
  -- its name stands in its scope again
  name_again : f.rule ≡ 5 → f.at ≡ at → DeclaresName first n k.names → BreakBlockObject k first ss stars at n shape start f
  function_in_block : f.rule ≡ 16 → f.at ≡ at → IsFunction shape → BreakBlockObject k first ss stars at n shape start f
