-- What stands before a name, specifiers and stars, in its role; and the constraints on it, in words (ISO/IEC 9899:1999,
-- 6.7.5 and 6.7.6; ISO/IEC TR 18037:2008, 5.1.2).
use Rattle.std.specs.Prelude.{ℕ, ◌≡◌, ◌⊎◌, ⊤, List, [], ◌∷◌}
use Rattle.ec_grammar.specs.Trees.{Specs, Star, star}
use Rattle.ec_core.specs.Plain.{void}
use Rattle.ec_check_operands.specs.declared.faults.Fault.{Fault}
use Rattle.ec_check_names.specs.Tags.{Tags}
use Rattle.ec_check_parts.specs.Words.{words_among, words_of, own_words, IsSpaceWord, IsVoidWord, HasAt, HasFirstAt}
use Rattle.ec_check_parts.specs.Specifiers.{BreakQualifiers}
use Rattle.ec_check_parts.specs.TypeWords.{Name}

-- what is declared: the result is that of a function, wherever it is declared
pub data Role : Type 0 where
  file_object : Role
  block_object : Role
  member : Role
  register_object : Role
  parameter : Role
  result : Role
  type_name : Role

-- a space may qualify an object at file scope itself, and what a type name says
abbrev pub MayHaveSpace : Role → Type 0
MayHaveSpace file_object = ⊤
MayHaveSpace type_name = ⊤
MayHaveSpace role = ⊥

-- the word `void`, where the type words name void
abbrev pub SaysVoid : Tags → Specs → (at : ℕ) → Type 0
SaysVoid tags ss at = Name tags ss void × HasAt IsVoidWord (words_among ss) at

-- a result may be void, and nothing else; no pointer is one to void
abbrev pub MayBeVoid : Role → List Star → Type 0
MayBeVoid result [] = ⊤
MayBeVoid role stars = ⊥

-- the list of one of the stars breaks a constraint
abbrev pub BreakStars : List Star → Fault → Type 0
BreakStars [] f = ⊥
BreakStars (star spot qs ∷ more) f = BreakQualifiers (words_of qs) f ⊎ BreakStars more f

pub data BreakHead (tags : Tags) (role : Role) (ss : Specs) (stars : List Star) (f : Fault) : Type 0 where
  stars_qualified : BreakStars stars f → BreakHead tags role ss stars f
  -- a space qualifies what is declared itself
  misplaced_space : f.rule ≡ 3 → ¬ MayHaveSpace role → HasFirstAt IsSpaceWord (own_words (words_among ss) stars) f.at
      → BreakHead tags role ss stars f
  -- `void` is used other than as a result
  misused_void : f.rule ≡ 7 → ¬ MayBeVoid role stars → SaysVoid tags ss f.at → BreakHead tags role ss stars f
