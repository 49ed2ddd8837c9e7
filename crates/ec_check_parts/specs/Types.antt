-- The type that stands before a name, in words (ISO/IEC 9899:1999, 6.7.2, 6.7.3 and 6.7.5.1; ISO/IEC TR 18037:2008, 5.1.2): that of
-- the type words, and a pointer by each star to what was said before it.
use Rattle.std.specs.Prelude.{◌≡◌, ◌↔◌, Bool, true, List, [], ◌∷◌}
use Rattle.ec_space.specs.declared.space.SpaceId.{SpaceId}
use Rattle.ec_space.specs.declared.space.SpaceId.TheVariants.{Generic, Flash, FarFlash, Data}
use Rattle.ec_grammar.specs.declared.Qualifier.{Qualifier}
use Rattle.ec_grammar.specs.declared.Spot.{Spot}
use Rattle.ec_grammar.specs.declared.token.WordKind.{WordKind}
use Rattle.ec_grammar.specs.declared.token.WordKind.TheVariants as w
use Rattle.ec_grammar.specs.Trees.{Specs, Star, star}
use Rattle.ec_core.specs.Plain.{PlainType, void, pointer}
use Rattle.ec_check_names.specs.Tags.{Tags}
use Rattle.ec_check_parts.specs.TypeWords.{Name}
use Rattle.ec_check_parts.specs.Words.{Word, words_among, words_of, IsSpaceWord, IsConstWord, HasOne}

-- ---- qualifiers

-- a word names a space
pub data NamesSpace : WordKind → SpaceId → Type 0 where
  flash : NamesSpace w.Flash Flash
  far_flash : NamesSpace w.FarFlash FarFlash
  data_space : NamesSpace w.Data Data

-- the space that words say: that of the first of them that names one, and else the generic one
pub data SaySpace : List Word → SpaceId → Type 0 where
  unsaid : SaySpace [] Generic
  first_word : {x : Word} {ws : List Word} {s : SpaceId} → NamesSpace x.kind s → SaySpace (x ∷ ws) s
  later_word : {x : Word} {ws : List Word} {s : SpaceId} → ¬ IsSpaceWord x.kind → SaySpace ws s → SaySpace (x ∷ ws) s

-- words say const where one of them does
abbrev pub SaysConst : (konst : Bool) → List Word → Type 0
SaysConst konst ws = konst ≡ true ↔ HasOne IsConstWord ws

-- ---- stars

-- the type behind stars, where before them stands a type that these words qualify
pub data Behind : PlainType → List Word → List Star → PlainType → Type 0 where
  no_star : {ty : PlainType} {ws : List Word} → Behind ty ws [] ty
  a_star : {ty to : PlainType} {ws : List Word} {spot : Spot} {qs : List Qualifier} {more : List Star} {space : SpaceId} {konst : Bool}
      → SaySpace ws space → SaysConst konst ws → Behind (pointer space konst ty) (words_of qs) more to
      → Behind ty ws (star spot qs ∷ more) to

-- specifiers and stars say the type, void and pointers to void among them
pub data SayType (tags : Tags) (ss : Specs) (stars : List Star) (ty : PlainType) : Type 0 where
  said : {base : PlainType} → Name tags ss base → Behind base (words_among ss) stars ty → SayType tags ss stars ty

-- they say one that is neither void nor made of it
pub record MeanType (tags : Tags) (ss : Specs) (stars : List Star) (ty : PlainType) : Type 0 where
  pub said : SayType tags ss stars ty
  pub no_void : ¬ Name tags ss void
