-- The words of declarations: those among specifiers, and the qualifiers of a star (ISO/IEC 9899:1999, 6.7; ISO/IEC TR
-- 18037:2008, 5.1.2), and where words of a kind stand.
use Rattle.std.specs.Prelude.{ℕ, ◌≡◌, ◌⊎◌, ⊤, List, [], ◌∷◌}
use Rattle.ec_grammar.specs.declared.Qualifier.{Qualifier}
use Rattle.ec_grammar.specs.declared.token.WordKind.{WordKind}
use Rattle.ec_grammar.specs.declared.token.WordKind.TheVariants as w
use Rattle.ec_grammar.specs.Trees.{Spec, word_spec, struct_spec, Specs, specs, Star, star}

-- a word, at its token
pub record Word : Type 0 where
  pub at : ℕ
  pub kind : WordKind

abbrev pub words_from : List Spec → List Word
words_from [] = []
words_from (word_spec spot word ∷ more) = record { at = spot.index; kind = word } ∷ words_from more
words_from (struct_spec spot tag ∷ more) = words_from more

-- the words among specifiers
abbrev pub words_among : Specs → List Word
words_among (specs first more) = words_from (first ∷ more)

-- the words of a star's qualifiers
abbrev pub words_of : List Qualifier → List Word
words_of [] = []
words_of (q ∷ qs) = record { at = q.spot.index; kind = q.word } ∷ words_of qs

-- the words that qualify what is declared itself: those of the last star, or those before the stars where there is none
abbrev pub own_words : List Word → List Star → List Word
own_words ws [] = ws
own_words ws (star spot qs ∷ more) = own_words (words_of qs) more

-- ---- kinds of words

-- the name of a space
abbrev pub IsSpaceWord : WordKind → Type 0
IsSpaceWord w.Flash = ⊤
IsSpaceWord w.FarFlash = ⊤
IsSpaceWord w.Data = ⊤
IsSpaceWord word = ⊥

-- the name of a space that lies in the flash
abbrev pub IsFlashWord : WordKind → Type 0
IsFlashWord w.Flash = ⊤
IsFlashWord w.FarFlash = ⊤
IsFlashWord word = ⊥

abbrev pub IsConstWord : WordKind → Type 0
IsConstWord w.Const = ⊤
IsConstWord word = ⊥

abbrev pub IsStorageWord : WordKind → Type 0
IsStorageWord w.Extern = ⊤
IsStorageWord w.Static = ⊤
IsStorageWord word = ⊥

abbrev pub IsExternWord : WordKind → Type 0
IsExternWord w.Extern = ⊤
IsExternWord word = ⊥

abbrev pub IsVoidWord : WordKind → Type 0
IsVoidWord w.Void = ⊤
IsVoidWord word = ⊥

-- ---- where they stand

-- a word of a kind stands in the list
abbrev pub HasOne : (WordKind → Type 0) → List Word → Type 0
HasOne P [] = ⊥
HasOne P (w ∷ ws) = P w.kind ⊎ HasOne P ws

-- so do two, of whatever words of the kind
abbrev pub HasTwo : (WordKind → Type 0) → List Word → Type 0
HasTwo P [] = ⊥
HasTwo P (w ∷ ws) = (P w.kind × HasOne P ws) ⊎ HasTwo P ws

-- one stands at the token
abbrev pub HasAt : (WordKind → Type 0) → List Word → (at : ℕ) → Type 0
HasAt P [] at = ⊥
HasAt P (w ∷ ws) at = (P w.kind × (at ≡ w.at)) ⊎ HasAt P ws at

-- one stands at the token, and another one before it
abbrev pub HasSecondAt : (WordKind → Type 0) → List Word → (at : ℕ) → Type 0
HasSecondAt P [] at = ⊥
HasSecondAt P (w ∷ ws) at = (P w.kind × HasAt P ws at) ⊎ HasSecondAt P ws at

-- one stands at the token, and no other one before it
abbrev pub HasFirstAt : (WordKind → Type 0) → List Word → (at : ℕ) → Type 0
HasFirstAt P [] at = ⊥
HasFirstAt P (w ∷ ws) at = (P w.kind × (at ≡ w.at)) ⊎ ((¬ P w.kind) × HasFirstAt P ws at)

-- the first one stands at the token, and is of this kind too
abbrev pub HasFirstAs : (P Q : WordKind → Type 0) → List Word → (at : ℕ) → Type 0
HasFirstAs P Q [] at = ⊥
HasFirstAs P Q (w ∷ ws) at = (P w.kind × Q w.kind × (at ≡ w.at)) ⊎ ((¬ P w.kind) × HasFirstAs P Q ws at)
