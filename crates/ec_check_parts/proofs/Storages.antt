-- How often storage words stand among specifiers.
use Rattle.std.proofs.Common.{◌≡◌, ℕ, Bool, true, false, not, List, [], ◌∷◌, refl, inl, inr}
use Rattle.std.specs.Prelude.{⊤, is_some, Option, Some, None}
use Rattle.std.specs.Bool.{Decides}
use Rattle.std.proofs.lemmas.Bool.{false≢true}
use Rattle.ec_grammar.specs.declared.token.WordKind.{WordKind}
use Rattle.ec_grammar.specs.Trees.{Spec, word_spec, struct_spec}
use Rattle.ec_check_names.specs.declared.specifiers.StorageWord.{StorageWord}
use Rattle.ec_check_names.specs.declared.specifiers.Storages.{Storages}
use Rattle.ec_check_names.specs.declared.words.Times.{Times}
use Rattle.ec_check_names.specs.declared.words.Times.TheVariants.{Never, Once, Often}
use Rattle.ec_check_names.specs.Specifiers.{storage_word, with_storage, storages_from}
use Rattle.ec_check_names.specs.Words.{again, is_never, is_at_most_once}
use Rattle.ec_check_parts.specs.Words.{Word, words_from, IsStorageWord, HasOne, HasTwo}
use Rattle.ec_check_parts.proofs.Tests.{storage_told}

-- more than one stands, where so many stood before
abbrev pub IsOften : Times → List Word → Type 0
IsOften Never ws = HasTwo IsStorageWord ws
IsOften Once ws = HasOne IsStorageWord ws
IsOften Often ws = ⊤

-- one stands
abbrev pub IsSome : Times → List Word → Type 0
IsSome Never ws = HasOne IsStorageWord ws
IsSome Once ws = ⊤
IsSome Often ws = ⊤

-- ---- one word more

any_two : (ws : List Word) → HasTwo IsStorageWord ws → HasOne IsStorageWord ws
any_two [] h = h
any_two (w ∷ ws) (inl (p, h)) = inl p
any_two (w ∷ ws) (inr h) = inr (any_two ws h)

often_there : (t : Times) (at : ℕ) (k : WordKind) (ws : List Word) → IsStorageWord k → IsOften (again t) ws
    → IsOften t (record { at = at; kind = k } ∷ ws)
often_there Never at k ws p h = inl (p, h)
often_there Once at k ws p h = inl p
often_there Often at k ws p h = tt

often_back : (t : Times) (at : ℕ) (k : WordKind) (ws : List Word) → IsOften t (record { at = at; kind = k } ∷ ws) → IsOften (again t) ws
often_back Never at k ws (inl (p, h)) = h
often_back Never at k ws (inr h) = any_two ws h
often_back Once at k ws h = tt
often_back Often at k ws h = tt

often_past : (t : Times) (at : ℕ) (k : WordKind) (ws : List Word) → IsOften t ws → IsOften t (record { at = at; kind = k } ∷ ws)
often_past Never at k ws h = inr h
often_past Once at k ws h = inr h
often_past Often at k ws h = tt

often_without : (t : Times) (at : ℕ) (k : WordKind) (ws : List Word) → ¬ IsStorageWord k → IsOften t (record { at = at; kind = k } ∷ ws)
    → IsOften t ws
often_without Never at k ws n (inl (p, h)) = absurd (n p)
often_without Never at k ws n (inr h) = h
often_without Once at k ws n (inl p) = absurd (n p)
often_without Once at k ws n (inr h) = h
often_without Often at k ws n h = tt

some_again : (t : Times) (ws : List Word) → IsSome (again t) ws
some_again Never ws = tt
some_again Once ws = tt
some_again Often ws = tt

some_there : (t : Times) (at : ℕ) (k : WordKind) (ws : List Word) → IsStorageWord k → IsSome t (record { at = at; kind = k } ∷ ws)
some_there Never at k ws p = inl p
some_there Once at k ws p = tt
some_there Often at k ws p = tt

some_past : (t : Times) (at : ℕ) (k : WordKind) (ws : List Word) → IsSome t ws → IsSome t (record { at = at; kind = k } ∷ ws)
some_past Never at k ws h = inr h
some_past Once at k ws h = tt
some_past Often at k ws h = tt

some_without : (t : Times) (at : ℕ) (k : WordKind) (ws : List Word) → ¬ IsStorageWord k → IsSome t (record { at = at; kind = k } ∷ ws)
    → IsSome t ws
some_without Never at k ws n (inl p) = absurd (n p)
some_without Never at k ws n (inr h) = h
some_without Once at k ws n h = tt
some_without Often at k ws n h = tt

-- ---- all words

-- how many stand behind a word
abbrev times_with : Times → Option StorageWord → Times
times_with t None = t
times_with t (Some word) = again t

times_are : (s : Storages) (at : ℕ) (o : Option StorageWord) → (with_storage s at o).times ≡ times_with s.times o
times_are s at None = refl
times_are s at (Some word) = refl

-- a test of how many stand decides what holds of the words, where it decides what holds of none
module _ (P : Times → List Word → Type 0)
    (there : (t : Times) (at : ℕ) (k : WordKind) (ws : List Word) → IsStorageWord k → P (again t) ws
    → P t (record { at = at; kind = k } ∷ ws))
    (back : (t : Times) (at : ℕ) (k : WordKind) (ws : List Word) → IsStorageWord k → P t (record { at = at; kind = k } ∷ ws)
    → P (again t) ws)
    (past : (t : Times) (at : ℕ) (k : WordKind) (ws : List Word) → P t ws → P t (record { at = at; kind = k } ∷ ws))
    (without : (t : Times) (at : ℕ) (k : WordKind) (ws : List Word) → ¬ IsStorageWord k → P t (record { at = at; kind = k } ∷ ws) → P t ws)
    (test : Times → Bool) (none : (t : Times) → Decides (test t) (P t [])) where
  word_decided : (t : Times) (at : ℕ) (k : WordKind) (ws : List Word) (b : Bool) (o : Option StorageWord)
      → Decides (is_some o) (IsStorageWord k)
      → Decides b (P (times_with t o) ws) → Decides b (P t (record { at = at; kind = k } ∷ ws))
  word_decided t at k ws b None d e = (λ q. past t at k ws (e.0 q), λ h. e.1 (without t at k ws (λ p. false≢true (d.1 p)) h))
  word_decided t at k ws b (Some word) d e = (λ q. there t at k ws (d.0 refl) (e.0 q), λ h. e.1 (back t at k ws (d.0 refl) h))

  pub words_decided : (s : Storages) (xs : List Spec) → Decides (test (storages_from s xs).times) (P s.times (words_from xs))
  words_decided s [] = none s.times
  words_decided s (struct_spec spot tag ∷ xs) = words_decided s xs
  words_decided s (word_spec spot word ∷ xs) =
      word_decided s.times spot.index word (words_from xs) (test (storages_from (with_storage s spot.index (storage_word word)) xs).times)
      (storage_word word) (storage_told word)
      (moved (storage_word word) (times_are s spot.index (storage_word word))
      (words_decided (with_storage s spot.index (storage_word word)) xs))
    where
      moved : (o : Option StorageWord) → (with_storage s spot.index o).times ≡ times_with s.times o
          → Decides (test (storages_from (with_storage s spot.index o) xs).times) (P (with_storage s spot.index o).times (words_from xs))
          → Decides (test (storages_from (with_storage s spot.index o) xs).times) (P (times_with s.times o) (words_from xs))
      moved None e d = d
      moved (Some word) e d = d

yes : {Q : Type 0} → Q → Decides true Q
yes p = (λ e. p, λ h. refl)

no : {Q : Type 0} → ¬ Q → Decides false Q
no n = (λ e. absurd (false≢true e), λ h. absurd (n h))

often_none : (t : Times) → Decides (not (is_at_most_once t)) (IsOften t [])
often_none Never = no (λ h. h)
often_none Once = no (λ h. h)
often_none Often = yes tt

some_none : (t : Times) → Decides (not (is_never t)) (IsSome t [])
some_none Never = no (λ h. h)
some_none Once = yes tt
some_none Often = yes tt

pub two_told : (s : Storages) (xs : List Spec)
    → Decides (not (is_at_most_once (storages_from s xs).times)) (IsOften s.times (words_from xs))
two_told s xs =
    words_decided IsOften often_there (λ t at k ws p h. often_back t at k ws h) often_past often_without
    (λ t. not (is_at_most_once t)) often_none s xs

pub one_told : (s : Storages) (xs : List Spec) → Decides (not (is_never (storages_from s xs).times)) (IsSome s.times (words_from xs))
one_told s xs =
    words_decided IsSome (λ t at k ws p h. some_there t at k ws p) (λ t at k ws p h. some_again t ws) some_past some_without
    (λ t. not (is_never t)) some_none s xs
