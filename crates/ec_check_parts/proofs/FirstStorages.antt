-- Where the first storage word of some specifiers stands, and which it is.
use Rattle.std.proofs.Common.{◌≡◌, ℕ, List, [], ◌∷◌, refl, subst, inl, inr}
use Rattle.std.specs.Prelude.{◌↔◌, ⊤, is_some, Option, Some, None}
use Rattle.std.specs.Bool.{Decides}
use Rattle.std.proofs.lemmas.Bool.{false≢true}
use Rattle.ec_grammar.specs.declared.token.WordKind.{WordKind}
use Rattle.ec_grammar.specs.declared.token.WordKind.TheVariants as w
use Rattle.ec_grammar.specs.Trees.{Spec, word_spec, struct_spec, Specs, specs}
use Rattle.ec_check_names.specs.declared.specifiers.Storage.{Storage}
use Rattle.ec_check_names.specs.declared.specifiers.StorageWord.{StorageWord}
use Rattle.ec_check_names.specs.declared.specifiers.StorageWord.TheVariants.{Extern, Static}
use Rattle.ec_check_names.specs.declared.specifiers.Storages.{Storages}
use Rattle.ec_check_names.specs.Specifiers.{storage_word, first_storage, with_storage, storages_from, no_storage, storages_of}
use Rattle.ec_check_parts.specs.Words.{Word, words_from, words_among, IsStorageWord, IsExternWord, HasFirstAt, HasFirstAs}
use Rattle.ec_check_parts.proofs.Tests.{storage_told}

-- the first storage word is so, and stands at the token
abbrev pub IsStored : (StorageWord → Type 0) → Option Storage → (at : ℕ) → Type 0
IsStored R None at = ⊥
IsStored R (Some s) at = R s.word × (at ≡ s.at)

-- the first one with one more behind it
abbrev first_with : Option Storage → ℕ → Option StorageWord → Option Storage
first_with o t None = o
first_with o t (Some word) = first_storage o t word

first_is : (s : Storages) (t : ℕ) (o : Option StorageWord) → (with_storage s t o).first ≡ first_with s.first t o
first_is s t None = refl
first_is s t (Some word) = refl

-- a kind of words, and what it says of storage words
module _ (Q : WordKind → Type 0) (R : StorageWord → Type 0)
    (says : (k : WordKind) (word : StorageWord) → storage_word k ≡ Some word → R word ↔ Q k) where
  -- so of the first of some words, where there was one before or none
  abbrev IsFirst : Option Storage → List Word → (at : ℕ) → Type 0
  IsFirst None ws at = HasFirstAs IsStorageWord Q ws at
  IsFirst (Some s) ws at = R s.word × (at ≡ s.at)

  first_none : (o : Option Storage) (at : ℕ) → IsStored R o at ↔ IsFirst o [] at
  first_none None at = (λ h. h, λ h. h)
  first_none (Some s) at = (λ h. h, λ h. h)

  first_step : (first after : Option Storage) (t : ℕ) (k : WordKind) (ws : List Word) (at : ℕ)
      → IsStored R after at ↔ IsFirst (first_with first t (storage_word k)) ws at
      → IsStored R after at ↔ IsFirst first (record { at = t; kind = k } ∷ ws) at
  first_step first after t k ws at h = by first (storage_word k) (storage_told k) (says k) h
    where
      by : (first : Option Storage) (o : Option StorageWord) → Decides (is_some o) (IsStorageWord k)
          → ((word : StorageWord) → o ≡ Some word → R word ↔ Q k)
          → IsStored R after at ↔ IsFirst (first_with first t o) ws at
          → IsStored R after at ↔ IsFirst first (record { at = t; kind = k } ∷ ws) at
      by (Some s) None d say g = g
      by (Some s) (Some word) d say g = g
      by None None d say g = (λ a. inr (λ p. false≢true (d.1 p), g.0 a), back)
        where
          back : HasFirstAs IsStorageWord Q (record { at = t; kind = k } ∷ ws) at → IsStored R after at
          back (inl (p, q, e)) = absurd (false≢true (d.1 p))
          back (inr (n, h)) = g.1 h
      by None (Some word) d say g = (λ a. let b = g.0 a in inl (d.0 refl, (say word refl).0 b.0, b.1), back)
        where
          back : HasFirstAs IsStorageWord Q (record { at = t; kind = k } ∷ ws) at → IsStored R after at
          back (inl (p, q, e)) = g.1 ((say word refl).1 q, e)
          back (inr (n, h)) = absurd (n (d.0 refl))

  first_from : (s : Storages) (xs : List Spec) (at : ℕ) → IsStored R (storages_from s xs).first at ↔ IsFirst s.first (words_from xs) at
  first_from s [] at = first_none s.first at
  first_from s (struct_spec spot tag ∷ xs) at = first_from s xs at
  first_from s (word_spec spot k ∷ xs) at =
      first_step s.first (storages_from (with_storage s spot.index (storage_word k)) xs).first spot.index k (words_from xs) at
      (subst (λ z. IsStored R (storages_from (with_storage s spot.index (storage_word k)) xs).first at ↔ IsFirst z (words_from xs) at)
      (first_is s spot.index (storage_word k)) (first_from (with_storage s spot.index (storage_word k)) xs at))

  first_among : (ss : Specs) (at : ℕ) → IsStored R (storages_of ss).first at ↔ HasFirstAs IsStorageWord Q (words_among ss) at
  first_among (specs first more) at = first_from no_storage (first ∷ more) at

-- ---- any, and `extern`

abbrev pub AnyWord : StorageWord → Type 0
AnyWord word = ⊤

abbrev pub IsExtern : StorageWord → Type 0
IsExtern Extern = ⊤
IsExtern Static = ⊥

abbrev IsAnyWord : WordKind → Type 0
IsAnyWord k = ⊤

any_there : (ws : List Word) (at : ℕ) → HasFirstAs IsStorageWord IsAnyWord ws at → HasFirstAt IsStorageWord ws at
any_there [] at h = h
any_there (w ∷ ws) at (inl (p, q, e)) = inl (p, e)
any_there (w ∷ ws) at (inr (n, h)) = inr (n, any_there ws at h)

any_back : (ws : List Word) (at : ℕ) → HasFirstAt IsStorageWord ws at → HasFirstAs IsStorageWord IsAnyWord ws at
any_back [] at h = h
any_back (w ∷ ws) at (inl (p, e)) = inl (p, tt, e)
any_back (w ∷ ws) at (inr (n, h)) = inr (n, any_back ws at h)

pub stored_at : (ss : Specs) (at : ℕ) → IsStored AnyWord (storages_of ss).first at ↔ HasFirstAt IsStorageWord (words_among ss) at
stored_at ss at =
    let any = first_among IsAnyWord AnyWord (λ k word e. (λ h. tt, λ h. tt)) ss at in
    (λ h. any_there (words_among ss) at (any.0 h), λ h. any.1 (any_back (words_among ss) at h))

extern_says : (k : WordKind) (word : StorageWord) → storage_word k ≡ Some word → IsExtern word ↔ IsExternWord k
extern_says w.Extern Extern e = (λ h. tt, λ h. tt)
extern_says w.Extern Static e = cc
extern_says w.Static Extern e = cc
extern_says w.Static Static e = (λ h. h, λ h. h)
extern_says k word e = cc

pub extern_at : (ss : Specs) (at : ℕ)
    → IsStored IsExtern (storages_of ss).first at ↔ HasFirstAs IsStorageWord IsExternWord (words_among ss) at
extern_at ss at = first_among IsExternWord IsExtern extern_says ss at
