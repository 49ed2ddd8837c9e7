-- What is told of specifiers breaks a constraint there, and the other way round.
use Rattle.std.proofs.Common.{◌≡◌, ℕ, Bool, true, false, ◌&&◌, ◌||◌, not, List, [], ◌∷◌, refl, inl, inr}
use Rattle.std.specs.Prelude.{◌⊎◌, ◌↔◌, Option, Some, None}
use Rattle.std.specs.Bool.{Decides}
use Rattle.std.proofs.lemmas.Bool.{false≢true, true≢false}
use Rattle.std.proofs.lemmas.Bool.Decides.{Decides-not, Decides-and, Decides-or}
use Rattle.ec_grammar.specs.declared.Spot.{Spot}
use Rattle.ec_grammar.specs.declared.token.WordKind.{WordKind}
use Rattle.ec_grammar.specs.Trees.{Spec, word_spec, struct_spec, Specs, specs, identifier}
use Rattle.ec_check_operands.specs.declared.faults.Fault.{Fault}
use Rattle.ec_check_operands.specs.Faults.{Judgement}
use Rattle.ec_check_operands.specs.Laws.{IsTold}
use Rattle.ec_check_names.specs.declared.qualifiers.Qualities.{Qualities}
use Rattle.ec_check_names.specs.declared.qualifiers.SpaceWord.{SpaceWord}
use Rattle.ec_check_names.specs.declared.specifiers.Specified.{Specified}
use Rattle.ec_check_names.specs.Firsts.{first_specs}
use Rattle.ec_check_names.specs.Qualifiers.{space_word, first_space, with_quality, unqualified}
use Rattle.ec_check_names.specs.Specifiers.{storages_of, no_storage, specified, specified_from, with_spec}
use Rattle.ec_check_names.specs.Specifiers.{nothing_said, names_type}
use Rattle.ec_check_names.specs.Specifiers.{more_spec_rules, breaks_type_words, specs_rules}
use Rattle.ec_check_names.specs.Words.{is_never, is_at_most_once}
use Rattle.ec_check_names.specs.Tables.{at_name}
use Rattle.ec_check_names.specs.Tags.{Tags, state_by, is_undefined}
use Rattle.ec_check_parts.specs.Words.{words_from, words_among, IsStorageWord, HasOne, HasTwo}
use Rattle.ec_check_parts.specs.TypeWords.{NameType}
use Rattle.ec_check_parts.specs.Specifiers.{UseNoTag, BreakSpecifiers, no_type, two_storage_words, storage_word}
use Rattle.ec_check_parts.specs.Specifiers.{no_tag, qualified}
use Rattle.ec_check_parts.specs.Laws.{SpecifiersAreJudged}
use Rattle.ec_check_parts.proofs.Qualifiers.{AreBroken, second, flash, broken_later, broken_here, told_here, IsConstWith, SaysConst}
use Rattle.ec_check_parts.proofs.Qualifiers.{const_step, says_const, list_broken, broken_list, qualifiers_judged}
use Rattle.ec_check_parts.proofs.Storages.{two_told, one_told}
use Rattle.ec_check_parts.proofs.TypeWords.{type_told}

-- ---- tags

undefined_told : (o : Option (Option ℕ)) → Decides (is_undefined (state_by o)) (o ≡ None)
undefined_told None = (λ e. refl, λ e. refl)
undefined_told (Some None) = (λ e. absurd (false≢true e), λ e. cc)
undefined_told (Some (Some i)) = (λ e. absurd (false≢true e), λ e. cc)

-- ---- each specifier

-- what is told of specifiers from one on
data AreTold (tags : Tags) (before : Option SpaceWord) (konst : Bool) (xs : List Spec) (f : Fault) : Type 0 where
  word : AreBroken before konst (words_from xs) f → AreTold tags before konst xs f
  tag : f.rule ≡ 10 → UseNoTag tags xs f.at → AreTold tags before konst xs f

word_later : (tags : Tags) (before : Option SpaceWord) (konst : Bool) (spot : Spot) (k : WordKind) (xs : List Spec) (f : Fault)
    → AreTold tags (first_space before spot.index (space_word k)) konst xs f → AreTold tags before konst (word_spec spot k ∷ xs) f
word_later tags before konst spot k xs f (word b) = word (broken_later before konst spot.index k (words_from xs) f b)
word_later tags before konst spot k xs f (tag r h) = tag r h

module _ (tags : Tags) (konst : Bool) where
  more_told : (q : Qualities) (xs : List Spec) (rest : List Judgement) (f : Fault) → IsTold (more_spec_rules tags q konst xs rest) f
      → AreTold tags q.space konst xs f ⊎ IsTold rest f
  more_told q [] rest f h = inr h
  more_told q (struct_spec spot (identifier at n) ∷ xs) rest f (inl (b, a, r)) =
      inl (tag r (inl ((undefined_told (at_name n tags)).0 b, a)))
  more_told q (struct_spec spot (identifier at n) ∷ xs) rest f (inr h) = further (more_told q xs rest f h)
    where
      further : AreTold tags q.space konst xs f ⊎ IsTold rest f
          → AreTold tags q.space konst (struct_spec spot (identifier at n) ∷ xs) f ⊎ IsTold rest f
      further (inl (word b)) = inl (word b)
      further (inl (tag r t)) = inl (tag r (inr t))
      further (inr t) = inr t
  more_told q (word_spec spot k ∷ xs) rest f h =
      behind
      (broken_here q.space konst spot.index k (words_from xs) (more_spec_rules tags (with_quality q spot.index k) konst xs rest) f h)
      (λ t. more_told (with_quality q spot.index k) xs rest f t)
    where
      more : AreTold tags (first_space q.space spot.index (space_word k)) konst xs f ⊎ IsTold rest f
          → AreTold tags q.space konst (word_spec spot k ∷ xs) f ⊎ IsTold rest f
      more (inl b) = inl (word_later tags q.space konst spot k xs f b)
      more (inr t) = inr t

      behind : AreBroken q.space konst (words_from (word_spec spot k ∷ xs)) f
          ⊎ IsTold (more_spec_rules tags (with_quality q spot.index k) konst xs rest) f
          → (IsTold (more_spec_rules tags (with_quality q spot.index k) konst xs rest) f
          → AreTold tags (first_space q.space spot.index (space_word k)) konst xs f ⊎ IsTold rest f)
          → AreTold tags q.space konst (word_spec spot k ∷ xs) f ⊎ IsTold rest f
      behind (inl b) go = inl (word b)
      behind (inr t) go = more (go t)

  rest_told : (q : Qualities) (xs : List Spec) (rest : List Judgement) (f : Fault) → IsTold rest f
      → IsTold (more_spec_rules tags q konst xs rest) f
  rest_told q [] rest f h = h
  rest_told q (struct_spec spot (identifier at n) ∷ xs) rest f h = inr (rest_told q xs rest f h)
  rest_told q (word_spec spot k ∷ xs) rest f h = inr (inr (rest_told (with_quality q spot.index k) xs rest f h))

  tag_told : (q : Qualities) (xs : List Spec) (rest : List Judgement) (f : Fault) → f.rule ≡ 10 → UseNoTag tags xs f.at
      → IsTold (more_spec_rules tags q konst xs rest) f
  tag_told q [] rest f r h = absurd h
  tag_told q (struct_spec spot (identifier at n) ∷ xs) rest f r (inl (e, a)) = inl ((undefined_told (at_name n tags)).1 e, a, r)
  tag_told q (struct_spec spot (identifier at n) ∷ xs) rest f r (inr h) = inr (tag_told q xs rest f r h)
  tag_told q (word_spec spot k ∷ xs) rest f r h = inr (inr (tag_told (with_quality q spot.index k) xs rest f r h))

  word_told : (q : Qualities) (xs : List Spec) (rest : List Judgement) (f : Fault) → AreBroken q.space konst (words_from xs) f
      → IsTold (more_spec_rules tags q konst xs rest) f
  word_told q [] rest f h = absurd (nothing q.space h)
    where
      nothing : (before : Option SpaceWord) → AreBroken before konst [] f → ⊥
      nothing None (second r h) = h
      nothing (Some s) (second r h) = h
      nothing before (flash r c h) = h
  word_told q (struct_spec spot (identifier at n) ∷ xs) rest f h = inr (word_told q xs rest f h)
  word_told q (word_spec spot k ∷ xs) rest f h =
      told_here q.space konst spot.index k (words_from xs) (more_spec_rules tags (with_quality q spot.index k) konst xs rest) f
      (λ b. word_told (with_quality q spot.index k) xs rest f b) h

-- ---- const

const_from : (tags : Tags) (s : Specified) (xs : List Spec)
    → Decides (specified_from tags s xs).qualities.konst (IsConstWith s.qualities.konst (words_from xs))
const_from tags s [] = (λ e. inl e, back)
  where
    back : IsConstWith s.qualities.konst [] → s.qualities.konst ≡ true
    back (inl e) = e
    back (inr h) = absurd h
const_from tags s (struct_spec spot (identifier at n) ∷ xs) = const_from tags (with_spec tags s (struct_spec spot (identifier at n))) xs
const_from tags s (word_spec spot k ∷ xs) =
    const_step s.qualities spot.index k (words_from xs) (specified_from tags (with_spec tags s (word_spec spot k)) xs).qualities.konst
    (const_from tags (with_spec tags s (word_spec spot k)) xs)

pub says : (tags : Tags) (ss : Specs) → SaysConst (specified tags ss).qualities.konst (words_among ss)
says tags (specs first more) =
    says_const (specified tags (specs first more)).qualities.konst (words_from (first ∷ more)) (const_from tags nothing_said (first ∷ more))

-- ---- the type words

-- what breaks 1
abbrev BreakTypes : Tags → Bool → Specs → Type 0
BreakTypes tags may ss =
    ((¬ NameType ss) ⊎ HasTwo IsStorageWord (words_among ss)) ⊎ ((may ≡ false) × HasOne IsStorageWord (words_among ss))

is_unset : (b : Bool) → Decides (not b) (b ≡ false)
is_unset true = (λ e. absurd (false≢true e), λ e. absurd (true≢false e))
is_unset false = (λ e. refl, λ e. refl)

types_told : (tags : Tags) (may : Bool) (ss : Specs)
    → Decides (breaks_type_words may (specified tags ss).types (storages_of ss)) (BreakTypes tags may ss)
types_told tags may (specs first more) =
    let ss = specs first more in
    let t = (specified tags ss).types in
    let s = storages_of ss in
    let one = not (is_never s.times) in
    Decides-or (not (names_type t) || not (is_at_most_once s.times)) (not may && one)
    (Decides-or (not (names_type t)) (not (is_at_most_once s.times)) (Decides-not (names_type t) (type_told tags ss))
    (two_told no_storage (first ∷ more)))
    (Decides-and (not may) one (is_unset may) (one_told no_storage (first ∷ more)))

-- ---- all of them

module _ (tags : Tags) (may : Bool) (ss : Specs) (f : Fault) where
  type_broken : f.rule ≡ 1 → f.at ≡ first_specs ss → BreakTypes tags may ss → BreakSpecifiers tags may ss f
  type_broken r a (inl (inl n)) = no_type r a n
  type_broken r a (inl (inr h)) = two_storage_words r a h
  type_broken r a (inr (m, h)) = storage_word r a m h

specifiers_told : (tags : Tags) (may : Bool) (ss : Specs) (rest : List Judgement) (f : Fault) → IsTold (specs_rules tags may ss rest) f
    → BreakSpecifiers tags may ss f ⊎ IsTold rest f
specifiers_told tags may (specs first more) rest f (inl (b, a, r)) =
    inl (type_broken tags may (specs first more) f r a ((types_told tags may (specs first more)).0 b))
specifiers_told tags may (specs first more) rest f (inr h) =
    further (more_told tags (specified tags (specs first more)).qualities.konst unqualified (first ∷ more) rest f h)
  where
    further : AreTold tags None (specified tags (specs first more)).qualities.konst (first ∷ more) f ⊎ IsTold rest f
        → BreakSpecifiers tags may (specs first more) f ⊎ IsTold rest f
    further (inl (tag r t)) = inl (no_tag r t)
    further (inl (word b)) =
        inl (qualified (list_broken (specified tags (specs first more)).qualities.konst (words_from (first ∷ more)) f
        (says tags (specs first more)) b))
    further (inr t) = inr t

specifiers_broken : (tags : Tags) (may : Bool) (ss : Specs) (rest : List Judgement) (f : Fault) → BreakSpecifiers tags may ss f
    → IsTold (specs_rules tags may ss rest) f
specifiers_broken tags may (specs first more) rest f (no_type r a n) =
    inl ((types_told tags may (specs first more)).1 (inl (inl n)), a, r)
specifiers_broken tags may (specs first more) rest f (two_storage_words r a h) =
    inl ((types_told tags may (specs first more)).1 (inl (inr h)), a, r)
specifiers_broken tags may (specs first more) rest f (storage_word r a m h) =
    inl ((types_told tags may (specs first more)).1 (inr (m, h)), a, r)
specifiers_broken tags may (specs first more) rest f (no_tag r h) =
    inr (tag_told tags (specified tags (specs first more)).qualities.konst unqualified (first ∷ more) rest f r h)
specifiers_broken tags may (specs first more) rest f (qualified b) =
    let konst = (specified tags (specs first more)).qualities.konst in
    inr (word_told tags konst unqualified (first ∷ more) rest f
    (broken_list konst (words_from (first ∷ more)) f (says tags (specs first more)) b))

specifiers_rest : (tags : Tags) (may : Bool) (ss : Specs) (rest : List Judgement) (f : Fault) → IsTold rest f
    → IsTold (specs_rules tags may ss rest) f
specifiers_rest tags may (specs first more) rest f h =
    inr (rest_told tags (specified tags (specs first more)).qualities.konst unqualified (first ∷ more) rest f h)

pub specifiers_are_judged : SpecifiersAreJudged
specifiers_are_judged = record {
  qualifiers = qualifiers_judged;
  specifiers = λ tags may ss rest f. (specifiers_told tags may ss rest f, back tags may ss rest f);
}
  where
    back : (tags : Tags) (may : Bool) (ss : Specs) (rest : List Judgement) (f : Fault) → BreakSpecifiers tags may ss f ⊎ IsTold rest f
        → IsTold (specs_rules tags may ss rest) f
    back tags may ss rest f (inl b) = specifiers_broken tags may ss rest f b
    back tags may ss rest f (inr t) = specifiers_rest tags may ss rest f t

-- where nothing follows them
pub specifiers_alone : (tags : Tags) (may : Bool) (ss : Specs) (f : Fault) → IsTold (specs_rules tags may ss []) f
    ↔ BreakSpecifiers tags may ss f
specifiers_alone tags may ss f = (λ h. there (specifiers_told tags may ss [] f h), λ b. specifiers_broken tags may ss [] f b)
  where
    there : BreakSpecifiers tags may ss f ⊎ ⊥ → BreakSpecifiers tags may ss f
    there (inl b) = b
    there (inr h) = absurd h
