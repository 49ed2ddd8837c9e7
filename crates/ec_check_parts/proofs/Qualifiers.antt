-- What is told of a list of qualifiers breaks a constraint there, and the other way round.
use Rattle.std.proofs.Common.{◌≡◌, ◌∙◌, ℕ, Bool, true, false, ◌&&◌, ◌||◌, not, List, [], ◌∷◌, refl, sym, inl, inr}
use Rattle.std.specs.Prelude.{◌⊎◌, is_some, Option, Some, None}
use Rattle.std.specs.Bool.{Decides}
use Rattle.std.proofs.lemmas.Bool.{false≢true, true≢false, not-true, not_from_false}
use Rattle.ec_space.specs.declared.space.SpaceId.{SpaceId}
use Rattle.ec_grammar.specs.declared.Qualifier.{Qualifier}
use Rattle.ec_grammar.specs.declared.token.WordKind.{WordKind}
use Rattle.ec_check_operands.specs.declared.faults.Fault.{Fault}
use Rattle.ec_check_operands.specs.Faults.{Judgement}
use Rattle.ec_check_operands.specs.Laws.{IsTold}
use Rattle.ec_check_names.specs.declared.qualifiers.Qualities.{Qualities}
use Rattle.ec_check_names.specs.declared.qualifiers.SpaceWord.{SpaceWord}
use Rattle.ec_check_names.specs.Qualifiers.{space_word, is_const_word, is_flash_word, first_space, with_quality, qualities_from}
use Rattle.ec_check_names.specs.Qualifiers.{qualities_of}
use Rattle.ec_check_names.specs.Qualifiers.{unqualified, quality_rules, qualifier_rules_from, qualifier_rules}
use Rattle.ec_check_parts.specs.Words.{Word, words_of, IsSpaceWord, IsFlashWord, IsConstWord, HasOne, HasAt, HasSecondAt}
use Rattle.ec_check_parts.specs.Specifiers.{BreakQualifiers, second_space, flash_not_const}
use Rattle.ec_check_parts.specs.Laws.{Tell}
use Rattle.ec_check_parts.proofs.Tests.{space_told, flash_told, const_told}

-- ---- tests

pub from_and : (a b : Bool) → (a && b) ≡ true → (a ≡ true) × (b ≡ true)
from_and true true e = (refl, refl)
from_and true false e = absurd (false≢true e)
from_and false b e = absurd (false≢true e)

pub and_of : (a b : Bool) → a ≡ true → b ≡ true → (a && b) ≡ true
and_of true true e f = refl
and_of true false e f = f
and_of false b e f = e

-- ---- second spaces

-- a space stands there, and one before it, where the words before told one or none
abbrev pub IsSecond : Option SpaceWord → List Word → (at : ℕ) → Type 0
IsSecond None ws at = HasSecondAt IsSpaceWord ws at
IsSecond (Some s) ws at = HasAt IsSpaceWord ws at

pub any_second : (before : Option SpaceWord) (ws : List Word) (at : ℕ) → HasSecondAt IsSpaceWord ws at → HasAt IsSpaceWord ws at
any_second before [] at h = h
any_second before (w ∷ ws) at (inl (p, h)) = inr h
any_second before (w ∷ ws) at (inr h) = inr (any_second before ws at h)

-- what the next word tells
pub second_here : (before : Option SpaceWord) (at : ℕ) (k : WordKind) (ws : List Word) (t : ℕ)
    → (is_some before && is_some (space_word k)) ≡ true → t ≡ at → IsSecond before (record { at = at; kind = k } ∷ ws) t
second_here None at k ws t b e = absurd (false≢true b)
second_here (Some s) at k ws t b e = inl ((space_told k).0 b, e)

pub second_later : (before : Option SpaceWord) (at : ℕ) (k : WordKind) (ws : List Word) (t : ℕ)
    → IsSecond (first_space before at (space_word k)) ws t → IsSecond before (record { at = at; kind = k } ∷ ws) t
second_later (Some s) at k ws t h = inr h
second_later None at k ws t h = by (space_word k) (space_told k) h
  where
    by : (o : Option SpaceId) → Decides (is_some o) (IsSpaceWord k) → IsSecond (first_space None at o) ws t
        → HasSecondAt IsSpaceWord (record { at = at; kind = k } ∷ ws) t
    by None d h = inr h
    by (Some x) d h = inl (d.0 refl, h)

-- and the other way round: at the next word, or behind it
pub second_of : (before : Option SpaceWord) (at : ℕ) (k : WordKind) (ws : List Word) (t : ℕ)
    → IsSecond before (record { at = at; kind = k } ∷ ws) t
    → (((is_some before && is_some (space_word k)) ≡ true) × (t ≡ at)) ⊎ IsSecond (first_space before at (space_word k)) ws t
second_of (Some s) at k ws t (inl (p, e)) = inl ((space_told k).1 p, e)
second_of (Some s) at k ws t (inr h) = inr h
second_of None at k ws t h = inr (by (space_word k) (space_told k) h)
  where
    by : (o : Option SpaceId) → Decides (is_some o) (IsSpaceWord k) → HasSecondAt IsSpaceWord (record { at = at; kind = k } ∷ ws) t
        → IsSecond (first_space None at o) ws t
    by None d (inl (p, h)) = absurd (false≢true (d.1 p))
    by None d (inr h) = h
    by (Some x) d (inl (p, h)) = h
    by (Some x) d (inr h) = any_second None ws t h

-- ---- the words of a list

-- what is told of the words of a list from one on, where the whole list has const or not
pub data AreBroken (before : Option SpaceWord) (konst : Bool) (ws : List Word) (f : Fault) : Type 0 where
  second : f.rule ≡ 2 → IsSecond before ws f.at → AreBroken before konst ws f
  flash : f.rule ≡ 4 → konst ≡ false → HasAt IsFlashWord ws f.at → AreBroken before konst ws f

pub broken_later : (before : Option SpaceWord) (konst : Bool) (at : ℕ) (k : WordKind) (ws : List Word) (f : Fault)
    → AreBroken (first_space before at (space_word k)) konst ws f → AreBroken before konst (record { at = at; kind = k } ∷ ws) f
broken_later before konst at k ws f (second r h) = second r (second_later before at k ws f.at h)
broken_later before konst at k ws f (flash r c h) = flash r c (inr h)

pub broken_here : (before : Option SpaceWord) (konst : Bool) (at : ℕ) (k : WordKind) (ws : List Word) (rest : List Judgement) (f : Fault)
    → IsTold (quality_rules before konst at k rest) f → AreBroken before konst (record { at = at; kind = k } ∷ ws) f ⊎ IsTold rest f
broken_here before konst at k ws rest f (inl (b, a, r)) = inl (second r (second_here before at k ws f.at b a))
broken_here before konst at k ws rest f (inr (inl (b, a, r))) =
    let c = from_and (is_flash_word k) (not konst) b in
    inl (flash r (not-true konst c.1) (inl ((flash_told k).0 c.0, a)))
broken_here before konst at k ws rest f (inr (inr h)) = inr h

pub told_here : (before : Option SpaceWord) (konst : Bool) (at : ℕ) (k : WordKind) (ws : List Word) (rest : List Judgement) (f : Fault)
    → (AreBroken (first_space before at (space_word k)) konst ws f → IsTold rest f)
    → AreBroken before konst (record { at = at; kind = k } ∷ ws) f → IsTold (quality_rules before konst at k rest) f
told_here before konst at k ws rest f later (second r h) = by (second_of before at k ws f.at h)
  where
    by : (((is_some before && is_some (space_word k)) ≡ true) × (f.at ≡ at)) ⊎ IsSecond (first_space before at (space_word k)) ws f.at
        → IsTold (quality_rules before konst at k rest) f
    by (inl (b, a)) = inl (b, a, r)
    by (inr s) = inr (inr (later (second r s)))
told_here before konst at k ws rest f later (flash r c (inl (p, a))) =
    inr (inl (and_of (is_flash_word k) (not konst) ((flash_told k).1 p) (not_from_false konst c), a, r))
told_here before konst at k ws rest f later (flash r c (inr h)) = inr (inr (later (flash r c h)))

-- ---- const

-- the words say const exactly where one of them is const
abbrev pub SaysConst : (konst : Bool) → List Word → Type 0
SaysConst konst ws = Decides konst (HasOne IsConstWord ws)

-- const is said before some words, or by one of them
abbrev pub IsConstWith : (konst : Bool) → List Word → Type 0
IsConstWith konst ws = (konst ≡ true) ⊎ HasOne IsConstWord ws

pub const_step : (q : Qualities) (at : ℕ) (k : WordKind) (ws : List Word) (b : Bool)
    → Decides b (IsConstWith (q.konst || is_const_word k) ws) → Decides b (IsConstWith q.konst (record { at = at; kind = k } ∷ ws))
const_step q at k ws b d =
    (λ e. there q.konst (is_const_word k) (const_told k) (d.0 e), λ h. d.1 (back q.konst (is_const_word k) (const_told k) h))
  where
    there : (c s : Bool) → Decides s (IsConstWord k) → IsConstWith (c || s) ws → IsConstWith c (record { at = at; kind = k } ∷ ws)
    there true s d h = inl refl
    there false true d h = inr (inl (d.0 refl))
    there false false d (inl e) = absurd (false≢true e)
    there false false d (inr h) = inr (inr h)

    back : (c s : Bool) → Decides s (IsConstWord k) → IsConstWith c (record { at = at; kind = k } ∷ ws) → IsConstWith (c || s) ws
    back true s d h = inl refl
    back false s d (inl e) = absurd (false≢true e)
    back false s d (inr (inl p)) = inl (d.1 p)
    back false s d (inr (inr h)) = inr h

const_of : (q : Qualities) (qs : List Qualifier) → Decides (qualities_from q qs).konst (IsConstWith q.konst (words_of qs))
const_of q [] = (λ e. inl e, back)
  where
    back : IsConstWith q.konst [] → q.konst ≡ true
    back (inl e) = e
    back (inr h) = absurd h
const_of q (x ∷ xs) =
    const_step q x.spot.index x.word (words_of xs) (qualities_from (with_quality q x.spot.index x.word) xs).konst
    (const_of (with_quality q x.spot.index x.word) xs)

-- where nothing is said before
pub says_const : (b : Bool) (ws : List Word) → Decides b (IsConstWith false ws) → SaysConst b ws
says_const b ws d = (λ e. there (d.0 e), λ h. d.1 (inr h))
  where
    there : IsConstWith false ws → HasOne IsConstWord ws
    there (inl e) = absurd (false≢true e)
    there (inr h) = h

-- ---- a star's qualifiers

from_told : (konst : Bool) (q : Qualities) (qs : List Qualifier) (rest : List Judgement) (f : Fault)
    → IsTold (qualifier_rules_from konst q qs rest) f → AreBroken q.space konst (words_of qs) f ⊎ IsTold rest f
from_told konst q [] rest f h = inr h
from_told konst q (x ∷ xs) rest f h =
    behind
    (broken_here q.space konst x.spot.index x.word (words_of xs)
    (qualifier_rules_from konst (with_quality q x.spot.index x.word) xs rest) f h)
    (λ t. from_told konst (with_quality q x.spot.index x.word) xs rest f t)
  where
    more : AreBroken (first_space q.space x.spot.index (space_word x.word)) konst (words_of xs) f ⊎ IsTold rest f
        → AreBroken q.space konst (words_of (x ∷ xs)) f ⊎ IsTold rest f
    more (inl b) = inl (broken_later q.space konst x.spot.index x.word (words_of xs) f b)
    more (inr t) = inr t

    behind : AreBroken q.space konst (words_of (x ∷ xs)) f
        ⊎ IsTold (qualifier_rules_from konst (with_quality q x.spot.index x.word) xs rest) f
        → (IsTold (qualifier_rules_from konst (with_quality q x.spot.index x.word) xs rest) f
        → AreBroken (first_space q.space x.spot.index (space_word x.word)) konst (words_of xs) f ⊎ IsTold rest f)
        → AreBroken q.space konst (words_of (x ∷ xs)) f ⊎ IsTold rest f
    behind (inl b) go = inl b
    behind (inr t) go = more (go t)

rest_told : (konst : Bool) (q : Qualities) (qs : List Qualifier) (rest : List Judgement) (f : Fault) → IsTold rest f
    → IsTold (qualifier_rules_from konst q qs rest) f
rest_told konst q [] rest f h = h
rest_told konst q (x ∷ xs) rest f h = inr (inr (rest_told konst (with_quality q x.spot.index x.word) xs rest f h))

told_from : (konst : Bool) (q : Qualities) (qs : List Qualifier) (rest : List Judgement) (f : Fault)
    → AreBroken q.space konst (words_of qs) f → IsTold (qualifier_rules_from konst q qs rest) f
told_from konst q [] rest f h = absurd (nothing q.space h)
  where
    nothing : (before : Option SpaceWord) → AreBroken before konst [] f → ⊥
    nothing None (second r h) = h
    nothing (Some s) (second r h) = h
    nothing before (flash r c h) = h
told_from konst q (x ∷ xs) rest f h =
    told_here q.space konst x.spot.index x.word (words_of xs)
    (qualifier_rules_from konst (with_quality q x.spot.index x.word) xs rest) f
    (λ b. told_from konst (with_quality q x.spot.index x.word) xs rest f b) h

-- a list that has const where it has the word
pub list_broken : (konst : Bool) (ws : List Word) (f : Fault) → SaysConst konst ws → AreBroken None konst ws f → BreakQualifiers ws f
list_broken konst ws f says (second r h) = second_space r h
list_broken konst ws f says (flash r c h) = flash_not_const r h (λ one. true≢false (sym (says.1 one) ∙ c))

pub broken_list : (konst : Bool) (ws : List Word) (f : Fault) → SaysConst konst ws → BreakQualifiers ws f → AreBroken None konst ws f
broken_list konst ws f says (second_space r h) = second r h
broken_list konst ws f says (flash_not_const r h n) = flash r (unset konst says) h
  where
    unset : (b : Bool) → SaysConst b ws → b ≡ false
    unset true s = absurd (n (s.0 refl))
    unset false s = refl

pub qualifiers_judged : (qs : List Qualifier) → Tell (qualifier_rules qs) (BreakQualifiers (words_of qs))
qualifiers_judged qs rest f =
    let konst = (qualities_of qs).konst in
    let says = says_const konst (words_of qs) (const_of unqualified qs) in
    (there konst says (λ h. from_told konst unqualified qs rest f h), back konst says)
  where
    there : (konst : Bool) → SaysConst konst (words_of qs)
        → (IsTold (qualifier_rules_from konst unqualified qs rest) f → AreBroken None konst (words_of qs) f ⊎ IsTold rest f)
        → IsTold (qualifier_rules_from konst unqualified qs rest) f → BreakQualifiers (words_of qs) f ⊎ IsTold rest f
    there konst says go h = one (go h)
      where
        one : AreBroken None konst (words_of qs) f ⊎ IsTold rest f → BreakQualifiers (words_of qs) f ⊎ IsTold rest f
        one (inl b) = inl (list_broken konst (words_of qs) f says b)
        one (inr t) = inr t

    back : (konst : Bool) → SaysConst konst (words_of qs) → BreakQualifiers (words_of qs) f ⊎ IsTold rest f
        → IsTold (qualifier_rules_from konst unqualified qs rest) f
    back konst says (inl b) = told_from konst unqualified qs rest f (broken_list konst (words_of qs) f says b)
    back konst says (inr t) = rest_told konst unqualified qs rest f t

-- the qualifiers of a star say const where one of them is const
pub star_says : (qs : List Qualifier) → SaysConst (qualities_of qs).konst (words_of qs)
star_says qs = says_const (qualities_of qs).konst (words_of qs) (const_of unqualified qs)
