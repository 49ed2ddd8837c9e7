-- Words in any order are counted as those of their set.
use Rattle.std.proofs.Common.{◌≡◌, ◌∙◌, ◌⊎◌, ℕ, zero, suc, Bool, true, false, ◌&&◌, List, [], ◌∷◌, refl, sym, ap, subst, inl, inr, arith}
use Rattle.std.proofs.lemmas.Bool.{false≢true, true≢false}
use Rattle.ec_core.proofs.Sameness.{and_true}
use Rattle.ec_grammar.specs.declared.token.WordKind.{WordKind}
use Rattle.ec_grammar.specs.declared.token.WordKind.TheVariants as w
use Rattle.ec_grammar.specs.Trees.{Spec, word_spec, struct_spec}
use Rattle.ec_check_names.specs.declared.words.Times.{Times}
use Rattle.ec_check_names.specs.declared.words.Times.TheVariants.{Never, Once, Often}
use Rattle.ec_check_names.specs.declared.words.Words.{Words}
use Rattle.ec_check_names.specs.Words.{again, is_at_most_once, no_words, with_word}
use Rattle.ec_check_parts.specs.TypeWords.{Pick, the_first, a_later, AreWords, no_more, one_more}

-- ---- the words that are counted

abbrev pub is_part : WordKind → Bool
is_part w.Char = true
is_part w.Short = true
is_part w.Int = true
is_part w.Long = true
is_part w.Signed = true
is_part w.Unsigned = true
is_part w.Fract = true
is_part w.Accum = true
is_part w.Sat = true
is_part word = false

abbrev pub are_parts : List WordKind → Bool
are_parts [] = true
are_parts (k ∷ ks) = is_part k && are_parts ks

-- two of them are the same
abbrev is_same : WordKind → WordKind → Bool
is_same w.Char w.Char = true
is_same w.Short w.Short = true
is_same w.Int w.Int = true
is_same w.Long w.Long = true
is_same w.Signed w.Signed = true
is_same w.Unsigned w.Unsigned = true
is_same w.Fract w.Fract = true
is_same w.Accum w.Accum = true
is_same w.Sat w.Sat = true
is_same a b = false

same_words : (a b : WordKind) → is_same a b ≡ true → a ≡ b
same_words w.Char w.Char e = refl
same_words w.Short w.Short e = refl
same_words w.Int w.Int e = refl
same_words w.Long w.Long e = refl
same_words w.Signed w.Signed e = refl
same_words w.Unsigned w.Unsigned e = refl
same_words w.Fract w.Fract e = refl
same_words w.Accum w.Accum e = refl
same_words w.Sat w.Sat e = refl
same_words a b e = absurd (false≢true e)

same_as_itself : (a : WordKind) → is_part a ≡ true → is_same a a ≡ true
same_as_itself w.Char e = refl
same_as_itself w.Short e = refl
same_as_itself w.Int e = refl
same_as_itself w.Long e = refl
same_as_itself w.Signed e = refl
same_as_itself w.Unsigned e = refl
same_as_itself w.Fract e = refl
same_as_itself w.Accum e = refl
same_as_itself w.Sat e = refl
same_as_itself a e = absurd (false≢true e)

other_than_all : (a b : WordKind) → is_part a ≡ false → is_same a b ≡ false
other_than_all w.Char b e = absurd (true≢false e)
other_than_all w.Short b e = absurd (true≢false e)
other_than_all w.Int b e = absurd (true≢false e)
other_than_all w.Long b e = absurd (true≢false e)
other_than_all w.Signed b e = absurd (true≢false e)
other_than_all w.Unsigned b e = absurd (true≢false e)
other_than_all w.Fract b e = absurd (true≢false e)
other_than_all w.Accum b e = absurd (true≢false e)
other_than_all w.Sat b e = absurd (true≢false e)
other_than_all a b e = refl

-- ---- how often they stand

abbrev counted : Bool → ℕ → ℕ
counted true n = suc n
counted false n = n

abbrev pub count : WordKind → List WordKind → ℕ
count k [] = 0
count k (x ∷ xs) = counted (is_same k x) (count k xs)

swapped : (a b : Bool) (n : ℕ) → counted a (counted b n) ≡ counted b (counted a n)
swapped true true n = refl
swapped true false n = refl
swapped false true n = refl
swapped false false n = refl

same_less : (b : Bool) (m n : ℕ) → counted b m ≡ counted b n → m ≡ n
same_less true m n e = omega (arith, e)
same_less false m n e = e

less : (b : Bool) (n : ℕ) → counted b n ≡ 0 → n ≡ 0
less true n e = absurd (omega (arith, e))
less false n e = e

pub uncounted : (j k : WordKind) (ks : List WordKind) → count j (k ∷ ks) ≡ 0 → count j ks ≡ 0
uncounted j k ks e = less (is_same j k) (count j ks) e

nowhere : (k : WordKind) (ks : List WordKind) → is_part k ≡ false → count k ks ≡ 0
nowhere k [] e = refl
nowhere k (x ∷ xs) e = ap (λ b. counted b (count k xs)) (other_than_all k x e) ∙ nowhere k xs e

-- ---- a word of a set

record Picked (k : WordKind) (set : List WordKind) : Type 0 where
  pub left : List WordKind
  pub pick : Pick k set left
  pub counts : (j : WordKind) → count j set ≡ counted (is_same j k) (count j left)

picked_one : (k : WordKind) (set : List WordKind) (n : ℕ) → count k set ≡ suc n → Picked k set
picked_one k [] n e = absurd (omega (arith, e))
picked_one k (x ∷ xs) n e = by (is_same k x) refl e (λ q. picked_one k xs n q)
  where
    by : (b : Bool) → is_same k x ≡ b → counted b (count k xs) ≡ suc n → (count k xs ≡ suc n → Picked k xs) → Picked k (x ∷ xs)
    by true q e go =
        record {
          left = xs;
          pick = subst (λ (z : WordKind). Pick k (z ∷ xs) xs) (same_words k x q) the_first;
          counts = λ j. ap (λ (z : WordKind). counted (is_same j z) (count j xs)) (sym (same_words k x q));
        }
    by false q e go =
        let p = go e in
        record {
          left = x ∷ p.left;
          pick = a_later p.pick;
          counts = λ j. ap (counted (is_same j x)) (p.counts j) ∙ swapped (is_same j x) (is_same j k) (count j p.left);
        }

part_picked : (k : WordKind) (set left : List WordKind) → Pick k set left → are_parts set ≡ true
    → (is_part k ≡ true) × (are_parts left ≡ true)
part_picked _ _ _ (the_first {word = k} {words = ks}) e = and_true (is_part k) (are_parts ks) e
part_picked _ _ _ (a_later {word = k} {other = x} {words = ks} {left = left} p) e =
    let q = and_true (is_part x) (are_parts ks) e in
    let r = part_picked k ks left p q.1 in
    (r.0, both (is_part x) (are_parts left) q.0 r.1)
  where
    both : (a b : Bool) → a ≡ true → b ≡ true → (a && b) ≡ true
    both true b e f = f
    both false b e f = e

-- ---- specifiers in any order

-- the words of specifiers
abbrev pub kinds : List Spec → List WordKind
kinds [] = []
kinds (word_spec spot k ∷ zs) = k ∷ kinds zs
kinds (struct_spec spot tag ∷ zs) = kinds zs

abbrev pub AreOnlyParts : List Spec → Type 0
AreOnlyParts [] = Unit {0}
AreOnlyParts (word_spec spot k ∷ zs) = (is_part k ≡ true) × AreOnlyParts zs
AreOnlyParts (struct_spec spot tag ∷ zs) = ⊥

-- where each word stands as often as in the set, the words are those of the set
pub arranged : (zs : List Spec) (set : List WordKind) → AreOnlyParts zs → are_parts set ≡ true
    → ((j : WordKind) → count j (kinds zs) ≡ count j set) → AreWords set zs
arranged [] [] p q h = no_more
arranged [] (k ∷ ks) p q h =
    absurd (none (h k ∙ ap (λ b. counted b (count k ks)) (same_as_itself k (and_true (is_part k) (are_parts ks) q).0)))
  where
    none : ◌≡◌ {A = ℕ} 0 (suc (count k ks)) → ⊥
    none e = omega (arith, e)
arranged (struct_spec spot tag ∷ zs) set p q h = absurd p
arranged (word_spec spot k ∷ zs) set p q h =
    one_more one.pick
    (arranged zs one.left p.1 (part_picked k set one.left one.pick q).1
    (λ j. same_less (is_same j k) (count j (kinds zs)) (count j one.left) (h j ∙ one.counts j)))
  where
    one : Picked k set
    one =
        picked_one k set (count k (kinds zs)) (sym (h k) ∙ ap (λ b. counted b (count k (kinds zs))) (same_as_itself k p.0))

pub only_parts_of : (set : List WordKind) (zs : List Spec) → AreWords set zs → are_parts set ≡ true → AreOnlyParts zs
only_parts_of _ _ no_more e = tt
only_parts_of _ _ (one_more {word = k} {set = set} {left = left} {more = zs} p a) e =
    let q = part_picked k set left p e in (q.0, only_parts_of left zs a q.1)

-- ---- what the walk counts

abbrev pub words_by : Words → List WordKind → Words
words_by s [] = s
words_by s (k ∷ ks) = words_by (with_word k s) ks

either_first : (a b : WordKind) (s : Words) → with_word a (with_word b s) ≡ with_word b (with_word a s)
either_first w.Char w.Char s = refl
either_first w.Short w.Short s = refl
either_first w.Int w.Int s = refl
either_first w.Long w.Long s = refl
either_first w.Signed w.Signed s = refl
either_first w.Unsigned w.Unsigned s = refl
either_first w.Fract w.Fract s = refl
either_first w.Accum w.Accum s = refl
either_first w.Sat w.Sat s = refl
either_first a b s = refl

picked_first : (k : WordKind) (set left : List WordKind) → Pick k set left → (s : Words)
    → words_by (with_word k s) left ≡ words_by s set
picked_first _ _ _ the_first s = refl
picked_first _ _ _ (a_later {word = k} {other = x} {words = ks} {left = left} p) s =
    ap (λ (z : Words). words_by z left) (either_first x k s) ∙ picked_first k ks left p (with_word x s)

pub in_any_order : (set : List WordKind) (zs : List Spec) → AreWords set zs → (s : Words) → words_by s (kinds zs) ≡ words_by s set
in_any_order _ _ no_more s = refl
in_any_order _ _ (one_more {word = k} {set = set} {left = left} {more = zs} p a) s =
    in_any_order left zs a (with_word k s) ∙ picked_first k set left p s

abbrev pub plus : Times → ℕ → Times
plus t zero = t
plus t (suc n) = plus (again t) n

abbrev Tallied : Words → List WordKind → Words → Type 0
Tallied s ks t =
    (t.character ≡ plus s.character (count w.Char ks))
    × (t.short ≡ plus s.short (count w.Short ks))
    × (t.int ≡ plus s.int (count w.Int ks))
    × (t.long ≡ plus s.long (count w.Long ks))
    × (t.signed ≡ plus s.signed (count w.Signed ks))
    × (t.unsigned ≡ plus s.unsigned (count w.Unsigned ks))
    × (t.fract ≡ plus s.fract (count w.Fract ks))
    × (t.accum ≡ plus s.accum (count w.Accum ks))
    × (t.sat ≡ plus s.sat (count w.Sat ks))

tallied : (s : Words) (ks : List WordKind) → Tallied s ks (words_by s ks)
tallied s [] = (refl, refl, refl, refl, refl, refl, refl, refl, refl)
tallied s (k ∷ ks) = by k (words_by (with_word k s) ks) (tallied (with_word k s) ks)
  where
    by : (k : WordKind) (t : Words) → Tallied (with_word k s) ks t → Tallied s (k ∷ ks) t
    by w.Char t h = h
    by w.Short t h = h
    by w.Int t h = h
    by w.Long t h = h
    by w.Signed t h = h
    by w.Unsigned t h = h
    by w.Fract t h = h
    by w.Accum t h = h
    by w.Sat t h = h
    by k t h = h

often : (n : ℕ) → plus Often n ≡ Often
often zero = refl
often (suc n) = often n

few : (n : ℕ) → is_at_most_once (plus Never n) ≡ true → (n ≡ 0) ⊎ (n ≡ 1)
few zero e = inl refl
few (suc zero) e = inr refl
few (suc (suc n)) e = absurd (false≢true (sym (ap is_at_most_once (often n)) ∙ e))

pub same_number : (m n : ℕ) → plus Never m ≡ plus Never n → is_at_most_once (plus Never n) ≡ true → m ≡ n
same_number m n e f = by (few m (ap is_at_most_once e ∙ f)) (few n f)
  where
    never_once : ◌≡◌ {A = Times} Never Once → ⊥
    never_once q = cc

    by : (m ≡ 0) ⊎ (m ≡ 1) → (n ≡ 0) ⊎ (n ≡ 1) → m ≡ n
    by (inl a) (inl b) = a ∙ sym b
    by (inl a) (inr b) = absurd (never_once (sym (ap (plus Never) a) ∙ e ∙ ap (plus Never) b))
    by (inr a) (inl b) = absurd (never_once (sym (ap (plus Never) b) ∙ sym e ∙ ap (plus Never) a))
    by (inr a) (inr b) = a ∙ sym b

-- no word stands more than once
abbrev pub AreFew : Words → Type 0
AreFew s =
    (is_at_most_once s.character ≡ true)
    × (is_at_most_once s.short ≡ true)
    × (is_at_most_once s.int ≡ true)
    × (is_at_most_once s.long ≡ true)
    × (is_at_most_once s.signed ≡ true)
    × (is_at_most_once s.unsigned ≡ true)
    × (is_at_most_once s.fract ≡ true)
    × (is_at_most_once s.accum ≡ true)
    × (is_at_most_once s.sat ≡ true)

-- where the walk counts the same and no word is counted twice, each stands as often
pub counted_alike : (ks set : List WordKind) → words_by no_words ks ≡ words_by no_words set → AreFew (words_by no_words set)
    → (j : WordKind) → count j ks ≡ count j set
counted_alike ks set e f j = by j
  where
    a : Tallied no_words ks (words_by no_words ks)
    a = tallied no_words ks

    b : Tallied no_words set (words_by no_words set)
    b = tallied no_words set

    by : (j : WordKind) → count j ks ≡ count j set
    by w.Char =
        same_number (count w.Char ks) (count w.Char set) (sym a.0 ∙ ap (λ (s : Words). s.character) e ∙ b.0)
        (sym (ap is_at_most_once b.0) ∙ f.0)
    by w.Short =
        same_number (count w.Short ks) (count w.Short set) (sym a.1 ∙ ap (λ (s : Words). s.short) e ∙ b.1)
        (sym (ap is_at_most_once b.1) ∙ f.1)
    by w.Int =
        same_number (count w.Int ks) (count w.Int set) (sym a.2 ∙ ap (λ (s : Words). s.int) e ∙ b.2)
        (sym (ap is_at_most_once b.2) ∙ f.2)
    by w.Long =
        same_number (count w.Long ks) (count w.Long set) (sym a.3 ∙ ap (λ (s : Words). s.long) e ∙ b.3)
        (sym (ap is_at_most_once b.3) ∙ f.3)
    by w.Signed =
        same_number (count w.Signed ks) (count w.Signed set) (sym a.4 ∙ ap (λ (s : Words). s.signed) e ∙ b.4)
        (sym (ap is_at_most_once b.4) ∙ f.4)
    by w.Unsigned =
        same_number (count w.Unsigned ks) (count w.Unsigned set) (sym a.5 ∙ ap (λ (s : Words). s.unsigned) e ∙ b.5)
        (sym (ap is_at_most_once b.5) ∙ f.5)
    by w.Fract =
        same_number (count w.Fract ks) (count w.Fract set) (sym a.6 ∙ ap (λ (s : Words). s.fract) e ∙ b.6)
        (sym (ap is_at_most_once b.6) ∙ f.6)
    by w.Accum =
        same_number (count w.Accum ks) (count w.Accum set) (sym a.7 ∙ ap (λ (s : Words). s.accum) e ∙ b.7)
        (sym (ap is_at_most_once b.7) ∙ f.7)
    by w.Sat =
        same_number (count w.Sat ks) (count w.Sat set) (sym a.8 ∙ ap (λ (s : Words). s.sat) e ∙ b.8)
        (sym (ap is_at_most_once b.8) ∙ f.8)
    by j = nowhere j ks refl ∙ sym (nowhere j set refl)
