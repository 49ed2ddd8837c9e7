-- Sources that were read one behind the other.
use Rattle.std.proofs.Common.{◌≡◌, ℕ, zero, suc, ◌+◌, ◌-◌, ◌*◌, ◌<◌, ◌≤◌, ◌∙◌, List, [], ◌∷◌, ◌++◌, map, length, take, drop, get_or, Some}
use Rattle.std.proofs.Common.{None, refl, sym, ap, subst, arith, inl, inr}
use Rattle.std.specs.Prelude.{Option, All, Contains, string_bytes, IsSomeAnd, unwrap_or}
use Rattle.std.specs.FinMap.{get}
use Rattle.std.proofs.lemmas.Bool.{cases_eq}
use Rattle.std.proofs.lemmas.List.{length-append, length-drop, length-map, take_more, take_all}
use Rattle.std.proofs.lemmas.List.Elements.{AllZip-push, All-push, AllZip-get_or, length_all_zip}
use Rattle.ec_io.specs.Causes.{Counted}
use Rattle.ec_io.specs.Disk.{Files}
use Rattle.ec_io.specs.Views.{StoreView}
use Rattle.ec_io.proofs.Counting.{counted_more}
use Rattle.ec_commands.specs.Shown.{IsUnread, IsWithin, IsPast, KeepsAll, Told}
use Rattle.ec_commands.specs.Sources.{HoldTexts, AreWithin, StopsReadingSources}
use Rattle.ec_commands.specs.declared.stop.Limit.TheVariants.{SourceBytes}
use Rattle.ec_commands.specs.declared.stop.CommandError.{CommandError}
use Rattle.ec_commands.specs.declared.stop.CommandError.TheVariants.{CannotRead, TooMany, NoMemory}
use Rattle.ec_commands.proofs.Files.{told_both}
use Rattle.ec_commands.specs.Words.{Words, word, names_from}

word_of : (words : Words) (n : ℕ) (d : List ℕ) → n < length words → get_or (map string_bytes words) n d ≡ word words n
word_of [] n d inside = absurd (omega arith)
word_of (x ∷ words) zero d inside = refl
word_of (x ∷ words) (suc n) d inside = word_of words n d (omega arith)

pub name_at : (words : Words) (first n i : ℕ) (d : List ℕ) → i ≡ first + n → i < length words
    → get_or (names_from words first) n d ≡ word words i
name_at words zero n i d is inside = let same : i ≡ n = omega arith in rw same (word_of words n d (omega arith))
name_at [] (suc first) n i d is inside = absurd (omega arith)
name_at (x ∷ words) (suc first) n zero d is inside = absurd (omega arith)
name_at (x ∷ words) (suc first) n (suc i) d is inside = name_at words first n i d (omega arith) (omega arith)

pub length_names : (words : Words) (first : ℕ) → length (names_from words first) ≡ length words - first
length_names words first = length-map (drop first words) string_bytes ∙ length-drop first words

pub names_contain : (words : Words) (first n i : ℕ) → i ≡ first + n → i < length words → Contains (names_from words first) (word words i)
names_contain words first n i is inside =
    (n, omega (arith, length_names words first), name_at words first n i (word words i) is inside)

-- one more source is read
pub hold_more : (words : Words) (first i : ℕ) (sources : List (List ℕ)) (text : List ℕ) (files : Files) → i ≡ first + length sources
    → i < length words
    → HoldTexts (take (length sources) (names_from words first)) sources files → get files (word words i) ≡ Some text
    → HoldTexts (take (length (sources ++ text ∷ [])) (names_from words first)) (sources ++ text ∷ []) files
hold_more words first i sources text files is inside before here =
    let names : List (List ℕ) = names_from words first in
    let n : ℕ = length sources in
    let there : n < length names = omega (arith, length_names words first) in
    let more : take (length (sources ++ text ∷ [])) names ≡ take n names ++ word words i ∷ [] =
    ap (λ k. take k names) (length-append sources (text ∷ [])) ∙ take_more names n [] there
    ∙ ap (λ (name : List ℕ). take n names ++ name ∷ []) (name_at words first n i [] is inside) in
    subst (λ ns. HoldTexts ns (sources ++ text ∷ []) files) (sym more)
    (AllZip-push (λ name bytes. get files name ≡ Some bytes) (take n names) sources (word words i) text before here)

pub hold_all : (words : Words) (first : ℕ) (sources : List (List ℕ)) (files : Files) → length words ≤ first + length sources
    → HoldTexts (take (length sources) (names_from words first)) sources files → HoldTexts (names_from words first) sources files
hold_all words first sources files over h =
    subst (λ ns. HoldTexts ns sources files)
    (take_all (length sources) (names_from words first) (omega (arith, length_names words first))) h

within_here : (files : Files) (name bytes : List ℕ) (most : ℕ) → get files name ≡ Some bytes → length bytes ≤ most
    → IsWithin name most files
within_here files name bytes most here fits = rw here fits

pub within_more : (words : Words) (first i : ℕ) (text : List ℕ) (files : Files) → AreWithin words first i files
    → get files (word words i) ≡ Some text
    → length text ≤ 65536 → AreWithin words first (i + 1) files
within_more words first i text files before here fits = λ j after below. elim (cases_eq j i) [
  | inl same ↦ rw same (within_here files (word words i) text 65536 here fits)
  | inr other ↦ before j after (omega arith)
]

pub all_more : (sources : List (List ℕ)) (text : List ℕ) → All (λ bytes. length bytes ≤ 65536) sources → length text ≤ 65536
    → All (λ bytes. length bytes ≤ 65536) (sources ++ text ∷ [])
all_more sources text all fits = All-push (λ (bytes : List ℕ). length bytes ≤ 65536) sources text all fits

-- at most so many bytes came
abbrev pub CameWithin : ℕ → ℕ → ℕ → Type 0
CameWithin most before now = (n : ℕ) × ((n ≤ most) × Counted before now n)

pub came_more : (a b c : ℕ) (sources : List (List ℕ)) (text : List ℕ) → CameWithin (65536 * length sources) a b → Counted b c (length text)
    → length text ≤ 65536
    → CameWithin (65536 * length (sources ++ text ∷ [])) a c
came_more a b c sources text (n, (fits, counted)) then small =
    let one : length (sources ++ text ∷ []) ≡ length sources + 1 = length-append sources (text ∷ []) in
    (n + length text, (rw one (omega arith), counted_more a b c n (length text) _ counted then refl))

-- ---- files that were read before

-- a file that was not read, behind what was
pub unread_behind : (name : List ℕ) (old mid new : StoreView) → old.read_faults ≤ mid.read_faults → IsUnread name mid new
    → IsUnread name old new
unread_behind name old mid new later h = record { rose = omega (arith, h.rose, later); missed = h.missed }

-- sources that were not read, behind a file that was
pub stops_behind : (words : Words) (first : ℕ) (P Q R : Files → Type 0) (a b n : ℕ) (old mid new : StoreView) (stop : CommandError)
    → KeepsAll old.disk mid.disk → Told P old.disk → ((files : Files) → P files → Q files → R files) → old.read_faults ≤ mid.read_faults
    → Counted old.received mid.received n → n ≤ a
    → StopsReadingSources words first Q b mid new stop → StopsReadingSources words first R (a + b) old new stop
stops_behind words first P Q R a b n old mid new (CannotRead i) kept told both later came fits h = (
  h.0,
  unread_behind (word words i) old mid new later h.1,
  told_both P (λ files. Q files × AreWithin words first i files)
      (λ files. R files × AreWithin words first i files) old.disk mid.disk kept told h.2
      (λ files p q. (both files p q.0, q.1)),
)
stops_behind words first P Q R a b n old mid new (TooMany SourceBytes) kept told both later came fits h = (
  h.0,
  (
    h.1.0,
    told_both P (λ files. Q files × AreWithin words first h.0 files × IsPast (word words h.0) 65536 files)
        (λ files. R files × AreWithin words first h.0 files × IsPast (word words h.0) 65536 files) old.disk mid.disk kept told h.1.1
        (λ files p q. (both files p q.0, q.1, q.2)),
    (n + h.1.2.0, (omega (arith, h.1.2.1.0, fits), counted_more _ _ _ n (h.1.2.0 + (65536 + 1)) _ came h.1.2.1.1 (omega arith))),
  ),
)
stops_behind words first P Q R a b n old mid new NoMemory kept told both later came fits h = tt
stops_behind words first P Q R a b n old mid new _ kept told both later came fits h = absurd h

-- ---- what the files hold

pub same_texts : (names a b : List (List ℕ)) (files : Files) → HoldTexts names a files → HoldTexts names b files → a ≡ b
same_texts [] [] [] files h k = refl
same_texts [] [] (y ∷ b) files h k = absurd k
same_texts [] (x ∷ a) b files h k = absurd h
same_texts (name ∷ names) [] b files h k = absurd h
same_texts (name ∷ names) (x ∷ a) [] files h k = absurd k
same_texts (name ∷ names) (x ∷ a) (y ∷ b) files h k =
    let first : x ≡ y = one_text (get files name) x y h.0 k.0 in
    let rest : a ≡ b = same_texts names a b files h.1 k.1 in
    cc
  where
    one_text : (found : Option (List ℕ)) (x y : List ℕ) → found ≡ Some x → found ≡ Some y → x ≡ y
    one_text found x y p q = cc

pub sources_within : (words : Words) (first i : ℕ) (sources : List (List ℕ)) (files : Files) → first ≤ i → i < length words
    → HoldTexts (names_from words first) sources files → All (λ bytes. length bytes ≤ 65536) sources → IsWithin (word words i) 65536 files
sources_within words first i sources files after there held fit =
    let names : List (List ℕ) = names_from words first in
    let k : ℕ = i - first in
    let inside : k < length names = omega (arith, length_names words first) in
    let long : length names ≡ length sources = length_all_zip (λ name bytes. get files name ≡ Some bytes) names sources held in
    let here : get files (get_or names k []) ≡ Some (get_or sources k []) =
    AllZip-get_or (λ name bytes. get files name ≡ Some bytes) names sources k [] [] held inside in
    let name : get_or names k [] ≡ word words i = name_at words first k i [] (omega arith) there in
    within_here files (word words i) (get_or sources k []) 65536 (ap (λ (n : List ℕ). get files n) (sym name) ∙ here)
    (fit k [] (omega arith))

pub not_past : (files : Files) (name : List ℕ) (most : ℕ) → IsWithin name most files → IsPast name most files → ⊥
not_past files name most within past = by (get files name) within past where
  by : (found : Option (List ℕ)) → IsSomeAnd found (λ bytes. length bytes ≤ most) → most < length (unwrap_or found []) → ⊥
  by None h p = h
  by (Some bytes) h p = omega (arith, h, p)
