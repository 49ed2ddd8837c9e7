-- The code of a placed program stands in its image.
use Rattle.std.proofs.Common.{◌≡◌, ◌≢◌, ◌⊎◌, inl, inr, ⊎_elim, get_or, ◌+◌, ◌*◌, ◌%◌, ◌/◌, ◌^◌, ◌<◌, ◌≤◌, ℕ, zero, suc, Bool, true, false}
use Rattle.std.proofs.Common.{◌&&◌, ◌==◌, nat_le, List, [], ◌∷◌, length, add-zero, refl, ap, ◌∙◌, length-append, arith}
use Rattle.std.specs.Prelude.{nat_lt, if◌then◌else◌, IsTrue, slice_set, count_by, Some}
use Rattle.std.specs.List.{list_all}
use Rattle.std.proofs.lemmas.Bool.{and_parts, lt-ltb, eq-eqb}
use Rattle.std.proofs.lemmas.List.Sums.{sum_by-cons}
use Rattle.std.proofs.lemmas.List.{length-set, get_or-set_same, get_or-set_other}
use Rattle.ec_isa.specs.declared.instructions.Instr.{Instr}
use Rattle.ec_isa.specs.declared.instructions.Instr.TheVariants.{Lds, Sts, Jmp, Call}
use Rattle.ec_isa.specs.Table.{in_table}
use Rattle.ec_avr.specs.Placed.{code_bytes}
use Rattle.ec_asm.proofs.ItemWords.{words_cons}
use Rattle.ec_asm.specs.Change.{Env, words}
use Rattle.ec_asm.specs.Items.{item_words, code_words, address_part}
use Rattle.ec_asm.specs.Placed.{instructions, bytes_of_all, code_image, InTable, LabelsStand}
use Rattle.ec_asm.specs.Valid.{used_label, is_label}
use Rattle.ec_asm.specs.declared.items.AsmItem.{AsmItem}
use Rattle.ec_asm.specs.declared.items.AsmItem.TheVariants.{Plain, Label, JumpTo, CallTo, BranchTo, LoadPart, LoadObj, StoreObj}
use Rattle.ec_locate.specs.Code.{label_word, has_words, overwritten}

-- ---- instructions of the table

mod_below_256 : (n : ℕ) → n % 256 < 256
mod_below_256 n = omega arith

-- the labels that an item refers to have words
abbrev HasWords : Env → AsmItem → Type 0
HasWords e i = (l : ℕ) → used_label i ≡ Some l → e.word_of l < 65536

known_item : (e : Env) (i : AsmItem) → HasWords e i → ((o k : ℕ) → e.address_of o k < 65536) → has_words i ≡ true
    → IsTrue (list_all in_table (instructions e i))
known_item e (Plain i) w a h = rw h refl
known_item e (Label l) w a h = refl
known_item e (JumpTo l) w a h = rw (lt-ltb (e.word_of l) 65536 (w l refl)) refl
known_item e (CallTo l) w a h = rw (lt-ltb (e.word_of l) 65536 (w l refl)) refl
known_item e (BranchTo true flag l) w a h = rw (h, lt-ltb (e.word_of l) 65536 (w l refl)) refl
known_item e (BranchTo false flag l) w a h = rw (h, lt-ltb (e.word_of l) 65536 (w l refl)) refl
known_item e (LoadPart d o k part) w a h =
    let r = (and_parts (nat_le 16 d && nat_lt d 32) (nat_le part 2) h).0 in
    let n = if nat_lt part 2 then e.address_of o k else e.far_of o k in
    rw (r, lt-ltb (address_part e o k part) 256 (mod_below_256 (n / 256 ^ part))) refl
known_item e (LoadObj d o k) w a h = rw (h, lt-ltb (e.address_of o k) 65536 (a o k)) refl
known_item e (StoreObj o k r) w a h = rw (h, lt-ltb (e.address_of o k) 65536 (a o k)) refl

pub known_items : (e : Env) (items : List AsmItem) (q : AsmItem → Bool) → ((i : AsmItem) → q i ≡ true → HasWords e i)
    → ((o k : ℕ) → e.address_of o k < 65536) → list_all q items ≡ true → list_all has_words items ≡ true → InTable e items
known_items e [] q w a u h = tt
known_items e (i ∷ is) q w a u h =
    let (used, more_used) = and_parts (q i) (list_all q is) u in
    let (here, more) = and_parts (has_words i) (list_all has_words is) h in
    (known_item e i (w i used) a here, known_items e is q w a more_used more)

-- ---- labels

if_below : (b : Bool) (n m : ℕ) → n ≤ m → (if b then 0 else n) ≤ m
if_below true n m h = omega arith
if_below false n m h = h

more_below : (i : AsmItem) (is : List AsmItem) (n : ℕ) → n ≤ code_words is → item_words i + n ≤ code_words (i ∷ is)
more_below i is n h = let q = words_cons i is in omega (arith, q, h)

pub label_below : (items : List AsmItem) (l : ℕ) → label_word items l ≤ code_words items
label_below [] l = omega arith
label_below (Label k ∷ is) l =
    let q = words_cons (Label k) is in
    let h = if_below (k == l) (label_word is l) (code_words is) (label_below is l) in
    omega (arith, q, h)
label_below (Plain i ∷ is) l = more_below (Plain i) is (label_word is l) (label_below is l)
label_below (JumpTo k ∷ is) l = more_below (JumpTo k) is (label_word is l) (label_below is l)
label_below (CallTo k ∷ is) l = more_below (CallTo k) is (label_word is l) (label_below is l)
label_below (BranchTo set flag k ∷ is) l = more_below (BranchTo set flag k) is (label_word is l) (label_below is l)
label_below (LoadPart d o k part ∷ is) l = more_below (LoadPart d o k part) is (label_word is l) (label_below is l)
label_below (LoadObj d o k ∷ is) l = more_below (LoadObj d o k) is (label_word is l) (label_below is l)
label_below (StoreObj o k r ∷ is) l = more_below (StoreObj o k r) is (label_word is l) (label_below is l)

-- a label that has a word stands once at most among items at a word, and has the word where it stands
abbrev pub AreWords : Env → List AsmItem → ℕ → Type 0
AreWords e is pc =
    (l : ℕ) → e.word_of l < 65536
    → (count_by (is_label l) is ≤ 1) × (count_by (is_label l) is ≡ 1 → e.word_of l ≡ pc + label_word is l)

self_equal : (k : ℕ) → (k == k) ≡ true
self_equal k = eq-eqb k k refl

count_where : (l : ℕ) (i : AsmItem) (is : List AsmItem) (b : Bool) → is_label l i ≡ b
    → count_by (is_label l) (i ∷ is) ≡ (if b then 1 else 0) + count_by (is_label l) is
count_where l i is b q =
    sum_by-cons (λ x. if is_label l x then 1 else 0) i is ∙ ap (λ x. (if x then 1 else 0) + count_by (is_label l) is) q

word_where : (k l : ℕ) (is : List AsmItem) (b : Bool) → (k == l) ≡ b → label_word (Label k ∷ is) l ≡ (if b then 0 else label_word is l)
word_where k l is b q = ap (λ x. if x then 0 else label_word is l) q

behind_label : (e : Env) (k : ℕ) (is : List AsmItem) (pc : ℕ) → AreWords e (Label k ∷ is) pc → AreWords e is (pc + 0)
behind_label e k is pc h l w = by_case (k == l) refl
  where
    by_case : (b : Bool) → (k == l) ≡ b
        → (count_by (is_label l) is ≤ 1) × (count_by (is_label l) is ≡ 1 → e.word_of l ≡ pc + 0 + label_word is l)
    by_case true q =
        let c = count_where l (Label k) is true q in
        let few = (h l w).0 in
        (omega (arith, c, few), λ one. absurd (omega (arith, c, few, one)))
    by_case false q =
        let c = count_where l (Label k) is false q in
        let few = (h l w).0 in
        let word = word_where k l is false q in
        (omega (arith, c, few), λ one. let told = (h l w).1 (omega (arith, c, one)) in omega (arith, told, word))

behind_item : (e : Env) (i : AsmItem) (is : List AsmItem) (pc : ℕ) → ((l : ℕ) → is_label l i ≡ false)
    → ((l : ℕ) → label_word (i ∷ is) l ≡ item_words i + label_word is l) → AreWords e (i ∷ is) pc → AreWords e is (pc + item_words i)
behind_item e i is pc none word h l w =
    let c = count_where l i is false (none l) in
    let few = (h l w).0 in
    let more = word l in
    (omega (arith, c, few), λ one. let told = (h l w).1 (omega (arith, c, one)) in omega (arith, told, more))

label_here : (e : Env) (k : ℕ) (is : List AsmItem) (pc : ℕ) → AreWords e (Label k ∷ is) pc → e.word_of k < 65536 → e.word_of k ≡ pc
label_here e k is pc h w =
    let c = count_where k (Label k) is true (self_equal k) in
    let few = (h k w).0 in
    let word = word_where k k is true (self_equal k) in
    let told = (h k w).1 (omega (arith, c, few)) in
    omega (arith, told, word)

pub labels_stand : (e : Env) (items : List AsmItem) (pc : ℕ) → AreWords e items pc → LabelsStand e items pc
labels_stand e [] pc h = tt
labels_stand e (Label k ∷ is) pc h = (label_here e k is pc h, labels_stand e is (pc + 0) (behind_label e k is pc h))
labels_stand e (Plain i ∷ is) pc h = (tt, labels_stand e is _ (behind_item e (Plain i) is pc (λ l. refl) (λ l. refl) h))
labels_stand e (JumpTo k ∷ is) pc h = (tt, labels_stand e is _ (behind_item e (JumpTo k) is pc (λ l. refl) (λ l. refl) h))
labels_stand e (CallTo k ∷ is) pc h = (tt, labels_stand e is _ (behind_item e (CallTo k) is pc (λ l. refl) (λ l. refl) h))
labels_stand e (BranchTo if_set flag k ∷ is) pc h = (
  tt,
  labels_stand e is _ (behind_item e (BranchTo if_set flag k) is pc (λ l. refl) (λ l. refl) h),
)
labels_stand e (LoadPart d o k part ∷ is) pc h = (
  tt,
  labels_stand e is _ (behind_item e (LoadPart d o k part) is pc (λ l. refl) (λ l. refl) h),
)
labels_stand e (LoadObj d o k ∷ is) pc h = (tt, labels_stand e is _ (behind_item e (LoadObj d o k) is pc (λ l. refl) (λ l. refl) h))
labels_stand e (StoreObj o k r ∷ is) pc h = (tt, labels_stand e is _ (behind_item e (StoreObj o k r) is pc (λ l. refl) (λ l. refl) h))

-- ---- bytes

length_code : (i : Instr) → length (code_bytes i) ≡ 2 * words i
length_code (Lds d k) = refl
length_code (Sts k r) = refl
length_code (Jmp k) = refl
length_code (Call k) = refl
length_code _ = refl

length_item : (e : Env) (i : AsmItem) → length (bytes_of_all (instructions e i)) ≡ 2 * item_words i
length_item e (Plain i) = omega (arith, length-append (code_bytes i) [], length_code i)
length_item e (Label l) = refl
length_item e (JumpTo l) = refl
length_item e (CallTo l) = refl
length_item e (BranchTo true flag l) = refl
length_item e (BranchTo false flag l) = refl
length_item e (LoadPart d o k part) = refl
length_item e (LoadObj d o k) = refl
length_item e (StoreObj o k r) = refl

pub length_image : (e : Env) (items : List AsmItem) → length (code_image e items) ≡ 2 * code_words items
length_image e [] = refl
length_image e (i ∷ is) =
    let a = length-append (bytes_of_all (instructions e i)) (code_image e is) in
    let n = length_item e i in
    let m = length_image e is in
    let w = words_cons i is in
    omega (arith, a, n, m, w)

pub length_overwritten : {X : Type 0} (xs : List X) (at : ℕ) (ys : List X) → length (overwritten xs at ys) ≡ length xs
length_overwritten xs at [] = refl
length_overwritten xs at (y ∷ ys) = length_overwritten (slice_set xs at y) (at + 1) ys ∙ length-set xs at y

-- what stands outside stays
pub overwritten_outside : {X : Type 0} (xs : List X) (at : ℕ) (ys : List X) (j : ℕ) (d : X) → (j < at) ⊎ (at + length ys ≤ j)
    → get_or (overwritten xs at ys) j d ≡ get_or xs j d
overwritten_outside xs at [] j d l = refl
overwritten_outside xs at (y ∷ ys) j d l =
    let next : (j < at + 1) ⊎ (at + 1 + length ys ≤ j) = ⊎_elim (λ a. inl (omega arith)) (λ a. inr (omega arith)) l in
    let other : j ≢ at = ⊎_elim (λ a. omega arith) (λ a. omega arith) l in
    overwritten_outside (slice_set xs at y) (at + 1) ys j d next ∙ get_or-set_other xs at j y d other

-- and what is put there stands there
pub overwritten_holds : {X : Type 0} (xs : List X) (at : ℕ) (ys : List X) (d : X) → at + length ys ≤ length xs → (k : ℕ) → k < length ys
    → get_or (overwritten xs at ys) (at + k) d ≡ get_or ys k d
overwritten_holds xs at [] d fits k l = absurd (omega arith)
overwritten_holds xs at (y ∷ ys) d fits zero l =
    let here = overwritten_outside (slice_set xs at y) (at + 1) ys at d (inl (omega arith)) in
    rw (add-zero at) (here ∙ get_or-set_same xs at y d (omega arith))
overwritten_holds xs at (y ∷ ys) d fits (suc k) l =
    let n = length-set xs at y in
    let q : at + 1 + k ≡ at + suc k = omega arith in
    rw (← q) (overwritten_holds (slice_set xs at y) (at + 1) ys d (omega arith) k (omega arith))
