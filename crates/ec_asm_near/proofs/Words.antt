-- Each item that is near takes one word, and each branch over RJMP two.
use Rattle.std.proofs.Common.{◌≡◌, ℕ, ◌+◌, ◌-◌, ◌<◌, ◌≤◌, ◌⊎◌, ⊎_elim, inl, inr, Bool, true, false, List, [], ◌∷◌, ◌++◌, Option, Some, None}
use Rattle.std.proofs.Common.{refl, sym, ap, ◌∙◌, subst, arith}
use Rattle.std.specs.Prelude.{◌==◌, nat_lt, if◌then◌else◌, ℤ, pos, negsuc, is_some, option_and_then, map}
use Rattle.std.proofs.lemmas.Bool.{lt-ltb, ltb-true, ltb-false}
use Rattle.ec_isa.specs.Formats.{is_signed}
use Rattle.ec_isa.specs.declared.instructions.Instr.TheVariants.{Nop}
use Rattle.ec_asm.specs.declared.items.AsmItem.{AsmItem}
use Rattle.ec_asm.specs.declared.items.AsmItem.TheVariants.{Plain, Label, JumpTo, CallTo, BranchTo, LoadPart, LoadObj, StoreObj}
use Rattle.ec_asm.specs.Items.{distance, item_words, code_words}
use Rattle.ec_asm.specs.Valid.{is_label, stands_once}
use Rattle.ec_asm_near.specs.Near.{label_word, word_of, distance_within, reached, reached_over, is_near, is_over, draft_row, drafted}
use Rattle.ec_asm_near.specs.Near.{by_distance, over_jump, near_row, near_from, near_items}
use Rattle.ec_asm_near.specs.Laws.{OneWordEach, DistancesAreOwn, NoMoreWords, LabelsStay}
use Rattle.ec_asm_near.proofs.Shortened.{ForItem, ForItems, ForRow, ForRows, same_item, rows_of, same_count, no_more_words, no_later}
use Rattle.ec_asm_near.proofs.Shortened.{label_cons, draft_for, draft_rows}

-- ---- distances within reach

-- the target is so near, ahead or behind
record IsClose (n pc to : ℕ) : Type 0 where
  ahead : pc < to → to < pc + 1 + n
  behind : to ≤ pc → pc < to + n

close_since : (n pc to : ℕ) → is_signed n (distance pc to) ≡ true → IsClose n pc to
close_since n pc to h = by_case (nat_lt pc to) refl h
  where
    by_case : (b : Bool) → nat_lt pc to ≡ b
        → is_signed n (if b then pos (to - pc - 1) else negsuc (pc - to)) ≡ true → IsClose n pc to
    by_case true q h =
        let l = ltb-true pc to q in
        let m = ltb-true (to - pc - 1) n h in
        record { ahead = λ k. omega arith; behind = λ k. omega arith }
    by_case false q h =
        let l = ltb-false pc to q in
        let m = ltb-true (pc - to) n h in
        record { ahead = λ k. omega arith; behind = λ k. omega arith }

within_since : (n pc to : ℕ) → IsClose n pc to → is_signed n (distance pc to) ≡ true
within_since n pc to h = by_case (nat_lt pc to) refl
  where
    by_case : (b : Bool) → nat_lt pc to ≡ b
        → is_signed n (if b then pos (to - pc - 1) else negsuc (pc - to)) ≡ true
    by_case true q =
        let l = ltb-true pc to q in
        let m = h.ahead l in
        lt-ltb (to - pc - 1) n (omega arith)
    by_case false q =
        let l = ltb-false pc to q in
        let m = h.behind l in
        lt-ltb (pc - to) n (omega arith)

where_some : (b : Bool) (k : ℤ) → (let o : Option ℤ = if b then Some k else None in is_some o) ≡ true → b ≡ true
where_some true k h = refl
where_some false k h = h

some_where : (b : Bool) (k : ℤ) → b ≡ true → (let o : Option ℤ = if b then Some k else None in is_some o) ≡ true
some_where true k h = refl
some_where false k h = h

found_parts : (n pc : ℕ) (b : Bool) (w : ℕ)
    → (let o : Option ℕ = if b then Some w else None in is_some (option_and_then (distance_within n pc) o)) ≡ true
    → (b ≡ true) × IsClose n pc w
found_parts n pc true w h = (refl, close_since n pc w (where_some (is_signed n (distance pc w)) (distance pc w) h))
found_parts n pc false w h = absurd (clash h)
  where
    clash : false ≡ true → ⊥
    clash q = cc

found_from : (n pc : ℕ) (b : Bool) (w : ℕ) → b ≡ true → IsClose n pc w
    → (let o : Option ℕ = if b then Some w else None in is_some (option_and_then (distance_within n pc) o)) ≡ true
found_from n pc true w h c = some_where (is_signed n (distance pc w)) (distance pc w) (within_since n pc w c)
found_from n pc false w h c = h

-- ---- a label as it is seen from a word: behind, and no further than in the long forms, or so many words ahead

abbrev Seen : (pc at long short ahead ahead' : ℕ) → Type 0
Seen pc at long short ahead ahead' =
    ((long ≤ pc) × (short ≤ at) × (at + long ≤ pc + short)) ⊎ ((long ≡ pc + ahead) × (short ≡ at + ahead'))

seen_past : (b : Bool) (pc at long short m n a a' : ℕ) → n ≤ m
    → Seen pc at long short (if b then 0 else m + a) (if b then 0 else n + a') → Seen (pc + m) (at + n) long short a a'
seen_past true pc at long short m n a a' h s =
    ⊎_elim (λ p. let p0 = p.0 in let p1 = p.1 in let p2 = p.2 in inl (omega arith, omega arith, omega arith))
    (λ p. let p0 = p.0 in let p1 = p.1 in inl (omega arith, omega arith, omega arith)) s
seen_past false pc at long short m n a a' h s =
    ⊎_elim (λ p. let p0 = p.0 in let p1 = p.1 in let p2 = p.2 in inl (omega arith, omega arith, omega arith))
    (λ p. let p0 = p.0 in let p1 = p.1 in inr (omega arith, omega arith)) s

seen_next : (pc at long short l : ℕ) (i : AsmItem) (row is ss : List AsmItem) → ForRow i row
    → Seen pc at long short (label_word (i ∷ is) l) (label_word (row ++ ss) l)
    → Seen (pc + item_words i) (at + code_words row) long short (label_word is l) (label_word ss l)
seen_next pc at long short l i row is ss f h =
    let a = label_cons i is l in
    let b = f.place l ss in
    let h' = subst (λ x. Seen pc at long short x (label_word (row ++ ss) l)) a h in
    let h'' = subst (λ x. Seen pc at long short (if is_label l i then 0 else item_words i + label_word is l) x) b h' in
    seen_past (is_label l i) pc at long short (item_words i) (code_words row) (label_word is l) (label_word ss l) f.words h''

-- from the word that is `j` words further
close_stays : (n j pc at long short a a' : ℕ) → j < a' → a' ≤ a → Seen pc at long short a a' → IsClose n (pc + j) long
    → IsClose n (at + j) short
close_stays n j pc at long short a a' some less s c =
    ⊎_elim
    (λ p.
    let p0 = p.0 in
    let p1 = p.1 in
    let p2 = p.2 in
    let m = c.behind (omega arith) in
    record { ahead = λ k. omega arith; behind = λ k. omega arith })
    (λ p.
    let p0 = p.0 in
    let p1 = p.1 in
    let m = c.ahead (omega arith) in
    record { ahead = λ k. omega arith; behind = λ k. omega arith })
    s

-- ---- what is near stays near

-- from a word of the items that stand for one
stays_near : (all draft : List AsmItem) (n j pc at from to l : ℕ) (i : AsmItem) (row is ss : List AsmItem) → from ≡ pc + j
    → to ≡ at + j → ForRow i row → is_label l i ≡ false → j < code_words row → ForRows is ss
    → stands_once draft l ≡ stands_once all l
    → Seen pc at (label_word all l) (label_word draft l) (label_word (i ∷ is) l) (label_word (row ++ ss) l)
    → is_some (option_and_then (distance_within n from) (word_of all l)) ≡ true
    → is_some (option_and_then (distance_within n to) (word_of draft l)) ≡ true
stays_near all draft n j pc at from to l i row is ss a b f other some rest same seen near =
    let p = found_parts n from (stands_once all l) (label_word all l) near in
    let d : label_word (i ∷ is) l ≡ item_words i + label_word is l =
    label_cons i is l ∙ ap (λ t. if t then 0 else item_words i + label_word is l) other in
    let e : label_word (row ++ ss) l ≡ code_words row + label_word ss l =
    f.place l ss ∙ ap (λ t. if t then 0 else code_words row + label_word ss l) other in
    let less = no_later is ss l rest in
    let words = f.words in
    let c = close_stays n j pc at (label_word all l) (label_word draft l) (label_word (i ∷ is) l) (label_word (row ++ ss) l)
    (omega arith) (omega arith) seen (subst (λ x. IsClose n x (label_word all l)) a p.1) in
    found_from n to (stands_once draft l) (label_word draft l) (same ∙ p.0)
    (subst (λ x. IsClose n x (label_word draft l)) (sym b) c)

record Alike (s n : AsmItem) : Type 0 where
  there : ForItem s n
  back : ForItem n s

alike : (i : AsmItem) → Alike i i
alike i = record { there = same_item i; back = same_item i }

short_jump : (l : ℕ) (k : ℤ) → Alike (Plain Nop) (by_distance (JumpTo l) (Some k))
short_jump l k = record {
  there = record { label = λ x. refl; words = omega arith };
  back = record { label = λ x. refl; words = omega arith };
}

short_call : (l : ℕ) (k : ℤ) → Alike (Plain Nop) (by_distance (CallTo l) (Some k))
short_call l k = record {
  there = record { label = λ x. refl; words = omega arith };
  back = record { label = λ x. refl; words = omega arith };
}

short_branch : (set : Bool) (flag l : ℕ) (k : ℤ) → Alike (Plain Nop) (by_distance (BranchTo set flag l) (Some k))
short_branch true flag l k = record {
  there = record { label = λ x. refl; words = omega arith };
  back = record { label = λ x. refl; words = omega arith };
}
short_branch false flag l k = record {
  there = record { label = λ x. refl; words = omega arith };
  back = record { label = λ x. refl; words = omega arith };
}

record AlikeAll (ss ns : List AsmItem) : Type 0 where
  there : ForItems ss ns
  back : ForItems ns ss

alike_one : (s n : AsmItem) → Alike s n → AlikeAll (s ∷ []) (n ∷ [])
alike_one s n h = record { there = (h.there, tt); back = (h.back, tt) }

alike_more : (s n : AsmItem) (ss ns : List AsmItem) → Alike s n → AlikeAll ss ns → AlikeAll (s ∷ ss) (n ∷ ns)
alike_more s n ss ns h rest = record { there = (h.there, rest.there); back = (h.back, rest.back) }

same_row : (i : AsmItem) → AlikeAll (i ∷ []) (i ∷ [])
same_row i = alike_one i i (alike i)

over_branch : (set : Bool) (flag l : ℕ) (k : ℤ) → AlikeAll (Plain Nop ∷ Plain Nop ∷ []) (over_jump (BranchTo set flag l) (Some k))
over_branch true flag l k =
    alike_more (Plain Nop) _ (Plain Nop ∷ []) _ (short_branch false flag l (pos 1)) (alike_one (Plain Nop) _ (short_jump l k))
over_branch false flag l k =
    alike_more (Plain Nop) _ (Plain Nop ∷ []) _ (short_branch true flag l (pos 1)) (alike_one (Plain Nop) _ (short_jump l k))

none_given : {X : Type 0} (b : Bool) → b ≡ true → (b ≡ true → (let o : Option ℤ = None in is_some o) ≡ true) → X
none_given b q h = absurd (clash (h q))
  where
    clash : false ≡ true → ⊥
    clash z = cc

-- an item that is near, and another one
one_word : (i : AsmItem) (b : Bool) (r : Option ℤ) (ss ns : List AsmItem) → ((k : ℤ) → Alike (Plain Nop) (by_distance i (Some k)))
    → (b ≡ true → is_some r ≡ true) → (b ≡ false → AlikeAll ss ns)
    → AlikeAll (if b then Plain Nop ∷ [] else ss) (if b then by_distance i r ∷ [] else ns)
one_word i true (Some k) ss ns short h rest = alike_one (Plain Nop) (by_distance i (Some k)) (short k)
one_word i true None ss ns short h rest = none_given true refl h
one_word i false r ss ns short h rest = rest refl

-- a branch over RJMP, and another one
two_words : (i : AsmItem) (b : Bool) (r : Option ℤ)
    → ((k : ℤ) → AlikeAll (Plain Nop ∷ Plain Nop ∷ []) (over_jump i (Some k))) → (b ≡ true → is_some r ≡ true)
    → AlikeAll (if b then Plain Nop ∷ Plain Nop ∷ [] else i ∷ []) (if b then over_jump i r else i ∷ [])
two_words i true (Some k) short h = short k
two_words i true None short h = none_given true refl h
two_words i false r short h = same_row i

some_words : (b : Bool) (i : AsmItem) (ss : List AsmItem) → 0 < code_words ss
    → (let row : List AsmItem = if b then Plain Nop ∷ [] else ss in 0 < code_words row)
some_words true i ss h = omega arith
some_words false i ss h = h

branch_words : (set : Bool) (flag l : ℕ) (b : Bool)
    → (let row : List AsmItem = if b then Plain Nop ∷ Plain Nop ∷ [] else BranchTo set flag l ∷ [] in 1 < code_words row)
branch_words set flag l true = omega arith
branch_words set flag l false = omega arith

more_words : (b : Bool) (ss : List AsmItem) → b ≡ false → 1 < code_words ss
    → (let row : List AsmItem = if b then Plain Nop ∷ [] else ss in 1 < code_words row)
more_words true ss h some = cc
more_words false ss h some = some

-- what is known where the items are gone over: the same labels stand once, and where each label is seen
record At (all draft : List AsmItem) (is : List AsmItem) (pc at : ℕ) : Type 0 where
  same : (l : ℕ) → stands_once draft l ≡ stands_once all l
  seen : (l : ℕ) → Seen pc at (label_word all l) (label_word draft l) (label_word is l) (label_word (drafted (word_of all) pc is) l)

item_alike : (all draft : List AsmItem) (i : AsmItem) (is : List AsmItem) (pc at : ℕ) → At all draft (i ∷ is) pc at
    → AlikeAll (draft_row (word_of all) pc i) (near_row (word_of all) (word_of draft) pc at i)
item_alike all draft (Plain i) is pc at h = same_row (Plain i)
item_alike all draft (Label l) is pc at h = same_row (Label l)
item_alike all draft (JumpTo l) is pc at h =
    let i = JumpTo l in
    let W = word_of all in
    one_word i (is_near W pc i) (reached (word_of draft) at i) (i ∷ []) (i ∷ []) (short_jump l)
    (stays_near all draft 2048 0 pc at pc at l i (draft_row W pc i) is (drafted W (pc + 2) is) (omega arith) (omega arith)
    (draft_for W pc i) refl (some_words (is_near W pc i) i (i ∷ []) (omega arith)) (draft_rows W (pc + 2) is) (h.same l) (h.seen l))
    (λ far. same_row i)
item_alike all draft (CallTo l) is pc at h =
    let i = CallTo l in
    let W = word_of all in
    one_word i (is_near W pc i) (reached (word_of draft) at i) (i ∷ []) (i ∷ []) (short_call l)
    (stays_near all draft 2048 0 pc at pc at l i (draft_row W pc i) is (drafted W (pc + 2) is) (omega arith) (omega arith)
    (draft_for W pc i) refl (some_words (is_near W pc i) i (i ∷ []) (omega arith)) (draft_rows W (pc + 2) is) (h.same l) (h.seen l))
    (λ far. same_row i)
item_alike all draft (BranchTo set flag l) is pc at h =
    let i = BranchTo set flag l in
    let W = word_of all in
    let over = is_over W pc i in
    let free = if over then Plain Nop ∷ Plain Nop ∷ [] else i ∷ [] in
    let some = branch_words set flag l over in
    one_word i (is_near W pc i) (reached (word_of draft) at i) free
    (if over then over_jump i (reached_over (word_of draft) at i) else i ∷ []) (short_branch set flag l)
    (stays_near all draft 64 0 pc at pc at l i (draft_row W pc i) is (drafted W (pc + 3) is) (omega arith) (omega arith)
    (draft_for W pc i) refl (some_words (is_near W pc i) i free (omega (arith, some))) (draft_rows W (pc + 3) is) (h.same l) (h.seen l))
    (λ far.
    two_words i over (reached_over (word_of draft) at i) (over_branch set flag l)
    (stays_near all draft 2048 1 pc at (pc + 1) (at + 1) l i (draft_row W pc i) is (drafted W (pc + 3) is) refl refl
    (draft_for W pc i) refl (more_words (is_near W pc i) free far some) (draft_rows W (pc + 3) is) (h.same l) (h.seen l)))
item_alike all draft (LoadPart d o k part) is pc at h = same_row (LoadPart d o k part)
item_alike all draft (LoadObj d o k) is pc at h = same_row (LoadObj d o k)
item_alike all draft (StoreObj o k r) is pc at h = same_row (StoreObj o k r)

for_append : (is ss js ts : List AsmItem) → ForItems is ss → ForItems js ts → ForItems (is ++ js) (ss ++ ts)
for_append [] [] js ts h rest = rest
for_append [] (s ∷ ss) js ts h rest = absurd h
for_append (i ∷ is) [] js ts h rest = absurd h
for_append (i ∷ is) (s ∷ ss) js ts h rest = (h.0, for_append is ss js ts h.1 rest)

same_words : (ss ns : List AsmItem) → AlikeAll ss ns → code_words ns ≡ code_words ss
same_words ss ns h =
    let a = no_more_words ss ns (rows_of ss ns h.there) in
    let b = no_more_words ns ss (rows_of ns ss h.back) in
    omega arith

items_alike : (all draft : List AsmItem) (is : List AsmItem) (pc at : ℕ) → At all draft is pc at
    → AlikeAll (drafted (word_of all) pc is) (near_from (word_of all) (word_of draft) pc at is)
items_alike all draft [] pc at h = record { there = tt; back = tt }
items_alike all draft (i ∷ is) pc at h =
    let W = word_of all in
    let s = draft_row W pc i in
    let n = near_row W (word_of draft) pc at i in
    let ss = drafted W (pc + item_words i) is in
    let ns = near_from W (word_of draft) (pc + item_words i) (at + code_words n) is in
    let a = item_alike all draft i is pc at h in
    let q : code_words s ≡ code_words n = sym (same_words s n a) in
    let next : At all draft is (pc + item_words i) (at + code_words s) = record {
      same = h.same;
      seen = λ l. seen_next pc at (label_word all l) (label_word draft l) l i s is ss (draft_for W pc i) (h.seen l);
    } in
    let rest =
    items_alike all draft is (pc + item_words i) (at + code_words n) (subst (λ x. At all draft is (pc + item_words i) (at + x)) q next) in
    record { there = for_append s n ss ns a.there rest.there; back = for_append n s ns ss a.back rest.back }

-- ---- the whole

abbrev draft_of : List AsmItem → List AsmItem
draft_of items = drafted (word_of items) 0 items

at_first : (items : List AsmItem) → At items (draft_of items) items 0 0
at_first items = record {
  same = λ l. ap (λ n. n == 1) (same_count items (draft_of items) l (draft_rows (word_of items) 0 items));
  seen = λ l. inr (omega arith, omega arith);
}

whole_alike : (items : List AsmItem) → AlikeAll (draft_of items) (near_items items)
whole_alike items = items_alike items (draft_of items) items 0 0 (at_first items)

same_place : (ss ns : List AsmItem) (l : ℕ) → AlikeAll ss ns → word_of ns l ≡ word_of ss l
same_place ss ns l h =
    let a = no_later ss ns l (rows_of ss ns h.there) in
    let b = no_later ns ss l (rows_of ns ss h.back) in
    let q : label_word ns l ≡ label_word ss l = omega arith in
    let c = same_count ss ns l (rows_of ss ns h.there) in
    ap (λ n. if n == 1 then Some (label_word ns l) else None) c ∙ ap (λ w. if stands_once ss l then Some w else None) q

pub words_are_drafted : (items : List AsmItem) → code_words (near_items items) ≡ code_words (draft_of items)
words_are_drafted items = same_words (draft_of items) (near_items items) (whole_alike items)

pub places_are_drafted : (items : List AsmItem) (l : ℕ) → word_of (near_items items) l ≡ word_of (draft_of items) l
places_are_drafted items l = same_place (draft_of items) (near_items items) l (whole_alike items)

each_same : (ss ns : List AsmItem) → AlikeAll ss ns → map item_words ns ≡ map item_words ss
each_same [] [] h = refl
each_same [] (n ∷ ns) h = absurd h.there
each_same (s ∷ ss) [] h = absurd h.there
each_same (s ∷ ss) (n ∷ ns) h =
    let a = h.there.0.words in
    let b = h.back.0.words in
    let q : item_words n ≡ item_words s = omega arith in
    let rest = each_same ss ns (record { there = h.there.1; back = h.back.1 }) in
    ap (λ w. w ∷ map item_words ns) q ∙ ap (λ ws. item_words s ∷ ws) rest

pub one_word_each : OneWordEach
one_word_each items = each_same (draft_of items) (near_items items) (whole_alike items)

pub distances_are_own : DistancesAreOwn
distances_are_own items =
    let same : word_of (draft_of items) ≡ word_of (near_items items) = λ j l. sym (places_are_drafted items l) j in
    ap (λ short. near_from (word_of items) short 0 0 items) same

pub no_more : NoMoreWords
no_more items =
    let a = words_are_drafted items in
    let b = no_more_words items (draft_of items) (draft_rows (word_of items) 0 items) in
    omega arith

pub labels_stay : LabelsStay
labels_stay items l =
    same_count (draft_of items) (near_items items) l (rows_of (draft_of items) (near_items items) (whole_alike items).there)
    ∙ same_count items (draft_of items) l (draft_rows (word_of items) 0 items)
