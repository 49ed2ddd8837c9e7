-- What can be placed can be placed shortened.
use Rattle.std.proofs.Common.{◌≡◌, ◌<◌, ℕ, Bool, true, false, List, [], ◌∷◌, ◌++◌, Option, Some, None, refl, sym, ap, ◌∙◌, subst, ◌+◌}
use Rattle.std.specs.Prelude.{◌==◌, nat_lt, if◌then◌else◌, ℤ, pos, option_and_then, IsTrue}
use Rattle.std.specs.List.{list_all}
use Rattle.std.proofs.lemmas.Bool.{and_parts, and_from}
use Rattle.std.proofs.lemmas.List.Folds.{list_all-append}
use Rattle.ec_isa.specs.declared.instructions.Instr.TheVariants.{Rjmp}
use Rattle.ec_isa.specs.Formats.{is_signed}
use Rattle.ec_asm.specs.declared.items.AsmItem.{AsmItem}
use Rattle.ec_asm.specs.declared.items.AsmItem.TheVariants.{Plain, Label, JumpTo, CallTo, BranchTo, LoadPart, LoadObj, StoreObj}
use Rattle.ec_asm.specs.Change.{Env}
use Rattle.ec_asm.specs.Items.{distance, branch_unless, item_words, code_words}
use Rattle.ec_asm.specs.Valid.{Sizes, sizes_of, is_valid_item, used_label, stands_once, is_placed}
use Rattle.ec_asm_near.specs.Near.{word_of, distance_within, reached, reached_over, is_near, is_over, by_distance, over_jump, near_row}
use Rattle.ec_asm_near.specs.Near.{near_from, drafted, near_items}
use Rattle.ec_asm_near.specs.Laws.{HasWord, HaveWords, UsedLabelsHaveWords, ItemsStayValid, ProgramsStayValid}
use Rattle.ec_asm_near.proofs.Words.{labels_stay}

-- ---- a distance that is given is within reach, and leads to a word

-- the distance from a word to a word that is found
pub record IsFound (n at : ℕ) (o : Option ℕ) (k : ℤ) : Type 0 where
  pub to : ℕ
  pub found : o ≡ Some to
  pub is : k ≡ distance at to
  pub within : is_signed n k ≡ true

where_given : (n at to : ℕ) (k : ℤ) (b : Bool) → is_signed n (distance at to) ≡ b
    → (let o : Option ℤ = if b then Some (distance at to) else None in o) ≡ Some k → IsFound n at (Some to) k
where_given n at to k true q h =
    let same : distance at to ≡ k = cc in
    record { to = to; found = refl; is = sym same; within = ap (λ z. is_signed n z) (sym same) ∙ q }
where_given n at to k false q h = absurd (clash h)
  where
    clash : None ≡ Some k → ⊥
    clash z = cc

pub found_by : (n at : ℕ) (o : Option ℕ) (k : ℤ) → option_and_then (distance_within n at) o ≡ Some k → IsFound n at o k
found_by n at None k h = absurd (clash h)
  where
    clash : None ≡ Some k → ⊥
    clash z = cc
found_by n at (Some to) k h = where_given n at to k (is_signed n (distance at to)) refl h

-- ---- what holds of all items that stand for one

one : (p : AsmItem → Bool) (i : AsmItem) → p i ≡ true → list_all p (i ∷ []) ≡ true
one p i h = and_from (p i) true h refl

more : (p : AsmItem → Bool) (i : AsmItem) (is : List AsmItem) → p i ≡ true → list_all p is ≡ true → list_all p (i ∷ is) ≡ true
more p i is h rest = and_from (p i) (list_all p is) h rest

both : (p : AsmItem → Bool) (is js : List AsmItem) → list_all p is ≡ true → list_all p js ≡ true → list_all p (is ++ js) ≡ true
both p is js h k = list_all-append p is js ∙ and_from (list_all p is) (list_all p js) h k

chosen : (p : AsmItem → Bool) (b : Bool) (is js : List AsmItem) → list_all p is ≡ true → list_all p js ≡ true
    → (let row : List AsmItem = if b then is else js in list_all p row) ≡ true
chosen p true is js h k = h
chosen p false is js h k = k

-- ---- the fields of items stay in range

jump_valid : (sizes : Sizes) (l : ℕ) (d : Option ℤ) → ((k : ℤ) → d ≡ Some k → is_signed 2048 k ≡ true)
    → is_valid_item sizes (by_distance (JumpTo l) d) ≡ true
jump_valid sizes l None h = refl
jump_valid sizes l (Some k) h = h k refl

call_valid : (sizes : Sizes) (l : ℕ) (d : Option ℤ) → ((k : ℤ) → d ≡ Some k → is_signed 2048 k ≡ true)
    → is_valid_item sizes (by_distance (CallTo l) d) ≡ true
call_valid sizes l None h = refl
call_valid sizes l (Some k) h = h k refl

branch_valid : (sizes : Sizes) (set : Bool) (flag l : ℕ) (d : Option ℤ) → nat_lt flag 8 ≡ true
    → ((k : ℤ) → d ≡ Some k → is_signed 64 k ≡ true) → is_valid_item sizes (by_distance (BranchTo set flag l) d) ≡ true
branch_valid sizes set flag l None f h = f
branch_valid sizes true flag l (Some k) f h = and_from (nat_lt flag 8) (is_signed 64 k) f (h k refl)
branch_valid sizes false flag l (Some k) f h = and_from (nat_lt flag 8) (is_signed 64 k) f (h k refl)

over_valid : (sizes : Sizes) (set : Bool) (flag l : ℕ) (d : Option ℤ) → nat_lt flag 8 ≡ true
    → ((k : ℤ) → d ≡ Some k → is_signed 2048 k ≡ true)
    → list_all (is_valid_item sizes) (over_jump (BranchTo set flag l) d) ≡ true
over_valid sizes set flag l None f h = one (is_valid_item sizes) (BranchTo set flag l) f
over_valid sizes true flag l (Some k) f h =
    more (is_valid_item sizes) (Plain (branch_unless true flag (pos 1))) (Plain (Rjmp k) ∷ []) (and_from (nat_lt flag 8) true f refl)
    (one (is_valid_item sizes) (Plain (Rjmp k)) (h k refl))
over_valid sizes false flag l (Some k) f h =
    more (is_valid_item sizes) (Plain (branch_unless false flag (pos 1))) (Plain (Rjmp k) ∷ []) (and_from (nat_lt flag 8) true f refl)
    (one (is_valid_item sizes) (Plain (Rjmp k)) (h k refl))

row_valid : (sizes : Sizes) (long short : ℕ → Option ℕ) (pc at : ℕ) (i : AsmItem) → is_valid_item sizes i ≡ true
    → list_all (is_valid_item sizes) (near_row long short pc at i) ≡ true
row_valid sizes long short pc at (Plain i) h = one (is_valid_item sizes) (Plain i) h
row_valid sizes long short pc at (Label l) h = one (is_valid_item sizes) (Label l) h
row_valid sizes long short pc at (JumpTo l) h =
    let near = by_distance (JumpTo l) (reached short at (JumpTo l)) in
    let p = is_valid_item sizes in
    chosen p (is_near long pc (JumpTo l)) (near ∷ []) (JumpTo l ∷ [])
    (one p near (jump_valid sizes l (reached short at (JumpTo l)) (λ k q. (found_by 2048 at (short l) k q).within)))
    (one p (JumpTo l) h)
row_valid sizes long short pc at (CallTo l) h =
    let near = by_distance (CallTo l) (reached short at (CallTo l)) in
    let p = is_valid_item sizes in
    chosen p (is_near long pc (CallTo l)) (near ∷ []) (CallTo l ∷ [])
    (one p near (call_valid sizes l (reached short at (CallTo l)) (λ k q. (found_by 2048 at (short l) k q).within)))
    (one p (CallTo l) h)
row_valid sizes long short pc at (BranchTo set flag l) h =
    let i = BranchTo set flag l in
    let near = by_distance i (reached short at i) in
    let over = over_jump i (reached_over short at i) in
    let p = is_valid_item sizes in
    chosen p (is_near long pc i) (near ∷ []) (if is_over long pc i then over else i ∷ [])
    (one p near (branch_valid sizes set flag l (reached short at i) h (λ k q. (found_by 64 at (short l) k q).within)))
    (chosen p (is_over long pc i) over (i ∷ [])
    (over_valid sizes set flag l (reached_over short at i) h (λ k q. (found_by 2048 (at + 1) (short l) k q).within)) (one p i h))
row_valid sizes long short pc at (LoadPart d o k part) h = one (is_valid_item sizes) (LoadPart d o k part) h
row_valid sizes long short pc at (LoadObj d o k) h = one (is_valid_item sizes) (LoadObj d o k) h
row_valid sizes long short pc at (StoreObj o k r) h = one (is_valid_item sizes) (StoreObj o k r) h

all_valid : (sizes : Sizes) (long short : ℕ → Option ℕ) (pc at : ℕ) (is : List AsmItem)
    → list_all (is_valid_item sizes) is ≡ true → list_all (is_valid_item sizes) (near_from long short pc at is) ≡ true
all_valid sizes long short pc at [] h = refl
all_valid sizes long short pc at (i ∷ is) h =
    let row = near_row long short pc at i in
    let rest = near_from long short (pc + item_words i) (at + code_words row) is in
    let p = and_parts (is_valid_item sizes i) (list_all (is_valid_item sizes) is) h in
    both (is_valid_item sizes) row rest (row_valid sizes long short pc at i p.0)
    (all_valid sizes long short (pc + item_words i) (at + code_words row) is p.1)

pub items_stay_valid : ItemsStayValid
items_stay_valid sizes items h =
    all_valid sizes (word_of items) (word_of (drafted (word_of items) 0 items)) 0 0 items h

-- ---- labels that are used stay where they stand once

abbrev placed_in : List AsmItem → AsmItem → Bool
placed_in all i = is_placed all (used_label i)

stays_placed : (all near : List AsmItem) (o : Option ℕ) → ((l : ℕ) → stands_once near l ≡ stands_once all l)
    → is_placed all o ≡ true → is_placed near o ≡ true
stays_placed all near None same h = refl
stays_placed all near (Some l) same h = same l ∙ h

item_placed : (all near : List AsmItem) (i : AsmItem) (d : Option ℤ) → ((l : ℕ) → stands_once near l ≡ stands_once all l)
    → placed_in all i ≡ true → placed_in near (by_distance i d) ≡ true
item_placed all near (Plain i) d same h = refl
item_placed all near (Label l) d same h = refl
item_placed all near (JumpTo l) None same h = same l ∙ h
item_placed all near (JumpTo l) (Some k) same h = refl
item_placed all near (CallTo l) None same h = same l ∙ h
item_placed all near (CallTo l) (Some k) same h = refl
item_placed all near (BranchTo set flag l) None same h = same l ∙ h
item_placed all near (BranchTo set flag l) (Some k) same h = refl
item_placed all near (LoadPart d o k part) e same h = refl
item_placed all near (LoadObj d o k) e same h = refl
item_placed all near (StoreObj o k r) e same h = refl

over_placed : (near : List AsmItem) (i : AsmItem) (d : Option ℤ) → placed_in near i ≡ true
    → list_all (placed_in near) (over_jump i d) ≡ true
over_placed near (Plain i) d h = refl
over_placed near (Label l) d h = refl
over_placed near (JumpTo l) d h = one (placed_in near) (JumpTo l) h
over_placed near (CallTo l) d h = one (placed_in near) (CallTo l) h
over_placed near (BranchTo set flag l) None h = one (placed_in near) (BranchTo set flag l) h
over_placed near (BranchTo set flag l) (Some k) h = refl
over_placed near (LoadPart d o k part) e h = refl
over_placed near (LoadObj d o k) e h = refl
over_placed near (StoreObj o k r) e h = refl

row_placed : (all near : List AsmItem) → ((l : ℕ) → stands_once near l ≡ stands_once all l) → (long short : ℕ → Option ℕ)
    (pc at : ℕ) (i : AsmItem) → placed_in all i ≡ true → list_all (placed_in near) (near_row long short pc at i) ≡ true
row_placed all near same long short pc at i h =
    let by = by_distance i (reached short at i) in
    let over = over_jump i (reached_over short at i) in
    let p = placed_in near in
    let there = stays_placed all near (used_label i) same h in
    chosen p (is_near long pc i) (by ∷ []) (if is_over long pc i then over else i ∷ [])
    (one p by (item_placed all near i (reached short at i) same h))
    (chosen p (is_over long pc i) over (i ∷ []) (over_placed near i (reached_over short at i) there) (one p i there))

all_placed : (all near : List AsmItem) → ((l : ℕ) → stands_once near l ≡ stands_once all l) → (long short : ℕ → Option ℕ)
    (pc at : ℕ) (is : List AsmItem) → list_all (placed_in all) is ≡ true
    → list_all (placed_in near) (near_from long short pc at is) ≡ true
all_placed all near same long short pc at [] h = refl
all_placed all near same long short pc at (i ∷ is) h =
    let row = near_row long short pc at i in
    let rest = near_from long short (pc + item_words i) (at + code_words row) is in
    let p = and_parts (placed_in all i) (list_all (placed_in all) is) h in
    both (placed_in near) row rest (row_placed all near same long short pc at i p.0)
    (all_placed all near same long short (pc + item_words i) (at + code_words row) is p.1)

once_same : (items : List AsmItem) (l : ℕ) → stands_once (near_items items) l ≡ stands_once items l
once_same items l = ap (λ n. n == 1) (labels_stay items l)

pub programs_stay_valid : ProgramsStayValid
programs_stay_valid objects work asm near items frames entry h =
    let all = asm.items.items in
    let sizes = sizes_of objects asm.frames.items work in
    let valid = items_stay_valid sizes all h.items in
    let placed =
    all_placed all (near_items all) (once_same all) (word_of all) (word_of (drafted (word_of all) 0 all)) 0 0 all h.labels in
    record {
      items =
          subst (λ fs. IsTrue (list_all (is_valid_item (sizes_of objects fs work)) near.items.items)) (sym frames)
          (subst (λ xs. IsTrue (list_all (is_valid_item sizes) xs)) (sym items) valid);
      labels = subst (λ xs. IsTrue (list_all (placed_in xs) xs)) (sym items) placed;
      entry =
          subst (λ xs. IsTrue (stands_once xs near.entry)) (sym items)
          (subst (λ l. IsTrue (stands_once (near_items all) l)) (sym entry) (once_same all asm.entry ∙ h.entry));
      functions = let f = h.functions in rw frames f;
    }

-- ---- labels that are used have words

used_has_word : (e : Env) (all : List AsmItem) (o : Option ℕ) → ((l : ℕ) → stands_once all l ≡ true → e.word_of l < 65536)
    → is_placed all o ≡ true → HasWord e o
used_has_word e all None h p = tt
used_has_word e all (Some l) h p = h l p

used_have_words : (e : Env) (all is : List AsmItem) → ((l : ℕ) → stands_once all l ≡ true → e.word_of l < 65536)
    → list_all (placed_in all) is ≡ true → HaveWords e is
used_have_words e all [] h p = tt
used_have_words e all (i ∷ is) h p =
    let q = and_parts (placed_in all i) (list_all (placed_in all) is) p in
    (used_has_word e all (used_label i) h q.0, used_have_words e all is h q.1)

pub labels_have_words : UsedLabelsHaveWords
labels_have_words e items p h = used_have_words e items items (λ l o. h l (once_same items l ∙ o)) p
