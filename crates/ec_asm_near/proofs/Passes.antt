-- One item more of each pass.
use Rattle.std.proofs.Common.{◌≡◌, ℕ, ◌+◌, ◌<◌, ◌≤◌, Bool, true, false, List, [], ◌∷◌, ◌++◌, length, get_or, drop, Option, Some, None, ℤ}
use Rattle.std.proofs.Common.{sym, ap, ◌∙◌, subst, append_assoc, arith}
use Rattle.std.specs.Prelude.{if◌then◌else◌}
use Rattle.std.proofs.lemmas.List.{drop_more}
use Rattle.ec_asm.specs.declared.items.AsmItem.{AsmItem}
use Rattle.ec_asm.specs.declared.items.AsmItem.TheVariants.{Plain, Label, JumpTo, CallTo, BranchTo, LoadPart, LoadObj, StoreObj}
use Rattle.ec_asm.specs.Items.{item_words, code_words}
use Rattle.ec_asm.proofs.ItemWords.{item_below}
use Rattle.ec_asm_near.specs.Near.{reached, reached_over, is_near, is_over, draft_row, drafted, by_distance, over_jump, near_row, near_from}
use Rattle.ec_asm_near.proofs.Shortened.{words_cons}

appended : (out out' row xs : List AsmItem) → out' ≡ out ++ row → out' ++ xs ≡ out ++ (row ++ xs)
appended out out' row xs h = ap (λ o. o ++ xs) h ∙ append_assoc out row xs

-- ---- what stands for an item has three words at most

one_below : (i : AsmItem) → code_words (i ∷ []) ≤ 3
one_below i = omega (arith, words_cons i [], item_below i)

over_below : (i : AsmItem) (r : Option ℤ) → code_words (over_jump i r) ≤ 3
over_below (Plain i) r = one_below (Plain i)
over_below (Label l) r = one_below (Label l)
over_below (JumpTo l) r = one_below (JumpTo l)
over_below (CallTo l) r = one_below (CallTo l)
over_below (BranchTo set flag l) None = one_below (BranchTo set flag l)
over_below (BranchTo true flag l) (Some k) = omega arith
over_below (BranchTo false flag l) (Some k) = omega arith
over_below (LoadPart d o k part) r = one_below (LoadPart d o k part)
over_below (LoadObj d o k) r = one_below (LoadObj d o k)
over_below (StoreObj o k s) r = one_below (StoreObj o k s)

where_below : (b : Bool) (xs ys : List AsmItem) → code_words xs ≤ 3 → code_words ys ≤ 3
    → (let row : List AsmItem = if b then xs else ys in code_words row ≤ 3)
where_below true xs ys h k = h
where_below false xs ys h k = k

row_below : (long short : ℕ → Option ℕ) (pc at : ℕ) (i : AsmItem) → code_words (near_row long short pc at i) ≤ 3
row_below long short pc at i =
    let over = over_jump i (reached_over short at i) in
    where_below (is_near long pc i) (by_distance i (reached short at i) ∷ []) (if is_over long pc i then over else i ∷ [])
    (one_below (by_distance i (reached short at i)))
    (where_below (is_over long pc i) over (i ∷ []) (over_below i (reached_over short at i)) (one_below i))

-- ---- one item more

-- the draft: what is appended and what is left give what all items give, and the item has three words at most
pub draft_more : (words : ℕ → Option ℕ) (items out out' row whole : List AsmItem) (pc more i : ℕ) (d : AsmItem) → i < length items
    → out ++ drafted words pc (drop i items) ≡ whole → out' ≡ out ++ row
    → row ≡ draft_row words pc (get_or items i d) → more ≡ item_words (get_or items i d)
    → (out' ++ drafted words (pc + more) (drop (i + 1) items) ≡ whole) × (more ≤ 3)
draft_more words items out out' row whole pc more i d l h push is m =
    let x = get_or items i d in
    let rest = drafted words (pc + item_words x) (drop (i + 1) items) in
    let a = appended out out' row (drafted words (pc + more) (drop (i + 1) items)) push in
    let b = ap (λ w. out ++ (row ++ drafted words (pc + w) (drop (i + 1) items))) m in
    let c = ap (λ y. out ++ (y ++ rest)) is in
    let q = ap (λ xs. out ++ drafted words pc xs) (drop_more items i d l) in
    (a ∙ b ∙ c ∙ sym q ∙ h, subst (λ w. w ≤ 3) (sym m) (item_below x))

-- the items shortened
pub near_more : (long short : ℕ → Option ℕ) (items out out' row whole : List AsmItem) (pc at more short_more i : ℕ) (d : AsmItem)
    → i < length items → out ++ near_from long short pc at (drop i items) ≡ whole → out' ≡ out ++ row
    → row ≡ near_row long short pc at (get_or items i d) → more ≡ item_words (get_or items i d) → short_more ≡ code_words row
    → (out' ++ near_from long short (pc + more) (at + short_more) (drop (i + 1) items) ≡ whole) × (more ≤ 3) × (short_more ≤ 3)
near_more long short items out out' row whole pc at more short_more i d l h push is m sm =
    let x = get_or items i d in
    let tail = drop (i + 1) items in
    let a = appended out out' row (near_from long short (pc + more) (at + short_more) tail) push in
    let b = ap (λ w. out ++ (row ++ near_from long short (pc + w) (at + short_more) tail)) m in
    let c = ap (λ w. out ++ (row ++ near_from long short (pc + item_words x) (at + w) tail)) sm in
    let e = ap (λ z. out ++ (z ++ near_from long short (pc + item_words x) (at + code_words z) tail)) is in
    let q = ap (λ xs. out ++ near_from long short pc at xs) (drop_more items i d l) in
    let short_words = sm ∙ ap code_words is in (
      a ∙ b ∙ c ∙ e ∙ sym q ∙ h,
      subst (λ w. w ≤ 3) (sym m) (item_below x),
      subst (λ w. w ≤ 3) (sym short_words) (row_below long short pc at x),
    )
