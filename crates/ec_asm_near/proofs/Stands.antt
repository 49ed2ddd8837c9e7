-- Where the items stand shortened, the items stand.
use Rattle.std.proofs.Common.{◌≡◌, ℕ, ◌+◌, ◌-◌, ◌<◌, ◌≤◌, ⊎_elim, inl, Bool, true, false, cond, List, [], ◌∷◌, ◌++◌, Option, Some, None}
use Rattle.std.proofs.Common.{refl, sym, ap, ◌∙◌, subst, arith}
use Rattle.std.specs.Prelude.{◌==◌, nat_lt, if◌then◌else◌, ℤ, pos, negsuc}
use Rattle.std.proofs.lemmas.Bool.{lt-ltb, le-ltb, cases_lt, eqb-true}
use Rattle.ec_isa.specs.declared.instructions.Instr.TheVariants.{Rjmp, Rcall}
use Rattle.ec_asm.specs.declared.items.AsmItem.{AsmItem}
use Rattle.ec_asm.specs.declared.items.AsmItem.TheVariants.{Plain, Label, JumpTo, CallTo, BranchTo, LoadPart, LoadObj, StoreObj}
use Rattle.ec_asm.specs.Change.{Env}
use Rattle.ec_asm.specs.Items.{At, Stands, HasAt, JumpsAt, distance, branch_if, branch_unless, item_words, code_words}
use Rattle.ec_asm.specs.Laws.{NearJumpsStand, NearCallsStand, NearBranchesStand}
use Rattle.ec_asm.specs.Valid.{used_label, stands_once}
use Rattle.ec_asm.proofs.Hoare.{has_parts}
use Rattle.ec_asm_near.specs.Near.{label_word, word_of, reached, reached_over, is_near, is_over, drafted, by_distance, over_jump, near_row}
use Rattle.ec_asm_near.specs.Near.{near_from, near_items}
use Rattle.ec_asm_near.specs.Laws.{HasWord, HaveWords, NearCodeStands}
use Rattle.ec_asm_near.proofs.Noted.{count_of, count_cons}
use Rattle.ec_asm_near.proofs.Shortened.{words_cons, words_append}
use Rattle.ec_asm_near.proofs.Valid.{IsFound, found_by}
use Rattle.ec_asm_near.proofs.Words.{places_are_drafted}

pub record NearLaws : Type 0 where
  pub jump : NearJumpsStand
  pub call : NearCallsStand
  pub branch : NearBranchesStand

-- ---- no item has more words than its long form

branch_word : (set : Bool) (flag : ℕ) (k : ℤ) (e : Env) (pc end : ℕ) → At e (branch_if set flag k) pc end → end ≡ pc + 1
branch_word true flag k e pc end a = a.ends
branch_word false flag k e pc end a = a.ends

unless_word : (set : Bool) (flag : ℕ) (k : ℤ) (e : Env) (pc end : ℕ) → At e (branch_unless set flag k) pc end
    → end ≡ pc + 1
unless_word true flag k e pc end a = a.ends
unless_word false flag k e pc end a = a.ends

jump_within : (e : Env) (l pc end : ℕ) → JumpsAt e l pc end → end ≤ pc + 2
jump_within e l pc end h = ⊎_elim (λ a. let q = a.0.ends in omega arith) (λ a. let q = a.1.ends in omega arith) h

item_within : (e : Env) (i : AsmItem) (pc end : ℕ) → Stands e i pc end → end ≤ pc + item_words i
item_within e (Plain i) pc end h = let q = h.ends in omega arith
item_within e (Label l) pc end h = let q = h.1 in omega arith
item_within e (JumpTo l) pc end h = jump_within e l pc end h
item_within e (CallTo l) pc end h = ⊎_elim (λ a. let q = a.0.ends in omega arith) (λ a. let q = a.1.ends in omega arith) h
item_within e (BranchTo set flag l) pc end h =
    ⊎_elim
    (λ a.
    let p = unless_word set flag a.1 e pc a.0 a.2 in
    let q = jump_within e l a.0 end a.3 in
    omega arith)
    (λ a. let p = branch_word set flag a.0 e pc end a.1 in omega arith) h
item_within e (LoadPart d o k part) pc end h = let q = h.ends in omega arith
item_within e (LoadObj d o k) pc end h =
    ⊎_elim (λ a. let q = a.ends in omega arith) (λ a. let q = a.1.ends in omega arith) h
item_within e (StoreObj o k r) pc end h =
    ⊎_elim (λ a. let q = a.ends in omega arith) (λ a. let q = a.1.ends in omega arith) h

has_within : (e : Env) (is : List AsmItem) (pc end : ℕ) → HasAt e is pc end → end ≤ pc + code_words is
has_within e [] pc end h = omega arith
has_within e (i ∷ is) pc end h =
    let a = item_within e i pc h.0 h.1 in
    let b = has_within e is h.0 end h.2 in
    let c = words_cons i is in
    omega arith

-- so where they have all these words, each has its own
ends_at : (e : Env) (i : AsmItem) (is : List AsmItem) (pc mid end : ℕ) → end ≡ pc + code_words (i ∷ is)
    → Stands e i pc mid → HasAt e is mid end → (mid ≡ pc + item_words i) × (end ≡ mid + code_words is)
ends_at e i is pc mid end q s h =
    let a = item_within e i pc mid s in
    let b = has_within e is mid end h in
    let c = words_cons i is in
    (omega arith, omega arith)

rows_end : (e : Env) (row is : List AsmItem) (pc mid end : ℕ) → end ≡ pc + code_words (row ++ is) → HasAt e row pc mid
    → HasAt e is mid end → (mid ≡ pc + code_words row) × (end ≡ mid + code_words is)
rows_end e row is pc mid end q s h =
    let a = has_within e row pc mid s in
    let b = has_within e is mid end h in
    let c = words_append row is in
    (omega arith, omega arith)

-- ---- a label that stands has the word where it stands

label_at : (e : Env) (l : ℕ) (is : List AsmItem) (pc end : ℕ) → end ≡ pc + code_words is → HasAt e is pc end
    → 0 < count_of l is → e.word_of l < 65536 → e.word_of l ≡ pc + label_word is l
label_at e l [] pc end q h c w = let z : count_of l [] ≡ 0 = refl in absurd (omega arith)
label_at e l (Label k ∷ is) pc end q h c w =
    let ends = ends_at e (Label k) is pc h.0 end q h.1 h.2 in
    by_case (k == l) refl (λ some. label_at e l is h.0 end ends.1 h.2 some w)
  where
    by_case : (b : Bool) → (k == l) ≡ b → (0 < count_of l is → e.word_of l ≡ h.0 + label_word is l)
        → e.word_of l ≡ pc + (if b then 0 else label_word is l)
    by_case true t rest =
        let here : e.word_of l ≡ pc = subst (λ x. e.word_of x < 65536 → e.word_of x ≡ pc) (eqb-true k l t) h.1.0 w in
        omega arith
    by_case false t rest =
        let n = count_cons l (Label k) is ∙ ap (λ b. cond b 1 0 + count_of l is) t in
        let same = h.1.1 in
        let there = rest (omega arith) in
        omega arith
label_at e l (i ∷ is) pc end q h c w =
    let n = count_cons l i is in
    let ends = ends_at e i is pc h.0 end q h.1 h.2 in
    let e0 = ends.0 in
    let rest = label_at e l is h.0 end ends.1 h.2 (omega arith) w in
    omega arith

-- ---- distances are the same from any first word

distance-shift : (base at to : ℕ) → distance (base + at) (base + to) ≡ distance at to
distance-shift base at to =
    ⊎_elim
    (λ l.
    let a = lt-ltb at to l in
    let b = lt-ltb (base + at) (base + to) (omega arith) in
    let q : base + to - (base + at) - 1 ≡ to - at - 1 = omega arith in
    choose (nat_lt (base + at) (base + to)) (nat_lt at to) (b ∙ sym a) q (omega arith))
    (λ l.
    let a = le-ltb at to l in
    let b = le-ltb (base + at) (base + to) (omega arith) in
    let q : base + to - (base + at) - 1 ≡ to - at - 1 = omega arith in
    choose (nat_lt (base + at) (base + to)) (nat_lt at to) (b ∙ sym a) q (omega arith))
    (cases_lt at to)
  where
    choose : (b c : Bool) → b ≡ c → base + to - (base + at) - 1 ≡ to - at - 1 → base + at - (base + to) ≡ at - to
        → (if b then pos (base + to - (base + at) - 1) else negsuc (base + at - (base + to)))
        ≡ (if c then pos (to - at - 1) else negsuc (at - to))
    choose true true h p n = ap pos p
    choose false false h p n = ap negsuc n
    choose true false h p n = cc
    choose false true h p n = cc

-- ---- items by distance

-- the labels have the words that a table has of them, from a word on
record LabelsAt (e : Env) (base : ℕ) (words : ℕ → Option ℕ) : Type 0 where
  word : (l w : ℕ) → words l ≡ Some w → e.word_of l < 65536 → e.word_of l ≡ base + w

-- a distance that is given is the one to the word of the label
found_at : (e : Env) (base n at pc l : ℕ) (words : ℕ → Option ℕ) (k : ℤ) → LabelsAt e base words → pc ≡ base + at
    → e.word_of l < 65536 → IsFound n at (words l) k → k ≡ distance pc (e.word_of l)
found_at e base n at pc l words k labels q w f =
    let there = labels.word l f.to f.found w in
    f.is ∙ sym (distance-shift base at f.to) ∙ ap (λ x. distance x (base + f.to)) (sym q) ∙ ap (λ x. distance pc x) (sym there)

jump_stands : NearLaws → (e : Env) (l pc end : ℕ) (d : Option ℤ) → e.word_of l < 65536
    → ((k : ℤ) → d ≡ Some k → k ≡ distance pc (e.word_of l)) → Stands e (by_distance (JumpTo l) d) pc end
    → Stands e (JumpTo l) pc end
jump_stands laws e l pc end None w h s = s
jump_stands laws e l pc end (Some k) w h s = laws.jump e l pc end (subst (λ x. At e (Rjmp x) pc end) (h k refl) s) w

call_stands : NearLaws → (e : Env) (l pc end : ℕ) (d : Option ℤ) → e.word_of l < 65536
    → ((k : ℤ) → d ≡ Some k → k ≡ distance pc (e.word_of l)) → Stands e (by_distance (CallTo l) d) pc end
    → Stands e (CallTo l) pc end
call_stands laws e l pc end None w h s = s
call_stands laws e l pc end (Some k) w h s = laws.call e l pc end (subst (λ x. At e (Rcall x) pc end) (h k refl) s) w

branch_stands : NearLaws → (e : Env) (set : Bool) (flag l pc end : ℕ) (d : Option ℤ) → e.word_of l < 65536
    → ((k : ℤ) → d ≡ Some k → k ≡ distance pc (e.word_of l)) → Stands e (by_distance (BranchTo set flag l) d) pc end
    → Stands e (BranchTo set flag l) pc end
branch_stands laws e set flag l pc end None w h s = s
branch_stands laws e set flag l pc end (Some k) w h s =
    let a : At e (branch_if set flag (distance pc (e.word_of l))) pc end = subst (λ x. At e (branch_if set flag x) pc end) (h k refl) s in
    let q = branch_word set flag (distance pc (e.word_of l)) e pc end a in
    let r = a.room in
    laws.branch e set flag l pc end a (omega arith) w

-- ---- what stands for an item

alone : (e : Env) (i : AsmItem) (pc end : ℕ) → HasAt e (i ∷ []) pc end → Stands e i pc end
alone e i pc end h = subst (λ n. Stands e i pc n) (sym h.2) h.1

chosen_stands : (e : Env) (i : AsmItem) (pc end : ℕ) (b : Bool) (is js : List AsmItem) → (HasAt e is pc end → Stands e i pc end)
    → (HasAt e js pc end → Stands e i pc end) → (let row : List AsmItem = if b then is else js in HasAt e row pc end)
    → Stands e i pc end
chosen_stands e i pc end true is js f g h = f h
chosen_stands e i pc end false is js f g h = g h

-- the first of some items, and the others behind it
record First (e : Env) (i : AsmItem) (is : List AsmItem) (pc end : ℕ) : Type 0 where
  mid : ℕ
  here : Stands e i pc mid
  rest : HasAt e is mid end

first : (e : Env) (i : AsmItem) (is : List AsmItem) (pc end : ℕ) → HasAt e (i ∷ is) pc end → First e i is pc end
first e i is pc end h = record { mid = h.0; here = h.1; rest = h.2 }

over_stands : NearLaws → (e : Env) (set : Bool) (flag l pc end : ℕ) (d : Option ℤ) → e.word_of l < 65536
    → ((k : ℤ) → d ≡ Some k → k ≡ distance (pc + 1) (e.word_of l)) → HasAt e (over_jump (BranchTo set flag l) d) pc end
    → Stands e (BranchTo set flag l) pc end
over_stands laws e set flag l pc end None w h s = alone e (BranchTo set flag l) pc end s
over_stands laws e set flag l pc end (Some k) w h s =
    let a = first e (Plain (branch_unless set flag (pos 1))) (Plain (Rjmp k) ∷ []) pc end s in
    let one = unless_word set flag (pos 1) e pc a.mid a.here in
    let jump : At e (Rjmp k) a.mid end = alone e (Plain (Rjmp k)) a.mid end a.rest in
    let ends = jump.ends in
    let room = jump.room in
    let far = h k refl ∙ ap (λ n. distance n (e.word_of l)) (sym one) in
    inl (
      a.mid,
      pos 1,
      a.here,
      laws.jump e l a.mid end (subst (λ x. At e (Rjmp x) a.mid end) far jump) w,
      omega (arith, one, ends, room),
    )

row_stands : NearLaws → (e : Env) (base : ℕ) (long short : ℕ → Option ℕ) → LabelsAt e base short → (i : AsmItem)
    (lp at pc end : ℕ) → pc ≡ base + at → HasWord e (used_label i) → HasAt e (near_row long short lp at i) pc end
    → Stands e i pc end
row_stands laws e base long short labels (Plain i) lp at pc end q w s = alone e (Plain i) pc end s
row_stands laws e base long short labels (Label l) lp at pc end q w s = alone e (Label l) pc end s
row_stands laws e base long short labels (JumpTo l) lp at pc end q w s =
    let i = JumpTo l in
    let by = by_distance i (reached short at i) in
    chosen_stands e i pc end (is_near long lp i) (by ∷ []) (i ∷ [])
    (λ near.
    jump_stands laws e l pc end (reached short at i) w
    (λ k f. found_at e base 2048 at pc l short k labels q w (found_by 2048 at (short l) k f)) (alone e by pc end near))
    (λ far. alone e i pc end far) s
row_stands laws e base long short labels (CallTo l) lp at pc end q w s =
    let i = CallTo l in
    let by = by_distance i (reached short at i) in
    chosen_stands e i pc end (is_near long lp i) (by ∷ []) (i ∷ [])
    (λ near.
    call_stands laws e l pc end (reached short at i) w
    (λ k f. found_at e base 2048 at pc l short k labels q w (found_by 2048 at (short l) k f)) (alone e by pc end near))
    (λ far. alone e i pc end far) s
row_stands laws e base long short labels (BranchTo set flag l) lp at pc end q w s =
    let i = BranchTo set flag l in
    let by = by_distance i (reached short at i) in
    let over = over_jump i (reached_over short at i) in
    let next : pc + 1 ≡ base + (at + 1) = omega arith in
    chosen_stands e i pc end (is_near long lp i) (by ∷ []) (if is_over long lp i then over else i ∷ [])
    (λ near.
    branch_stands laws e set flag l pc end (reached short at i) w
    (λ k f. found_at e base 64 at pc l short k labels q w (found_by 64 at (short l) k f)) (alone e by pc end near))
    (λ far.
    chosen_stands e i pc end (is_over long lp i) over (i ∷ [])
    (λ jumps.
    over_stands laws e set flag l pc end (reached_over short at i) w
    (λ k f. found_at e base 2048 (at + 1) (pc + 1) l short k labels next w (found_by 2048 (at + 1) (short l) k f)) jumps)
    (λ long. alone e i pc end long) far)
    s
row_stands laws e base long short labels (LoadPart d o k part) lp at pc end q w s = alone e (LoadPart d o k part) pc end s
row_stands laws e base long short labels (LoadObj d o k) lp at pc end q w s = alone e (LoadObj d o k) pc end s
row_stands laws e base long short labels (StoreObj o k r) lp at pc end q w s = alone e (StoreObj o k r) pc end s

-- ---- the whole

all_stand : NearLaws → (e : Env) (base : ℕ) (long short : ℕ → Option ℕ) → LabelsAt e base short → (is : List AsmItem)
    (lp at pc end : ℕ) → pc ≡ base + at → end ≡ pc + code_words (near_from long short lp at is) → HaveWords e is
    → HasAt e (near_from long short lp at is) pc end → HasAt e is pc end
all_stand laws e base long short labels [] lp at pc end q r w h = h
all_stand laws e base long short labels (i ∷ is) lp at pc end q r w h =
    let row = near_row long short lp at i in
    let rest = near_from long short (lp + item_words i) (at + code_words row) is in
    let p = has_parts e row rest pc end h in
    let ends = rows_end e row rest pc p.0 end r p.1 p.2 in
    let here = ends.0 in
    let next : p.0 ≡ base + (at + code_words row) = omega arith in (
      p.0,
      row_stands laws e base long short labels i lp at pc p.0 q w.0 p.1,
      all_stand laws e base long short labels is (lp + item_words i) (at + code_words row) p.0 end next ends.1 w.1 p.2,
    )

where_once : (b : Bool) (w to : ℕ) → (let o : Option ℕ = if b then Some w else None in o) ≡ Some to
    → (b ≡ true) × (w ≡ to)
where_once true w to h = (refl, cc)
where_once false w to h = cc

labels_at : (e : Env) (items : List AsmItem) (pc end : ℕ) → end ≡ pc + code_words (near_items items)
    → HasAt e (near_items items) pc end → LabelsAt e pc (word_of (drafted (word_of items) 0 items))
labels_at e items pc end q h = record {
  word = λ l to f w.
      let near = near_items items in
      let p = where_once (stands_once near l) (label_word near l) to (places_are_drafted items l ∙ f) in
      let n = eqb-true (count_of l near) 1 p.0 in
      label_at e l near pc end q h (omega arith) w ∙ ap (λ x. pc + x) p.1;
}

pub near_code_stands : NearLaws → NearCodeStands
near_code_stands laws e items pc w h =
    let short = word_of (drafted (word_of items) 0 items) in
    let end = pc + code_words (near_items items) in
    all_stand laws e pc (word_of items) short (labels_at e items pc end refl h) items 0 0 pc end (omega arith) refl w h
