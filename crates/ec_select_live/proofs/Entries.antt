-- Entries of a table.
use Rattle.std.proofs.Common.{◌≡◌, ◌≢◌, ℕ, zero, suc, ◌<◌, ◌≤◌, List, [], ◌∷◌, refl, sym, ap, ◌∙◌, subst, arith}
use Rattle.std.proofs.Common.{length, get_or, set, replicate, ⊎_elim, get_or-set_same, get_or-set_other, map, Bool}
use Rattle.std.proofs.Common.{true, false, ◌+◌, below_more}
use Rattle.std.proofs.lemmas.List.{map-set, get_or-map, get_or_default}
use Rattle.std.proofs.lemmas.Bool.{cases_eq}
use Rattle.ec_select_operations.specs.Needs.{Need}
use Rattle.ec_select_live.specs.Tables.{need_of, needs_of, IsBounded, IsTable, NeedsNoMore, TellNoMore, row_room}
use Rattle.ec_select_live.specs.Tables.{room}

pub within_row : (row : List ℕ) (place : ℕ) → need_of row place < 16 → place < length row
within_row [] place h = absurd (omega arith)
within_row (x ∷ row) zero h = omega arith
within_row (x ∷ row) (suc place) h = let k = within_row row place h in omega arith

pub within_table : (rows : List (List ℕ)) (l place : ℕ) → needs_of rows l place < 16 → l < length rows
within_table [] l place h = absurd (omega arith)
within_table (r ∷ rows) zero place h = omega arith
within_table (r ∷ rows) (suc l) place h = let k = within_table rows l place h in omega arith

abbrev pub raised : List (List ℕ) → (l place n : ℕ) → List (List ℕ)
raised rows l place n = set rows l (set (get_or rows l []) place n)

pub raised_here : (rows : List (List ℕ)) (l place n : ℕ) → needs_of rows l place < 16
    → needs_of (raised rows l place n) l place ≡ n
raised_here rows l place n h =
    let k = within_table rows l place h in
    let w = within_row (get_or rows l []) place h in
    ap (λ (row : List ℕ). need_of row place) (get_or-set_same rows l (set (get_or rows l []) place n) [] k)
    ∙ get_or-set_same (get_or rows l []) place n 16 w

pub raised_place : (rows : List (List ℕ)) (l place n p : ℕ) → needs_of rows l place < 16 → p ≢ place
    → needs_of (raised rows l place n) l p ≡ needs_of rows l p
raised_place rows l place n p h o =
    let k = within_table rows l place h in
    ap (λ (row : List ℕ). need_of row p) (get_or-set_same rows l (set (get_or rows l []) place n) [] k)
    ∙ get_or-set_other (get_or rows l []) place p n 16 o

pub raised_label : (rows : List (List ℕ)) (l place n k p : ℕ) → k ≢ l
    → needs_of (raised rows l place n) k p ≡ needs_of rows k p
raised_label rows l place n k p o =
    ap (λ (row : List ℕ). need_of row p) (get_or-set_other rows l k (set (get_or rows l []) place n) [] o)

-- an entry that was raised, or one that stays
pub raised_cases : (rows : List (List ℕ)) (l place n k p : ℕ) (P : ℕ → Type 0) → needs_of rows l place < 16
    → (k ≡ l → p ≡ place → P n) → P (needs_of rows k p) → P (needs_of (raised rows l place n) k p)
raised_cases rows l place n k p P h here other =
    ⊎_elim
    (λ (same : k ≡ l).
    ⊎_elim
    (λ (again : p ≡ place).
    let e : needs_of (raised rows l place n) k p ≡ n =
    ap (λ x. needs_of (raised rows l place n) x p) same ∙ ap (λ x. needs_of (raised rows l place n) l x) again
    ∙ raised_here rows l place n h in
    subst P (sym e) (here same again))
    (λ (o : p ≡ place → ⊥).
    let e : needs_of (raised rows l place n) k p ≡ needs_of rows k p =
    ap (λ x. needs_of (raised rows l place n) x p) same ∙ raised_place rows l place n p h o ∙ ap (λ x. needs_of rows x p) (sym same) in
    subst P (sym e) other)
    (cases_eq p place))
    (λ (o : k ≡ l → ⊥). subst P (sym (raised_label rows l place n k p o)) other)
    (cases_eq k l)

pub raised_table : (s : ℕ) (rows : List (List ℕ)) (l place n : ℕ) → needs_of rows l place < n → n ≤ 16
    → IsTable s (needs_of rows) → IsTable s (needs_of (raised rows l place n))
raised_table s rows l place n h m t =
    let g : needs_of rows l place < 16 = omega arith in
    record {
      most = λ k p. raised_cases rows l place n k p (λ x. x ≤ 16) g (λ a b. m) (t.most k p);
      beyond = λ k p q.
          raised_cases rows l place n k p (λ x. x ≡ 16) g
          (λ (a : k ≡ l) (b : p ≡ place).
          let f : needs_of rows l place ≡ 16 = t.beyond l place (subst (λ x. s ≤ x) b q) in
          absurd (omega arith))
          (t.beyond k p q);
    }

-- a table in which nothing is needed yet
pub row_of_nothing : (n place : ℕ) → need_of (replicate n 0) place ≤ 16
row_of_nothing zero place = omega arith
row_of_nothing (suc n) zero = omega arith
row_of_nothing (suc n) (suc place) = row_of_nothing n place

pub row_beyond : (n place : ℕ) → n ≤ place → need_of (replicate n 0) place ≡ 16
row_beyond zero place h = refl
row_beyond (suc n) zero h = absurd (omega arith)
row_beyond (suc n) (suc place) h = row_beyond n place (omega arith)

nothing_most : (labels s l place : ℕ) → needs_of (replicate labels (replicate s 0)) l place ≤ 16
nothing_most zero s l place = omega arith
nothing_most (suc labels) s zero place = row_of_nothing s place
nothing_most (suc labels) s (suc l) place = nothing_most labels s l place

nothing_beyond : (labels s l place : ℕ) → s ≤ place → needs_of (replicate labels (replicate s 0)) l place ≡ 16
nothing_beyond zero s l place h = refl
nothing_beyond (suc labels) s zero place h = row_beyond s place h
nothing_beyond (suc labels) s (suc l) place h = nothing_beyond labels s l place h

pub nothing_table : (labels s : ℕ) → IsTable s (needs_of (replicate labels (replicate s 0)))
nothing_table labels s = record { most = nothing_most labels s; beyond = nothing_beyond labels s }

-- ---- room

row_falls : (row : List ℕ) (place n : ℕ) → need_of row place < n → n ≤ 16
    → row_room (set row place n) < row_room row
row_falls [] place n h m = absurd (omega arith)
row_falls (x ∷ row) zero n h m = omega arith
row_falls (x ∷ row) (suc place) n h m = let k = row_falls row place n h m in omega arith

pub room_falls : (rows : List (List ℕ)) (l place n : ℕ) → needs_of rows l place < n → n ≤ 16
    → room (raised rows l place n) < room rows
room_falls [] l place n h m = absurd (omega arith)
room_falls (r ∷ rows) zero place n h m = let k = row_falls r place n h m in omega arith
room_falls (r ∷ rows) (suc l) place n h m = let k = room_falls rows l place n h m in omega arith

-- ---- a table that was changed

pub after_raise : (rows after : List (List ℕ)) (l place n : ℕ) → after ≡ raised rows l place n
    → needs_of rows l place < n → n ≤ 16
    → ((s : ℕ) → IsTable s (needs_of rows) → IsTable s (needs_of after)) × (room after < room rows)
after_raise rows after l place n e h m =
    subst (λ (x : List (List ℕ)). ((s : ℕ) → IsTable s (needs_of rows) → IsTable s (needs_of x)) × (room x < room rows)) (sym e)
    (λ s t. raised_table s rows l place n h m t, room_falls rows l place n h m)

-- rows that are vectors, with f for their items
pub raised_rows : {V : Type 0} (f : V → List ℕ) (vs : List V) (now : List (List ℕ)) (row w : V) (l place n : ℕ)
    → now ≡ map f vs → f w ≡ set (f row) place n → row ≡ get_or vs l row → l < length vs
    → map f (set vs l w) ≡ raised now l place n
raised_rows f vs now row w l place n v p q h =
    let e : set (f row) place n ≡ set (get_or (map f vs) l []) place n =
    ap (λ (x : List ℕ). set x place n) (ap f q ∙ sym (get_or-map f vs l row [] h)) in
    let g : map f (set vs l w) ≡ raised (map f vs) l place n =
    map-set f vs l w ∙ ap (λ (x : List ℕ). set (map f vs) l x) (p ∙ e) in
    subst (λ (m : List (List ℕ)). map f (set vs l w) ≡ raised m l place n) (sym v) g

-- ---- a row of a table that is joined, up to a place: first there was the table t0

pub record Joining (l : ℕ) (t0 t : List (List ℕ)) (need : List ℕ) (place : ℕ) (grown : Bool) : Type 0 where
  pub kept : (slots : ℕ) → IsTable slots (needs_of t0) → IsTable slots (needs_of t)
  pub same : grown ≡ false → t ≡ t0
  pub grew : grown ≡ true → room t < room t0
  pub joined : grown ≡ false → (k : ℕ) → k < place → need_of need k ≤ needs_of t l k
  pub least : (labels s : ℕ) (other : ℕ → Need) → TellNoMore labels s (needs_of t0) other
      → NeedsNoMore s (need_of need) (other l) → TellNoMore labels s (needs_of t) other

never_more : (l : ℕ) (t0 t : List (List ℕ)) (need : List ℕ) (place : ℕ) (grown : Bool)
    → Joining l t0 t need place grown → room t ≤ room t0
never_more l t0 t need place true z = let x = z.grew refl in omega arith
never_more l t0 t need place false z = let x = ap room (z.same refl) in omega arith

pub joining_raised : (l : ℕ) (t0 t t1 : List (List ℕ)) (need : List ℕ) (place : ℕ) (grown all : Bool)
    → Joining l t0 t need place grown → all ≡ true → IsBounded (need_of need) → place < length need
    → t1 ≡ raised t l place (get_or need place 0) → needs_of t l place < get_or need place 0
    → Joining l t0 t1 need (place + 1) all
joining_raised l t0 t t1 need place grown all z a b w e h =
    let m : get_or need place 0 ≤ 16 =
    (let x = b place in let y : get_or need place 0 ≡ get_or need place 16 = get_or_default need place 0 16 w in omega arith) in
    let r = after_raise t t1 l place (get_or need place 0) e h m in
    let g : needs_of t l place < 16 = omega arith in
    let v : get_or need place 0 ≡ need_of need place = get_or_default need place 0 16 w in
    record {
      kept = λ s k. r.0 s (z.kept s k);
      same = λ f. absurd (cc);
      grew = λ g. let x = never_more l t0 t need place grown z in let y = r.1 in omega arith;
      joined = λ f. absurd (cc);
      least = λ labels s other q j.
          subst (λ (x : List (List ℕ)). TellNoMore labels s (needs_of x) other) (sym e)
          (λ k kl p pl.
          raised_cases t l place (get_or need place 0) k p (λ x. x ≤ other k p) g
          (λ (a1 : k ≡ l) (b1 : p ≡ place).
          let x = j p pl in
          let x1 : need_of need place ≤ other l p = subst (λ (y : ℕ). need_of need y ≤ other l p) b1 x in
          let x2 : get_or need place 0 ≤ other l p = omega arith in
          subst (λ (y : ℕ). get_or need place 0 ≤ other y p) (sym a1) x2)
          (z.least labels s other q j k kl p pl));
    }

pub joining_kept : (l : ℕ) (t0 t t1 : List (List ℕ)) (need : List ℕ) (place : ℕ) (grown all : Bool)
    → Joining l t0 t need place grown → all ≡ grown → t1 ≡ t → place < length need
    → get_or need place 0 ≤ needs_of t l place → Joining l t0 t1 need (place + 1) all
joining_kept l t0 t t1 need place grown all z a e w h =
    let y : get_or need place 0 ≡ need_of need place = get_or_default need place 0 16 w in
    let here : need_of need place ≤ needs_of t l place = omega arith in
    subst (λ (x : List (List ℕ)). Joining l t0 x need (place + 1) all) (sym e)
    (subst (λ (g : Bool). Joining l t0 t need (place + 1) g) (sym a)
    (record {
      kept = z.kept;
      same = z.same;
      grew = z.grew;
      least = z.least;
      joined = λ f. below_more (λ (k : ℕ). need_of need k ≤ needs_of t l k) place (z.joined f) here;
    }))
