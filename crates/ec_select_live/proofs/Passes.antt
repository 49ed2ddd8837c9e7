-- Passes over operations.
use Rattle.std.proofs.Common.{◌≡◌, ℕ, zero, suc, ◌+◌, ◌-◌, ◌<◌, ◌≤◌, ◌⊎◌, ⊎_elim, List, [], ◌∷◌, Bool, true, false}
use Rattle.std.proofs.Common.{refl, sym, ap, ◌∙◌, subst, arith, length, map, drop, set, get_or, inl, inr}
use Rattle.std.specs.Prelude.{if◌then◌else◌, Option, None}
use Rattle.std.proofs.lemmas.List.{drop_more, get_or-map, get_or_past, length-map, drop-set}
use Rattle.ec_ir.specs.Operations.{PlainIr, constant, copy, address, field, load_at, store_at, load_object}
use Rattle.ec_ir.specs.Operations.{store_object, binary_op, unary_op, conversion, label, jump, branch_zero}
use Rattle.ec_ir.specs.Operations.{call_function, return_from, port_in, port_out, load_cell, store_cell, cell_port}
use Rattle.ec_ir_known.specs.declared.known.RightNumber.{RightNumber}
use Rattle.ec_ir_known.specs.Known.{numbers_left, right_numbers}
use Rattle.ec_select_operations.specs.Code.{wanted_behind, wanted_bytes}
use Rattle.ec_select_operations.specs.Needs.{Need, before, facts_of, known_right, needs, narrowed, IsLiveBy}
use Rattle.ec_select_live.specs.Places.{HasPlaces, HavePlaces}
use Rattle.ec_select_live.specs.Tables.{need_of, needs_of, AreSame, IsBounded, IsTable, IsJoined, room}
use Rattle.ec_select_live.proofs.Operations.{before_same, before_bounded, needs_bounded, behind_same, narrowed_places}

below_or_not : (a b : ℕ) → (a < b) ⊎ (b ≤ a)
below_or_not a zero = inr (omega arith)
below_or_not zero (suc b) = inl (omega arith)
below_or_not (suc a) (suc b) =
    ⊎_elim (λ (l : a < b). inl (omega arith)) (λ (l : b ≤ a). inr (omega arith)) (below_or_not a b)

pub places_drop : (s n : ℕ) (code : List PlainIr) → HavePlaces s code → HavePlaces s (drop n code)
places_drop s zero code h = h
places_drop s (suc n) [] h = h
places_drop s (suc n) (i ∷ code) h = places_drop s n code h.1

pub drop_back : {A B : Type 0} (f : A → B) (xs : List A) (k : ℕ) (x : A) → 0 < k → k ≤ length xs
    → x ≡ get_or xs (k - 1) x → drop (k - 1) (map f xs) ≡ f x ∷ drop k (map f xs)
drop_back f xs k x z h e =
    let l : k - 1 < length xs = omega arith in
    let m : k - 1 < length (map f xs) = omega (arith, length-map xs f) in
    let n : (k - 1) + 1 ≡ k = omega arith in
    drop_more (map f xs) (k - 1) (f x) m
    ∙ ap (λ y. y ∷ drop ((k - 1) + 1) (map f xs)) (get_or-map f xs (k - 1) x (f x) l ∙ ap f (sym e))
    ∙ ap (λ j. f x ∷ drop j (map f xs)) n

label_live : (s : ℕ) (in_flash : Bool) (at : ℕ → Need) (all : List PlainIr) (l : ℕ) (rest : List PlainIr) (need : Need) → IsTable s at
    → HavePlaces s rest → ((place : ℕ) → place < s → need place ≤ at l place)
    → AreSame s need (needs (facts_of in_flash at all) rest) → (place : ℕ) → needs (facts_of in_flash at all) rest place ≤ at l place
label_live s in_flash at all l rest need t h j same place =
    ⊎_elim
    (λ (b : place < s). let x = j place b in let y = same place b in omega arith)
    (λ (b : s ≤ place). let x = t.beyond l place b in let y = needs_bounded s in_flash at all rest h t.most place in omega arith)
    (below_or_not place s)

live_more : (s : ℕ) (in_flash : Bool) (at : ℕ → Need) (all : List PlainIr) (i : PlainIr) (rest : List PlainIr) (need : Need) → IsTable s at
    → HavePlaces s rest → IsJoined s at i need → AreSame s need (needs (facts_of in_flash at all) rest)
    → IsLiveBy (facts_of in_flash at all) rest → IsLiveBy (facts_of in_flash at all) (i ∷ rest)
live_more s in_flash at all (label l) rest need t h j same live = (label_live s in_flash at all l rest need t h j same, live)
live_more s in_flash at all (constant u n) rest need t h j same live = live
live_more s in_flash at all (copy to from) rest need t h j same live = live
live_more s in_flash at all (address u o offset) rest need t h j same live = live
live_more s in_flash at all (field ptr space offset) rest need t h j same live = live
live_more s in_flash at all (load_at to ptr space) rest need t h j same live = live
live_more s in_flash at all (store_at ptr space from) rest need t h j same live = live
live_more s in_flash at all (load_object u o offset) rest need t h j same live = live
live_more s in_flash at all (store_object o offset u) rest need t h j same live = live
live_more s in_flash at all (binary_op op ty mode to a aty b bty) rest need t h j same live = live
live_more s in_flash at all (unary_op op ty mode to a) rest need t h j same live = live
live_more s in_flash at all (conversion to ty mode a aty) rest need t h j same live = live
live_more s in_flash at all (jump l) rest need t h j same live = live
live_more s in_flash at all (branch_zero u l) rest need t h j same live = live
live_more s in_flash at all (call_function f to) rest need t h j same live = live
live_more s in_flash at all (return_from from) rest need t h j same live = live
live_more s in_flash at all (port_in to port index width) rest need t h j same live = live
live_more s in_flash at all (port_out from port index width) rest need t h j same live = live
live_more s in_flash at all (load_cell to cell) rest need t h j same live = live
live_more s in_flash at all (store_cell cell from) rest need t h j same live = live
live_more s in_flash at all (cell_port read u cell offset index width) rest need t h j same live = live

-- ---- one operation

pub need_bounded : (s : ℕ) (in_flash : Bool) (at : ℕ → Need) (n : Option RightNumber) (i : PlainIr) (need need1 : List ℕ) → HasPlaces s i
    → IsTable s at
    → length need1 ≡ s → IsBounded (need_of need) → AreSame s (need_of need1) (before at n (narrowed i in_flash) (need_of need))
    → IsBounded (need_of need1)
need_bounded s in_flash at n i need need1 p t e b same place =
    ⊎_elim
    (λ (l : place < s). let x = same place l in let y = before_bounded s at n (narrowed i in_flash) (need_of need)
    (narrowed_places s in_flash i p) t.most b place in omega arith)
    (λ (l : s ≤ place). let x : need_of need1 place ≡ 16 = get_or_past need1 place 16 (omega arith) in omega arith)
    (below_or_not place s)

pub need_more : (s : ℕ) (in_flash : Bool) (at : ℕ → Need) (all code rest : List PlainIr) (n : Option RightNumber) (i : PlainIr)
    (need need1 : List ℕ)
    → n ≡ known_right all (i ∷ rest) → HasPlaces s i → code ≡ i ∷ rest → AreSame s (need_of need) (needs (facts_of in_flash at all) rest)
    → AreSame s (need_of need1) (before at n (narrowed i in_flash) (need_of need))
    → AreSame s (need_of need1) (needs (facts_of in_flash at all) code)
need_more s in_flash at all code rest n i need need1 number p is h b =
    subst (λ (x : List PlainIr). AreSame s (need_of need1) (needs (facts_of in_flash at all) x)) (sym is)
    (λ place l. b place l ∙ before_same s at n (narrowed i in_flash) (need_of need) (needs (facts_of in_flash at all) rest)
    (narrowed_places s in_flash i p) h place l
    ∙ ap (λ (k : Option RightNumber). before at k (narrowed i in_flash) (needs (facts_of in_flash at all) rest) place) number)

-- the rest of all operations was passed over: first there was the table t0
pub record Passed (s : ℕ) (in_flash : Bool) (all : List PlainIr) (t0 t : List (List ℕ)) (need : List ℕ) (rest : List PlainIr)
    (grown : Bool) : Type 0 where
  pub kept : IsTable s (needs_of t)
  pub bounded : IsBounded (need_of need)
  pub grew : grown ≡ true → room t < room t0
  pub same : grown ≡ false → t ≡ t0
  pub need_is : grown ≡ false → AreSame s (need_of need) (needs (facts_of in_flash (needs_of t) all) rest)
  pub live : grown ≡ false → IsLiveBy (facts_of in_flash (needs_of t) all) rest

-- a label was joined
pub record Joined (s : ℕ) (t t1 : List (List ℕ)) (need : List ℕ) (i : PlainIr) (more : Bool) : Type 0 where
  pub kept : (slots : ℕ) → IsTable slots (needs_of t) → IsTable slots (needs_of t1)
  pub grew : more ≡ true → room t1 < room t
  pub same : more ≡ false → t1 ≡ t
  pub is : more ≡ false → IsJoined s (needs_of t1) i (need_of need)

never_more : (s : ℕ) (t t1 : List (List ℕ)) (need : List ℕ) (i : PlainIr) (more : Bool) → Joined s t t1 need i more
    → room t1 ≤ room t
never_more s t t1 need i true j = let x = j.grew refl in omega arith
never_more s t t1 need i false j = let x = ap room (j.same refl) in omega arith

more_before : (s : ℕ) (in_flash : Bool) (code : List PlainIr) (t0 t : List (List ℕ)) (need : List ℕ) (rest : List PlainIr) (grown : Bool)
    → Passed s in_flash code t0 t need rest grown → room t ≤ room t0
more_before s in_flash code t0 t need rest true j = let x = j.grew refl in omega arith
more_before s in_flash code t0 t need rest false j = let x = ap room (j.same refl) in omega arith

pub passed_more : (s : ℕ) (in_flash : Bool) (whole : List PlainIr) (t0 t t1 : List (List ℕ)) (need need1 : List ℕ)
    (rest code : List PlainIr)
    (n : Option RightNumber) (i : PlainIr) (grown more all : Bool) → n ≡ known_right whole (i ∷ rest) → HasPlaces s i → HavePlaces s rest
    → length need1 ≡ s → code ≡ i ∷ rest
    → ((all ≡ false) → (grown ≡ false) × (more ≡ false)) → ((all ≡ true) → (grown ≡ true) ⊎ (more ≡ true))
    → Passed s in_flash whole t0 t need rest grown → Joined s t t1 need i more
    → AreSame s (need_of need1) (before (needs_of t1) n (narrowed i in_flash) (need_of need)) → Passed s in_flash whole t0 t1 need1 code all
passed_more s in_flash whole t0 t t1 need need1 rest code n i grown more all number p ps e is none some z j b =
    let k = j.kept s z.kept in
    record {
      kept = k;
      bounded = need_bounded s in_flash (needs_of t1) n i need need1 p k e z.bounded b;
      grew = λ a.
          ⊎_elim
          (λ (g : grown ≡ true). let x = z.grew g in let y = never_more s t t1 need i more j in omega arith)
          (λ (g : more ≡ true). let x = j.grew g in let y = more_before s in_flash whole t0 t need rest grown z in omega arith)
          (some a);
      same = λ a. j.same (none a).1 ∙ z.same (none a).0;
      need_is = λ a.
          let o : t ≡ t1 = sym (j.same (none a).1) in
          let h = subst (λ (x : List (List ℕ)). AreSame s (need_of need) (needs (facts_of in_flash (needs_of x) whole) rest)) o
          (z.need_is (none a).0) in
          need_more s in_flash (needs_of t1) whole code rest n i need need1 number p is h b;
      live = λ a.
          let o : t ≡ t1 = sym (j.same (none a).1) in
          let h = subst (λ (x : List (List ℕ)). AreSame s (need_of need) (needs (facts_of in_flash (needs_of x) whole) rest)) o
          (z.need_is (none a).0) in
          let v = subst (λ (x : List (List ℕ)). IsLiveBy (facts_of in_flash (needs_of x) whole) rest) o (z.live (none a).0) in
          subst (λ (x : List PlainIr). IsLiveBy (facts_of in_flash (needs_of t1) whole) x) (sym is)
          (live_more s in_flash (needs_of t1) whole i rest (need_of need) k ps (j.is (none a).1) h v);
    }

-- ---- the measure

pub measure_falls : (a b : ℕ) (result grown : Bool) → grown ≡ true → (result ≡ true → a < b) → (result ≡ false → a ≤ b)
    → a + (if result then 1 else 0) < b + (if grown then 1 else 0)
measure_falls a b true true g f h = let x = f refl in omega arith
measure_falls a b false true g f h = let x = h refl in omega arith
measure_falls a b result false g f h = absurd (cc)

-- ---- the operation before k others

pub places_at : {A : Type 0} (f : A → PlainIr) (s : ℕ) (xs : List A) (k : ℕ) (x : A) → 0 < k → k ≤ length xs
    → x ≡ get_or xs (k - 1) x → HavePlaces s (map f xs) → HavePlaces s (f x ∷ drop k (map f xs))
places_at f s xs k x z h e p =
    subst (λ (code : List PlainIr). HavePlaces s code) (drop_back f xs k x z h e) (places_drop s (k - 1) (map f xs) p)

pub wanted_more : (s : ℕ) (in_flash : Bool) (at : ℕ → Need) (all code rest : List PlainIr) (i : PlainIr) (need wanted : List ℕ) (k n : ℕ)
    → HasPlaces s i → code ≡ i ∷ rest → AreSame s (need_of need) (needs (facts_of in_flash at all) rest)
    → n ≡ wanted_behind at (need_of need) i → 0 < k → k ≤ length wanted → drop k wanted ≡ wanted_bytes (facts_of in_flash at all) rest
    → drop (k - 1) (set wanted (k - 1) n) ≡ wanted_bytes (facts_of in_flash at all) code
wanted_more s in_flash at all code rest i need wanted k n p is h r z l w =
    let m : k - 1 < length wanted = omega arith in
    let e : (k - 1) + 1 ≡ k = omega arith in
    let q : n ≡ wanted_behind at (needs (facts_of in_flash at all) rest) i =
    r ∙ behind_same s at i (need_of need) (needs (facts_of in_flash at all) rest) p h in
    drop-set wanted (k - 1) n m
    ∙ ap (λ (j : ℕ). n ∷ drop j wanted) e
    ∙ ap (λ (x : List ℕ). n ∷ x) w
    ∙ ap (λ (x : ℕ). x ∷ wanted_bytes (facts_of in_flash at all) rest) q
    ∙ ap (wanted_bytes (facts_of in_flash at all)) (sym is)

-- ---- the number that the second operand of an operation is known to hold

pub number_here : (all rest : List PlainIr) (j : ℕ) (i : PlainIr) (behind : List PlainIr) (n : Option RightNumber)
    → drop j rest ≡ i ∷ behind → n ≡ get_or (numbers_left all rest) j None → n ≡ known_right all (i ∷ behind)
number_here all [] zero i behind n is g = absurd cc
number_here all [] (suc j) i behind n is g = absurd cc
number_here all (x ∷ rest) zero i behind n is g = g ∙ ap (known_right all) is
number_here all (x ∷ rest) (suc j) i behind n is g = number_here all rest j i behind n is g

pub number_is : (numbers : List (Option RightNumber)) (code : List PlainIr) (j : ℕ) (i : PlainIr) (behind : List PlainIr) (n : Option RightNumber)
    → numbers ≡ right_numbers code → drop j code ≡ i ∷ behind → n ≡ get_or numbers j None → n ≡ known_right code (i ∷ behind)
number_is numbers code j i behind n are is g =
    number_here code code j i behind n is (subst (λ (xs : List (Option RightNumber)). n ≡ get_or xs j None) are g)
