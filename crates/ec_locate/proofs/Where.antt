-- Where objects stand, and that what the map places is clear of the regions and of one another.
use Rattle.std.proofs.Common.{◌≡◌, ◌⊎◌, inl, inr, ⊎_elim, ◌+◌, ◌<◌, ◌≤◌, ℕ, zero, suc, Bool, true, false}
use Rattle.std.proofs.Common.{◌&&◌, List, [], ◌∷◌, take, get_or}
use Rattle.std.proofs.Common.{add-zero, zero-add, Option, Some, None, refl, sym, ap, ◌∙◌, subst, arith}
use Rattle.std.specs.Prelude.{nat_lt, sum_by, slice_get, slice_index, option_map, option_and_then, if◌then◌else◌, AllPairs}
use Rattle.std.specs.List.{position_from}
use Rattle.std.specs.Option.{option_or}
use Rattle.std.specs.Str.{bytes_eq}
use Rattle.std.proofs.lemmas.Bool.{and_parts, lt-ltb, cases_Bool, cases_lt}
use Rattle.std.proofs.lemmas.Iterator.Adapters.{position_from-zero}
use Rattle.std.proofs.lemmas.List.Sums.{sum_by-cons}
use Rattle.std.proofs.lemmas.Option.{slice_get-map, slice_get_within, get_or_from_slice_get}
use Rattle.std.proofs.lemmas.Slice.Eq.{bytes_eq-Decides}
use Rattle.ec_core.specs.Plain.{PlainObject}
use Rattle.ec_core.specs.Valid.{HaveOwnNames}
use Rattle.ec_map.specs.declared.map.Fixed1.{Fixed1}
use Rattle.ec_map.specs.declared.map.Map.{Map}
use Rattle.ec_map.specs.declared.region.Region.{Region}
use Rattle.ec_locate.specs.declared.entries.Entry.{Entry}
use Rattle.ec_locate.specs.declared.fixed.Block.{Block}
use Rattle.ec_locate.specs.declared.stop.RegionName.{RegionName}
use Rattle.ec_locate.specs.Apart.{AreFree}
use Rattle.ec_locate.specs.Entries.{fixed_place, is_static, flash_size, far_size, data_size, initial_size, flash_sizes, far_sizes}
use Rattle.ec_locate.specs.Entries.{data_sizes, initial_sizes}
use Rattle.ec_locate.specs.Fixed.{can_place, object_named, block_at, block_of, blocks, shares, meets, overlaps, is_in_bank, region_met}
use Rattle.ec_locate.specs.Fixed.{name_where_met}
use Rattle.ec_locate.specs.Layout.{place_by, places_from, initial_at, initials_from, frames_from}

-- ---- sums up to an item

pub sum_until : {X : Type 0} (f : X → ℕ) (xs : List X) (i k : ℕ) (x : X) → slice_get xs i ≡ Some x → i < k
    → sum_by f (take i xs) + f x ≤ sum_by f (take k xs)
sum_until f [] i k x q l = cc
sum_until f (y ∷ xs) i zero x q l = absurd (omega arith)
sum_until f (y ∷ xs) zero (suc k) x q l =
    let e : y ≡ x = cc in
    let c = sum_by-cons f y (take k xs) in
    subst (λ z. sum_by f (take zero (y ∷ xs)) + f z ≤ sum_by f (take (suc k) (y ∷ xs))) e (omega (arith, c))
sum_until f (y ∷ xs) (suc i) (suc k) x q l =
    let rest = sum_until f xs i k x q (omega arith) in
    let a = sum_by-cons f y (take i xs) in
    let b = sum_by-cons f y (take k xs) in
    omega (arith, rest, a, b)

pub sum_within : {X : Type 0} (f : X → ℕ) (xs : List X) (i : ℕ) (x : X) → slice_get xs i ≡ Some x
    → sum_by f (take i xs) + f x ≤ sum_by f xs
sum_within f [] i x q = cc
sum_within f (y ∷ xs) zero x q =
    let e : y ≡ x = cc in
    let c = sum_by-cons f y xs in
    subst (λ z. sum_by f (take zero (y ∷ xs)) + f z ≤ sum_by f (y ∷ xs)) e (omega (arith, c))
sum_within f (y ∷ xs) (suc i) x q =
    let rest = sum_within f xs i x q in
    let a = sum_by-cons f y (take i xs) in
    let b = sum_by-cons f y xs in
    omega (arith, rest, a, b)

-- ---- places and initial bytes

behind : {X : Type 0} (f : X → ℕ) (x : X) (xs : List X) (at : ℕ) → at + f x + sum_by f xs ≡ at + sum_by f (x ∷ xs)
behind f x xs at = omega (arith, sum_by-cons f x xs)

place_from : (es : List Entry) (flash far at : ℕ) (frame : ℕ → ℕ → ℕ) (k i : ℕ) (e : Entry) → slice_get es i ≡ Some e
    → slice_get (places_from flash far at frame k es) i
    ≡ Some (place_by e.kept e.home (flash + flash_sizes (take i es)) (far + far_sizes (take i es)) (at + data_sizes (take i es))
    (λ f. frame f (k + i)))
place_from [] flash far at frame k i e q = cc
place_from (x ∷ es) flash far at frame k zero e q =
    let same : x ≡ e = cc in
    rw (same, add-zero flash, add-zero far, add-zero at, add-zero k) refl
place_from (x ∷ es) flash far at frame k (suc i) e q =
    let h = place_from es (flash + flash_size x) (far + far_size x) (at + data_size x) frame (k + 1) i e q in
    let a = behind flash_size x (take i es) flash in
    let b = behind far_size x (take i es) far in
    let d = behind data_size x (take i es) at in
    let c : k + 1 + i ≡ k + suc i = omega arith in
    h ∙ (λ j. Some (place_by e.kept e.home (a j) (b j) (d j) (λ f. frame f (c j))))

pub place_at : (es : List Entry) (flash far at : ℕ) (frame : ℕ → ℕ → ℕ) (i : ℕ) (e : Entry) → slice_get es i ≡ Some e
    → slice_get (places_from flash far at frame 0 es) i
    ≡ Some (place_by e.kept e.home (flash + flash_sizes (take i es)) (far + far_sizes (take i es)) (at + data_sizes (take i es))
    (λ f. frame f i))
place_at es flash far at frame i e q =
    place_from es flash far at frame 0 i e q
    ∙ ap (λ n. Some (place_by e.kept e.home (flash + flash_sizes (take i es)) (far + far_sizes (take i es))
    (at + data_sizes (take i es)) (λ f. frame f n))) (zero-add i)

-- the scratch memory of each function, where its frame begins
frame_from : (area : ℕ) (begin : ℕ → ℕ) (k : ℕ) (fs : List ℕ) (i frame : ℕ) → slice_get fs i ≡ Some frame
    → slice_get (frames_from area begin k fs) i ≡ Some (area + begin (k + i))
frame_from area begin k [] i frame q = cc
frame_from area begin k (f ∷ fs) zero frame q = rw (add-zero k) refl
frame_from area begin k (f ∷ fs) (suc i) frame q =
    let c : k + 1 + i ≡ k + suc i = omega arith in
    frame_from area begin (k + 1) fs i frame q ∙ ap (λ n. Some (area + begin n)) c

pub frame_at : (area : ℕ) (begin : ℕ → ℕ) (fs : List ℕ) (i frame : ℕ) → slice_get fs i ≡ Some frame
    → slice_get (frames_from area begin 0 fs) i ≡ Some (area + begin i)
frame_at area begin fs i frame q = frame_from area begin 0 fs i frame q ∙ ap (λ n. Some (area + begin n)) (zero-add i)

pub initial_there : (es : List Entry) (first at i : ℕ) (e : Entry) → slice_get es i ≡ Some e
    → slice_index (initials_from first at es) i ≡ initial_at e.is_static e.home first (at + initial_sizes (take i es))
initial_there [] first at i e q = cc
initial_there (x ∷ es) first at zero e q =
    let same : x ≡ e = cc in
    rw (same, add-zero at) refl
initial_there (x ∷ es) first at (suc i) e q =
    let h = initial_there es first (at + initial_size x) i e q in
    let a = behind initial_size x (take i es) at in
    h ∙ ap (λ n. initial_at e.is_static e.home first n) a

-- ---- the first item that passes

pub none_passes : {X : Type 0} (p : X → Bool) (n : ℕ) (xs : List X) (k : ℕ) (x : X) → position_from p n xs ≡ None
    → slice_get xs k ≡ Some x → p x ≡ false
none_passes p n [] k x h q = cc
none_passes p n (y ∷ xs) zero x h q =
    let same : y ≡ x = cc in
    rw (← same) (⊎_elim (λ (t : p y ≡ true). let none = rw t at h in cc) (λ f. f) (cases_Bool (p y)))
none_passes p n (y ∷ xs) (suc k) x h q =
    ⊎_elim (λ (t : p y ≡ true). let none = rw t at h in cc) (λ (f : p y ≡ false). none_passes p (n + 1) xs k x (rw f at h) q)
    (cases_Bool (p y))

first_passes : {X : Type 0} (p : X → Bool) (n : ℕ) (xs : List X) (i : ℕ) (x : X) → slice_get xs i ≡ Some x → p x ≡ true
    → ((k : ℕ) (y : X) → k < i → slice_get xs k ≡ Some y → p y ≡ false) → position_from p n xs ≡ Some (n + i)
first_passes p n [] i x q t before = cc
first_passes p n (y ∷ xs) zero x q t before =
    let same : y ≡ x = cc in
    rw (same, t, add-zero n) refl
first_passes p n (y ∷ xs) (suc i) x q t before =
    let no : p y ≡ false = before 0 y (omega arith) refl in
    let next : n + 1 + i ≡ n + suc i = omega arith in
    rw no (first_passes p (n + 1) xs i x q t (λ k z l. before (suc k) z (omega arith)) ∙ ap Some next)

-- ---- what the map places

-- each place that is found for a name is in the list
pub record FoundPlace (places : List Fixed1) (name : List ℕ) (at : ℕ) : Type 0 where
  pub number : ℕ
  pub place : Fixed1
  pub is_place : slice_get places number ≡ Some place
  pub is_name : place.name.items ≡ name
  pub is_there : place.at ≡ at

pub found_place : (places : List Fixed1) (name : List ℕ) (at : ℕ) → fixed_place places name ≡ Some at → FoundPlace places name at
found_place [] name at h = cc
found_place (q ∷ places) name at h =
    ⊎_elim
    (λ t.
    let found = rw t at h in
    let there : q.at ≡ at = cc in
    record { number = 0; place = q; is_place = refl; is_name = (bytes_eq-Decides q.name.items name).0 t; is_there = there })
    (λ f.
    let more = found_place places name at (rw f at h) in
    record { number = suc more.number; place = more.place; is_place = more.is_place; is_name = more.is_name; is_there = more.is_there })
    (cases_Bool (bytes_eq q.name.items name))

-- the external static object of a name is the one with it
can_place_is : (name : List ℕ) (o : PlainObject) → o.external ≡ true → is_static o.storage ≡ true → o.name ≡ name
    → can_place name o ≡ true
can_place_is name o x s n = rw (x, s, (bytes_eq-Decides o.name name).1 n) refl

pub named_is : (objects : List PlainObject) (i : ℕ) (o : PlainObject) (name : List ℕ) → AllPairs HaveOwnNames objects
    → slice_get objects i ≡ Some o → o.external ≡ true → is_static o.storage ≡ true → o.name ≡ name
    → object_named objects name ≡ Some i
named_is objects i o name own q x s n =
    position_from-zero (can_place name) objects
    ∙ first_passes (can_place name) 0 objects i o q (can_place_is name o x s n)
    (λ k y l there.
    ⊎_elim
    (λ (t : can_place name y ≡ true).
    let a = and_parts (y.external && is_static y.storage) (bytes_eq y.name name) t in
    let b = and_parts y.external (is_static y.storage) a.0 in
    let same : y.name ≡ o.name = (bytes_eq-Decides y.name name).0 a.1 ∙ sym n in
    let pair = own k i o l (slice_get_within objects i o q) in
    let y_there = get_or_from_slice_get objects k y o there in
    let o_there = get_or_from_slice_get objects i o o q in
    let apart : HaveOwnNames y o = subst (λ z. HaveOwnNames z o) y_there (subst (λ z. HaveOwnNames (get_or objects k o) z) o_there pair) in
    absurd (apart b.0 x same))
    (λ f. f) (cases_Bool (can_place name y)))
    ∙ ap Some (zero-add i)

pub block_there : (es : List Entry) (objects : List PlainObject) (places : List Fixed1) (i : ℕ) (e : Entry) (name : List ℕ) (at : ℕ)
    (f : FoundPlace places name at) → slice_get es i ≡ Some e → object_named objects name ≡ Some i
    → slice_get (blocks es objects places) f.number ≡ Some (record { home = e.home; at = at; size = e.size })
block_there es objects places i e name at f is named =
    let found : object_named objects f.place.name.items ≡ Some i = ap (λ n. object_named objects n) f.is_name ∙ named in
    let block : block_of es objects f.place ≡ record { home = e.home; at = at; size = e.size } =
    ap (λ o. block_at f.place.at (option_and_then (slice_get es) o)) found
    ∙ ap (λ o. block_at f.place.at o) is
    ∙ ap (λ n. let b : Block = record { home = e.home; at = n; size = e.size } in b) f.is_there in
    slice_get-map (block_of es objects) places f.number
    ∙ ap (option_map (block_of es objects)) f.is_place
    ∙ ap Some block

-- ---- clear of the regions, and of one another

pub free_at : (m : Map) (bs : List Block) (k : ℕ) (b : Block) → AreFree m bs → slice_get bs k ≡ Some b
    → (is_in_bank m.core b ≡ true) × (region_met m b ≡ None)
free_at m [] k b h q = cc
free_at m (c ∷ bs) zero b h q = let same : c ≡ b = cc in rw (← same) (h.0, h.1)
free_at m (c ∷ bs) (suc k) b h q = free_at m bs k b h.3 q

pub free_pair : (m : Map) (bs : List Block) (j k : ℕ) (b c : Block) → AreFree m bs → j < k → slice_get bs j ≡ Some b
    → slice_get bs k ≡ Some c → overlaps b c ≡ false
free_pair m [] j k b c h l q r = cc
free_pair m (d ∷ bs) j zero b c h l q r = absurd (omega arith)
free_pair m (d ∷ bs) zero (suc k) b c h l q r =
    let same : d ≡ b = cc in
    rw (← same) (none_passes (overlaps d) 0 bs k c (sym (position_from-zero (overlaps d) bs) ∙ h.2) r)
free_pair m (d ∷ bs) (suc j) (suc k) b c h l q r = free_pair m bs j k b c h.3 (omega arith) q r

-- bytes that share none stand one behind the other
pub apart_where : (at size first many : ℕ) → shares at size first many ≡ false → (first + many ≤ at) ⊎ (at + size ≤ first)
apart_where at size first many h =
    ⊎_elim
    (λ a.
    ⊎_elim
    (λ b. let both : shares at size first many ≡ true = rw (lt-ltb at (first + many) a, lt-ltb first (at + size) b) refl in cc)
    (λ b. inr b) (cases_lt first (at + size)))
    (λ a. inl a) (cases_lt at (first + many))

-- a block that meets no region is clear of each
pub neither_met : (a b : Option RegionName) → option_or a b ≡ None → (a ≡ None) × (b ≡ None)
neither_met None b h = (refl, h)
neither_met (Some x) b h = cc

unmet : (b : Bool) (name : RegionName) → (let o : Option RegionName = if b then Some name else None in o) ≡ None → b ≡ false
unmet true name h = cc
unmet false name h = refl

no_bytes_shared : (b c : Bool) → b ≡ true → (b && c) ≡ false → c ≡ false
no_bytes_shared true c h q = q
no_bytes_shared false c h q = cc

pub clear_of : (b : Block) (r : Region) (name : RegionName) → 1 ≤ r.size → name_where_met b r name ≡ None
    → (r.first + r.size ≤ b.at) ⊎ (b.at + b.size ≤ r.first)
clear_of b r name some h =
    apart_where b.at b.size r.first r.size
    (no_bytes_shared (nat_lt 0 r.size) (shares b.at b.size r.first r.size) (lt-ltb 0 r.size (omega (arith, some)))
    (unmet (meets b r) name h))
