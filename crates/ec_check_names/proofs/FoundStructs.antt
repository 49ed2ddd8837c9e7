-- Structs are found by their key, also behind one struct more.
use Rattle.std.proofs.Common.{◌≡◌, ◌∙◌, ℕ, zero, suc, ◌+◌, ◌<◌, ◌≤◌, Bool, true, false, cond, refl, ap, sym, subst, arith}
use Rattle.std.proofs.Common.{Option, Some, None, List, [], ◌∷◌, ◌++◌, length, map}
use Rattle.std.proofs.Common.{Result, Ok, Err, OnOk, OnErr}
use Rattle.std.specs.Prelude.{◌≢◌, if◌then◌else◌, is_some, slice_get}
use Rattle.std.specs.Bool.{Decides}
use Rattle.std.specs.Str.{bytes_eq}
use Rattle.std.specs.List.{AllByRecursion}
use Rattle.std.specs.Map.{lookup}
use Rattle.std.proofs.lemmas.Bool.{false≢true}
use Rattle.std.proofs.lemmas.List.{map-append}
use Rattle.std.proofs.lemmas.Slice.Eq.{bytes_eq-Decides}
use Rattle.ec_space.specs.Listed.{Listed}
use Rattle.ec_core.specs.declared.types.StructDef.{StructDef}
use Rattle.ec_core.specs.Plain.{PlainStruct, plain_struct}
use Rattle.ec_check_names.specs.Structs.{same_struct, place_from, struct_place}
use Rattle.ec_check_names.specs.StructTables.{struct_key, same_at, found_in, Places, those_of, places_of, Finds, AreFound}
use Rattle.ec_check_names.specs.StructTables.{KeepsPlaces, Puts, AddsTo}
use Rattle.ec_check_names.proofs.Alike.{equal_structs_are_one}

is_false : {P : Type 0} (b : Bool) → Decides b P → ¬ P → b ≡ false
is_false true d never = absurd (never (d.0 refl))
is_false false d never = refl

-- ---- one struct more

-- what was found, or else the last one
abbrev or_last : Option ℕ → Bool → ℕ → Option ℕ
or_last None b n = if b then Some n else None
or_last (Some i) b n = Some i

or_last_if : (a b : Bool) (i n : ℕ) (o : Option ℕ) → (if a then Some i else or_last o b n) ≡ or_last (if a then Some i else o) b n
or_last_if true b i n o = refl
or_last_if false b i n o = refl

place_more : (i : ℕ) (s t : PlainStruct) (ts : List PlainStruct)
    → place_from i s (ts ++ t ∷ []) ≡ or_last (place_from i s ts) (same_struct s t) (i + length ts)
place_more i s t [] = ap (λ n. if same_struct s t then Some n else None) (omega arith)
place_more i s t (u ∷ us) =
    let behind : (i + 1) + length us ≡ i + length (u ∷ us) = omega arith in
    ap (λ o. if same_struct s u then Some i else o)
    (place_more (i + 1) s t us ∙ ap (or_last (place_from (i + 1) s us) (same_struct s t)) behind)
    ∙ or_last_if (same_struct s u) (same_struct s t) i (i + length (u ∷ us)) (place_from (i + 1) s us)

place_last : (s t : PlainStruct) (ts : List PlainStruct)
    → struct_place s (ts ++ t ∷ []) ≡ or_last (struct_place s ts) (same_struct s t) (length ts)
place_last s t ts =
    let behind : 0 + length ts ≡ length ts = omega arith in
    place_more 0 s t ts ∙ ap (or_last (struct_place s ts) (same_struct s t)) behind

get_more : (ts : List PlainStruct) (t : PlainStruct) (i : ℕ) → i < length ts → slice_get (ts ++ t ∷ []) i ≡ slice_get ts i
get_more [] t i h = absurd (omega (arith, h))
get_more (u ∷ us) t zero h = refl
get_more (u ∷ us) t (suc i) h = get_more us t i (omega (arith, h))

get_last : (ts : List PlainStruct) (t : PlainStruct) → slice_get (ts ++ t ∷ []) (length ts) ≡ Some t
get_last [] t = refl
get_last (u ∷ us) t = get_last us t

-- the same places find the same, where all are below
found_kept : (places : List ℕ) (s t : PlainStruct) (ts : List PlainStruct) → AllByRecursion (λ i. i < length ts) places
    → found_in (ts ++ t ∷ []) places s ≡ found_in ts places s
found_kept [] s t ts below = refl
found_kept (i ∷ more) s t ts below =
    ap (λ o. if same_at s o then Some i else found_in (ts ++ t ∷ []) more s) (get_more ts t i below.0)
    ∙ ap (λ o. if same_at s (slice_get ts i) then Some i else o) (found_kept more s t ts below.1)

-- with the last place the last one is found too
found_more : (places : List ℕ) (s t : PlainStruct) (ts : List PlainStruct) → AllByRecursion (λ i. i < length ts) places
    → found_in (ts ++ t ∷ []) (places ++ length ts ∷ []) s ≡ or_last (found_in ts places s) (same_struct s t) (length ts)
found_more [] s t ts below = ap (λ o. if same_at s o then Some (length ts) else None) (get_last ts t)
found_more (i ∷ more) s t ts below =
    ap (λ o. if same_at s o then Some i else found_in (ts ++ t ∷ []) (more ++ length ts ∷ []) s) (get_more ts t i below.0)
    ∙ (ap (λ o. if same_at s (slice_get ts i) then Some i else o) (found_more more s t ts below.1)
    ∙ or_last_if (same_at s (slice_get ts i)) (same_struct s t) i (length ts) (found_in ts more s))

-- ---- places below a longer list

longer : (ts : List PlainStruct) (t : PlainStruct) → length (ts ++ t ∷ []) ≡ length ts + 1
longer [] t = refl
longer (u ∷ us) t = let e = longer us t in omega (arith, e)

below_longer : (m n : ℕ) → m ≤ n → (places : List ℕ) → AllByRecursion (λ i. i < m) places → AllByRecursion (λ i. i < n) places
below_longer m n h [] below = below
below_longer m n h (i ∷ more) below = (omega (arith, h, below.0), below_longer m n h more below.1)

below_with : (n place : ℕ) → place < n → (places : List ℕ) → AllByRecursion (λ i. i < n) places
    → AllByRecursion (λ i. i < n) (places ++ place ∷ [])
below_with n place h [] below = (h, below)
below_with n place h (i ∷ more) below = (below.0, below_with n place h more below.1)

-- ---- all keys

or_none : (o : Option ℕ) (b : Bool) (n : ℕ) → b ≡ false → or_last o b n ≡ o
or_none None true n h = absurd (false≢true (sym h))
or_none None false n h = refl
or_none (Some i) b n h = refl

other_key : (s t : PlainStruct) → struct_key s ≢ struct_key t → same_struct s t ≡ false
other_key s t h = by (same_struct s t) refl
  where
    by : (b : Bool) → same_struct s t ≡ b → same_struct s t ≡ false
    by true e = absurd (h (ap struct_key ((equal_structs_are_one s t).0 e)))
    by false e = e

of_other_key : (key places : List ℕ) (t : PlainStruct) (ts : List PlainStruct) → struct_key t ≢ key → Finds key places ts
    → Finds key places (ts ++ t ∷ [])
of_other_key key places t ts h f =
    record {
      found = λ s e. found_kept places s t ts f.below
          ∙ (f.found s e
          ∙ (sym (or_none (struct_place s ts) (same_struct s t) (length ts) (other_key s t (λ q. h (sym q ∙ e))))
          ∙ sym (place_last s t ts)));
      below = below_longer (length ts) (length (ts ++ t ∷ [])) (omega (arith, longer ts t)) places f.below;
    }

of_its_key : (key places : List ℕ) (t : PlainStruct) (ts : List PlainStruct) → Finds key places ts
    → Finds key (places ++ length ts ∷ []) (ts ++ t ∷ [])
of_its_key key places t ts f =
    record {
      found = λ s e. found_more places s t ts f.below
          ∙ (ap (λ o. or_last o (same_struct s t) (length ts)) (f.found s e) ∙ sym (place_last s t ts));
      below = below_with (length (ts ++ t ∷ [])) (length ts) (omega (arith, longer ts t)) places
          (below_longer (length ts) (length (ts ++ t ∷ [])) (omega (arith, longer ts t)) places f.below);
    }

by_key : (key some new : List ℕ) (t : PlainStruct) (ts : List PlainStruct) (b : Bool) → Decides b (struct_key t ≡ key)
    → Finds key some ts → (struct_key t ≡ key → Finds key new (ts ++ t ∷ []))
    → Finds key (if b then new else some) (ts ++ t ∷ [])
by_key key some new t ts true d f g = g (d.0 refl)
by_key key some new t ts false d f g = of_other_key key some t ts (λ q. false≢true (d.1 q)) f

-- a struct is found behind those that were found, where its place is noted under its key
noted : (t : PlainStruct) (ts : List PlainStruct) (es new : Places) → AddsTo (struct_key t) (length ts) es new
    → AreFound ts es → AreFound (ts ++ t ∷ []) new
noted t ts es new added finds key =
    subst (λ (places : List ℕ). Finds key places (ts ++ t ∷ [])) (sym (added key))
    (by_key key (places_of key es) (places_of (struct_key t) es ++ length ts ∷ []) t ts (bytes_eq (struct_key t) key)
    (bytes_eq-Decides (struct_key t) key) (finds key)
    (λ q. subst (λ k. Finds k (places_of (struct_key t) es ++ length ts ∷ []) (ts ++ t ∷ [])) q
    (of_its_key (struct_key t) (places_of (struct_key t) es) t ts (finds (struct_key t)))))

pub nothing_found : (es : Places) → es ≡ [] → AreFound [] es
nothing_found es e key =
    subst (λ (ps : Places). Finds key (places_of key ps) []) (sym e) (record { found = λ s h. refl; below = tt })

-- ---- changes of the table

-- the equation of keys, as the table has it
abbrev pub same_key : Listed ℕ → Listed ℕ → Bool
same_key v w = bytes_eq v.items w.items

-- what a table has at each key, where one key has other places
abbrev pub Updated : Listed ℕ → Listed ℕ → Places → Places → Type 0
Updated key places es new =
    (q : Listed ℕ) → lookup (same_key q) new ≡ cond (same_key key q) (Some places) (lookup (same_key q) es)

those_by : (b : Bool) (places : Listed ℕ) (o : Option (Listed ℕ))
    → those_of (cond b (Some places) o) ≡ (if b then places.items else those_of o)
those_by true places o = refl
those_by false places o = refl

pub puts_by : (key : Listed ℕ) (places : Listed ℕ) (es new : Places) → Updated key places es new
    → Puts key.items places.items es new
puts_by key places es new updated k =
    let q : Listed ℕ = record { items = k; spare = 0 } in
    ap those_of (updated q) ∙ those_by (bytes_eq key.items k) places (lookup (same_key q) es)

pub begun : (key some : List ℕ) (place : ℕ) (es new : Places) → some ≡ place ∷ [] → places_of key es ≡ []
    → Puts key some es new → AddsTo key place es new
begun key some place es new e none puts =
    subst (λ (all : List ℕ). Puts key all es new) (e ∙ ap (λ (front : List ℕ). front ++ place ∷ []) (sym none)) puts

pub grows : (key some : List ℕ) (place : ℕ) (es new : Places) → some ≡ places_of key es ++ place ∷ [] → Puts key some es new
    → AddsTo key place es new
grows key some place es new e puts = subst (λ (all : List ℕ). Puts key all es new) e puts

if_same : (b : Bool) (some none : List ℕ) → (b ≡ true → some ≡ none) → (if b then some else none) ≡ none
if_same true some none h = h refl
if_same false some none h = refl

pub stays : (key some : List ℕ) (es new : Places) → some ≡ places_of key es → Puts key some es new → KeepsPlaces es new
stays key some es new f puts k =
    puts k ∙ if_same (bytes_eq key k) some (places_of k es)
    (λ b. f ∙ ap (λ m. places_of m es) ((bytes_eq-Decides key k).0 b))

pub none_of : (o : Option (Listed ℕ)) → is_some o ≡ false → those_of o ≡ []
none_of None h = refl
none_of (Some places) h = absurd (false≢true (sym h))

-- what a list is in both cases of a push
pub either : {T E : Type 0} (r : Result T E) {P Q C : Type 0} → OnOk r P → OnErr r Q → (P → C) → (Q → C) → C
either (Ok x) p q f g = f p
either (Err x) p q f g = g q

length_view : (ts : List StructDef) → length (map plain_struct ts) ≡ length ts
length_view [] = refl
length_view (t ∷ ts) = ap suc (length_view ts)

pub pushed : (old mid new : List StructDef) (t : StructDef) (key : List ℕ) (n : ℕ) (es places : Places) → mid ≡ old
    → new ≡ mid ++ t ∷ [] → key ≡ struct_key (plain_struct t) → n ≡ length mid → AddsTo key n es places
    → AreFound (map plain_struct old) es → AreFound (map plain_struct new) places
pushed old mid new t key n es places same e is last added finds =
    let view : map plain_struct new ≡ map plain_struct old ++ plain_struct t ∷ [] =
    ap (map plain_struct) (e ∙ ap (λ (front : List StructDef). front ++ t ∷ []) same) ∙ map-append plain_struct old (t ∷ []) in
    let place : n ≡ length (map plain_struct old) = last ∙ (ap length same ∙ sym (length_view old)) in
    subst (λ (ts : List PlainStruct). AreFound ts places) (sym view)
    (noted (plain_struct t) (map plain_struct old) es places
    (subst (λ m. AddsTo (struct_key (plain_struct t)) m es places) place
    (subst (λ k. AddsTo k n es places) is added)) finds)

-- ---- what places tell

pub place_by : (s : PlainStruct) (places : List ℕ) (ts : List PlainStruct) (es : Places) (key : List ℕ) → places ≡ places_of key es
    → key ≡ struct_key s → AreFound ts es → found_in ts places s ≡ struct_place s ts
place_by s places ts es key e is finds =
    ap (λ ps. found_in ts ps s) e ∙ (finds key).found s (sym is)
