-- What stands in frames, as it is made and as the layout has it.
use Rattle.std.proofs.Common.{◌≡◌, ◌+◌, ◌<◌, ◌≤◌, ℕ, zero, suc, List, [], ◌∷◌, ◌++◌, length, map, drop}
use Rattle.std.proofs.Common.{get_or, add-zero, Some}
use Rattle.std.proofs.Common.{refl, sym, ap, ◌∙◌, subst, arith}
use Rattle.std.specs.List.{All}
use Rattle.std.specs.Prelude.{slice_get, slice_index, option_map, sum_by}
use Rattle.std.proofs.lemmas.List.{length-map, drop_more}
use Rattle.std.proofs.lemmas.List.Sums.{sum_by-drop_more}
use Rattle.std.proofs.lemmas.Option.{slice_get-map, slice_get-get_or}
use Rattle.ec_space.specs.declared.space.Home.{Home}
use Rattle.ec_space.specs.declared.space.Place.{Place}
use Rattle.ec_space.specs.Spaces.{bank_of}
use Rattle.ec_overlay.specs.Objects.{Owned, bytes_in, frame_bytes, bytes_before}
use Rattle.ec_overlay.proofs.Objects.{before_more, before_all}
use Rattle.ec_locate.specs.Areas.{IsKeptBelow}
use Rattle.ec_locate.specs.Entries.{flash_size, far_size, data_size, frame_of, frame_size, owned_of, local_size, scratch_size}
use Rattle.ec_locate.specs.Layout.{place_by, places_from, frames_from}
use Rattle.ec_locate.specs.declared.entries.Entry.{Entry}
use Rattle.ec_locate.specs.declared.entries.Kept.{Kept}
use Rattle.ec_locate.specs.declared.entries.Kept.TheVariants.{Register, Fixed, Packed, InFrame}
use Rattle.ec_locate.proofs.Sums.{made_step}

-- ---- the bytes of each frame, object by object

owned_at : (es : List Entry) (i : ℕ) (d : Entry) → i < length es → slice_get (map owned_of es) i ≡ Some (owned_of (get_or es i d))
owned_at es i d l = slice_get-map owned_of es i ∙ ap (option_map owned_of) (slice_get-get_or es i d l)

pub take_step : (es : List Entry) (i f old new base : ℕ) (d : Entry) → i < length es
    → old ≡ base + bytes_before f i (map owned_of es)
    → new ≡ old + bytes_in f (frame_of (get_or es i d).kept) (get_or es i d).size
    → new ≡ base + bytes_before f (i + 1) (map owned_of es)
take_step es i f old new base d l before step =
    let more : bytes_before f (i + 1) (map owned_of es)
    ≡ bytes_before f i (map owned_of es) + bytes_in f (frame_of (get_or es i d).kept) (get_or es i d).size =
    before_more f i (map owned_of es) (owned_of (get_or es i d)) (owned_at es i d l) in
    omega (arith, before, step, more)

pub bytes_none : (es : List Entry) (f : ℕ) → bytes_before f 0 (map owned_of es) ≡ 0
bytes_none [] f = refl
bytes_none (e ∷ es) f = refl

pub bytes_all : (es : List Entry) (f n : ℕ) → n ≡ length es → bytes_before f n (map owned_of es) ≡ local_size es f
bytes_all es f n all =
    let long = length-map es owned_of in
    ap (λ k. bytes_before f k (map owned_of es)) (all ∙ sym long) ∙ before_all f (map owned_of es)

-- what stands before an object is no more than all
pub before_within : (f i : ℕ) (os : List Owned) → bytes_before f i os ≤ frame_bytes f os
before_within f i [] = omega arith
before_within f zero (o ∷ os) = omega arith
before_within f (suc i) (o ∷ os) = let rest = before_within f i os in omega (arith, rest)

-- the scratch memory of each function
pub scratch_is : (frames : List ℕ) (f : ℕ) → slice_index (map frame_size frames) f ≡ scratch_size frames f
scratch_is [] f = refl
scratch_is (frame ∷ frames) zero = refl
scratch_is (frame ∷ frames) (suc f) = scratch_is frames f

-- ---- places

pub place_same : (n : ℕ) (k : Kept) (home : Home) (flash far at : ℕ) (a b : ℕ → ℕ) → IsKeptBelow n k → ((f : ℕ) → f < n
    → a f ≡ b f)
    → place_by k home flash far at a ≡ place_by k home flash far at b
place_same n (Register first) home flash far at a b known same = refl
place_same n (Fixed there) home flash far at a b known same = refl
place_same n Packed home flash far at a b known same = refl
place_same n (InFrame f) home flash far at a b known same = λ j. record { bank = bank_of home; offset = same f known j }

-- one place more, where the frames so far agree with where objects stand
pub placed_step : (n : ℕ) (es : List Entry) (i flash far at more_flash more_far more_at : ℕ) (frame : ℕ → ℕ → ℕ) (so_far : ℕ → ℕ)
    (made new whole : List Place) (x : Place) (d : Entry) → i < length es → All (λ e. IsKeptBelow n e.kept) es
    → ((f : ℕ) → f < n → so_far f ≡ frame f i) → made ++ places_from flash far at frame i (drop i es) ≡ whole
    → x ≡ place_by (get_or es i d).kept (get_or es i d).home flash far at so_far → more_flash ≡ flash_size (get_or es i d)
    → more_far ≡ far_size (get_or es i d) → more_at ≡ data_size (get_or es i d) → new ≡ made ++ x ∷ []
    → new ++ places_from (flash + more_flash) (far + more_far) (at + more_at) frame (i + 1) (drop (i + 1) es) ≡ whole
placed_step n es i flash far at more_flash more_far more_at frame so_far made new whole x d l known same before placed f r a pushed =
    let e = get_or es i d in
    let split : made ++ places_from flash far at frame i (e ∷ drop (i + 1) es) ≡ whole =
    subst (λ xs. made ++ places_from flash far at frame i xs ≡ whole) (drop_more es i d l) before in
    let here : x ≡ place_by e.kept e.home flash far at (λ f. frame f i) =
    placed ∙ place_same n e.kept e.home flash far at so_far (λ f. frame f i) (known i d l) same in
    let next : places_from (flash + more_flash) (far + more_far) (at + more_at) frame (i + 1) (drop (i + 1) es)
    ≡ places_from (flash + flash_size e) (far + far_size e) (at + data_size e) frame (i + 1) (drop (i + 1) es) =
    λ j. places_from (flash + f j) (far + r j) (at + a j) frame (i + 1) (drop (i + 1) es) in
    let one : made ++ x ∷ places_from (flash + more_flash) (far + more_far) (at + more_at) frame (i + 1) (drop (i + 1) es) ≡ whole =
    (λ j. made ++ here j ∷ next j) ∙ split in
    made_step made new (places_from (flash + more_flash) (far + more_far) (at + more_at) frame (i + 1) (drop (i + 1) es)) whole x one pushed

pub left_step : (g : Entry → ℕ) (es : List Entry) (i next more whole : ℕ) (d : Entry) → i < length es
    → next + sum_by g (drop i es) ≡ whole → more ≡ g (get_or es i d) → next + more + sum_by g (drop (i + 1) es) ≡ whole
left_step g es i next more whole d l before is =
    let q = sum_by-drop_more g es i d l in
    omega (arith, q, before, is)

-- frames that agree for the functions that there are
pub places_same : (n : ℕ) (es : List Entry) (flash far at : ℕ) (a b : ℕ → ℕ → ℕ) (k : ℕ) → All (λ e. IsKeptBelow n e.kept) es
    → ((f i : ℕ) → f < n → a f i ≡ b f i) → places_from flash far at a k es ≡ places_from flash far at b k es
places_same n [] flash far at a b k known same = refl
places_same n (e ∷ es) flash far at a b k known same =
    let here = place_same n e.kept e.home flash far at (λ f. a f k) (λ f. b f k) (known 0 e (omega arith)) (λ f l. same f k l) in
    let rest = places_same n es _ _ _ a b (k + 1) (λ i d l. known (suc i) d (omega (arith, l))) same in
    λ j. here j ∷ rest j

pub frames_same : (area : ℕ) (begin : ℕ → ℕ) (k : ℕ) (begins frames : List ℕ) → length begins ≡ length frames
    → ((i : ℕ) → i < length begins → slice_index begins i ≡ begin (k + i))
    → map (λ b. area + b) begins ≡ frames_from area begin k frames
frames_same area begin k [] [] long each = refl
frames_same area begin k [] (frame ∷ frames) long each = cc
frames_same area begin k (b ∷ begins) [] long each = cc
frames_same area begin k (b ∷ begins) (frame ∷ frames) long each =
    let here : b ≡ begin k = each 0 (omega arith) ∙ ap begin (add-zero k) in
    let rest =
    frames_same area begin (k + 1) begins frames (omega (arith, long))
    (λ i l. each (suc i) (omega (arith, l)) ∙ ap begin (next i)) in
    λ j. (area + here j) ∷ rest j
  where
    next : (i : ℕ) → k + suc i ≡ k + 1 + i
    next i = omega arith
