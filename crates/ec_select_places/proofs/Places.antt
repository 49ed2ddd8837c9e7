-- Pointers as numbers.
use Rattle.std.proofs.Common.{◌≡◌, ◌≢◌, ◌+◌, ◌*◌, ◌==◌, ⊎_elim, Bool, true, false, refl, arith}
use Rattle.std.specs.Prelude.{◌&&◌}
use Rattle.std.proofs.lemmas.Bool.{cases_eq, eq-eqb, ne_eqb}
use Rattle.ec_select_places.specs.Numbers.{number_of, PlacesAreNumbers, OffsetsAreLow}
use Rattle.ec_select_places.specs.Numbers.Place.{Null, At}
use Rattle.ec_select_places.specs.ConversionLaws.{EmbeddingsKeepPlaces}

and_false : (b : Bool) → (b && false) ≡ false
and_false true = refl
and_false false = refl

pub places_are_numbers : PlacesAreNumbers
places_are_numbers Null Null h k = refl
places_are_numbers Null (At u y) h k = let l = k.0 in ne_eqb 0 (y + u * 65536) (omega (arith, l))
places_are_numbers (At t x) Null h k = let l = h.0 in ne_eqb (x + t * 65536) 0 (omega (arith, l))
places_are_numbers (At t x) (At u y) h k =
    let hx = h.1 in
    let hy = k.1 in
    ⊎_elim
    (λ (q : x ≡ y).
    ⊎_elim
    (λ (r : t ≡ u). rw (eq-eqb (x + t * 65536) (y + u * 65536) (omega (arith, q, r)), eq-eqb x y q, eq-eqb t u r) refl)
    (λ (r : t ≢ u). rw (ne_eqb (x + t * 65536) (y + u * 65536) (omega (arith, q, r)), eq-eqb x y q, ne_eqb t u r) refl)
    (cases_eq t u))
    (λ (q : x ≢ y). rw (ne_eqb (x + t * 65536) (y + u * 65536) (omega (arith, q, hx, hy)), ne_eqb x y q) refl)
    (cases_eq x y)

pub offsets_are_low : OffsetsAreLow
offsets_are_low Null h = refl
offsets_are_low (At t x) h = let l = h.1 in omega (arith, l)

pub embeddings_keep_places : EmbeddingsKeepPlaces
embeddings_keep_places to_data Null h = (refl, refl)
embeddings_keep_places to_data (At t x) h =
    let some = h.0 in
    let below = h.1 in
    let z : (number_of (At 0 x) == 0) ≡ false = ne_eqb (x + 0 * 65536) 0 (omega (arith, some)) in
    (rw z (omega arith), omega (arith, below))
