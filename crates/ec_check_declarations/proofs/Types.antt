-- Types that are told to be those of objects.
use Rattle.std.proofs.Common.{◌≡◌, ℕ, ◌==◌, ◌&&◌, nat_le, refl, Bool, true, false, arith}
use Rattle.std.proofs.lemmas.Bool.{false≢true}
use Rattle.std.proofs.lemmas.Bool.Decides.{nat_tests}
use Rattle.ec_core.specs.Layout.{NamesBelow, IsElement, IsObjectType}
use Rattle.ec_core.specs.Plain.{PlainType, void, integer, fixed, pointer, array, struct}
use Rattle.ec_check_expressions.specs.Known.{is_sized}
use Rattle.ec_check_expressions.proofs.Sizes.{named_below, one_of_three}
use Rattle.ec_check_declarations.specs.ObjectTypes.{is_object_type}

both : (p q : Bool) → (p && q) ≡ true → (p ≡ true) × (q ≡ true)
both true q h = (refl, h)
both false q h = absurd (false≢true h)

element_names : (n : ℕ) (ty : PlainType) → is_sized n ty ≡ true → NamesBelow n ty
element_names n void h = tt
element_names n (integer signed bytes) h = tt
element_names n (fixed kind sat) h = tt
element_names n (pointer space konst to) h = named_below n to h
element_names n (array of len) h = absurd (false≢true h)
element_names n (struct index) h = named_below n (struct index) h

element_form : (n : ℕ) (ty : PlainType) → is_sized n ty ≡ true → IsElement ty
element_form n void h = absurd (false≢true h)
element_form n (integer signed bytes) h = one_of_three bytes (bytes == 1) (bytes == 2) (bytes == 4) refl refl refl h
element_form n (fixed kind sat) h = tt
element_form n (pointer space konst to) h = tt
element_form n (array of len) h = absurd (false≢true h)
element_form n (struct index) h = tt

pub object_type_is : (n : ℕ) (ty : PlainType) → is_object_type n ty ≡ true → IsObjectType n ty
object_type_is n void h = absurd (false≢true h)
object_type_is n (integer signed bytes) h =
    record { names = tt; form = element_form n (integer signed bytes) h }
object_type_is n (fixed kind sat) h = record { names = tt; form = tt }
object_type_is n (pointer space konst to) h = record { names = element_names n (pointer space konst to) h; form = tt }
object_type_is n (array of len) h =
    let q = both (is_sized n of) (nat_le len 32_767) h in
    let l = q.1 in
    record { names = element_names n of q.0; form = (element_form n of q.0, grind (arith, nat_tests, l)) }
object_type_is n (struct index) h = record { names = element_names n (struct index) h; form = tt }
