-- Types that have a size.
use Rattle.std.proofs.Common.{◌≡◌, ℕ, Bool, true, false, refl, inl, inr, arith}
use Rattle.std.specs.Prelude.{◌==◌, ◌||◌}
use Rattle.std.proofs.lemmas.Bool.{false≢true}
use Rattle.std.proofs.lemmas.Bool.Decides.{nat_tests}
use Rattle.ec_core.specs.Layout.{NamesBelow, IsIntegerSize, IsObjectType}
use Rattle.ec_core.specs.Plain.{PlainType, void, integer, fixed, pointer, array, struct}
use Rattle.ec_check_expressions.specs.Types.{names_below, is_sized}

pub named_below : (n : ℕ) (ty : PlainType) → names_below n ty ≡ true → NamesBelow n ty
named_below n void h = tt
named_below n (integer signed bytes) h = tt
named_below n (fixed kind sat) h = tt
named_below n (pointer space konst to) h = named_below n to h
named_below n (array of len) h = named_below n of h
named_below n (struct index) h = grind (arith, nat_tests, h)

pub one_of_three : (b : ℕ) (p q r : Bool) → (b == 1) ≡ p → (b == 2) ≡ q → (b == 4) ≡ r → (p || q || r) ≡ true → IsIntegerSize b
one_of_three b true q r e f g h = inl (grind (arith, nat_tests, e))
one_of_three b false true r e f g h = inr (inl (grind (arith, nat_tests, f)))
one_of_three b false false true e f g h = inr (inr (grind (arith, nat_tests, g)))
one_of_three b false false false e f g h = absurd (false≢true h)

pub object_type : (n : ℕ) (ty : PlainType) → is_sized n ty ≡ true → IsObjectType n ty
object_type n void h = absurd (false≢true h)
object_type n (integer signed bytes) h = record {
  names = tt;
  form = one_of_three bytes (bytes == 1) (bytes == 2) (bytes == 4) refl refl refl h;
}
object_type n (fixed kind sat) h = record { names = tt; form = tt }
object_type n (pointer space konst to) h = record { names = named_below n to h; form = tt }
object_type n (array of len) h = absurd (false≢true h)
object_type n (struct index) h = record { names = named_below n (struct index) h; form = tt }
