-- The value of `sizeof` is as a valid program asks.
use Rattle.std.proofs.Common.{◌≡◌, ◌≤◌, ℕ, true, false, pos, refl, inl, inr, arith}
use Rattle.std.proofs.lemmas.Int.{ints}
use Rattle.std.proofs.lemmas.Bool.{false≢true}
use Rattle.ec_fx.specs.Ranges.{IsWithin}
use Rattle.ec_core.specs.Layout.{size_of_type}
use Rattle.ec_check_forms.specs.Validity.{SizesAreValid}

held : (n : ℕ) → n ≤ 65_535 → IsWithin false 16 (pos n)
held n h = record { low = omega (arith, ints); high = omega (arith, ints) }

pub sizes_are_valid : SizesAreValid
sizes_are_valid p table f m ty h = record {
  valid = (inr (inl refl), (inr (inl refl), held (size_of_type p.structs ty) h), tt);
  usable = inr (inl refl);
  null = λ z. absurd (false≢true z);
}
