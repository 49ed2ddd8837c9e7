use Rattle.std.proofs.Common.{arith, ap, refl, subst, ◌∙◌, ℕ, ◌≡◌, ◌||◌, Bool, true, false, ℤ, Some, None, if◌then◌else◌, sym}
use Rattle.std.specs.Prelude.{int_lt, ◌≤ℤ◌}
use Rattle.std.proofs.lemmas.Int.{ints}
use Rattle.ec_fx.specs.Conversions.{held, integer_of, exact_whole}
use Rattle.ec_fx.specs.Ranges.{least, greatest, IsWithin}
use Rattle.ec_fx.specs.Rounding.{rounded}
use Rattle.ec_core.specs.Integers.{width_of}
use Rattle.ec_core.proofs.arithmetic_operations.whole_part.Goals as goal

cases : (a b : Bool) (n m : ℤ) → Some m ≡ (if a || b then None else Some n) → (a ≡ false) × (b ≡ false) × (m ≡ n)
cases true b n m e = cc
cases false true n m e = cc
cases false false n m e = let same : m ≡ n = cc in (refl, refl, same)

not_less : (a b : ℤ) → int_lt a b ≡ false → b ≤ℤ a
not_less a b h = grind (arith, ints)

-- a number that a type holds is in its range
within : (signed : Bool) (bits : ℕ) (n m : ℤ) → Some m ≡ held signed bits n → IsWithin signed bits m
within signed bits n m e =
    let c = cases (int_lt (greatest signed bits) n) (int_lt n (least signed bits)) n m e in
    let P : ℤ → Type 0 = λ z. IsWithin signed bits z in
    subst P (sym c.2) (record { low = not_less n (least signed bits) c.1; high = not_less (greatest signed bits) n c.0 })

pub returns-in-Some-clause-held : goal.returns-in-Some-clause-held
returns-in-Some-clause-held c =
    let h : IsWithin c.args.t.signed (width_of c.args.t) c.in-Some.n =
    within c.args.t.signed (width_of c.args.t) (rounded (exact_whole c.args.x)) c.in-Some.n
    (c.in-Some.ensures.value ∙ ap (λ (bits : ℕ). integer_of c.args.x c.args.t.signed bits) c.width.ensures.value) in
    record { low = omega (arith, ints, h.low); high = omega (arith, ints, h.high) }
