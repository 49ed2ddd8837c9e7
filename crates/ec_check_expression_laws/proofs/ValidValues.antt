-- The value of an operand is a valid expression, but for a struct's.
use Rattle.std.proofs.Common.{◌≡◌, ℕ, Bool, true, refl, sym, subst, inl, inr}
use Rattle.std.specs.Prelude.{◌⊎◌, Option, IsSomeAnd}
use Rattle.ec_core.specs.Plain.{PlainType, void, integer, fixed, pointer, array, struct}
use Rattle.ec_core.specs.Typing.{IsElementOf, place_type}
use Rattle.ec_core.specs.Valid.{HasAddress}
use Rattle.ec_check_operands.specs.Operands.{place, value}
use Rattle.ec_check_forms.specs.Constraints.{IsArithmetic}
use Rattle.ec_check_forms.proofs.ValidOperands.{element_type}
use Rattle.ec_check_expression_laws.specs.Laws.{ValuesAreValid}

-- ---- elements of arrays

has_address : (of : PlainType) (len : ℕ) (register : Bool) (A : Type 0) → A ⊎ ((register ≡ true) × IsArithmetic (array of len)) → A
has_address of len register A (inl h) = h
has_address of len register A (inr h) = absurd h.1

-- ---- values

pub values_are_valid : ValuesAreValid
values_are_valid p io f m (value e z) h s = h.valid
values_are_valid p io f m (place void konst space register q) h s = absurd h.kind.object.form
values_are_valid p io f m (place (integer signed bytes) konst space register q) h s = (h.kind.usable, (h.kind.usable, h.typed), h.parts)
values_are_valid p io f m (place (fixed kind sat) konst space register q) h s = (tt, (tt, h.typed), h.parts)
values_are_valid p io f m (place (pointer r k t) konst space register q) h s =
    ((h.kind.usable.0, h.kind.usable.1), (tt, h.typed), h.parts)
values_are_valid p io f m (place (array of len) konst space register q) h s =
    let element = element_type p.structs of len h.kind in
    let held : IsSomeAnd (place_type p q) (λ ty. (ty ≡ of) ⊎ IsElementOf of ty) =
    subst (λ (o : Option PlainType). IsSomeAnd o (λ ty. (ty ≡ of) ⊎ IsElementOf of ty)) (sym h.typed) (inr refl) in
    ((element.object, element.some), (h.spaced, h.constness, held), (h.parts, has_address of len register (HasAddress p q) h.addressed))
values_are_valid p io f m (place (struct index) konst space register q) h s = absurd (s tt)
