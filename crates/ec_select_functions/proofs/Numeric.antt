-- Temporaries of a type of numbers.
use Rattle.std.proofs.Common.{◌≡◌, ℕ, Bool, false, Some, Ok, refl, sym, ap, ◌∙◌, subst}
use Rattle.ec_asm.specs.View.{View}
use Rattle.ec_asm.specs.Change.{Env}
use Rattle.ec_core.specs.declared.values.ObjectPointer.{ObjectPointer}
use Rattle.ec_core.specs.declared.values.Value.{Value}
use Rattle.ec_core.specs.declared.values.Value.TheVariants.{Number}
use Rattle.ec_core.specs.Layout.{scalar_size}
use Rattle.ec_core.specs.Operators.{unsuited}
use Rattle.ec_core.specs.Plain.{PlainType, void, integer, fixed, pointer, array, struct, PlainProgram}
use Rattle.ec_core.specs.State.{State, Outcome, next, given}
use Rattle.ec_fx.specs.Formats.{format_of}
use Rattle.ec_ir.specs.declared.operations.Temp.{Temp}
use Rattle.ec_ir.specs.Meaning.{held_as}
use Rattle.ec_ir.specs.Temporaries.{Content, bits, points, value_in, value_of_type, Held, Temps, held, number_of_bytes}
use Rattle.ec_select_operations.specs.Places.{IsNumeric}
use Rattle.ec_select_functions.proofs.Follow.{Follows, from_held, next_next, held_is}

-- whether the numbers of a type have a sign
abbrev pub sign_in : PlainType → Bool
sign_in (integer signed bytes) = signed
sign_in (fixed kind saturates) = (format_of kind).signed
sign_in ty = false

abbrev pub number_in : PlainType → ℕ → Value
number_in ty low = Number (number_of_bytes (sign_in ty) (scalar_size ty) low)

pub value_is : (ty : PlainType) (low : ℕ) → IsNumeric ty → value_in ty (bits low) ≡ Ok (number_in ty low)
value_is void low h = absurd h
value_is (integer signed bytes) low h = refl
value_is (fixed kind saturates) low h = refl
value_is (pointer space const to) low h = absurd h
value_is (array of len) low h = absurd h
value_is (struct index) low h = absurd h

-- the same in a program
value_of : (p : PlainProgram) (ty : PlainType) (low : ℕ) → IsNumeric ty → value_of_type p ty (bits low) ≡ Ok (number_in ty low)
value_of p void low h = absurd h
value_of p (integer signed bytes) low h = refl
value_of p (fixed kind saturates) low h = refl
value_of p (pointer space const to) low h = absurd h
value_of p (array of len) low h = absurd h
value_of p (struct index) low h = absurd h

no_pointer : (p : PlainProgram) (ty : PlainType) (x : ObjectPointer) → IsNumeric ty → value_of_type p ty (points x) ≡ unsuited
no_pointer p void x h = absurd h
no_pointer p (integer signed bytes) x h = refl
no_pointer p (fixed kind saturates) x h = refl
no_pointer p (pointer space const to) x h = absurd h
no_pointer p (array of len) x h = absurd h
no_pointer p (struct index) x h = absurd h

module _ (p : PlainProgram) (place : ℕ → ℕ) (e : Env) where
  -- a temporary that holds a number of the type
  pub from_typed : (ty : PlainType) (t : Temp) (temps : Temps) (s : State) (go : Value → State → Outcome Value) (n w pc : ℕ) (v : View)
      → IsNumeric ty
      →
      ((low : ℕ) → temps t.at ≡ Some (record { bytes = t.bytes; content = bits low })
      → Follows p place e n w pc v (go (number_in ty low) s))
      → Follows p place e n w pc v (next (held_as p ty t temps s) go)
  from_typed ty t temps s go n w pc v is f =
      subst (λ o. Follows p place e n w pc v o) (sym (next_next (held t temps s) _ go))
      (from_held p place e t temps s (λ content s1. next (given (value_of_type p ty content) s1) go) n w pc v
      (λ h q r. by_content h q r h.content refl))
    where
      by_content : (h : Held) → temps t.at ≡ Some h → h.bytes ≡ t.bytes → (c : Content) → h.content ≡ c
          → Follows p place e n w pc v (next (given (value_of_type p ty c) s) go)
      by_content h q r (bits low) i =
          subst (λ z. Follows p place e n w pc v (next (given z s) go)) (sym (value_of p ty low is))
          (f low (q ∙ ap Some (held_is p place e h t.bytes (bits low) r i)))
      by_content h q r (points x) i = subst (λ z. Follows p place e n w pc v (next (given z s) go)) (sym (no_pointer p ty x is)) tt

  -- the same with the bytes of the temporary
  pub from_numeric : (ty : PlainType) (t : Temp) (temps : Temps) (s : State) (go : Value → State → Outcome Value) (n w pc : ℕ) (v : View)
      → IsNumeric ty → scalar_size ty ≡ t.bytes
      → ((low : ℕ) → temps t.at ≡ Some (record { bytes = t.bytes; content = bits low })
      → Follows p place e n w pc v (go (Number (number_of_bytes (sign_in ty) t.bytes low)) s))
      → Follows p place e n w pc v (next (held_as p ty t temps s) go)
  from_numeric ty t temps s go n w pc v is size f =
      from_typed ty t temps s go n w pc v is
      (λ low q. subst (λ (k : ℕ). Follows p place e n w pc v (go (Number (number_of_bytes (sign_in ty) k low)) s)) (sym size) (f low q))
