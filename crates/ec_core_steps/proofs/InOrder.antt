-- The turns of a counted loop are the values that are in order with its bound.
use Rattle.std.proofs.Common.{◌≡◌, ◌≤◌, ◌<◌, ℕ, zero, suc, Bool, true, false, ℤ, pos, ◌+ℤ◌, ◌-ℤ◌, ◌*ℤ◌, unsigned_abs, refl, sym}
use Rattle.std.proofs.Common.{ap, ◌∙◌, arith, ltb-true, ltb-false, lt-ltb}
use Rattle.std.specs.Prelude.{int_lt, nat_lt}
use Rattle.std.specs.Ordering.{int_cmp}
use Rattle.std.proofs.lemmas.Int.{ints}
use Rattle.ec_core.specs.declared.expressions.BinOp.{BinOp}
use Rattle.ec_core.specs.Integers.{accepts}
use Rattle.ec_core_steps.specs.Counted.{distance, steps_in, leads_to}
use Rattle.ec_core_steps.specs.Turns.{TurnsAreValuesInOrder}
use Rattle.ec_core_steps.proofs.Turns.{next_steps, some_steps, is_met, distance_on, some_step}

once : (v : ℤ) → v ≡ v *ℤ pos 1
once v = omega (arith, ints)

in_order_is : (op : BinOp) (v bound step : ℤ) → leads_to op step ≡ true
    → accepts op (int_cmp v bound) ≡ int_lt (pos 0) (distance op v bound)
in_order_is op v bound step e =
    ap (λ (z : ℤ). accepts op (int_cmp z bound)) (once v) ∙ ap (λ (z : ℤ). accepts op (int_cmp (v *ℤ pos 1) z)) (once bound)
    ∙ is_met op v bound step e

same_order : (a b c d : ℕ) → (a < b → c < d) → (c < d → a < b) → nat_lt a b ≡ nat_lt c d
same_order a b c d f g = by_tests (nat_lt a b) refl (nat_lt c d) refl
  where
    by_tests : (x : Bool) → nat_lt a b ≡ x → (y : Bool) → nat_lt c d ≡ y → nat_lt a b ≡ nat_lt c d
    by_tests true e true k = e ∙ sym k
    by_tests true e false k = let h = f (ltb-true a b e) in let l = ltb-false c d k in absurd (omega (arith, h, l))
    by_tests false e true k = let h = g (ltb-true c d k) in let l = ltb-false a b e in absurd (omega (arith, h, l))
    by_tests false e false k = e ∙ sym k

-- whether there is a step, and a step more
first_step : (d : ℤ) (by : ℕ) → 1 ≤ by → int_lt (pos 0) d ≡ nat_lt 0 (steps_in d by)
first_step d by some = by_test (int_lt (pos 0) d) refl
  where
    by_test : (b : Bool) → int_lt (pos 0) d ≡ b → int_lt (pos 0) d ≡ nat_lt 0 (steps_in d by)
    by_test true e =
        let k = some_steps by some d e in
        let same = k.1 in
        e ∙ sym (lt-ltb 0 (steps_in d by) (omega (arith, same)))
    by_test false e = rw e refl

no_steps : (d : ℤ) (by : ℕ) → int_lt (pos 0) d ≡ false → steps_in d by ≡ 0
no_steps d by e = rw e refl

less_still : (d : ℤ) (by : ℕ) → int_lt (pos 0) d ≡ false → int_lt (pos 0) (d -ℤ pos by) ≡ false
less_still d by e = grind (arith, ints, e)

further_step : (d : ℤ) (by j : ℕ) → 1 ≤ by → nat_lt j (steps_in (d -ℤ pos by) by) ≡ nat_lt (suc j) (steps_in d by)
further_step d by j some = by_test (int_lt (pos 0) d) refl
  where
    by_test : (b : Bool) → int_lt (pos 0) d ≡ b → nat_lt j (steps_in (d -ℤ pos by) by) ≡ nat_lt (suc j) (steps_in d by)
    by_test true e =
        let k = some_steps by some d e in
        let now = k.1 in
        let later = next_steps by some d k.0 k.1 in
        same_order j (steps_in (d -ℤ pos by) by) (suc j) (steps_in d by) (λ h. omega (arith, h, now, later)) (λ h. omega (arith, h, now, later))
    by_test false e =
        let now = no_steps d by e in
        let later = no_steps (d -ℤ pos by) by (less_still d by e) in
        same_order j (steps_in (d -ℤ pos by) by) (suc j) (steps_in d by) (λ h. omega (arith, h, now, later)) (λ h. omega (arith, h, now, later))

moved_on : (first by : ℤ) (j : ℕ) → first +ℤ pos (suc j) *ℤ by ≡ (first +ℤ by) +ℤ pos j *ℤ by
moved_on first by j = omega (arith, ints)

pub turns_are : TurnsAreValuesInOrder
turns_are op first bound by leads zero =
    let start : first +ℤ pos 0 *ℤ by ≡ first = omega (arith, ints) in
    ap (λ (z : ℤ). accepts op (int_cmp z bound)) start ∙ in_order_is op first bound by leads
    ∙ first_step (distance op first bound) (unsigned_abs by) (some_step op by leads)
turns_are op first bound by leads (suc j) =
    ap (λ (z : ℤ). accepts op (int_cmp z bound)) (moved_on first by j) ∙ turns_are op (first +ℤ by) bound by leads j
    ∙ ap (λ (d : ℤ). nat_lt j (steps_in d (unsigned_abs by))) (distance_on op first bound by leads)
    ∙ further_step (distance op first bound) (unsigned_abs by) j (some_step op by leads)
