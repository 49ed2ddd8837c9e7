-- The rows of a program tell what its functions call.
use Rattle.std.proofs.Common.{◌≡◌, ⊎_elim, ℕ, ◌<◌, ◌≤◌, List, [], length, Some, refl, sym, ap, ◌∙◌, subst, arith}
use Rattle.std.specs.Prelude.{Contains, slice_get, option_map}
use Rattle.std.proofs.lemmas.List.{get_or_past, length-map}
use Rattle.std.proofs.lemmas.Option.{slice_get-map, slice_get_cases, get_or_from_slice_get}
use Rattle.ec_core.specs.Needs.{stmt_calls}
use Rattle.ec_core.specs.Plain.{PlainFunction, PlainProgram}
use Rattle.ec_core.specs.Valid.{Reaches, calls as reaches, calls_through as reaches_through}
use Rattle.ec_check_recursion.specs.Rows.{row_at, rows_of_program, LeadsTo, calls, calls_through}
use Rattle.ec_overlay.specs.Chains.{NothingRecurs}

-- the row of a function
pub row_is : (p : PlainProgram) (f : ℕ) (g : PlainFunction) → slice_get p.functions f ≡ Some g
    → row_at (rows_of_program p) f ≡ stmt_calls g.body []
row_is p f g is =
    get_or_from_slice_get (rows_of_program p) f (stmt_calls g.body []) []
    (slice_get-map (λ (x : PlainFunction). stmt_calls x.body []) p.functions f
    ∙ ap (option_map (λ (x : PlainFunction). stmt_calls x.body [])) is)

-- what a row has is called by its function
pub record IsCaller (p : PlainProgram) (f g : ℕ) : Type 0 where
  pub function : PlainFunction
  pub is_function : slice_get p.functions f ≡ Some function
  pub called : Contains (stmt_calls function.body []) g

pub caller_is : (p : PlainProgram) (f g : ℕ) → Contains (row_at (rows_of_program p) f) g → IsCaller p f g
caller_is p f g h =
    ⊎_elim
    (λ there. record { function = there.0; is_function = there.2; called = rw (row_is p f there.0 there.2) at h })
    (λ past.
    let long = length-map p.functions (λ (x : PlainFunction). stmt_calls x.body []) in
    let none : row_at (rows_of_program p) f ≡ [] = get_or_past (rows_of_program p) f [] (omega (arith, long, past.0)) in
    let k = rw none at h in
    let l : k.0 < 0 = k.1 in
    absurd (omega arith))
    (slice_get_cases p.functions f).1

reaches_by : (p : PlainProgram) (g f : ℕ) → LeadsTo (rows_of_program p) g f → Reaches p g f
reaches_by p g _ (calls f c) = let x = caller_is p f g c in reaches f x.function x.is_function x.called
reaches_by p g _ (calls_through f h c r) =
    let x = caller_is p f h c in
    reaches_through f h x.function x.is_function x.called (reaches_by p g h r)

-- where no function reaches itself, nothing recurs
pub nothing_recurs : (p : PlainProgram) → ((f : ℕ) → ¬ Reaches p f f) → NothingRecurs (rows_of_program p)
nothing_recurs p never f r = never f (reaches_by p f f r)
