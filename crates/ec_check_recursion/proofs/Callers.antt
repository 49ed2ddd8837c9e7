-- The calls of a program's functions lead where the functions reach.
use Rattle.std.proofs.Common.{◌≡◌, ℕ, zero, suc, ◌<◌, List, [], ◌∷◌, map, Option, Some, None, refl, ◌∙◌, ap, subst, inl, inr, length, take}
use Rattle.std.proofs.Common.{arith, ◌≤◌, ◌↔◌}
use Rattle.std.specs.Prelude.{Contains, slice_get, IfSome, IfNone}
use Rattle.std.proofs.lemmas.Bool.{cases_eq, cases_lt}
use Rattle.std.proofs.lemmas.List.{take_all}
use Rattle.ec_core.specs.Needs.{stmt_calls}
use Rattle.ec_core.specs.declared.programs.Func.{Func}
use Rattle.ec_core.specs.Plain.{PlainFunction, PlainProgram, plain_function, plain_stmt}
use Rattle.ec_core.specs.Valid.{Reaches, calls as reaches, calls_through as reaches_through}
use Rattle.ec_check_recursion.specs.Rows.{row_at, rows_of_program, LeadsTo, calls, calls_through, IsFirst}
use Rattle.ec_check_recursion.specs.Recursion.{NothingRecurs, IsFirstRecursive}

calls_in : PlainFunction → List ℕ
calls_in f = stmt_calls f.body []

row_of : (fs : List PlainFunction) (f : ℕ) (x : PlainFunction) → slice_get fs f ≡ Some x
    → row_at (map (λ g. stmt_calls g.body []) fs) f ≡ stmt_calls x.body []
row_of [] f x e = cc
row_of (y ∷ fs) zero x e = let same : y ≡ x = cc in rw same refl
row_of (y ∷ fs) (suc f) x e = row_of fs f x e

no_row : (fs : List PlainFunction) (f : ℕ) → slice_get fs f ≡ None → row_at (map (λ g. stmt_calls g.body []) fs) f ≡ []
no_row [] f e = refl
no_row (y ∷ fs) zero e = cc
no_row (y ∷ fs) (suc f) e = no_row fs f e

-- the function of a row that has a call
pub record IsCaller (p : PlainProgram) (f g : ℕ) : Type 0 where
  pub function : PlainFunction
  pub is : slice_get p.functions f ≡ Some function
  pub has : Contains (stmt_calls function.body []) g

caller_by : (p : PlainProgram) (f g : ℕ) (o : Option PlainFunction) → slice_get p.functions f ≡ o
    → Contains (row_at (rows_of_program p) f) g → IsCaller p f g
caller_by p f g None is c =
    let k = rw (no_row p.functions f is) at c in
    let l : k.0 < 0 = k.1 in absurd (omega arith)
caller_by p f g (Some x) is c = record { function = x; is = is; has = rw (row_of p.functions f x is) at c }

caller : (p : PlainProgram) (f g : ℕ) → Contains (row_at (rows_of_program p) f) g → IsCaller p f g
caller p f g c = caller_by p f g (slice_get p.functions f) refl c

pub reaches_where_leads : (p : PlainProgram) (g f : ℕ) → LeadsTo (rows_of_program p) g f → Reaches p g f
reaches_where_leads p g _ (calls f c) = let x = caller p f g c in reaches f x.function x.is x.has
reaches_where_leads p g _ (calls_through f h c r) =
    let x = caller p f h c in
    reaches_through f h x.function x.is x.has (reaches_where_leads p g h r)

pub leads_where_reaches : (p : PlainProgram) (g f : ℕ) → Reaches p g f → LeadsTo (rows_of_program p) g f
leads_where_reaches p g _ (reaches f x is c) = calls f (rw (row_of p.functions f x is) c)
leads_where_reaches p g _ (reaches_through f h x is c r) =
    calls_through f h (rw (row_of p.functions f x is) c) (leads_where_reaches p g h r)

pub first_recursive : (p : PlainProgram) (f : ℕ) → IsFirst (rows_of_program p) f → IsFirstRecursive p f
first_recursive p f h = record {
  reaches = reaches_where_leads p f f h.leads;
  first = λ k l r. h.first k l (leads_where_reaches p k k r);
}

-- ---- the rows

rows_same : (fs : List Func) → map (λ f. stmt_calls (plain_stmt f.body) []) fs ≡ map (λ f. stmt_calls f.body []) (map plain_function fs)
rows_same [] = refl
rows_same (f ∷ fs) = ap (λ rows. stmt_calls (plain_stmt f.body) [] ∷ rows) (rows_same fs)

pub all_rows : (fs : List Func) (n : ℕ) (rows : List (List ℕ)) → length fs ≤ n
    → rows ≡ map (λ f. stmt_calls (plain_stmt f.body) []) (take n fs) → rows ≡ map (λ f. stmt_calls f.body []) (map plain_function fs)
all_rows fs n rows l e = e ∙ ap (map (λ f. stmt_calls (plain_stmt f.body) [])) (take_all n fs l) ∙ rows_same fs

-- ---- what is answered

one_first : (p : PlainProgram) (f g : ℕ) → IsFirstRecursive p f → IsFirstRecursive p g → f ≡ g
one_first p f g x y = elim (cases_eq f g) [
  | inl same ↦ same
  | inr other ↦ elim (cases_lt f g) [
    | inl less ↦ absurd (y.first f less x.reaches)
    | inr not_less ↦ absurd (x.first g (omega (arith, not_less, other)) y.reaches)
  ]
]

none_leads : (p : PlainProgram) → ((f : ℕ) → ¬ LeadsTo (rows_of_program p) f f) → NothingRecurs p
none_leads p h f r = h f (leads_where_reaches p f f r)

-- an answer tells which function is the first
pub record Answers (p : PlainProgram) (r : Option ℕ) : Type 0 where
  pub found : (f : ℕ) → (r ≡ Some f) ↔ IsFirstRecursive p f
  pub none : (r ≡ None) ↔ NothingRecurs p

pub answers : (p : PlainProgram) (r : Option ℕ) → IfSome r (IsFirst (rows_of_program p))
    → IfNone r ((f : ℕ) → ¬ LeadsTo (rows_of_program p) f f) → Answers p r
answers p (Some f) found none =
    let first = first_recursive p f found in
    record {
      found = λ g. (λ e. let same : f ≡ g = cc in subst (IsFirstRecursive p) same first, λ h. ap (λ x. Some x) (one_first p f g first h));
      none = (λ e. cc, λ h. absurd (h f first.reaches));
    }
answers p None found none =
    let nothing = none_leads p none in
    record {
      found = λ g. (λ e. cc, λ h. absurd (nothing g h.reaches));
      none = (λ e. nothing, λ h. refl);
    }
