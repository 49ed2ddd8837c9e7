-- What follows from values that may be missing.
use Rattle.std.specs.Prelude.{Option, Some, None}

-- where there is a value, what follows from it
abbrev pub with_one : {A B : Type 0} → Option A → (A → Option B) → Option B
with_one None f = None
with_one (Some x) f = f x

abbrev pub with_both : {A B C : Type 0} → Option A → Option B → (A → B → Option C) → Option C
with_both x y f = with_one x (λ a. with_one y (λ b. f a b))
