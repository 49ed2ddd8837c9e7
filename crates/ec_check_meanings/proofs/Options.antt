-- Values that may be missing, and the tests on which they hang.
use Rattle.std.proofs.Common.{◌≡◌, ◌∙◌, Bool, true, false, not, ◌&&◌, ◌||◌, refl, sym, ap}
use Rattle.std.specs.Prelude.{if◌then◌else◌, Option, Some, None}
use Rattle.std.proofs.lemmas.Bool.{true≢false}
use Rattle.ec_check_operands.specs.Options.{with_one}

pub clash : {b : Bool} → b ≡ true → b ≡ false → ⊥
clash h q = true≢false (sym h ∙ q)

pub refuted : (b : Bool) → ¬ (b ≡ true) → b ≡ false
refuted true n = absurd (n refl)
refuted false n = refl

pub inside : {A : Type 0} {x y : A} → ◌≡◌ {A = Option A} (Some x) (Some y) → x ≡ y
inside q = cc

pub nothing_there : {A : Type 0} → (o : A) → ◌≡◌ {A = Option A} None (Some o) → ⊥
nothing_there o q = cc

-- a value that is there where a test holds
pub given : {A : Type 0} → (b : Bool) (v o : A) → (if b then Some v else None) ≡ Some o → (b ≡ true) × (v ≡ o)
given true v o q = (refl, inside q)
given false v o q = absurd (nothing_there o q)

pub granted : {A : Type 0} → (b : Bool) (v o : A) → b ≡ true → v ≡ o → (if b then Some v else None) ≡ Some o
granted b v o h e = ap (λ z. if z then Some v else None) h ∙ ap Some e

-- what follows from a value, where it is there
pub with_given : {A B : Type 0} → (o : Option A) (g : A → Option B) (v : B) → with_one o g ≡ Some v
    → (a : A) × (o ≡ Some a) × (g a ≡ Some v)
with_given None g v q = absurd (nothing_there v q)
with_given (Some a) g v q = (a, refl, q)

pub with_granted : {A B : Type 0} → (o : Option A) (g : A → Option B) (a : A) (v : B) → o ≡ Some a → g a ≡ Some v
    → with_one o g ≡ Some v
with_granted o g a v h q = ap (λ z. with_one z g) h ∙ q

pub unless : {A : Type 0} → (b : Bool) (x : Option A) (o : A) → (if b then None else x) ≡ Some o → (b ≡ false) × (x ≡ Some o)
unless true x o q = absurd (nothing_there o q)
unless false x o q = (refl, q)

pub implied : (a b : Bool) → (a && not b) ≡ false → a ≡ true → b ≡ true
implied true true q h = refl
implied true false q h = absurd (true≢false q)
implied false b q h = absurd (clash h refl)

pub none_of_three : (a b c : Bool) → a ≡ false → b ≡ false → c ≡ false → (a || b || c) ≡ false
none_of_three false false false p q r = refl
none_of_three true b c p q r = absurd (true≢false p)
none_of_three false true c p q r = absurd (true≢false q)
none_of_three false false true p q r = absurd (true≢false r)

pub each_of_three : (a b c : Bool) → (a || b || c) ≡ false → (a ≡ false) × (b ≡ false) × (c ≡ false)
each_of_three false false false h = (refl, refl, refl)
each_of_three false false true h = absurd (true≢false h)
each_of_three false true c h = absurd (true≢false h)
each_of_three true b c h = absurd (true≢false h)
