-- The least fault of judgements.
use Rattle.std.proofs.Common.{◌≡◌, Bool, true, false, List, [], ◌∷◌, refl, inl, inr, arith}
use Rattle.std.specs.Prelude.{◌⊎◌, if◌then◌else◌, IsTrue, Option, Some, None}
use Rattle.std.proofs.lemmas.Bool.{both_ways}
use Rattle.std.proofs.lemmas.Bool.Decides.{nat_tests}
use Rattle.ec_check_operands.specs.declared.faults.Fault.{Fault}
use Rattle.ec_check_operands.specs.Faults.{Judgement, is_before, lesser, judged, all_judged}
use Rattle.ec_check_operands.specs.Laws.{Tells, IsTold, ComesFirst, IsLeastTold, LeastIsKept, JudgementsAddUp}

-- what is known is the fault
abbrev Has : Option Fault → Fault → Type 0
Has None f = ⊥
Has (Some g) f = (f.at ≡ g.at) × (f.rule ≡ g.rule)

-- the fault is known, or one of the judgements tells it
abbrev IsNoted : Option Fault → List Judgement → Fault → Type 0
IsNoted known js f = Has known f ⊎ IsTold js f

abbrev IsLeast : Option Fault → List Judgement → Option Fault → Type 0
IsLeast known js None = (f : Fault) → ¬ IsNoted known js f
IsLeast known js (Some f) = IsNoted known js f × ((g : Fault) → IsNoted known js g → ComesFirst f g)

first_itself : (f g : Fault) → Has (Some f) g → ComesFirst f g
first_itself f g (a, r) = inr (omega arith, omega arith)

onward : (f g h : Fault) → ComesFirst f g → ComesFirst g h → ComesFirst f h
onward f g h (inl a) (inl b) = inl (omega arith)
onward f g h (inl a) (inr (b, c)) = inl (omega arith)
onward f g h (inr (a, c)) (inl b) = inl (omega arith)
onward f g h (inr (a, c)) (inr (b, d)) = inr (omega arith, omega arith)

-- what is left is one of those before it, and comes no later than any of them
record IsFirst (known : Option Fault) (j : Judgement) (left : Option Fault) : Type 0 where
  of : (f : Fault) → Has left f → Has known f ⊎ Tells j f
  first : (g : Fault) → Has known g ⊎ Tells j g → (f : Fault) × Has left f × ComesFirst f g

was_before : (f g : Fault) → is_before f g ≡ true → ComesFirst f g
was_before f g e = grind (arith, nat_tests)

was_not_before : (f g : Fault) → is_before f g ≡ false → ComesFirst g f
was_not_before f g e = grind (arith, nat_tests)

-- the fault that a judgement tells where its rule is broken
abbrev fault_of : Judgement → Fault
fault_of j = record { at = j.at; rule = j.rule }

only : (j : Judgement) → IsTrue j.broken → IsFirst None j (Some (fault_of j))
only j b = record { of = λ f h. inr (b, h.0, h.1); first = first }
  where
    first : (g : Fault) → ⊥ ⊎ Tells j g → (f : Fault) × Has (Some (fault_of j)) f × ComesFirst f g
    first g (inl h) = absurd h
    first g (inr (t, a, r)) = (fault_of j, (refl, refl), inr (omega arith, omega arith))

now_first : (k : Fault) (j : Judgement) → IsTrue j.broken → ComesFirst (fault_of j) k → IsFirst (Some k) j (Some (fault_of j))
now_first k j b c = record { of = λ f h. inr (b, h.0, h.1); first = first }
  where
    first : (g : Fault) → Has (Some k) g ⊎ Tells j g → (f : Fault) × Has (Some (fault_of j)) f × ComesFirst f g
    first g (inl h) = (fault_of j, (refl, refl), onward (fault_of j) k g c (first_itself k g h))
    first g (inr (t, a, r)) = (fault_of j, (refl, refl), inr (omega arith, omega arith))

still_first : (k : Fault) (j : Judgement) → ComesFirst k (fault_of j) → IsFirst (Some k) j (Some k)
still_first k j c = record { of = λ f h. inl h; first = first }
  where
    first : (g : Fault) → Has (Some k) g ⊎ Tells j g → (f : Fault) × Has (Some k) f × ComesFirst f g
    first g (inl h) = (k, (refl, refl), first_itself k g h)
    first g (inr (t, a, r)) = (k, (refl, refl), onward k (fault_of j) g c (inr (omega arith, omega arith)))

unbroken : (known : Option Fault) (j : Judgement) → (IsTrue j.broken → ⊥) → IsFirst known j known
unbroken known j u = record { of = λ f h. inl h; first = first known }
  where
    first : (k : Option Fault) (g : Fault) → Has k g ⊎ Tells j g → (f : Fault) × Has k f × ComesFirst f g
    first None g (inl h) = absurd h
    first (Some k) g (inl h) = (k, (refl, refl), first_itself k g h)
    first k g (inr t) = absurd (u t.0)

lesser_first : (known : Option Fault) (j : Judgement) → IsTrue j.broken → IsFirst known j (lesser known (fault_of j))
lesser_first None j b = only j b
lesser_first (Some k) j b = chosen (is_before (fault_of j) k) refl
  where
    chosen : (c : Bool) → is_before (fault_of j) k ≡ c → IsFirst (Some k) j (if c then Some (fault_of j) else Some k)
    chosen true e = now_first k j b (was_before (fault_of j) k e)
    chosen false e = still_first k j (was_not_before (fault_of j) k e)

judged_first : (known : Option Fault) (j : Judgement) → IsFirst known j (judged known j)
judged_first known j = chosen j.broken refl
  where
    chosen : (b : Bool) → j.broken ≡ b → IsFirst known j (if b then lesser known (fault_of j) else known)
    chosen true e = lesser_first known j e
    chosen false e = unbroken known j (both_ways j.broken e)

-- the least of what was left with the others is the least of all
least_of_all : (known left : Option Fault) (j : Judgement) (js : List Judgement) (r : Option Fault)
    → IsFirst known j left → IsLeast left js r → IsLeast known (j ∷ js) r
least_of_all known left j js None s h = none
  where
    at : (g : Fault) → Has known g ⊎ Tells j g → ⊥
    at g n = let (f, k, c) = s.first g n in h f (inl k)

    none : (g : Fault) → ¬ IsNoted known (j ∷ js) g
    none g (inl k) = at g (inl k)
    none g (inr (inl t)) = at g (inr t)
    none g (inr (inr t)) = h g (inr t)
least_of_all known left j js (Some r) s h = (noted h.0, least)
  where
    moved : Has known r ⊎ Tells j r → IsNoted known (j ∷ js) r
    moved (inl k) = inl k
    moved (inr t) = inr (inl t)

    noted : IsNoted left js r → IsNoted known (j ∷ js) r
    noted (inl k) = moved (s.of r k)
    noted (inr t) = inr (inr t)

    at : (g : Fault) → Has known g ⊎ Tells j g → ComesFirst r g
    at g n = let e = s.first g n in onward r e.0 g (h.1 e.0 (inl e.1)) e.2

    least : (g : Fault) → IsNoted known (j ∷ js) g → ComesFirst r g
    least g (inl k) = at g (inl k)
    least g (inr (inl t)) = at g (inr t)
    least g (inr (inr t)) = h.1 g (inr t)

nothing_judged : (known : Option Fault) → IsLeast known [] known
nothing_judged None = none
  where
    none : (f : Fault) → ¬ IsNoted None [] f
    none f (inl h) = h
    none f (inr h) = h
nothing_judged (Some k) = (inl (refl, refl), least)
  where
    least : (g : Fault) → IsNoted (Some k) [] g → ComesFirst k g
    least g (inl h) = first_itself k g h
    least g (inr h) = absurd h

all_least : (known : Option Fault) (js : List Judgement) → IsLeast known js (all_judged known js)
all_least known [] = nothing_judged known
all_least known (j ∷ js) =
    least_of_all known (judged known j) j js (all_judged (judged known j) js) (judged_first known j)
    (all_least (judged known j) js)

least_alone : (js : List Judgement) (r : Option Fault) → IsLeast None js r → IsLeastTold js r
least_alone js None h = λ f t. h f (inr t)
least_alone js (Some r) h = (told h.0, λ g t. h.1 g (inr t))
  where
    told : IsNoted None js r → IsTold js r
    told (inl k) = absurd k
    told (inr t) = t

pub the_least_is_kept : LeastIsKept
the_least_is_kept js = least_alone js (all_judged None js) (all_least None js)

pub judgements_add_up : JudgementsAddUp
judgements_add_up known [] ks = refl
judgements_add_up known (j ∷ js) ks = judgements_add_up (judged known j) js ks
