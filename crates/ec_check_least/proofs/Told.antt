-- What is told at places is told by the list of their judgements.
use Rattle.std.proofs.Common.{◌≡◌, ◌∙◌, List, [], ◌∷◌, ◌++◌, refl, subst, inl, inr}
use Rattle.std.specs.Prelude.{◌⊎◌, Option, Some, None}
use Rattle.ec_check_operands.specs.declared.faults.Fault.{Fault}
use Rattle.ec_check_operands.specs.Faults.{Judgement, all_judged}
use Rattle.ec_check_operands.specs.Laws.{IsTold, IsLeastTold, LeastIsKept, JudgementsAddUp}
use Rattle.ec_check_declarations.specs.Sites.{Site, rules_at, told}
use Rattle.ec_check_least.specs.Told.{IsToldAt, IsLeastToldAt, LeastIsTold}

-- all judgements of some places
abbrev judgements_at : List Site → List Judgement
judgements_at [] = []
judgements_at (s ∷ ss) = rules_at s ++ judgements_at ss

judged_at : JudgementsAddUp → (known : Option Fault) (ss : List Site) → all_judged known (judgements_at ss) ≡ told known ss
judged_at adds known [] = refl
judged_at adds known (s ∷ ss) =
    adds known (rules_at s) (judgements_at ss) ∙ judged_at adds (all_judged known (rules_at s)) ss

-- ---- both ways

first_of : (js ks : List Judgement) (f : Fault) → IsTold js f → IsTold (js ++ ks) f
first_of (j ∷ js) ks f (inl t) = inl t
first_of (j ∷ js) ks f (inr h) = inr (first_of js ks f h)
first_of [] ks f h = absurd h

last_of : (js ks : List Judgement) (f : Fault) → IsTold ks f → IsTold (js ++ ks) f
last_of [] ks f h = h
last_of (j ∷ js) ks f h = inr (last_of js ks f h)

one_of : (js ks : List Judgement) (f : Fault) → IsTold (js ++ ks) f → IsTold js f ⊎ IsTold ks f
one_of [] ks f h = inr h
one_of (j ∷ js) ks f (inl t) = inl (inl t)
one_of (j ∷ js) ks f (inr h) = deeper (one_of js ks f h)
  where
    deeper : IsTold js f ⊎ IsTold ks f → IsTold (j ∷ js) f ⊎ IsTold ks f
    deeper (inl t) = inl (inr t)
    deeper (inr t) = inr t

in_list : (ss : List Site) (f : Fault) → IsToldAt ss f → IsTold (judgements_at ss) f
in_list [] f h = absurd h
in_list (s ∷ ss) f (inl h) = first_of (rules_at s) (judgements_at ss) f h
in_list (s ∷ ss) f (inr h) = last_of (rules_at s) (judgements_at ss) f (in_list ss f h)

at_places : (ss : List Site) (f : Fault) → IsTold (judgements_at ss) f → IsToldAt ss f
at_places [] f h = h
at_places (s ∷ ss) f h = here (λ t. at_places ss f t) (one_of (rules_at s) (judgements_at ss) f h)
  where
    here : (IsTold (judgements_at ss) f → IsToldAt ss f) → IsTold (rules_at s) f ⊎ IsTold (judgements_at ss) f → IsToldAt (s ∷ ss) f
    here more (inl t) = inl t
    here more (inr t) = inr (more t)

-- ---- the least

least_at : (ss : List Site) (o : Option Fault) → IsLeastTold (judgements_at ss) o → IsLeastToldAt ss o
least_at ss None h = λ f t. h f (in_list ss f t)
least_at ss (Some f) h = (at_places ss f h.0, λ g t. h.1 g (in_list ss g t))

pub the_least_is_told : LeastIsKept → JudgementsAddUp → LeastIsTold
the_least_is_told kept adds ss =
    least_at ss (told None ss) (subst (IsLeastTold (judgements_at ss)) (judged_at adds None ss) (kept (judgements_at ss)))
