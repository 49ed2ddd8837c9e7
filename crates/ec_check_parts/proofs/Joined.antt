-- What is told at places that follow one another.
use Rattle.std.proofs.Common.{List, ◌∷◌, inl, inr}
use Rattle.std.specs.Prelude.{◌⊎◌, ◌↔◌}
use Rattle.ec_check_operands.specs.declared.faults.Fault.{Fault}
use Rattle.ec_check_operands.specs.Faults.{Judgement}
use Rattle.ec_check_operands.specs.Laws.{IsTold}
use Rattle.ec_check_declarations.specs.Sites.{Site, on}
use Rattle.ec_check_least.specs.Told.{IsToldAt}
use Rattle.ec_check_parts.specs.Laws.{TellAt}

pub nowhere : TellAt (λ rest. rest) (λ f. ⊥)
nowhere = record { exactly = λ rest f. (λ h. inr h, back rest f) }
  where
    back : (rest : List Site) (f : Fault) → ⊥ ⊎ IsToldAt rest f → IsToldAt rest f
    back rest f (inl h) = absurd h
    back rest f (inr h) = h

pub at_one : (js : List Judgement) (B : Fault → Type 0) → ((f : Fault) → IsTold js f ↔ B f) → TellAt (λ rest. on js ∷ rest) B
at_one js B h = record { exactly = λ rest f. (there rest f, back rest f) }
  where
    there : (rest : List Site) (f : Fault) → IsToldAt (on js ∷ rest) f → B f ⊎ IsToldAt rest f
    there rest f (inl t) = inl ((h f).0 t)
    there rest f (inr t) = inr t

    back : (rest : List Site) (f : Fault) → B f ⊎ IsToldAt rest f → IsToldAt (on js ∷ rest) f
    back rest f (inl b) = inl ((h f).1 b)
    back rest f (inr t) = inr t

pub both : (p q : List Site → List Site) (B C : Fault → Type 0) → TellAt p B → TellAt q C → TellAt (λ rest. p (q rest)) (λ f. B f ⊎ C f)
both p q B C h k = record { exactly = λ rest f. (λ t. there rest f ((h.exactly (q rest) f).0 t), back rest f) }
  where
    later : (rest : List Site) (f : Fault) → C f ⊎ IsToldAt rest f → (B f ⊎ C f) ⊎ IsToldAt rest f
    later rest f (inl c) = inl (inr c)
    later rest f (inr t) = inr t

    there : (rest : List Site) (f : Fault) → B f ⊎ IsToldAt (q rest) f → (B f ⊎ C f) ⊎ IsToldAt rest f
    there rest f (inl b) = inl (inl b)
    there rest f (inr t) = later rest f ((k.exactly rest f).0 t)

    back : (rest : List Site) (f : Fault) → (B f ⊎ C f) ⊎ IsToldAt rest f → IsToldAt (p (q rest)) f
    back rest f (inl (inl b)) = (h.exactly (q rest) f).1 (inl b)
    back rest f (inl (inr c)) = (h.exactly (q rest) f).1 (inr ((k.exactly rest f).1 (inl c)))
    back rest f (inr t) = (h.exactly (q rest) f).1 (inr ((k.exactly rest f).1 (inr t)))

pub like : (p : List Site → List Site) (B C : Fault → Type 0) → ((f : Fault) → B f → C f) → ((f : Fault) → C f → B f) → TellAt p B
    → TellAt p C
like p B C there back h =
    record { exactly = λ rest f. (λ t. ahead rest f ((h.exactly rest f).0 t), λ t. (h.exactly rest f).1 (behind rest f t)) }
  where
    ahead : (rest : List Site) (f : Fault) → B f ⊎ IsToldAt rest f → C f ⊎ IsToldAt rest f
    ahead rest f (inl b) = inl (there f b)
    ahead rest f (inr t) = inr t

    behind : (rest : List Site) (f : Fault) → C f ⊎ IsToldAt rest f → B f ⊎ IsToldAt rest f
    behind rest f (inl c) = inl (back f c)
    behind rest f (inr t) = inr t
