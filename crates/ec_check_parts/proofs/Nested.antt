-- What is told at places of expressions, sizes and initialisers, among other places.
use Rattle.std.proofs.Common.{List, [], ◌∷◌, inl, inr}
use Rattle.std.specs.Prelude.{◌⊎◌, ◌↔◌}
use Rattle.ec_check_operands.specs.declared.faults.Fault.{Fault}
use Rattle.ec_check_operands.specs.Laws.{IsTold}
use Rattle.ec_check_expressions.specs.Sites as expressions
use Rattle.ec_check_initialisers.specs.Sites as initialisers
use Rattle.ec_check_declarations.specs.Sites.{Site, expression_in, initialiser_in}
use Rattle.ec_check_least.specs.Told.{IsToldAt}
use Rattle.ec_check_parts.specs.Laws.{TellAt}
use Rattle.ec_check_parts.proofs.Joined.{nowhere}

-- told at one of some places of an expression
abbrev pub IsToldIn : List expressions.Site → Fault → Type 0
IsToldIn [] f = ⊥
IsToldIn (s ∷ ss) f = IsTold (expressions.rules_at s) f ⊎ IsToldIn ss f

-- told at one of some places of a size or an initialiser
abbrev pub IsToldInside : List initialisers.Site → Fault → Type 0
IsToldInside [] f = ⊥
IsToldInside (s ∷ ss) f = IsTold (initialisers.rules_at s) f ⊎ IsToldInside ss f

pub inside_told : (xs : List initialisers.Site) → TellAt (initialiser_in xs) (IsToldInside xs)
inside_told [] = nowhere
inside_told (x ∷ xs) =
    record { exactly = λ rest f. (there rest f ((inside_told xs).exactly rest f).0, back rest f ((inside_told xs).exactly rest f).1) }
  where
    there : (rest : List Site) (f : Fault) → (IsToldAt (initialiser_in xs rest) f → IsToldInside xs f ⊎ IsToldAt rest f)
        → IsToldAt (initialiser_in (x ∷ xs) rest) f → IsToldInside (x ∷ xs) f ⊎ IsToldAt rest f
    there rest f go (inl t) = inl (inl t)
    there rest f go (inr t) = one (go t)
      where
        one : IsToldInside xs f ⊎ IsToldAt rest f → IsToldInside (x ∷ xs) f ⊎ IsToldAt rest f
        one (inl b) = inl (inr b)
        one (inr t) = inr t

    back : (rest : List Site) (f : Fault) → (IsToldInside xs f ⊎ IsToldAt rest f → IsToldAt (initialiser_in xs rest) f)
        → IsToldInside (x ∷ xs) f ⊎ IsToldAt rest f → IsToldAt (initialiser_in (x ∷ xs) rest) f
    back rest f go (inl (inl t)) = inl t
    back rest f go (inl (inr t)) = inr (go (inl t))
    back rest f go (inr t) = inr (go (inr t))

pub in_expressions : (xs : List expressions.Site) (rest : List initialisers.Site) (f : Fault)
    → IsToldInside (initialisers.sites_in xs rest) f ↔ (IsToldIn xs f ⊎ IsToldInside rest f)
in_expressions [] rest f = (λ h. inr h, back)
  where
    back : ⊥ ⊎ IsToldInside rest f → IsToldInside rest f
    back (inl h) = absurd h
    back (inr h) = h
in_expressions (x ∷ xs) rest f = (there (in_expressions xs rest f).0, back (in_expressions xs rest f).1)
  where
    there : (IsToldInside (initialisers.sites_in xs rest) f → IsToldIn xs f ⊎ IsToldInside rest f)
        → IsToldInside (initialisers.sites_in (x ∷ xs) rest) f → IsToldIn (x ∷ xs) f ⊎ IsToldInside rest f
    there go (inl t) = inl (inl t)
    there go (inr t) = one (go t)
      where
        one : IsToldIn xs f ⊎ IsToldInside rest f → IsToldIn (x ∷ xs) f ⊎ IsToldInside rest f
        one (inl b) = inl (inr b)
        one (inr t) = inr t

    back : (IsToldIn xs f ⊎ IsToldInside rest f → IsToldInside (initialisers.sites_in xs rest) f)
        → IsToldIn (x ∷ xs) f ⊎ IsToldInside rest f → IsToldInside (initialisers.sites_in (x ∷ xs) rest) f
    back go (inl (inl t)) = inl t
    back go (inl (inr t)) = inr (go (inl t))
    back go (inr t) = inr (go (inr t))

pub expressions_told : (xs : List expressions.Site) → TellAt (expression_in xs) (IsToldIn xs)
expressions_told [] = nowhere
expressions_told (x ∷ xs) =
    let law = expressions_told xs in
    record { exactly = λ rest f. (there rest f (law.exactly rest f).0, back rest f (law.exactly rest f).1) }
  where
    there : (rest : List Site) (f : Fault) → (IsToldAt (expression_in xs rest) f → IsToldIn xs f ⊎ IsToldAt rest f)
        → IsToldAt (expression_in (x ∷ xs) rest) f → IsToldIn (x ∷ xs) f ⊎ IsToldAt rest f
    there rest f go (inl t) = inl (inl t)
    there rest f go (inr t) = one (go t)
      where
        one : IsToldIn xs f ⊎ IsToldAt rest f → IsToldIn (x ∷ xs) f ⊎ IsToldAt rest f
        one (inl b) = inl (inr b)
        one (inr t) = inr t

    back : (rest : List Site) (f : Fault) → (IsToldIn xs f ⊎ IsToldAt rest f → IsToldAt (expression_in xs rest) f)
        → IsToldIn (x ∷ xs) f ⊎ IsToldAt rest f → IsToldAt (expression_in (x ∷ xs) rest) f
    back rest f go (inl (inl t)) = inl t
    back rest f go (inl (inr t)) = inr (go (inl t))
    back rest f go (inr t) = inr (go (inr t))
