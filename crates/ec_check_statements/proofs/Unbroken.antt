-- Where no fault is told at sites, no rule is broken there.
use Rattle.std.proofs.Common.{◌≡◌, ◌∙◌, List, [], ◌∷◌, refl, ap}
use Rattle.std.specs.Prelude.{Option, None}
use Rattle.std.specs.List.{AllByRecursion}
use Rattle.ec_check_operands.specs.declared.faults.Fault.{Fault}
use Rattle.ec_check_operands.specs.Faults.{all_judged}
use Rattle.ec_check_expressions.specs.Sites as e
use Rattle.ec_check_expression_laws.specs.Laws.{AreUnbroken}
use Rattle.ec_check_expression_laws.proofs.Unbroken.{all_judged_none, all_unjudged}
use Rattle.ec_check_initialisers.specs.Sites as i
use Rattle.ec_check_declarations.specs.Sites as d

-- no rule is broken at places in an expression, in an initialiser, and in declarations and statements
abbrev pub InExpression : List e.Site → Type 0
InExpression ss = AllByRecursion (λ s. AreUnbroken (e.rules_at s)) ss

abbrev pub InInitialiser : List i.Site → Type 0
InInitialiser ss = AllByRecursion (λ s. AreUnbroken (i.rules_at s)) ss

abbrev pub AreKept : List d.Site → Type 0
AreKept ss = AllByRecursion (λ s. AreUnbroken (d.rules_at s)) ss

-- ---- from what is told

told_none : (known : Option Fault) (ss : List d.Site) → d.told known ss ≡ None → (known ≡ None) × AreKept ss
told_none known [] q = (q, tt)
told_none known (s ∷ ss) q =
    let h = told_none (all_judged known (d.rules_at s)) ss q in
    let g = all_judged_none known (d.rules_at s) h.0 in
    (g.0, (g.1, h.1))

pub kept_of : (ss : List d.Site) → d.told None ss ≡ None → AreKept ss
kept_of ss q = (told_none None ss q).1

expression_none : (known : Option Fault) (ss : List e.Site) → e.told known ss ≡ None → (known ≡ None) × InExpression ss
expression_none known [] q = (q, tt)
expression_none known (s ∷ ss) q =
    let h = expression_none (all_judged known (e.rules_at s)) ss q in
    let g = all_judged_none known (e.rules_at s) h.0 in
    (g.0, (g.1, h.1))

pub expression_of : (ss : List e.Site) → e.told None ss ≡ None → InExpression ss
expression_of ss q = (expression_none None ss q).1

-- ---- and back

pub told_of : (ss : List d.Site) → AreKept ss → d.told None ss ≡ None
told_of [] h = refl
told_of (s ∷ ss) h = ap (λ o. d.told o ss) (all_unjudged (d.rules_at s) h.0) ∙ told_of ss h.1

pub expression_told : (ss : List e.Site) → InExpression ss → e.told None ss ≡ None
expression_told [] h = refl
expression_told (s ∷ ss) h = ap (λ o. e.told o ss) (all_unjudged (e.rules_at s) h.0) ∙ expression_told ss h.1

-- ---- places within others

pub kept_expression : (ss : List e.Site) (rest : List d.Site) → AreKept (d.expression_in ss rest) → InExpression ss × AreKept rest
kept_expression [] rest h = (tt, h)
kept_expression (s ∷ ss) rest h = let g = kept_expression ss rest h.1 in ((h.0, g.0), g.1)

pub kept_initialiser : (ss : List i.Site) (rest : List d.Site) → AreKept (d.initialiser_in ss rest) → InInitialiser ss × AreKept rest
kept_initialiser [] rest h = (tt, h)
kept_initialiser (s ∷ ss) rest h = let g = kept_initialiser ss rest h.1 in ((h.0, g.0), g.1)

pub initialiser_kept : (ss : List i.Site) (rest : List d.Site) → InInitialiser ss → AreKept rest → AreKept (d.initialiser_in ss rest)
initialiser_kept [] rest h k = k
initialiser_kept (s ∷ ss) rest h k = (h.0, initialiser_kept ss rest h.1 k)

pub kept_sites : (ss : List e.Site) (rest : List i.Site) → InInitialiser (i.sites_in ss rest) → InExpression ss × InInitialiser rest
kept_sites [] rest h = (tt, h)
kept_sites (s ∷ ss) rest h = let g = kept_sites ss rest h.1 in ((h.0, g.0), g.1)
