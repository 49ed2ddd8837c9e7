-- Where no fault is told at sites, no rule is broken there.
use Rattle.std.proofs.Common.{◌≡◌, Bool, true, false, List, [], ◌∷◌, refl, ap, ◌∙◌, inl, inr}
use Rattle.std.specs.Prelude.{if◌then◌else◌, ⊤, Option, Some, None}
use Rattle.std.proofs.lemmas.Bool.{both_ways}
use Rattle.ec_check_operands.specs.declared.faults.Fault.{Fault}
use Rattle.ec_check_operands.specs.Faults.{Judgement, is_before, lesser, judged, all_judged}
use Rattle.ec_check_operands.specs.Laws.{IsTold}
use Rattle.ec_check_forms.specs.Meanings.{IsKept}
use Rattle.ec_check_forms.specs.Sites as operands
use Rattle.ec_check_expressions.specs.Sites.{Site, on, rules_at, told}
use Rattle.ec_check_expression_laws.specs.Laws.{AreUnbroken, SitesAreKept}
use Rattle.ec_check_expression_laws.proofs.SaidTypes.{if_both}

abbrev pub AreKept : List Site → Type 0
AreKept [] = ⊤
AreKept (s ∷ ss) = AreUnbroken (rules_at s) × AreKept ss

-- ---- from what is told

some_fault : (f : Fault) → ◌≡◌ {A = Option Fault} (Some f) None → ⊥
some_fault f e = cc

lesser_told : (known : Option Fault) (f : Fault) → lesser known f ≡ None → ⊥
lesser_told None f e = some_fault f e
lesser_told (Some g) f e = if_both (λ o. o ≡ None → ⊥) (is_before f g) (Some f) (Some g) (λ q. some_fault f) (λ q. some_fault g) e

judged_none : (known : Option Fault) (f : Fault) (b : Bool) → (if b then lesser known f else known) ≡ None → (known ≡ None) × (b ≡ false)
judged_none known f true e = absurd (lesser_told known f e)
judged_none known f false e = (e, refl)

pub all_judged_none : (known : Option Fault) (js : List Judgement) → all_judged known js ≡ None → (known ≡ None) × AreUnbroken js
all_judged_none known [] e = (e, tt)
all_judged_none known (j ∷ js) e =
    let h = all_judged_none (judged known j) js e in
    let i = judged_none known (record { at = j.at; rule = j.rule }) j.broken h.0 in
    (i.0, (i.1, h.1))

told_none : (known : Option Fault) (ss : List Site) → told known ss ≡ None → (known ≡ None) × AreKept ss
told_none known [] e = (e, tt)
told_none known (s ∷ ss) e =
    let h = told_none (all_judged known (rules_at s)) ss e in
    let i = all_judged_none known (rules_at s) h.0 in
    (i.0, (i.1, h.1))

pub kept_of : (ss : List Site) → told None ss ≡ None → AreKept ss
kept_of ss e = (told_none None ss e).1

-- ---- and back

unjudged : (j : Judgement) → j.broken ≡ false → judged None j ≡ None
unjudged j e = if_both (λ o. o ≡ None) j.broken (lesser None (record { at = j.at; rule = j.rule })) None
    (λ q. absurd (both_ways j.broken e q)) (λ q. refl)

pub all_unjudged : (js : List Judgement) → AreUnbroken js → all_judged None js ≡ None
all_unjudged [] h = refl
all_unjudged (j ∷ js) h = ap (λ o. all_judged o js) (unjudged j h.0) ∙ all_unjudged js h.1

pub told_of : (ss : List Site) → AreKept ss → told None ss ≡ None
told_of [] h = refl
told_of (s ∷ ss) h = ap (λ o. told o ss) (all_unjudged (rules_at s) h.0) ∙ told_of ss h.1

-- ---- the sites of operands

none_told : (js : List Judgement) → AreUnbroken js → (f : Fault) → ¬ IsTold js f
none_told [] h f t = t
none_told (j ∷ js) h f (inl t) = both_ways j.broken h.0 t.0
none_told (j ∷ js) h f (inr t) = none_told js h.1 f t

pub site_kept : (s : operands.Site) → AreUnbroken (operands.rules_at s) → IsKept s
site_kept s h = none_told (operands.rules_at s) h

pub sites_are_kept : SitesAreKept
sites_are_kept s rest e = let h = kept_of (on s ∷ rest) e in (site_kept s h.0, told_of rest h.1)
