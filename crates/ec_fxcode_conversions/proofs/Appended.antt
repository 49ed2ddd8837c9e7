-- Code that is appended in two parts.
use Rattle.std.proofs.Common.{◌≡◌, List, ◌++◌, Result, Ok, Err, OnOk, ap, ◌∙◌, append_assoc}

-- the second part may be given by another term that is equal
pub both_appended : {E T X : Type 0} (r : Result T X) (old mid new first second same : List E) → mid ≡ old ++ first
    → second ≡ same → OnOk r (new ≡ mid ++ second) → OnOk r (new ≡ old ++ (first ++ same))
both_appended (Ok x) old mid new first second same e q h =
    h ∙ ap (λ l. l ++ second) e ∙ append_assoc old first second ∙ ap (λ l. old ++ (first ++ l)) q
both_appended (Err x) old mid new first second same e q h = h
