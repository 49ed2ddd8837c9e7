-- A front stays one where more is appended before a failure.
use Rattle.std.proofs.Common.{◌≡◌, List, ◌++◌, Result, Ok, Err, OnErr, ap, ◌∙◌, append_assoc}
use Rattle.ec_runs.specs.Behaviours.{BeginWith}

pub still_begins : {E T X : Type 0} (r : Result T X) (old mid new added : List E) → mid ≡ old ++ added
    → OnErr r (BeginWith mid new) → OnErr r (BeginWith old new)
still_begins (Ok x) old mid new added e h = h
still_begins (Err x) old mid new added e h =
    record { added = added ++ h.added; is = h.is ∙ ap (λ l. l ++ h.added) e ∙ append_assoc old added h.added }
