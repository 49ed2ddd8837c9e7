-- What a loop has made of a list so far, and what it makes of the rest.
use Rattle.std.proofs.Common.{◌≡◌, ◌++◌, ◌∙◌, List, [], ◌∷◌, map, ap, sym}
use Rattle.std.proofs.lemmas.List.{append_assoc, map-append}

pub one_more : {B : Type 0} (made new : List B) (y : B) (more less : List B) → new ≡ made ++ y ∷ [] → more ≡ y ∷ less
    → new ++ less ≡ made ++ more
one_more made new y more less n m =
    ap (λ zs. zs ++ less) n ∙ (append_assoc made (y ∷ []) less ∙ ap (λ zs. made ++ zs) (sym m))

-- the same where what was made is seen in another form
pub one_more_seen : {B C : Type 0} (g : C → B) (made new : List C) (y : C) (more less : List B) → new ≡ made ++ y ∷ [] → more ≡ g y ∷ less
    → map g new ++ less ≡ map g made ++ more
one_more_seen g made new y more less n m = one_more (map g made) (map g new) (g y) more less (ap (map g) n ∙ map-append g made (y ∷ [])) m
