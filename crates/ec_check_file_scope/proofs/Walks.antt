-- Steps through lists, for the proofs that the search leaves open.
use Rattle.std.proofs.Common.{◌≡◌, ◌∙◌, ◌+◌, ◌<◌, ap, sym, ℕ, suc, true, false, ◌&&◌, List, ◌∷◌, length, drop, get_or}
use Rattle.std.specs.Prelude.{slice_get}
use Rattle.std.proofs.Math.Numerals.{add-one}
use Rattle.std.proofs.Math.Seq.{drop-cons}
use Rattle.ec_core.specs.Plain.{PlainType}
use Rattle.ec_check_file_scope.specs.FileNames.{same_at, same_from}

-- what a list has from an index on
pub here : {X : Type 0} (xs : List X) (i : ℕ) (x : X) → i < length xs → x ≡ get_or xs i x → drop i xs ≡ x ∷ drop (i + 1) xs
here xs i x h e = drop-cons xs i x h ∙ (ap (λ y. y ∷ drop (suc i) xs) (sym e) ∙ ap (λ k. x ∷ drop k xs) (sym (add-one i)))

pub one_differs : (a : PlainType) (more bs : List PlainType) (i : ℕ) → same_at a (slice_get bs i) ≡ false
    → false ≡ same_from i (a ∷ more) bs
one_differs a more bs i e = sym (ap (λ b. b && same_from (i + 1) more bs) e)

pub one_agrees : (a : PlainType) (more bs : List PlainType) (i : ℕ) → same_at a (slice_get bs i) ≡ true
    → same_from (i + 1) more bs ≡ same_from i (a ∷ more) bs
one_agrees a more bs i e = sym (ap (λ b. b && same_from (i + 1) more bs) e)
