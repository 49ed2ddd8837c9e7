-- The linkage of the walk is that of the declaration.
use Rattle.std.proofs.Common.{◌≡◌, ℕ, Bool, true, false, ◌&&◌, List, [], ◌∷◌, refl, subst}
use Rattle.std.specs.Prelude.{◌==◌, if◌then◌else◌, unwrap_or, Option, Some, None}
use Rattle.std.specs.Bool.{Decides}
use Rattle.std.specs.Str.{bytes_eq}
use Rattle.std.proofs.lemmas.Bool.{false≢true}
use Rattle.std.proofs.lemmas.Bool.Decides.{Decides-and, Decides-eqb}
use Rattle.std.proofs.lemmas.Slice.Eq.{bytes_eq-Decides}
use Rattle.ec_check_names.specs.declared.linkage.Linkage.{Linkage}
use Rattle.ec_check_names.specs.declared.linkage.Linkage.TheVariants.{External}
use Rattle.ec_check_names.specs.declared.specifiers.StorageWord.{StorageWord}
use Rattle.ec_check_names.specs.declared.specifiers.StorageWord.TheVariants.{Extern, Static}
use Rattle.ec_check_names.specs.Linkage.{linkage_of}
use Rattle.ec_check_file_scope.specs.FileNames.{FileName, link_from, earlier_link}
use Rattle.ec_check_parts.specs.Linkages.{Declares, NoneDeclares, IsPrior, last, later, HasLinkage, static, as_before, first}
use Rattle.ec_check_parts.specs.Linkages.{as_extern, object}
use Rattle.ec_check_parts.specs.Linkages.{LinkagesAreFound}

module _ (n : List ℕ) (unit : ℕ) where
  declared_told : (d : FileName) → Decides (bytes_eq d.name n && d.unit == unit) (Declares n unit d)
  declared_told d = Decides-and (bytes_eq d.name n) (d.unit == unit) (bytes_eq-Decides d.name n) (Decides-eqb d.unit unit)

  -- what is found behind some linkage or none: that of the last declaration, or that linkage where there is none
  data Finds (found : Option Linkage) (ds : List FileName) : Option Linkage → Type 0 where
    one : {l : Linkage} → IsPrior n unit ds l → Finds found ds (Some l)
    nothing : NoneDeclares n unit ds → Finds found ds found

  step : (found : Option Linkage) (d : FileName) (ds : List FileName) (b : Bool) → Decides b (Declares n unit d) → (o : Option Linkage)
      → Finds (if b then Some d.linkage else found) ds o → Finds found (d ∷ ds) o
  step found d ds b h _ (one p) = one (later p)
  step found d ds true h _ (nothing q) = one (last (h.0 refl) q)
  step found d ds false h _ (nothing q) = nothing ((λ a. false≢true (h.1 a)), q)

  finds : (found : Option Linkage) (ds : List FileName) → Finds found ds (link_from found n unit ds)
  finds found [] = nothing tt
  finds found (d ∷ ds) =
      let b = bytes_eq d.name n && d.unit == unit in
      step found d ds b (declared_told d) _ (finds (if b then Some d.linkage else found) ds)

  prior_or_none : (ds : List FileName) (l : Linkage) → IsPrior n unit ds l → NoneDeclares n unit ds → ⊥
  prior_or_none _ _ (last h q) k = k.0 h
  prior_or_none _ l (later {ds = ds} p) k = prior_or_none ds l p k.1

  one_prior : (ds : List FileName) (l m : Linkage) → IsPrior n unit ds l → IsPrior n unit ds m → l ≡ m
  one_prior _ _ _ (last h q) (last k r) = refl
  one_prior _ _ m (last {ds = ds} h q) (later p) = absurd (prior_or_none ds m p q)
  one_prior _ l _ (later {ds = ds} p) (last h q) = absurd (prior_or_none ds l p q)
  one_prior _ l m (later {ds = ds} p) (later q) = one_prior ds l m p q

  -- ---- the linkage of `extern`

  there : (ds : List FileName) (o : Option Linkage) (l : Linkage) → Finds None ds o → IsPrior n unit ds l → unwrap_or o External ≡ l
  there ds _ l (one {l = m} p) q = one_prior ds m l p q
  there ds _ l (nothing k) q = absurd (prior_or_none ds l q k)

  there_none : (ds : List FileName) (o : Option Linkage) → Finds None ds o → NoneDeclares n unit ds → unwrap_or o External ≡ External
  there_none ds _ (one {l = m} p) k = absurd (prior_or_none ds m p k)
  there_none ds _ (nothing q) k = refl

  back : (ds : List FileName) (function : Bool) (o : Option Linkage) (l : Linkage) → Finds None ds o → unwrap_or o External ≡ l
      → HasLinkage n unit ds (Some Extern) function l
  back ds function _ l (one {l = m} p) e = subst (HasLinkage n unit ds (Some Extern) function) e (as_before p)
  back ds function _ l (nothing q) e = subst (HasLinkage n unit ds (Some Extern) function) e (first q)

  linkage_there : (ds : List FileName) (word : Option StorageWord) (function : Bool) (l : Linkage)
      → HasLinkage n unit ds word function l → linkage_of word function (earlier_link n unit ds) ≡ l
  linkage_there ds _ function _ static = refl
  linkage_there ds _ function l (as_before p) = there ds (link_from None n unit ds) l (finds None ds) p
  linkage_there ds _ function _ (first k) = there_none ds (link_from None n unit ds) (finds None ds) k
  linkage_there ds _ _ l (as_extern h) = linkage_there ds (Some Extern) true l h
  linkage_there ds _ _ _ object = refl

  linkage_back : (ds : List FileName) (word : Option StorageWord) (function : Bool) (l : Linkage)
      → linkage_of word function (earlier_link n unit ds) ≡ l → HasLinkage n unit ds word function l
  linkage_back ds (Some Static) function l e = subst (HasLinkage n unit ds (Some Static) function) e static
  linkage_back ds (Some Extern) function l e = back ds function (link_from None n unit ds) l (finds None ds) e
  linkage_back ds None true l e = as_extern (back ds true (link_from None n unit ds) l (finds None ds) e)
  linkage_back ds None false l e = subst (HasLinkage n unit ds None false) e object

pub linkages_are_found : LinkagesAreFound
linkages_are_found n unit before word function l =
    (linkage_there n unit before word function l, linkage_back n unit before word function l)
