-- The function that a program begins with is the one that the walk finds.
use Rattle.std.proofs.Common.{◌≡◌, ℕ, Bool, true, false, ◌&&◌, ◌||◌, not, List, [], ◌∷◌, refl, ap, subst}
use Rattle.std.specs.Prelude.{◌↔◌, ◌==◌, is_none, if◌then◌else◌, Option, Some, None}
use Rattle.std.specs.Bool.{Decides}
use Rattle.std.specs.Str.{bytes_eq}
use Rattle.std.proofs.lemmas.Bool.{false≢true}
use Rattle.std.proofs.lemmas.Bool.Decides.{Decides-and, Decides-like}
use Rattle.std.proofs.lemmas.Slice.Eq.{bytes_eq-Decides}
use Rattle.ec_check_names.specs.declared.linkage.Linkage.{Linkage}
use Rattle.ec_check_names.specs.declared.linkage.Linkage.TheVariants.{Internal, External}
use Rattle.ec_check_names.specs.declared.numbering.Defined.{Defined}
use Rattle.ec_check_names.specs.declared.numbering.Defined.TheVariants.{Object, Register, Function}
use Rattle.ec_check_names.specs.Definitions.{Definition, same_linkage, same_kind, defines, number_of}
use Rattle.ec_check_meanings.proofs.Options.{inside, nothing_there}
use Rattle.ec_check_parts.specs.FileNames.{main}
use Rattle.ec_check_parts.specs.Mains.{DefinesMain, IsMain, at_first, behind, HasNoMain, MainsAreFound}

linkage_told : (l : Linkage) → Decides (same_linkage l External) (l ≡ External)
linkage_told Internal = (λ e. absurd (false≢true e), λ e. cc)
linkage_told External = (λ e. refl, λ e. refl)

kind_told : (k : Defined) → Decides (same_kind true k) (k ≡ Function)
kind_told Object = (λ e. absurd (false≢true e), λ e. cc)
kind_told Register = (λ e. absurd (false≢true e), λ e. cc)
kind_told Function = (λ e. refl, λ e. refl)

seen : (d : Definition) → Decides (not false || d.unit == 0) (true ≡ true)
seen d = (λ e. refl, λ e. refl)

main_told : (d : Definition) → Decides (defines main 0 External true d) (DefinesMain d)
main_told d =
    Decides-like (bytes_eq d.name main && same_linkage d.linkage External && same_kind true d.kind && (not false || d.unit == 0)) there back
    (Decides-and (bytes_eq d.name main && same_linkage d.linkage External && same_kind true d.kind) (not false || d.unit == 0)
    (Decides-and (bytes_eq d.name main && same_linkage d.linkage External) (same_kind true d.kind)
    (Decides-and (bytes_eq d.name main) (same_linkage d.linkage External) (bytes_eq-Decides d.name main) (linkage_told d.linkage))
    (kind_told d.kind))
    (seen d))
  where
    there : (((d.name ≡ main) × (d.linkage ≡ External)) × (d.kind ≡ Function)) × (true ≡ true) → DefinesMain d
    there (((n, l), k), e) = record { named = n; external = l; function = k }

    back : DefinesMain d → (((d.name ≡ main) × (d.linkage ≡ External)) × (d.kind ≡ Function)) × (true ≡ true)
    back h = (((h.named, h.external), h.function), refl)

-- what the first of some definitions makes of one before them
first_by : (d : Definition) (ds : List Definition) (n : ℕ) (b : Bool) → Decides b (DefinesMain d)
    → (number_of main 0 External true ds ≡ Some n → IsMain ds n)
    → (if b then Some d.number else number_of main 0 External true ds) ≡ Some n → IsMain (d ∷ ds) n
first_by d ds n true h go e = subst (IsMain (d ∷ ds)) (inside e) (at_first (h.0 refl))
first_by d ds n false h go e = behind (λ m. false≢true (h.1 m)) (go e)

found : (ds : List Definition) (n : ℕ) → number_of main 0 External true ds ≡ Some n → IsMain ds n
found [] n e = absurd (nothing_there n e)
found (d ∷ ds) n e = first_by d ds n (defines main 0 External true d) (main_told d) (found ds n) e

by_test : (d : Definition) (ds : List Definition) → Bool → Option ℕ
by_test d ds b = if b then Some d.number else number_of main 0 External true ds

tested : (ds : List Definition) (n : ℕ) → IsMain ds n → number_of main 0 External true ds ≡ Some n
unfolding by_test
tested _ _ (at_first {d = d} {ds = ds} h) = ap (by_test d ds) ((main_told d).1 h)
tested _ n (behind {d = d} {ds = ds} m h) = passed (defines main 0 External true d) (main_told d) (tested ds n h)
  where
    passed : (b : Bool) → Decides b (DefinesMain d) → number_of main 0 External true ds ≡ Some n
        → (if b then Some d.number else number_of main 0 External true ds) ≡ Some n
    passed true q e = absurd (m (q.0 refl))
    passed false q e = e

pub mains_are_found : MainsAreFound
mains_are_found ds n = (found ds n, tested ds n)

pub no_main_told : (ds : List Definition) → Decides (is_none (number_of main 0 External true ds)) (HasNoMain ds)
no_main_told ds = by (number_of main 0 External true ds) (λ n. mains_are_found ds n)
  where
    by : (o : Option ℕ) → ((n : ℕ) → o ≡ Some n ↔ IsMain ds n) → Decides (is_none o) (HasNoMain ds)
    by None law = (λ e n h. nothing_there n ((law n).1 h), λ h. refl)
    by (Some n) law = (λ e. absurd (false≢true e), λ h. absurd (h n ((law n).0 refl)))
