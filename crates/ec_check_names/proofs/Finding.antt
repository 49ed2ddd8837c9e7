-- What a look-up of a definition tells.
use Rattle.std.proofs.Common.{◌≡◌, ◌∙◌, sym, refl, ℕ, cond, Bool, true, false, List, [], ◌∷◌, Option, Some, None, inl, inr}
use Rattle.std.specs.Prelude.{MatchOption}
use Rattle.ec_check_names.specs.declared.linkage.Linkage.{Linkage}
use Rattle.ec_check_names.specs.Definitions.{Definition, defines, number_of}
use Rattle.ec_check_names.specs.Laws.{IsDefinedAs, DefinitionsAreFound}

module _ (n : List ℕ) (unit : ℕ) (linkage : Linkage) (callable : Bool) where
  abbrev Tells : Option ℕ → List Definition → Type 0
  Tells o ds = MatchOption o ((k : ℕ) → IsDefinedAs n unit linkage callable k ds → ⊥) (λ k. IsDefinedAs n unit linkage callable k ds)

  clash : false ≡ true → ⊥
  clash e = cc

  behind : (d : Definition) (ds : List Definition) → defines n unit linkage callable d ≡ false
      → ((k : ℕ) → IsDefinedAs n unit linkage callable k ds → ⊥)
      → (k : ℕ) → IsDefinedAs n unit linkage callable k (d ∷ ds) → ⊥
  behind d ds e h k (inl x) = clash (sym e ∙ x.0)
  behind d ds e h k (inr y) = h k y

  one_more : (d : Definition) (ds : List Definition) (b : Bool) → defines n unit linkage callable d ≡ b → (o : Option ℕ) → Tells o ds
      → Tells (cond b (Some d.number) o) (d ∷ ds)
  one_more d ds true e o h = inl (e, refl)
  one_more d ds false e None h = behind d ds e h
  one_more d ds false e (Some k) h = inr h

  found : (ds : List Definition) → Tells (number_of n unit linkage callable ds) ds
  found [] = λ k h. h
  found (d ∷ ds) = one_more d ds (defines n unit linkage callable d) refl (number_of n unit linkage callable ds) (found ds)

pub definitions_are_found : DefinitionsAreFound
definitions_are_found n unit linkage callable ds = found n unit linkage callable ds
