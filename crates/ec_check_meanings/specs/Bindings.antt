-- What `iogroup_map` binds (ISO/IEC TR 18037:2008, 6.2): its arguments are names of the map, whatever the text declares.
use Rattle.std.specs.Prelude.{ℕ, suc, ◌≡◌, ◌≢◌, true, Option, Some, None, List, ◌∷◌, slice_get}
use Rattle.ec_iohw.specs.declared.table.Choice.{Choice}
use Rattle.ec_iohw.specs.declared.table.Designator.TheVariants as designators
use Rattle.ec_iohw.specs.declared.table.Dynamic.{Dynamic}
use Rattle.ec_iohw.specs.declared.table.IoTable.{IoTable}
use Rattle.ec_iohw.specs.Names.{designated}
use Rattle.ec_check_forms.specs.declared.ports.Binding.{Binding}
use Rattle.ec_check_meanings.specs.Terms as term
use Rattle.ec_check_meanings.specs.Terms.{Terms}

-- a choice by its place, which is the first of a group
pub data IsChoiceOf (group : ℕ) : ℕ → List Choice → Type 0 where
  here : {c : Choice} {cs : List Choice} → c.group ≡ group → IsChoiceOf group 0 (c ∷ cs)
  later : {i : ℕ} {c : Choice} {cs : List Choice} → c.group ≢ group → IsChoiceOf group i cs
      → IsChoiceOf group (suc i) (c ∷ cs)

-- one name is that of a dynamic group, and another that of a group among its choices
pub record AreBound (io : IoTable) (dynamic group : List ℕ) (b : Binding) : Type 0 where
  pub dynamic_named : designated io dynamic true ≡ Some (designators.Dynamic b.dynamic)
  pub the_dynamic : Dynamic
  pub there : slice_get io.dynamics.items b.dynamic ≡ Some the_dynamic
  pub number : ℕ
  pub group_named : designated io group true ≡ Some (designators.Group number)
  pub choice : IsChoiceOf number b.choice the_dynamic.choices.items

-- the second name is the only argument behind the first one, and stands there without parentheses
pub data Binds (io : IoTable) (dynamic : List ℕ) : Terms → Binding → Type 0 where
  bare : {at : ℕ} {group : List ℕ} {b : Binding} → AreBound io dynamic group b
      → Binds io dynamic (term.terms (term.name at group) term.no_terms) b

-- what is bound, or that nothing is
abbrev pub SeesBinding : IoTable → List ℕ → Terms → Option Binding → Type 0
SeesBinding io dynamic ys None = (b : Binding) → ¬ Binds io dynamic ys b
SeesBinding io dynamic ys (Some b) = Binds io dynamic ys b
