-- The walk over the units finds the least of what they break.
use Rattle.std.proofs.Common.{◌≡◌, ◌+◌, ◌<◌, ℕ, zero, suc, List, [], ◌∷◌, refl, ap, subst, inl, inr, arith}
use Rattle.std.specs.Prelude.{◌⊎◌, ◌↔◌, Option, Some, None}
use Rattle.ec_check_operands.specs.declared.faults.Fault.{Fault}
use Rattle.ec_check_operands.specs.Laws.{ComesFirst}
use Rattle.ec_grammar.specs.Trees as t
use Rattle.ec_iohw.specs.declared.table.IoTable.{IoTable}
use Rattle.ec_check_names.specs.Definitions.{Definition, definitions}
use Rattle.ec_check_declarations.specs.Sites.{Site, told}
use Rattle.ec_check_file_scope.specs.States.{State, nothing_declared}
use Rattle.ec_check_least.specs.Told.{IsToldAt, IsLeastToldAt, LeastIsTold}
use Rattle.ec_check.specs.Units.{is_last, after_unit, unit_sites, setting_of, UnitFault, or_later, first_fault, least_fault}
use Rattle.ec_check.specs.Broken.{sites_from, sites_of, IsToldInUnit, IsBroken, NothingIsBroken, ComesNoLater, IsLeastBroken, IsLeastOf}
use Rattle.ec_check.specs.Broken.{LeastIsFound}
use Rattle.ec_check.proofs.Judged.{IsToldIn, split, PartLaws, unit_told}

-- ---- lists of places

-- the first fault of some lists of places, the first of which has this number
abbrev first_of : (unit : ℕ) → List (List Site) → Option UnitFault
first_of unit [] = None
first_of unit (ss ∷ more) = or_later unit (told None ss) (first_of (unit + 1) more)

first_is : (ds : List Definition) (io : IoTable) (unit : ℕ) (us : List t.Tree) (s : State)
    → first_of unit (sites_from ds io unit us s) ≡ first_fault ds io unit us s
first_is ds io unit [] s = refl
first_is ds io unit (u ∷ us) s =
    ap (or_later unit (told None (unit_sites (setting_of ds io unit) (is_last us) u s [])))
    (first_is ds io (unit + 1) us (after_unit (setting_of ds io unit) u s))

-- a fault of the list with a number comes no later than one of another
abbrev IsNoLater : ℕ → Fault → ℕ → Fault → Type 0
IsNoLater i f j g = (i < j) ⊎ ((i ≡ j) × ComesFirst f g)

-- the least of some lists, the first of which has this number
record IsLeastIn (unit : ℕ) (lists : List (List Site)) (f : UnitFault) : Type 0 where
  place : ℕ
  numbered : f.unit ≡ unit + place
  here : IsToldIn lists place f.fault
  first : (j : ℕ) (g : Fault) → IsToldIn lists j g → IsNoLater place f.fault j g

abbrev IsFirstIn : (unit : ℕ) → List (List Site) → Option UnitFault → Type 0
IsFirstIn unit lists None = (j : ℕ) (g : Fault) → ¬ IsToldIn lists j g
IsFirstIn unit lists (Some f) = IsLeastIn unit lists f

nothing_in : (ss : List Site) (more : List (List Site)) → ((g : Fault) → ¬ IsToldAt ss g) → ((j : ℕ) (g : Fault) → ¬ IsToldIn more j g)
    → (j : ℕ) (g : Fault) → ¬ IsToldIn (ss ∷ more) j g
nothing_in ss more here there zero g h = here g (split ss more zero g h)
nothing_in ss more here there (suc j) g h = there j g (split ss more (suc j) g h)

first_here : (unit : ℕ) (ss : List Site) (more : List (List Site)) (f : Fault) → IsLeastToldAt ss (Some f)
    → IsLeastIn unit (ss ∷ more) (record { unit = unit; fault = f })
first_here unit ss more f h = record {
  place = 0;
  numbered = let same : unit ≡ unit + 0 = omega arith in same;
  here = record { places = ss; stand = refl; tells = h.0 };
  first = first;
}
  where
    first : (j : ℕ) (g : Fault) → IsToldIn (ss ∷ more) j g → IsNoLater 0 f j g
    first zero g t = inr (refl, h.1 g (split ss more zero g t))
    first (suc j) g t = inl (omega arith)

first_later : (unit : ℕ) (ss : List Site) (more : List (List Site)) (f : UnitFault) → ((g : Fault) → ¬ IsToldAt ss g)
    → IsLeastIn (unit + 1) more f → IsLeastIn unit (ss ∷ more) f
first_later unit ss more f nothing h = record {
  place = suc h.place;
  numbered = let n = h.numbered in omega (arith, n);
  here = record { places = h.here.places; stand = h.here.stand; tells = h.here.tells };
  first = first;
}
  where
    next : (j : ℕ) (g : Fault) → IsNoLater h.place f.fault j g → IsNoLater (suc h.place) f.fault (suc j) g
    next j g (inl b) = inl (omega (arith, b))
    next j g (inr (e, c)) = inr (ap suc e, c)

    first : (j : ℕ) (g : Fault) → IsToldIn (ss ∷ more) j g → IsNoLater (suc h.place) f.fault j g
    first zero g t = absurd (nothing g (split ss more zero g t))
    first (suc j) g t = next j g (h.first j g (split ss more (suc j) g t))

joined : (unit : ℕ) (ss : List Site) (more : List (List Site)) (o : Option Fault) (later : Option UnitFault) → IsLeastToldAt ss o
    → IsFirstIn (unit + 1) more later → IsFirstIn unit (ss ∷ more) (or_later unit o later)
joined unit ss more None None here there = nothing_in ss more here there
joined unit ss more None (Some f) here there = first_later unit ss more f here there
joined unit ss more (Some f) later here there = first_here unit ss more f here

all_first : LeastIsTold → (unit : ℕ) (lists : List (List Site)) → IsFirstIn unit lists (first_of unit lists)
all_first law unit [] = λ j g h. nowhere j g h
  where
    nowhere : (j : ℕ) (g : Fault) → ¬ IsToldIn [] j g
    nowhere j g h = let e : ◌≡◌ {A = Option (List Site)} None (Some h.places) = h.stand in cc
all_first law unit (ss ∷ more) =
    joined unit ss more (told None ss) (first_of (unit + 1) more) (law ss) (all_first law (unit + 1) more)

-- ---- units

broken_in : PartLaws → (us : List t.Tree) (io : IoTable) (unit token rule : ℕ) → IsBroken us io unit token rule
    → IsToldIn (sites_of us io) unit (record { at = token; rule = rule })
broken_in laws us io unit token rule b =
    (unit_told laws us io unit (record { at = token; rule = rule })).1 (b.part, b.stands, b.breaks)

told_broken : PartLaws → (us : List t.Tree) (io : IoTable) (unit : ℕ) (f : Fault) → IsToldIn (sites_of us io) unit f
    → IsBroken us io unit f.at f.rule
told_broken laws us io unit f h =
    let g = (unit_told laws us io unit f).0 h in record { part = g.0; stands = g.1; breaks = g.2 }

is_told : PartLaws → (us : List t.Tree) (io : IoTable) (unit token rule : ℕ)
    → IsToldInUnit us io unit token rule ↔ IsBroken us io unit token rule
is_told laws us io unit token rule = (
  λ h. told_broken laws us io unit (record { at = token; rule = rule })
      (record { places = h.places; stand = h.stand; tells = h.told }),
  λ b. let h = broken_in laws us io unit token rule b in record { places = h.places; stand = h.stand; told = h.tells },
)

least_of : PartLaws → (us : List t.Tree) (io : IoTable) (o : Option UnitFault) → IsFirstIn 0 (sites_of us io) o → IsLeastOf us io o
least_of laws us io None h =
    λ unit token rule b. h unit (record { at = token; rule = rule }) (broken_in laws us io unit token rule b)
least_of laws us io (Some f) h =
    let place : h.place ≡ f.unit = (let n = h.numbered in omega (arith, n)) in
    subst (λ (i : ℕ). IsLeastBroken us io i f.fault.at f.fault.rule) place (record {
      broken = told_broken laws us io h.place f.fault h.here;
      first = λ u t r b. h.first u (record { at = t; rule = r }) (broken_in laws us io u t r b);
    })

found : LeastIsTold → PartLaws → (us : List t.Tree) (io : IoTable) → IsLeastOf us io (least_fault us io)
found law laws us io =
    least_of laws us io (least_fault us io)
    (subst (IsFirstIn 0 (sites_of us io)) (first_is (definitions us) io 0 us nothing_declared) (all_first law 0 (sites_of us io)))

-- ---- only one

one : (a b c u t r : ℕ) → ComesNoLater a b c u t r → ComesNoLater u t r a b c → (a ≡ u) × (b ≡ t) × (c ≡ r)
one a b c u t r (inl h) (inl k) = absurd (omega (arith, h, k))
one a b c u t r (inl h) (inr (e, k)) = absurd (omega (arith, h, e))
one a b c u t r (inr (e, h)) (inl k) = absurd (omega (arith, e, k))
one a b c u t r (inr (e, inl h)) (inr (f, inl k)) = absurd (omega (arith, h, k))
one a b c u t r (inr (e, inl h)) (inr (f, inr (g, k))) = absurd (omega (arith, h, g))
one a b c u t r (inr (e, inr (g, h))) (inr (f, inl k)) = absurd (omega (arith, g, k))
one a b c u t r (inr (e, inr (g, h))) (inr (f, inr (i, k))) = (e, g, omega (arith, h, k))

nothing_found : (us : List t.Tree) (io : IoTable) (o : Option UnitFault) → IsLeastOf us io o → NothingIsBroken us io → o ≡ None
nothing_found us io None h nothing = refl
nothing_found us io (Some f) h nothing = absurd (nothing f.unit f.fault.at f.fault.rule h.broken)

abbrev fault_at : (unit token rule : ℕ) → UnitFault
fault_at unit token rule = record { unit = unit; fault = record { at = token; rule = rule } }

abbrev IsThisFault : UnitFault → (unit token rule : ℕ) → Type 0
IsThisFault f unit token rule = ◌≡◌ {A = Option UnitFault} (Some f) (Some (fault_at unit token rule))

only_found : (us : List t.Tree) (io : IoTable) (unit token rule : ℕ) (o : Option UnitFault) → IsLeastOf us io o
    → IsLeastBroken us io unit token rule → o ≡ Some (fault_at unit token rule)
only_found us io unit token rule None h b = absurd (h unit token rule b.broken)
only_found us io unit token rule (Some f) h b =
    same
    (one f.unit f.fault.at f.fault.rule unit token rule (h.first unit token rule b.broken)
    (b.first f.unit f.fault.at f.fault.rule h.broken))
  where
    same : (f.unit ≡ unit) × (f.fault.at ≡ token) × (f.fault.rule ≡ rule) → IsThisFault f unit token rule
    same (a, b, c) =
        subst (λ r. IsThisFault f unit token r) c
        (subst (λ t. IsThisFault f unit t f.fault.rule) b (subst (λ u. IsThisFault f u f.fault.at f.fault.rule) a refl))

pub least_is_found : LeastIsTold → PartLaws → LeastIsFound
least_is_found law laws = record {
  told = is_told laws;
  found = found law laws;
  nothing = λ us io nothing. nothing_found us io (least_fault us io) (found law laws us io) nothing;
  only = λ us io unit token rule b. only_found us io unit token rule (least_fault us io) (found law laws us io) b;
}
