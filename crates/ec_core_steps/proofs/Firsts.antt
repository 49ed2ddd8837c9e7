-- The first of some sites.
use Rattle.std.proofs.Common.{◌≡◌, ◌≢◌, ◌⊎◌, ℕ, zero, suc, ◌<◌, ◌≤◌, ◌+◌, Bool, true, false, List, [], ◌∷◌, inl, inr, refl, sym, ◌∙◌, ap, subst, length}
use Rattle.std.proofs.Common.{Option, Some, None, arith, ◌↔◌}
use Rattle.std.specs.Prelude.{slice_get, slice_index_or, nat_lt, option_and_then, if◌then◌else◌}
use Rattle.std.proofs.lemmas.Bool.{cases_eq}
use Rattle.ec_core.specs.Plain.{PlainFunction, PlainProgram}
use Rattle.ec_check_recursion.specs.Rows.{IsMarked}
use Rattle.ec_core_steps.specs.declared.uncounted.Site.{Site}
use Rattle.ec_core_steps.specs.Laws.{comes_before, first_of, first_site, uncounted, uncounted_in, HasUncounted, IsFirstUncounted}
use Rattle.ec_core_steps.specs.Laws.{LoopsAreCounted, IsReached}
use Rattle.ec_core_steps.specs.Reached.{MarkReached, IsNoLater, taken, IsFirstOf}

-- ---- an order

never_first : (x : Site) → comes_before x x ≡ false
never_first x = grind arith

before_both : (x y z : Site) → comes_before z y ≡ true → comes_before y x ≡ true → comes_before z x ≡ true
before_both x y z p q = grind (arith, p, q)

not_before_both : (x y z : Site) → comes_before z y ≡ false → comes_before y x ≡ false → comes_before z x ≡ false
not_before_both x y z p q = grind (arith, p, q)

not_before_first : (x y z : Site) → comes_before z x ≡ false → comes_before y x ≡ true → comes_before z y ≡ false
not_before_first x y z p q = grind (arith, p, q)

abbrev site_of : ℕ → ℕ → Site
site_of unit at = record { unit = unit; at = at }

same_site : (x y : Site) → x.unit ≡ y.unit → x.at ≡ y.at → x ≡ y
same_site x y p q = ap (λ unit. site_of unit x.at) p ∙ ap (site_of y.unit) q

one_first : (x y : Site) → comes_before x y ≡ false → comes_before y x ≡ false → x ≡ y
one_first x y p q =
    let unit : x.unit ≡ y.unit = grind (arith, p, q) in
    let at : x.at ≡ y.at = grind (arith, p, q, unit) in
    same_site x y unit at

-- ---- the first of two

second : (x y : Site) → comes_before y x ≡ true → first_of x y ≡ y
second x y e = rw e refl

first : (x y : Site) → comes_before y x ≡ false → first_of x y ≡ x
first x y e = rw e refl

of_three : (x y z : Site) (a b : Bool) → comes_before y x ≡ a → comes_before z y ≡ b
    → first_of (first_of x y) z ≡ first_of x (first_of y z)
of_three x y z true true p q =
    ap (λ w. first_of w z) (second x y p) ∙ second y z q
    ∙ sym (ap (first_of x) (second y z q) ∙ second x z (before_both x y z q p))
of_three x y z true false p q =
    ap (λ w. first_of w z) (second x y p) ∙ first y z q ∙ sym (ap (first_of x) (first y z q) ∙ second x y p)
of_three x y z false true p q = ap (λ w. first_of w z) (first x y p) ∙ sym (ap (first_of x) (second y z q))
of_three x y z false false p q =
    ap (λ w. first_of w z) (first x y p) ∙ first x z (not_before_both x y z q p)
    ∙ sym (ap (first_of x) (first y z q) ∙ first x y p)

pub first_next : (x y z : Option Site) → first_site (first_site x y) z ≡ first_site x (first_site y z)
first_next None y z = refl
first_next (Some x) None z = refl
first_next (Some x) (Some y) None = refl
first_next (Some x) (Some y) (Some z) = ap (λ w. Some w) (of_three x y z _ _ refl refl)

pub first_last : (x : Option Site) → first_site x None ≡ x
first_last None = refl
first_last (Some x) = refl

-- what is left begins with one more
pub first_on : (first one rest left all new result : Option Site) → new ≡ first_site first result → result ≡ one
    → left ≡ first_site one rest → first_site first left ≡ all → first_site new rest ≡ all
first_on first one rest left all new result p q r s =
    ap (λ x. first_site x rest) (p ∙ ap (first_site first) q) ∙ first_next first one rest ∙ ap (first_site first) (sym r) ∙ s

pub first_end : (first left all : Option Site) → left ≡ None → first_site first left ≡ all → first ≡ all
first_end first left all p q = sym (first_last first) ∙ ap (first_site first) (sym p) ∙ q

-- ---- of all functions that are marked

not_both : (b : Bool) → b ≡ false → b ≡ true → ⊥
not_both true e m = cc
not_both false e m = cc

module _ (p : PlainProgram) (marks : List Bool) where
  pub none_first_of : IsFirstOf p marks 0 None
  none_first_of = record { found = λ x e. cc; first = λ g y l. absurd (omega (arith, l)) }

  later_than : (most g : ℕ) → g < most + 1 → g ≢ most → g < most
  later_than most g l other = omega (arith, l, other)

  pub first_skips : (most : ℕ) (r : Option Site) → IsFirstOf p marks most r → ¬ IsMarked marks most → IsFirstOf p marks (most + 1) r
  first_skips most r f none = record {
    found = f.found;
    first = λ g y l m e. elim (cases_eq g most) [
      | inl same ↦ absurd (none (subst (IsMarked marks) same m))
      | inr other ↦ f.first g y (later_than most g l other) m e
    ];
  }

  no_later_first : (x z : Site) (y : Site) (b : Bool) → comes_before z x ≡ b → comes_before y x ≡ false
      → comes_before y (first_of x z) ≡ false
  no_later_first x z y true e n = ap (comes_before y) (second x z e) ∙ not_before_first x z y n e
  no_later_first x z y false e n = ap (comes_before y) (first x z e) ∙ n

  no_later_second : (x y : Site) (b : Bool) → comes_before y x ≡ b → comes_before y (first_of x y) ≡ false
  no_later_second x y true e = ap (comes_before y) (second x y e) ∙ never_first y
  no_later_second x y false e = ap (comes_before y) (first x y e) ∙ e

  no_later_left : (r u : Option Site) (y : Site) → IsNoLater r y → IsNoLater (first_site r u) y
  no_later_left None u y n = absurd n
  no_later_left (Some x) None y n = n
  no_later_left (Some x) (Some z) y n = no_later_first x z y _ refl n

  no_later_right : (r : Option Site) (y : Site) → IsNoLater (first_site r (Some y)) y
  no_later_right None y = never_first y
  no_later_right (Some x) y = no_later_second x y _ refl

  one_of_two : (x z y : Site) (b : Bool) → comes_before z x ≡ b → first_of x z ≡ y → (x ≡ y) ⊎ (z ≡ y)
  one_of_two x z y true e s = inr (sym (second x z e) ∙ s)
  one_of_two x z y false e s = inl (sym (first x z e) ∙ s)

  found_in : (r u : Option Site) (y : Site) → first_site r u ≡ Some y → (r ≡ Some y) ⊎ (u ≡ Some y)
  found_in None u y e = inr e
  found_in (Some x) None y e = inl e
  found_in (Some x) (Some z) y e =
      let same : first_of x z ≡ y = cc in
      elim (one_of_two x z y _ refl same) [ inl a ↦ inl (ap (λ w. Some w) a) | inr b ↦ inr (ap (λ w. Some w) b) ]

  pub first_takes : (most : ℕ) (r : Option Site) → IsFirstOf p marks most r → IsMarked marks most
      → IsFirstOf p marks (most + 1) (first_site r (uncounted_in p most))
  first_takes most r f own = record {
    found = λ x e. elim (found_in r (uncounted_in p most) x e) [
      | inl old ↦ f.found x old
      | inr here ↦ (most, (own, here))
    ];
    first = λ g y l m e. elim (cases_eq g most) [
      | inl same ↦
          let here : uncounted_in p most ≡ Some y = subst (λ k. uncounted_in p k ≡ Some y) same e in
          subst (λ u. IsNoLater (first_site r u) y) (sym here) (no_later_right r y)
      | inr other ↦ no_later_left r (uncounted_in p most) y (f.first g y (later_than most g l other) m e)
    ];
  }

  -- what holds of more functions holds of fewer
  pub first_of_all : (all most : ℕ) (r : Option Site) → all ≤ most → IsFirstOf p marks most r → IsFirstOf p marks all r
  first_of_all all most r l f = record {
    found = f.found;
    first = λ g y m. f.first g y (omega (arith, l, m));
  }

  first_goes_by : (most : ℕ) (r : Option Site) (b : Bool) → slice_index_or marks most false ≡ b → IsFirstOf p marks most r
      → IsFirstOf p marks (most + 1) (if b then first_site r (uncounted_in p most) else r)
  first_goes_by most r true e f = first_takes most r f e
  first_goes_by most r false e f = first_skips most r f (λ m. not_both (slice_index_or marks most false) e m)

  pub first_goes_on : (most : ℕ) (r : Option Site) → IsFirstOf p marks most r → IsFirstOf p marks (most + 1) (taken p marks r most)
  first_goes_on most r f = first_goes_by most r _ refl f

-- ---- of all functions that main reaches

has_function : (p : PlainProgram) (g : ℕ) (x : Site) → uncounted_in p g ≡ Some x → g < length p.functions
has_function p g x e = within p.functions g (slice_get p.functions g) refl e
  where
    within : (fs : List PlainFunction) (i : ℕ) (o : Option PlainFunction) → slice_get fs i ≡ o
        → option_and_then (λ f. uncounted p g f.body f.body) o ≡ Some x → i < length fs
    within [] i None e n = cc
    within [] i (Some f) e n = cc
    within (f ∷ fs) zero o e n = omega arith
    within (f ∷ fs) (suc i) o e n = let l = within fs i o e n in omega (arith, l)

pub record AnswersFirst (p : PlainProgram) (r : Option Site) : Type 0 where
  pub found : (x : Site) → (r ≡ Some x) ↔ IsFirstUncounted p x
  pub none : (r ≡ None) ↔ LoopsAreCounted p

module _ (p : PlainProgram) (marks : List Bool) (m : MarkReached p marks) where
  no_later : (r : Option Site) (most : ℕ) → length marks ≡ most → IsFirstOf p marks most r → (y : Site) → HasUncounted p y → IsNoLater r y
  no_later r most long f y h =
      let within = has_function p h.function y h.first in
      let count = m.count in
      f.first h.function y (omega (arith, within, count, long)) (m.complete h.function within h.reached) h.first

  has : (r : Option Site) (most : ℕ) → IsFirstOf p marks most r → (x : Site) → r ≡ Some x → HasUncounted p x
  has r most f x e =
      let g = f.found x e in
      record { function = g.0; reached = m.sound g.0 g.1.0; first = g.1.1 }

  is_first : (r : Option Site) (most : ℕ) → length marks ≡ most → IsFirstOf p marks most r → (x : Site) → r ≡ Some x
      → IsFirstUncounted p x
  is_first r most long f x e = record {
    has = has r most f x e;
    first = λ y h. subst (λ o. IsNoLater o y) e (no_later r most long f y h);
  }

  is_found : (r : Option Site) (most : ℕ) → length marks ≡ most → IsFirstOf p marks most r → (x : Site) → IsFirstUncounted p x
      → r ≡ Some x
  is_found None most long f x h = absurd (no_later None most long f x h.has)
  is_found (Some w) most long f x h =
      ap (λ y. Some y) (one_first w x (h.first w (has (Some w) most f w refl)) (no_later (Some w) most long f x h.has))

  none_of : (g : ℕ) (function : PlainFunction) (u : Option Site) → uncounted p g function.body function.body ≡ u
      → slice_get p.functions g ≡ Some function → IsReached p g → (most : ℕ) → length marks ≡ most → IsFirstOf p marks most None
      → u ≡ None
  none_of g function None e is r most long f = refl
  none_of g function (Some y) e is r most long f =
      let here : uncounted_in p g ≡ Some y = ap (option_and_then (λ x. uncounted p g x.body x.body)) is ∙ e in
      absurd (no_later None most long f y (record { function = g; reached = r; first = here }))

  are_counted : (most : ℕ) → length marks ≡ most → IsFirstOf p marks most None → LoopsAreCounted p
  are_counted most long f g function r is = none_of g function _ refl is r most long f

  counted_in : (g : ℕ) (x : Site) (o : Option PlainFunction) → slice_get p.functions g ≡ o
      → option_and_then (λ f. uncounted p g f.body f.body) o ≡ Some x → IsReached p g → LoopsAreCounted p → ⊥
  counted_in g x None e n r c = cc
  counted_in g x (Some function) e n r c =
      let none : uncounted p g function.body function.body ≡ None = c g function r e in
      let some : uncounted p g function.body function.body ≡ Some x = n in
      cc

  is_none : (r : Option Site) (most : ℕ) → IsFirstOf p marks most r → LoopsAreCounted p → r ≡ None
  is_none None most f c = refl
  is_none (Some x) most f c =
      let h = has (Some x) most f x refl in
      absurd (counted_in h.function x (slice_get p.functions h.function) refl h.first h.reached c)

  pub answers_first : (r : Option Site) → IsFirstOf p marks (length marks) r → AnswersFirst p r
  answers_first r f = record {
    found = λ x. (is_first r (length marks) refl f x, is_found r (length marks) refl f x);
    none = (λ e. are_counted (length marks) refl (subst (IsFirstOf p marks (length marks)) e f), is_none r (length marks) f);
  }
