-- Objects beside their homes.
use Rattle.std.proofs.Common.{◌≡◌, ℕ, zero, suc, ◌<◌, Bool, true, false, List, [], ◌∷◌, length, Option, Some, None, refl, ap}
use Rattle.std.proofs.Common.{◌∙◌, subst, arith}
use Rattle.std.specs.Prelude.{◌==◌, ◌||◌, if◌then◌else◌, map, slice_get, replicate, option_and_then}
use Rattle.std.proofs.Math.Bool.{or-true}
use Rattle.std.proofs.lemmas.Bool.{false≢true}
use Rattle.std.proofs.lemmas.Bool.Decides.{nat_tests}
use Rattle.ec_core.specs.declared.values.Value.{Value}
use Rattle.ec_core.specs.Accesses.{leaf_count, renewed, ended, with_leaf, frame_ended_in, belongs_to}
use Rattle.ec_core.specs.Plain.{PlainStorage, static, local, param, register, PlainObject, PlainProgram}
use Rattle.ec_core.specs.State.{ObjectState, changed_at}
use Rattle.ec_ir.specs.Meaning.{is_among, is_kept, standing, given_up, kept_in}
use Rattle.ec_lower_code.proofs.Shown.{shown, IsShown, AreShown}

abbrev value_in : List (Option Value) → ℕ → Option Value
value_in vs k = option_and_then (λ v. v) (slice_get vs k)

-- a list with one item changed
set_same : (vs : List (Option Value)) (k : ℕ) (v : Value) → k < length vs → value_in (changed_at k (λ was. Some v) vs) k ≡ Some v
set_same [] k v h = absurd (omega arith)
set_same (u ∷ vs) zero v h = refl
set_same (u ∷ vs) (suc k) v h = set_same vs k v (omega arith)

set_count : (vs : List (Option Value)) (k : ℕ) (v : Value) → length (changed_at k (λ was. Some v) vs) ≡ length vs
set_count [] k v = refl
set_count (u ∷ vs) zero v = refl
set_count (u ∷ vs) (suc k) v = ap suc (set_count vs k v)

-- what is set in a changed list is set in the other one that is changed alike
set_both : (vs ws : List (Option Value)) (k : ℕ) (v : Value) → k < length ws → ((j : ℕ) (u : Value) → value_in vs j ≡ Some u
    → value_in ws j ≡ Some (shown u)) → (j : ℕ) (u : Value) → value_in (changed_at k (λ was. Some v) vs) j ≡ Some u
    → value_in (changed_at k (λ was. Some (shown v)) ws) j ≡ Some (shown u)
set_both vs [] k v lt h j u e = absurd (omega arith)
set_both [] (w ∷ ws) k v lt h j u e = cc
set_both (x ∷ vs) (w ∷ ws) zero v lt h zero u e = let g : v ≡ u = cc in ap (λ z. Some (shown z)) g
set_both (x ∷ vs) (w ∷ ws) zero v lt h (suc j) u e = h (suc j) u e
set_both (x ∷ vs) (w ∷ ws) (suc k) v lt h zero u e = h zero u e
set_both (x ∷ vs) (w ∷ ws) (suc k) v lt h (suc j) u e = set_both vs ws k v (omega arith) (λ i. h (suc i)) j u e

none_set : (n k : ℕ) (v : Value) → value_in (replicate n None) k ≡ Some v → ⊥
none_set zero k v e = cc
none_set (suc n) zero v e = cc
none_set (suc n) (suc k) v e = none_set n k v e

module _ (program : PlainProgram) (fs : List ℕ) where
  pub shown_at : (os : List PlainObject) (xs ys : List ObjectState) (o : ℕ) (d : PlainObject) (x : ObjectState)
      → AreShown program fs os xs ys
      → slice_get os o ≡ Some d → slice_get xs o ≡ Some x → (y : ObjectState) × (slice_get ys o ≡ Some y) × IsShown fs
      (leaf_count program d.ty) d.storage x y
  shown_at [] [] [] o d x h e f = cc
  shown_at [] [] (y ∷ ys) o d x h e f = absurd h
  shown_at [] (z ∷ xs) ys o d x h e f = absurd h
  shown_at (c ∷ os) [] ys o d x h e f = absurd h
  shown_at (c ∷ os) (z ∷ xs) [] o d x h e f = absurd h
  shown_at (c ∷ os) (z ∷ xs) (y ∷ ys) zero d x h e f =
      let g : c ≡ d = cc in let k : z ≡ x = cc in (
        y,
        refl,
        subst (λ (q : PlainObject). IsShown fs (leaf_count program q.ty) q.storage x y) g
            (subst (λ (q : ObjectState). IsShown fs (leaf_count program c.ty) c.storage q y) k h.0),
      )
  shown_at (c ∷ os) (z ∷ xs) (y ∷ ys) (suc o) d x h e f = shown_at os xs ys o d x h.1 e f

  -- a change of an object that its home need not follow
  pub change_one : (os : List PlainObject) (xs ys : List ObjectState) (o : ℕ) (f : ObjectState → ObjectState)
      → ((n : ℕ) (d : PlainObject) (x y : ObjectState) → slice_get os o ≡ Some d → IsShown fs n d.storage x y
      → IsShown fs n d.storage (f x) y) → AreShown program fs os xs ys → AreShown program fs os (changed_at o f xs) ys
  change_one [] [] [] o f g h = tt
  change_one [] [] (y ∷ ys) o f g h = absurd h
  change_one [] (x ∷ xs) ys o f g h = absurd h
  change_one (c ∷ os) [] ys o f g h = absurd h
  change_one (c ∷ os) (x ∷ xs) [] o f g h = absurd h
  change_one (c ∷ os) (x ∷ xs) (y ∷ ys) zero f g h = (g (leaf_count program c.ty) c x y refl h.0, h.1)
  change_one (c ∷ os) (x ∷ xs) (y ∷ ys) (suc o) f g h = (h.0, change_one os xs ys o f g h.1)

  -- one that begins is kept
  pub renew_one : (m n : ℕ) (storage : PlainStorage) (x y : ObjectState) → is_kept fs storage ≡ true → IsShown fs n storage x y
      → IsShown fs n storage (renewed m x) y
  renew_one m n storage x y kept h = record {
    serial = h.serial;
    count = h.count;
    kept = λ l. kept;
    stands = h.stands;
    values = λ l k v e. absurd (none_set m k v e);
  }

  pub end_one : (n : ℕ) (storage : PlainStorage) (x y : ObjectState) → IsShown fs n storage x y → IsShown fs n storage (ended x) y
  end_one n storage x y h =
      record { serial = h.serial; count = h.count; kept = λ l. cc; stands = h.stands; values = λ l k v e. cc }

  -- a leaf gets a value on both sides
  pub store_one : (os : List PlainObject) (xs ys : List ObjectState) (o : ℕ) (d : PlainObject) (k : ℕ) (v : Value) → slice_get os o ≡ Some d
      → k < leaf_count program d.ty → AreShown program fs os xs ys → AreShown program fs os (changed_at o (with_leaf k v) xs)
      (changed_at o (with_leaf k (shown v)) ys)
  store_one [] [] [] o d k v e lt h = tt
  store_one [] [] (y ∷ ys) o d k v e lt h = absurd h
  store_one [] (x ∷ xs) ys o d k v e lt h = absurd h
  store_one (c ∷ os) [] ys o d k v e lt h = absurd h
  store_one (c ∷ os) (x ∷ xs) [] o d k v e lt h = absurd h
  store_one (c ∷ os) (x ∷ xs) (y ∷ ys) zero d k v e lt h =
      let g : c ≡ d = cc in let n = ap (λ (q : PlainObject). leaf_count program q.ty) g in (
        record {
          serial = h.0.serial;
          count = set_count y.leaves k (shown v) ∙ h.0.count;
          kept = h.0.kept;
          stands = h.0.stands;
          values = λ l. set_both x.leaves y.leaves k v (omega (arith, h.0.count, n)) (h.0.values l);
        },
        h.1,
      )
  store_one (c ∷ os) (x ∷ xs) (y ∷ ys) (suc o) d k v e lt h = (h.0, store_one os xs ys o d k v e lt h.1)

-- ---- what is kept

-- these functions are all among those
abbrev pub AreAmong : List ℕ → List ℕ → Type 0
AreAmong fs gs = (f : ℕ) → is_among fs f ≡ true → is_among gs f ≡ true

pub among_more : (g : ℕ) (fs : List ℕ) → AreAmong fs (g ∷ fs)
among_more g fs f h = rw (h, or-true (g == f)) refl

pub kept_too : (fs gs : List ℕ) (storage : PlainStorage) → AreAmong fs gs → is_kept fs storage ≡ true → is_kept gs storage ≡ true
kept_too fs gs (static inits) l h = refl
kept_too fs gs (local f) l h = l f h
kept_too fs gs (param f) l h = l f h
kept_too fs gs (register r) l h = refl

unset_count : (vs : List (Option Value)) → length (map {B = Option Value} (λ v. None) vs) ≡ length vs
unset_count [] = refl
unset_count (v ∷ vs) = ap suc (unset_count vs)

module _ (program : PlainProgram) where
  -- frames of more functions stand
  kept_one : (fs gs : List ℕ) (n : ℕ) (storage : PlainStorage) (b : Bool) (x y : ObjectState)
      → (is_kept fs storage ≡ true → is_kept gs storage ≡ true) → (is_kept gs storage ≡ true → b ≡ true) → IsShown fs n storage x y
      → IsShown gs n storage x (if b then standing y else given_up y)
  kept_one fs gs n storage true x y more k h =
      record { serial = refl; count = h.count; kept = λ l. more (h.kept l); stands = λ l. refl; values = h.values }
  kept_one fs gs n storage false x y more k h = record {
    serial = refl;
    count = unset_count y.leaves ∙ h.count;
    kept = λ l. more (h.kept l);
    stands = λ l. absurd (false≢true (k l));
    values = λ l. absurd (false≢true (k (more (h.kept l))));
  }

  pub kept_shown : (fs gs hs : List ℕ) → AreAmong fs gs → AreAmong gs hs → (os : List PlainObject) (xs ys : List ObjectState)
      → AreShown program fs os xs ys → AreShown program gs os xs (kept_in hs os ys)
  kept_shown fs gs hs l m [] [] [] h = tt
  kept_shown fs gs hs l m [] [] (y ∷ ys) h = absurd h
  kept_shown fs gs hs l m [] (x ∷ xs) ys h = absurd h
  kept_shown fs gs hs l m (c ∷ os) [] ys h = absurd h
  kept_shown fs gs hs l m (c ∷ os) (x ∷ xs) [] h = absurd h
  kept_shown fs gs hs l m (c ∷ os) (x ∷ xs) (y ∷ ys) h = (
    kept_one fs gs (leaf_count program c.ty) c.storage (is_kept hs c.storage) x y (kept_too fs gs c.storage l) (kept_too gs hs c.storage m)
        h.0,
    kept_shown fs gs hs l m os xs ys h.1,
  )

  -- the end of a function: its objects are no longer live, and the others are kept for the rest
  is_other : (f g : ℕ) (fs : List ℕ) → (g == f) ≡ false → (f == g || is_among fs g) ≡ true → is_among fs g ≡ true
  is_other f g fs n h = grind (arith, n, h, nat_tests)

  kept_without : (f : ℕ) (fs : List ℕ) (storage : PlainStorage) → belongs_to f storage ≡ false → is_kept (f ∷ fs) storage ≡ true
      → is_kept fs storage ≡ true
  kept_without f fs (static inits) b h = refl
  kept_without f fs (local g) b h = is_other f g fs b h
  kept_without f fs (param g) b h = is_other f g fs b h
  kept_without f fs (register r) b h = refl

  end_if : (f : ℕ) (fs : List ℕ) (n : ℕ) (storage : PlainStorage) (b : Bool) (x y : ObjectState) → belongs_to f storage ≡ b
      → IsShown (f ∷ fs) n storage x y → IsShown fs n storage (if b then ended x else x) y
  end_if f fs n storage true x y e h = record {
    serial = h.serial;
    count = h.count;
    kept = λ l. cc;
    stands = λ k. h.stands (kept_too fs (f ∷ fs) storage (among_more f fs) k);
    values = λ l k v e. cc;
  }
  end_if f fs n storage false x y e h = record {
    serial = h.serial;
    count = h.count;
    kept = λ l. kept_without f fs storage e (h.kept l);
    stands = λ k. h.stands (kept_too fs (f ∷ fs) storage (among_more f fs) k);
    values = h.values;
  }

  pub frame_one : (f : ℕ) (fs : List ℕ) (os : List PlainObject) (xs ys : List ObjectState) → AreShown program (f ∷ fs) os xs ys
      → AreShown program fs os (frame_ended_in f os xs) ys
  frame_one f fs [] [] [] h = tt
  frame_one f fs [] [] (y ∷ ys) h = absurd h
  frame_one f fs [] (x ∷ xs) ys h = absurd h
  frame_one f fs (c ∷ os) [] ys h = absurd h
  frame_one f fs (c ∷ os) (x ∷ xs) [] h = absurd h
  frame_one f fs (c ∷ os) (x ∷ xs) (y ∷ ys) h =
      (end_if f fs (leaf_count program c.ty) c.storage (belongs_to f c.storage) x y refl h.0, frame_one f fs os xs ys h.1)

  -- the same where more of them end
  end_both : (fs : List ℕ) (n : ℕ) (storage : PlainStorage) (b : Bool) (x y : ObjectState)
      → IsShown fs n storage (if b then ended x else x) y → IsShown fs n storage (if b then ended (ended x) else ended x) y
  end_both fs n storage true x y h = end_one program fs n storage (ended x) y h
  end_both fs n storage false x y h = end_one program fs n storage x y h

  pub frame_change : (f : ℕ) (fs : List ℕ) (os : List PlainObject) (xs ys : List ObjectState) (o : ℕ)
      → AreShown program fs os (frame_ended_in f os xs) ys → AreShown program fs os (frame_ended_in f os (changed_at o ended xs)) ys
  frame_change f fs [] [] ys o h = h
  frame_change f fs [] (x ∷ xs) ys o h = absurd h
  frame_change f fs (c ∷ os) [] ys o h = h
  frame_change f fs (c ∷ os) (x ∷ xs) [] o h = absurd h
  frame_change f fs (c ∷ os) (x ∷ xs) (y ∷ ys) zero h =
      (end_both fs (leaf_count program c.ty) c.storage (belongs_to f c.storage) x y h.0, h.1)
  frame_change f fs (c ∷ os) (x ∷ xs) (y ∷ ys) (suc o) h = (h.0, frame_change f fs os xs ys o h.1)
