-- A reader looks at no token past the one at which it stops: what is general.
use Rattle.std.proofs.Common.{◌≡◌, ℕ, suc, ◌+◌, ◌≤◌, List, [], ◌∷◌, ◌++◌, length, Bool, true, false, cond, Ok, Err, Option, Some, None}
use Rattle.std.proofs.Common.{refl, sym, ap, ◌∙◌, arith, inl, inr, ◌⊎◌, subst, length-append}
use Rattle.std.specs.Prelude.{nat_lt}
use Rattle.ec_grammar.specs.declared.Spot.{Spot}
use Rattle.ec_grammar.specs.Tokens as tokens
use Rattle.ec_grammar.specs.Tokens.{Lexeme}
use Rattle.ec_grammar.specs.Trees as t
use Rattle.ec_grammar.specs.Trees.{Leaf}
use Rattle.ec_parse_laws.specs.Reading.{Fault, syntax, too_deep, Read, ◌>>=◌, when, leaf_if, name_of, needed, identifier, first_is, ends}
use Rattle.ec_parse_laws.specs.Reading.{Inner, Depth, inside_of, inside, begun_of, begun}
use Rattle.ec_parse_laws.specs.Refusals.{place}
use Rattle.ec_parse_laws.proofs.Basics.{no_some}

-- ---- what an answer leaves, and where a fault lies

-- a fault of either kind
abbrev pub fault : Bool → ℕ → Fault
fault true n = syntax n
fault false n = too_deep n

-- no more than n tokens are left, or the fault lies within the last n of them, or d before
abbrev pub Within : {A : Type 0} → ℕ → ℕ → Read A → Type 0
Within d n (Ok y) = length y.1 ≤ n
Within d n (Err e) = place e ≤ d + n

pub within_le : {A : Type 0} (c d n m : ℕ) (r : Read A) → c ≤ d → n ≤ m → Within c n r → Within d m r
within_le c d n m (Ok y) cd nm h = omega (arith, nm, h)
within_le c d n m (Err e) cd nm h = omega (arith, cd, nm, h)

pub within_shift : {A : Type 0} (n : ℕ) (r : Read A) → Within 1 n r → Within 0 (suc n) r
within_shift n (Ok y) h = omega (arith, h)
within_shift n (Err e) h = omega (arith, h)

pub within_bind : {A B : Type 0} (d n : ℕ) (r : Read A) (f : A × List Leaf → Read B) → Within d n r
    → ((a : A) (ts : List Leaf) → Within 0 (length ts) (f (a, ts))) → Within d n (r >>= f)
within_bind d n (Ok y) f h g = within_le 0 d (length y.1) n (f y) (omega arith) h (g y.0 y.1)
within_bind d n (Err e) f h g = h

-- ---- the answers on two lists of tokens that are the same up to a token x

-- Both stop at x or before it, alike; or the first goes past x, which is not the end.
pub data Same {A : Type 0} (x : Leaf) (more other : List Leaf) : Read A → Read A → Type 0 where
  kept : (a : A) (pre : List Leaf) → Same x more other (Ok (a, pre ++ x ∷ more)) (Ok (a, pre ++ x ∷ other))
  faulted : (kind : Bool) (k : ℕ) → Same x more other (Err (fault kind (k + suc (length more)))) (Err (fault kind (k + suc (length other))))
  passed : {r q : Read A} → (x.lexeme ≡ tokens.end → ⊥) → Within 0 (length more) r → Same x more other r q

-- Both tell the token before their lists, alike; or the first goes past it.
pub data Opens {A : Type 0} (more other : List Leaf) : Read A → Read A → Type 0 where
  opening : (kind : Bool) → Opens more other (Err (fault kind (suc (length more)))) (Err (fault kind (suc (length other))))
  beyond : {r q : Read A} → Within 0 (length more) r → Opens more other r q

-- no token past the one at which it stops is looked at
pub record Local {A : Type 0} (r : List Leaf → Read A) : Type 0 where
  pub bounded : (ts : List Leaf) → Within 0 (length ts) (r ts)
  pub same : (x : Leaf) (more other pre : List Leaf) → Same x more other (r (pre ++ x ∷ more)) (r (pre ++ x ∷ other))

-- the same of a reader that may also tell the token before its list
pub record Behind {A : Type 0} (r : List Leaf → Read A) : Type 0 where
  pub bounded : (ts : List Leaf) → Within 1 (length ts) (r ts)
  pub opens : (more other : List Leaf) → Opens more other (r more) (r other)
  pub same : (x : Leaf) (more other pre : List Leaf) → Same x more other (r (pre ++ x ∷ more)) (r (pre ++ x ∷ other))

pub behind : {A : Type 0} (r : List Leaf → Read A) → Local r → Behind r
behind r h = record {
  bounded = λ ts. within_le 0 1 (length ts) (length ts) (r ts) (omega arith) (omega arith) (h.bounded ts);
  opens = λ more other. beyond (h.bounded more);
  same = λ x more other pre. h.same x more other pre;
}

pub same_bind : {A B : Type 0} (x : Leaf) (more other : List Leaf) (r q : Read A) (f : A × List Leaf → Read B) → Same x more other r q
    → ((a : A) (ts : List Leaf) → Within 0 (length ts) (f (a, ts)))
    → ((a : A) (pre : List Leaf) → Same x more other (f (a, pre ++ x ∷ more)) (f (a, pre ++ x ∷ other)))
    → Same x more other (r >>= f) (q >>= f)
same_bind x more other r q f (kept a pre) bound on = on a pre
same_bind x more other r q f (faulted kind k) bound on = faulted kind k
same_bind x more other r q f (passed no_end le) bound on = passed no_end (within_bind 0 (length more) r f le bound)

opens_bind : {A B : Type 0} (more other : List Leaf) (r q : Read A) (f : A × List Leaf → Read B) → Opens more other r q
    → ((a : A) (ts : List Leaf) → Within 0 (length ts) (f (a, ts))) → Opens more other (r >>= f) (q >>= f)
opens_bind more other r q f (opening kind) bound = opening kind
opens_bind more other r q f (beyond le) bound = beyond (within_bind 0 (length more) r f le bound)

pub local_bind : {A B : Type 0} (r : List Leaf → Read A) (f : A × List Leaf → Read B) → Local r → ((a : A) → Local (λ ts. f (a, ts)))
    → Local (λ ts. r ts >>= f)
local_bind r f hr hf = record {
  bounded = λ ts. within_bind 0 (length ts) (r ts) f (hr.bounded ts) (λ a us. (hf a).bounded us);
  same = λ x more other pre. same_bind x more other (r (pre ++ x ∷ more)) (r (pre ++ x ∷ other)) f (hr.same x more other pre)
      (λ a us. (hf a).bounded us) (λ a us. (hf a).same x more other us);
}

pub behind_bind : {A B : Type 0} (r : List Leaf → Read A) (f : A × List Leaf → Read B) → Behind r → ((a : A) → Local (λ ts. f (a, ts)))
    → Behind (λ ts. r ts >>= f)
behind_bind r f hr hf = record {
  bounded = λ ts. within_bind 1 (length ts) (r ts) f (hr.bounded ts) (λ a us. (hf a).bounded us);
  opens = λ more other. opens_bind more other (r more) (r other) f (hr.opens more other) (λ a us. (hf a).bounded us);
  same = λ x more other pre. same_bind x more other (r (pre ++ x ∷ more)) (r (pre ++ x ∷ other)) f (hr.same x more other pre)
      (λ a us. (hf a).bounded us) (λ a us. (hf a).same x more other us);
}

-- ---- answers at once

pub local_give : {A : Type 0} (a : A) → Local (λ ts. Ok (a, ts))
local_give a = record { bounded = λ ts. omega arith; same = λ x more other pre. kept a pre }

place_fault : (kind : Bool) (n : ℕ) → place (fault kind n) ≡ n
place_fault true n = refl
place_fault false n = refl

-- a fault so many tokens before a list
faulted_at : {A : Type 0} (kind : Bool) (d : ℕ) (x : Leaf) (more other pre : List Leaf)
    → Same {A = A} x more other (Err (fault kind (d + length (pre ++ x ∷ more)))) (Err (fault kind (d + length (pre ++ x ∷ other))))
faulted_at {A = A} kind d x more other pre =
    let here : d + length (pre ++ x ∷ more) ≡ (d + length pre) + suc (length more) = omega (arith, length-append pre (x ∷ more)) in
    let there : d + length (pre ++ x ∷ other) ≡ (d + length pre) + suc (length other) = omega (arith, length-append pre (x ∷ other)) in
    rw (here, there) (faulted kind (d + length pre))

pub local_fail : {A : Type 0} (kind : Bool) → Local {A = A} (λ ts. Err (fault kind (length ts)))
local_fail {A = A} kind = record {
  bounded = λ ts. omega (arith, place_fault kind (length ts));
  same = λ x more other pre. subst (λ d. Same {A = A} x more other (Err (fault kind d)) (Err (fault kind (length (pre ++ x ∷ other)))))
      (zero_add _) (subst (λ d. Same {A = A} x more other (Err (fault kind (0 + length (pre ++ x ∷ more)))) (Err (fault kind d)))
      (zero_add _) (faulted_at kind 0 x more other pre));
}
  where
    zero_add : (n : ℕ) → 0 + n ≡ n
    zero_add n = omega arith

pub behind_fail : {A : Type 0} (kind : Bool) → Behind {A = A} (λ ts. Err (fault kind (suc (length ts))))
behind_fail {A = A} kind = record {
  bounded = λ ts. omega (arith, place_fault kind (suc (length ts)));
  opens = λ more other. opening kind;
  same = λ x more other pre.
      rw (one_add (length (pre ++ x ∷ more)), one_add (length (pre ++ x ∷ other))) (faulted_at {A = A} kind 1 x more other pre);
}
  where
    one_add : (n : ℕ) → suc n ≡ 1 + n
    one_add n = omega arith

-- ---- another form of a reader

pub local_same : {A : Type 0} (r q : List Leaf → Read A) → ((ts : List Leaf) → r ts ≡ q ts) → Local q → Local r
local_same r q e h = record {
  bounded = λ ts. subst (Within 0 (length ts)) (sym (e ts)) (h.bounded ts);
  same = λ x more other pre. rw (e (pre ++ x ∷ more), e (pre ++ x ∷ other)) (h.same x more other pre);
}

pub behind_same : {A : Type 0} (r q : List Leaf → Read A) → ((ts : List Leaf) → r ts ≡ q ts) → Behind q → Behind r
behind_same r q e h = record {
  bounded = λ ts. subst (Within 1 (length ts)) (sym (e ts)) (h.bounded ts);
  opens = λ more other. rw (e more, e other) (h.opens more other);
  same = λ x more other pre. rw (e (pre ++ x ∷ more), e (pre ++ x ∷ other)) (h.same x more other pre);
}

-- By its first token a reader is one of the tokens from that on, or one of those after it, where it is not the end.
abbrev pub Heads : {A : Type 0} → (List Leaf → Read A) → Leaf → Type 0
Heads {A = A} r h = ((q : List Leaf → Read A) × Local q × ((ts : List Leaf) → r (h ∷ ts) ≡ q (h ∷ ts)))
    ⊎ ((h.lexeme ≡ tokens.end → ⊥) × (f : List Leaf → Read A) × Behind f × ((ts : List Leaf) → r (h ∷ ts) ≡ f ts))

pub same_first : {A : Type 0} (x : Leaf) (more other : List Leaf) (r q : Read A) → (x.lexeme ≡ tokens.end → ⊥) → Opens more other r q
    → Same x more other r q
same_first x more other r q no_end (opening kind) = rw (zero_add (suc (length more)), zero_add (suc (length other))) (faulted kind 0)
  where
    zero_add : (n : ℕ) → n ≡ 0 + n
    zero_add n = omega arith
same_first x more other r q no_end (beyond le) = passed no_end le

pub local_heads : {A : Type 0} (r : List Leaf → Read A) → Within 0 0 (r []) → ((h : Leaf) → Heads r h) → Local r
local_heads {A = A} r none heads = record { bounded = bounded; same = same }
  where
    bounded : (ts : List Leaf) → Within 0 (length ts) (r ts)
    bounded [] = none
    bounded (h ∷ ts) = elim (heads h) [
      | inl c ↦ subst (Within 0 (suc (length ts))) (sym (c.2 ts)) (c.1.bounded (h ∷ ts))
      | inr c ↦ subst (Within 0 (suc (length ts))) (sym (c.3 ts)) (within_shift (length ts) (c.1 ts) (c.2.bounded ts))
    ]

    same : (x : Leaf) (more other pre : List Leaf) → Same x more other (r (pre ++ x ∷ more)) (r (pre ++ x ∷ other))
    same x more other [] = elim (heads x) [
      | inl c ↦ rw (c.2 more, c.2 other) (c.1.same x more other [])
      | inr c ↦ rw (c.3 more, c.3 other) (same_first x more other (c.1 more) (c.1 other) c.0 (c.2.opens more other))
    ]
    same x more other (h ∷ pre) = elim (heads h) [
      | inl c ↦ rw (c.2 (pre ++ x ∷ more), c.2 (pre ++ x ∷ other)) (c.1.same x more other (h ∷ pre))
      | inr c ↦ rw (c.3 (pre ++ x ∷ more), c.3 (pre ++ x ∷ other)) (c.2.same x more other pre)
    ]

-- ---- the first token

pub leaf_heads : {B : Type 0} (value : Lexeme → Option B) (h : Leaf) → value tokens.end ≡ None
    → ((h.lexeme ≡ tokens.end → ⊥) × (b : B) × ((ts : List Leaf) → leaf_if value (h ∷ ts) ≡ Some (h.spot, b, ts)))
    ⊎ ((ts : List Leaf) → leaf_if value (h ∷ ts) ≡ None)
unfolding leaf_if
leaf_heads {B = B} value h no_end = go (value h.lexeme) refl
  where
    go : (o : Option B) → value h.lexeme ≡ o
        → ((h.lexeme ≡ tokens.end → ⊥) × (b : B) × ((ts : List Leaf) → leaf_if value (h ∷ ts) ≡ Some (h.spot, b, ts)))
        ⊎ ((ts : List Leaf) → leaf_if value (h ∷ ts) ≡ None)
    go (Some b) e = inl (λ is. no_some b (sym no_end ∙ ap value (sym is) ∙ e), b, λ ts. rw e refl)
    go None e = inr (λ ts. rw e refl)

pub leaf_none : {B : Type 0} (value : Lexeme → Option B) → leaf_if value [] ≡ None
unfolding leaf_if
leaf_none value = refl

-- where there is such a token the tokens after it are read, else all
pub local_leaf : {A B : Type 0} (value : Lexeme → Option B) (f : Spot × B × List Leaf → Read A) (g : List Leaf → Read A)
    → value tokens.end ≡ None → ((s : Spot) (b : B) → Behind (λ ts. f (s, b, ts))) → Local g
    → Local (λ ts. when (leaf_if value ts) f (g ts))
local_leaf {A = A} {B = B} value f g no_end hf hg =
    local_heads (λ ts. when (leaf_if value ts) f (g ts)) (rw (leaf_none value) (hg.bounded [])) (λ h. elim (leaf_heads value h no_end) [
      | inl c ↦ inr (
        c.0,
        λ ts. f (h.spot, c.1, ts),
        hf h.spot c.1,
        λ ts. ap (λ (o : Option (Spot × B × List Leaf)). when o f (g (h ∷ ts))) (c.2 ts),
      )
      | inr c ↦ inl (g, hg, λ ts. ap (λ (o : Option (Spot × B × List Leaf)). when o f (g (h ∷ ts))) (c ts))
    ])

pub local_take : {A B : Type 0} (value : Lexeme → Option B) (f : Spot × B × List Leaf → Read A) (g : List Leaf → Read A)
    → value tokens.end ≡ None → ((s : Spot) (b : B) → Local (λ ts. f (s, b, ts))) → Local g
    → Local (λ ts. when (leaf_if value ts) f (g ts))
local_take value f g no_end hf hg = local_leaf value f g no_end (λ s b. behind _ (hf s b)) hg

-- where there is such a token all are read in one way, else in another
pub local_seen : {A B : Type 0} (value : Lexeme → Option B) (f g : List Leaf → Read A) → value tokens.end ≡ None → Local f → Local g
    → Local (λ ts. when (leaf_if value ts) (λ w. f ts) (g ts))
local_seen {A = A} {B = B} value f g no_end hf hg = local_heads (λ ts. when (leaf_if value ts) (λ w. f ts) (g ts))
    (rw (leaf_none value) (hg.bounded [])) (λ h. elim (leaf_heads value h no_end) [
      | inl c ↦ inl (f, hf, λ ts. ap (λ (o : Option (Spot × B × List Leaf)). when o (λ w. f (h ∷ ts)) (g (h ∷ ts))) (c.2 ts))
      | inr c ↦ inl (g, hg, λ ts. ap (λ (o : Option (Spot × B × List Leaf)). when o (λ w. f (h ∷ ts)) (g (h ∷ ts))) (c ts))
    ])

pub needed_then : {A B : Type 0} (o : Option (Spot × B × List Leaf)) (ts : List Leaf) (f : Spot × List Leaf → Read A)
    → (needed o ts >>= f) ≡ when o (λ x. f (x.0, x.2)) (Err (syntax (length ts)))
needed_then (Some x) ts f = refl
needed_then None ts f = refl

-- a token that has to be there, and what follows it
pub local_needed : {A B : Type 0} (value : Lexeme → Option B) (f : Spot × List Leaf → Read A) → value tokens.end ≡ None
    → ((s : Spot) → Behind (λ ts. f (s, ts))) → Local (λ ts. needed (leaf_if value ts) ts >>= f)
local_needed value f no_end hf = local_same _ _ (λ ts. needed_then (leaf_if value ts) ts f)
    (local_leaf value (λ x. f (x.0, x.2)) (λ ts. Err (syntax (length ts))) no_end (λ s b. hf s) (local_fail true))

named_then : {A : Type 0} (o : Option (Spot × List ℕ × List Leaf)) (ts : List Leaf) (f : t.Identifier × List Leaf → Read A)
    → (when o (λ x. Ok (t.identifier x.0 x.1, x.2)) (Err (syntax (length ts))) >>= f)
    ≡ when o (λ x. f (t.identifier x.0 x.1, x.2)) (Err (syntax (length ts)))
named_then (Some x) ts f = refl
named_then None ts f = refl

pub local_named : {A : Type 0} (f : t.Identifier × List Leaf → Read A) → ((n : t.Identifier) → Behind (λ ts. f (n, ts)))
    → Local (λ ts. identifier ts >>= f)
local_named f hf = local_same _ _ (λ ts. named_then (leaf_if name_of ts) ts f) (local_leaf name_of (λ x. f (t.identifier x.0 x.1, x.2))
    (λ ts. Err (syntax (length ts))) refl (λ s n. hf (t.identifier s n)) (local_fail true))

-- ---- depth

pub behind_ends : {A : Type 0} (room height : ℕ) (x : A) → Behind (λ ts. ends room height x ts)
behind_ends {A = A} room height x = go (nat_lt room height)
  where
    go : (b : Bool) → Behind (λ ts. cond b (Err (too_deep (suc (length ts)))) (Ok (x, ts)))
    go true = behind_fail false
    go false = behind _ (local_give x)

-- the readers inside a construct, where one may be opened
pub behind_inside : {A : Type 0} (inner : Depth) (f : List Leaf → Inner → Read A)
    → ((i : Inner) → inner.opened ≡ Some i → Local (λ ts. f ts i)) → Behind (λ ts. inside inner ts (f ts))
behind_inside {A = A} inner f h = go inner.opened h
  where
    go : (o : Option Inner) → ((i : Inner) → o ≡ Some i → Local (λ ts. f ts i)) → Behind (λ ts. inside_of o ts (f ts))
    go (Some i) h = behind _ (h i refl)
    go None h = behind_fail false

first_fails : {A : Type 0} (starts : Lexeme → Bool)
    → Local {A = A} (λ ts. Err (cond (first_is starts ts) (too_deep (length ts)) (syntax (length ts))))
first_fails {A = A} starts = local_heads _ (omega arith) (λ h. go h (starts h.lexeme) refl)
  where
    go : (h : Leaf) (b : Bool) → starts h.lexeme ≡ b
        → Heads {A = A} (λ ts. Err (cond (first_is starts ts) (too_deep (length ts)) (syntax (length ts)))) h
    go h true e = inl (λ ts. Err (fault false (length ts)), local_fail false, λ ts. rw e refl)
    go h false e = inl (λ ts. Err (fault true (length ts)), local_fail true, λ ts. rw e refl)

pub local_begun : {A : Type 0} (starts : Lexeme → Bool) (inner : Depth) (f : List Leaf → Inner → Read A)
    → ((i : Inner) → inner.opened ≡ Some i → Local (λ ts. f ts i)) → Local (λ ts. begun starts inner ts (f ts))
local_begun {A = A} starts inner f h = go inner.opened h
  where
    go : (o : Option Inner) → ((i : Inner) → o ≡ Some i → Local (λ ts. f ts i)) → Local (λ ts. begun_of starts o ts (f ts))
    go (Some i) h = h i refl
    go None h = first_fails starts
