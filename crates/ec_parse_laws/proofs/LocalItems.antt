-- A reader looks at no token past the one at which it stops: items that may be there, and lists of them.
use Rattle.std.proofs.Common.{◌≡◌, ℕ, zero, suc, ◌<◌, ◌≤◌, List, [], ◌∷◌, ◌++◌, length, Ok, Err, Option, Some, None, refl, sym, ap, arith}
use Rattle.std.proofs.Common.{inl, inr, ◌⊎◌, subst, length-append}
use Rattle.ec_grammar.specs.declared.Spot.{Spot}
use Rattle.ec_grammar.specs.Tokens as tokens
use Rattle.ec_grammar.specs.Tokens.{Lexeme}
use Rattle.ec_grammar.specs.Trees.{Leaf}
use Rattle.ec_parse_laws.specs.Reading.{Read, ◌>>=◌, when, leaf_if, many_up_to, many, behind_comma}
use Rattle.ec_parse_laws.specs.Refusals.{place}
use Rattle.ec_parse_laws.proofs.Local.{Within, within_bind, same_bind, same_first, Same, kept, faulted, passed, Local, Behind, behind}
use Rattle.ec_parse_laws.proofs.Local.{local_give, local_bind, leaf_heads, leaf_none}

-- fewer than n tokens are left, or the fault lies within the last n of them
abbrev pub Eaten : {A : Type 0} → ℕ → Read A → Type 0
Eaten n (Ok y) = length y.1 < n
Eaten n (Err e) = place e ≤ n

-- at least one token is read
abbrev pub Eats : {A : Type 0} → (List Leaf → Read A) → Type 0
Eats r = (ts : List Leaf) → Eaten (length ts) (r ts)

pub eaten_within : {A : Type 0} (n : ℕ) (r : Read A) → Eaten n r → Within 0 n r
eaten_within n (Ok y) h = omega (arith, h)
eaten_within n (Err e) h = omega (arith, h)

pub within_eaten : {A : Type 0} (n : ℕ) (r : Read A) → Within 1 n r → Eaten (suc n) r
within_eaten n (Ok y) h = omega (arith, h)
within_eaten n (Err e) h = omega (arith, h)

pub eaten_bind : {A B : Type 0} (n : ℕ) (r : Read A) (f : A × List Leaf → Read B) → Eaten n r
    → ((a : A) (ts : List Leaf) → Within 0 (length ts) (f (a, ts))) → Eaten n (r >>= f)
eaten_bind n (Ok y) f h g = go (f y) (g y.0 y.1)
  where
    go : {B : Type 0} (q : Read B) → Within 0 (length y.1) q → Eaten n q
    go (Ok z) k = omega (arith, h, k)
    go (Err e) k = omega (arith, h, k)
eaten_bind n (Err e) f h g = h

-- what is read after a reader that eats
pub eats_first : {A B : Type 0} (r : List Leaf → Read A) (f : A × List Leaf → Read B) → Eats r → ((a : A) → Local (λ ts. f (a, ts)))
    → Eats (λ ts. r ts >>= f)
eats_first r f hr hf ts = eaten_bind (length ts) (r ts) f (hr ts) (λ a us. (hf a).bounded us)

-- the answers of an item on two lists of tokens that are the same up to a token x
pub data SameAt {A : Type 0} (x : Leaf) (more other : List Leaf) : Option (Read A) → Option (Read A) → Type 0 where
  neither : SameAt x more other None None
  both : {r q : Read A} → Same x more other r q → SameAt x more other (Some r) (Some q)

abbrev pub EatenAt : {A : Type 0} → ℕ → Option (Read A) → Type 0
EatenAt n (Some r) = Eaten n r
EatenAt n None = 0 ≤ n

-- An item is there or not by the first token, and eats where it is there.
pub record LocalItem {A : Type 0} (item : List Leaf → Option (Read A)) : Type 0 where
  pub eats : (ts : List Leaf) → EatenAt (length ts) (item ts)
  pub same : (x : Leaf) (more other pre : List Leaf) → SameAt x more other (item (pre ++ x ∷ more)) (item (pre ++ x ∷ other))

-- ---- an item, and what follows it

within_item : {A B : Type 0} (n : ℕ) (o : Option (Read A)) (f : A × List Leaf → Read B) (g : Read B) → EatenAt n o
    → ((a : A) (ts : List Leaf) → Within 0 (length ts) (f (a, ts))) → Within 0 n g → Within 0 n (when o (λ r. r >>= f) g)
within_item n (Some r) f g h hf hg = within_bind 0 n r f (eaten_within n r h) hf
within_item n None f g h hf hg = hg

same_item : {A B : Type 0} (x : Leaf) (more other : List Leaf) (o p : Option (Read A)) (f : A × List Leaf → Read B) (g k : Read B)
    → SameAt x more other o p
    → ((r q : Read A) → Same x more other r q → Same x more other (r >>= f) (q >>= f)) → Same x more other g k
    → Same x more other (when o (λ r. r >>= f) g) (when p (λ r. r >>= f) k)
same_item x more other o p f g k neither hf hg = hg
same_item x more other o p f g k (both {r = r} {q = q} h) hf hg = hf r q h

pub local_item : {A B : Type 0} (item : List Leaf → Option (Read A)) (f : A × List Leaf → Read B) (g : List Leaf → Read B) → LocalItem item
    → ((a : A) → Local (λ ts. f (a, ts))) → Local g → Local (λ ts. when (item ts) (λ r. r >>= f) (g ts))
local_item item f g h hf hg = record {
  bounded = λ ts. within_item (length ts) (item ts) f (g ts) (h.eats ts) (λ a us. (hf a).bounded us) (hg.bounded ts);
  same = λ x more other pre. same_item x more other (item (pre ++ x ∷ more)) (item (pre ++ x ∷ other)) f (g (pre ++ x ∷ more))
      (g (pre ++ x ∷ other)) (h.same x more other pre)
      (λ r q s. same_bind x more other r q f s (λ a us. (hf a).bounded us) (λ a us. (hf a).same x more other us))
      (hg.same x more other pre);
}

-- ---- lists of items

up_to_bounded : {A : Type 0} (item : List Leaf → Option (Read A)) → LocalItem item → (n : ℕ) (ts : List Leaf)
    → Within 0 (length ts) (many_up_to item n ts)
unfolding many_up_to
up_to_bounded item h zero ts = omega arith
up_to_bounded item h (suc n) ts = within_item (length ts) (item ts) _ (Ok ([], ts)) (h.eats ts)
    (λ a us. within_bind 0 (length us) (many_up_to item n us) _ (up_to_bounded item h n us) (λ b vs. omega arith)) (omega arith)

-- one item, and the items after it, where those are the same
items_same : {A : Type 0} (item : List Leaf → Option (Read A)) (n m : ℕ) (x : Leaf) (more other pre : List Leaf) (o p : Option (Read A))
    → EatenAt (length (pre ++ x ∷ more)) o → SameAt x more other o p
    → ((us : List Leaf) → Within 0 (length us) (many_up_to item n us)) → ((us : List Leaf) → length us < length pre
    → Same x more other (many_up_to item n (us ++ x ∷ more)) (many_up_to item m (us ++ x ∷ other)))
    → Same x more other (when o (λ r. r >>= λ y. many_up_to item n y.1 >>= λ xs. Ok (y.0 ∷ xs.0, xs.1)) (Ok ([], pre ++ x ∷ more)))
    (when p (λ r. r >>= λ y. many_up_to item m y.1 >>= λ xs. Ok (y.0 ∷ xs.0, xs.1)) (Ok ([], pre ++ x ∷ other)))
items_same {A = A} item n m x more other pre o p eaten at bound on = go o p eaten at
  where
    next : (r q : Read A) → Eaten (length (pre ++ x ∷ more)) r → Same x more other r q
        → Same x more other (r >>= λ y. many_up_to item n y.1 >>= λ xs. Ok (y.0 ∷ xs.0, xs.1))
        (q >>= λ y. many_up_to item m y.1 >>= λ xs. Ok (y.0 ∷ xs.0, xs.1))
    next r q eaten (kept a us) =
        let short : length us < length pre = omega (arith, eaten, length-append us (x ∷ more), length-append pre (x ∷ more)) in
        same_bind x more other _ _ (λ xs. Ok (a ∷ xs.0, xs.1)) (on us short) (λ b vs. omega arith) (λ b vs. kept (a ∷ b) vs)
    next r q eaten (faulted kind k) = faulted kind k
    next r q eaten (passed no_end le) = passed no_end
        (within_bind 0 (length more) r _ le (λ a us. within_bind 0 (length us) (many_up_to item n us) _ (bound us) (λ b vs. omega arith)))

    go : (o p : Option (Read A)) → EatenAt (length (pre ++ x ∷ more)) o → SameAt x more other o p
        → Same x more other (when o (λ r. r >>= λ y. many_up_to item n y.1 >>= λ xs. Ok (y.0 ∷ xs.0, xs.1)) (Ok ([], pre ++ x ∷ more)))
        (when p (λ r. r >>= λ y. many_up_to item m y.1 >>= λ xs. Ok (y.0 ∷ xs.0, xs.1)) (Ok ([], pre ++ x ∷ other)))
    go o p eaten neither = kept [] pre
    go o p eaten (both {r = r} {q = q} s) = next r q eaten s

-- the counts do not matter where they are more than the tokens before x
up_to_same : {A : Type 0} (item : List Leaf → Option (Read A)) → LocalItem item → (n m : ℕ) (x : Leaf) (more other pre : List Leaf)
    → length pre < n → length pre < m
    → Same x more other (many_up_to item n (pre ++ x ∷ more)) (many_up_to item m (pre ++ x ∷ other))
unfolding many_up_to
up_to_same item h zero m x more other pre few_n few_m = absurd (omega (arith, few_n))
up_to_same item h (suc n) zero x more other pre few_n few_m = absurd (omega (arith, few_m))
up_to_same item h (suc n) (suc m) x more other pre few_n few_m = items_same item n m x more other pre (item (pre ++ x ∷ more))
    (item (pre ++ x ∷ other)) (h.eats (pre ++ x ∷ more)) (h.same x more other pre)
    (up_to_bounded item h n) (λ us short. up_to_same item h n m x more other us (omega (arith, short, few_n)) (omega (arith, short, few_m)))

pub local_many : {A : Type 0} (item : List Leaf → Option (Read A)) → LocalItem item → Local (many item)
local_many item h = record {
  bounded = λ ts. up_to_bounded item h (length ts) ts;
  same = λ x more other pre. up_to_same item h (length (pre ++ x ∷ more)) (length (pre ++ x ∷ other)) x more other pre
      (omega (arith, length-append pre (x ∷ more))) (omega (arith, length-append pre (x ∷ other)));
}

-- ---- what an item is

pub item_none : {A : Type 0} → LocalItem {A = A} (λ ts. None)
item_none = record { eats = λ ts. omega arith; same = λ x more other pre. neither }

pub item_some : {A : Type 0} (r : List Leaf → Read A) → Local r → Eats r → LocalItem (λ ts. Some (r ts))
item_some r h eats = record { eats = eats; same = λ x more other pre. both (h.same x more other pre) }

-- by its first token an item is one of two
pub item_heads : {A : Type 0} (item : List Leaf → Option (Read A)) → EatenAt 0 (item [])
    → ((h : Leaf) → ((other : List Leaf → Option (Read A)) × LocalItem other × ((ts : List Leaf) → item (h ∷ ts) ≡ other (h ∷ ts)))
    ⊎ ((h.lexeme ≡ tokens.end → ⊥) × (f : List Leaf → Read A) × Behind f × ((ts : List Leaf) → item (h ∷ ts) ≡ Some (f ts))))
    → LocalItem item
item_heads {A = A} item none heads = record { eats = eats; same = same }
  where
    eats : (ts : List Leaf) → EatenAt (length ts) (item ts)
    eats [] = none
    eats (h ∷ ts) = elim (heads h) [
      | inl c ↦ subst (EatenAt (suc (length ts))) (sym (c.2 ts)) (c.1.eats (h ∷ ts))
      | inr c ↦ subst (EatenAt (suc (length ts))) (sym (c.3 ts)) (within_eaten (length ts) (c.1 ts) (c.2.bounded ts))
    ]

    same : (x : Leaf) (more other pre : List Leaf) → SameAt x more other (item (pre ++ x ∷ more)) (item (pre ++ x ∷ other))
    same x more other [] = elim (heads x) [
      | inl c ↦ rw (c.2 more, c.2 other) (c.1.same x more other [])
      | inr c ↦ rw (c.3 more, c.3 other) (both (same_first x more other (c.1 more) (c.1 other) c.0 (c.2.opens more other)))
    ]
    same x more other (h ∷ pre) = elim (heads h) [
      | inl c ↦ rw (c.2 (pre ++ x ∷ more), c.2 (pre ++ x ∷ other)) (c.1.same x more other (h ∷ pre))
      | inr c ↦ rw (c.3 (pre ++ x ∷ more), c.3 (pre ++ x ∷ other)) (both (c.2.same x more other pre))
    ]

-- an item where there is such a token, that is read from the tokens after it
pub item_leaf : {A B : Type 0} (value : Lexeme → Option B) (f : Spot × B × List Leaf → Read A) (other : List Leaf → Option (Read A))
    → value tokens.end ≡ None → ((s : Spot) (b : B) → Behind (λ ts. f (s, b, ts))) → LocalItem other
    → LocalItem (λ ts. when (leaf_if value ts) (λ w. Some (f w)) (other ts))
item_leaf {A = A} {B = B} value f other no_end hf ho =
    item_heads _ (rw (leaf_none value) (ho.eats [])) (λ h. elim (leaf_heads value h no_end) [
      | inl c ↦ inr (
        c.0,
        λ ts. f (h.spot, c.1, ts),
        hf h.spot c.1,
        λ ts. ap (λ (o : Option (Spot × B × List Leaf)). when o (λ w. Some (f w)) (other (h ∷ ts))) (c.2 ts),
      )
      | inr c ↦ inl (other, ho, λ ts. ap (λ (o : Option (Spot × B × List Leaf)). when o (λ w. Some (f w)) (other (h ∷ ts))) (c ts))
    ])

-- one of two items, by the first token
pub item_seen : {A B : Type 0} (value : Lexeme → Option B) (item other : List Leaf → Option (Read A)) → value tokens.end ≡ None
    → LocalItem item → LocalItem other
    → LocalItem (λ ts. when (leaf_if value ts) (λ w. item ts) (other ts))
item_seen {A = A} {B = B} value item other no_end hi ho =
    item_heads _ (rw (leaf_none value) (ho.eats [])) (λ h. elim (leaf_heads value h no_end) [
      | inl c ↦ inl (item, hi, λ ts. ap (λ (o : Option (Spot × B × List Leaf)). when o (λ w. item (h ∷ ts)) (other (h ∷ ts))) (c.2 ts))
      | inr c ↦ inl (other, ho, λ ts. ap (λ (o : Option (Spot × B × List Leaf)). when o (λ w. item (h ∷ ts)) (other (h ∷ ts))) (c ts))
    ])

pub item_comma : {A B : Type 0} (make : Spot → A → B) (item : List Leaf → Read A) → Local item → LocalItem (behind_comma make item)
item_comma make item h = item_leaf _ (λ c. item c.2 >>= λ x. Ok (make c.0 x.0, x.1)) (λ ts. None) refl
    (λ s b. behind _ (local_bind item (λ x. Ok (make s x.0, x.1)) h (λ a. local_give _))) item_none
