-- A list of tokens is read without a look past the first token that cannot be gone on with.
use Rattle.std.proofs.Common.{◌≡◌, ℕ, suc, ◌+◌, ◌<◌, ◌≤◌, List, [], ◌∷◌, ◌++◌, length, Bool, true, false, Result, Ok, Err, refl, sym, ap}
use Rattle.std.proofs.Common.{◌∙◌, arith, inl, inr, ◌⊎◌, length-append}
use Rattle.ec_grammar.specs.declared.Spot.{Spot}
use Rattle.ec_grammar.specs.Tokens as tokens
use Rattle.ec_grammar.specs.Tokens.{Lexeme}
use Rattle.ec_grammar.specs.Trees as t
use Rattle.ec_grammar.specs.Trees.{Leaf}
use Rattle.ec_parse_laws.specs.Reading.{Fault, syntax, too_deep, Read, ◌>>=◌, leaf_if, end_of, needed, many, external_at, unit_by, within}
use Rattle.ec_parse_laws.specs.Reading.{whole, read}
use Rattle.ec_parse_laws.specs.Refusals.{place}
use Rattle.ec_parse_laws.proofs.Local.{fault, Within, Same, kept, faulted, passed}
use Rattle.ec_parse_laws.proofs.LocalItems.{local_many}
use Rattle.ec_parse_laws.proofs.LocalExpressions.{bind_bind}
use Rattle.ec_parse_laws.proofs.LocalUnits.{local_within, item_external}

abbrev Units : Type 0
Units = List t.External

abbrev Outcome : Type 0
Outcome = Result t.Tree Fault

abbrev failed : Fault → Outcome
failed f = Err f

-- ---- faults

kind_of : Fault → Bool
kind_of (syntax n) = true
kind_of (too_deep n) = false

kind_fault : (kind : Bool) (n : ℕ) → kind_of (fault kind n) ≡ kind
unfolding kind_of
kind_fault true n = refl
kind_fault false n = refl

place_fault : (kind : Bool) (n : ℕ) → place (fault kind n) ≡ n
place_fault true n = refl
place_fault false n = refl

failed_is : (f g : Fault) → failed f ≡ failed g → f ≡ g
failed_is f g e = cc

pub same_place : (a b : Bool) (m n : ℕ) → failed (fault a m) ≡ failed (fault b n) → m ≡ n
same_place a b m n e = sym (place_fault a m) ∙ ap place (failed_is _ _ e) ∙ place_fault b n

pub same_kind : (a b : Bool) (m n : ℕ) → failed (fault a m) ≡ failed (fault b n) → a ≡ b
same_kind a b m n e = sym (kind_fault a m) ∙ ap kind_of (failed_is _ _ e) ∙ kind_fault b n

-- ---- the end of a unit

-- what is made of the units that were read and the tokens that they leave
abbrev ending : Units × List Leaf → Outcome
ending u = (needed (leaf_if end_of u.1) u.1 >>= λ e. Ok (t.tree u.0 e.0, e.1)) >>= λ w. whole w

read_is : (limit : ℕ) (ts : List Leaf) → read limit ts ≡ (many (external_at (within limit limit)) ts >>= ending)
unfolding read unit_by
read_is limit ts = bind_bind (many (external_at (within limit limit)) ts) _ _

-- By its first token the end is there, and then it is a fault for tokens to follow it; or it is not there.
abbrev EndsAt : Units → Leaf → Type 0
EndsAt us h = ((h.lexeme ≡ tokens.end) × ((ts : List Leaf) → ending (us, h ∷ ts) ≡ whole (t.tree us h.spot, ts)))
    ⊎ ((ts : List Leaf) → ending (us, h ∷ ts) ≡ Err (syntax (suc (length ts))))

ends_at : (us : Units) (s : Spot) (x : Lexeme) → EndsAt us (record { spot = s; lexeme = x })
unfolding leaf_if
ends_at us s tokens.end = inl (refl, λ ts. refl)
ends_at us s _ = inr (λ ts. refl)

-- tokens that are left are a fault at the first of them
left : (u : t.Tree) (pre : List Leaf) (x : Leaf) (more : List Leaf) → whole (u, pre ++ x ∷ more) ≡ Err (syntax (length (pre ++ x ∷ more)))
left u [] x more = refl
left u (h ∷ pre) x more = refl

ending_place : (us : Units) (ts : List Leaf) (f : Fault) → ending (us, ts) ≡ Err f → place f ≤ length ts
unfolding leaf_if
ending_place us [] f e = let is : syntax 0 ≡ f = failed_is _ _ e in omega (arith, ap place is)
ending_place us (h ∷ ts) f e = elim (ends_at us h.spot h.lexeme) [
  | inl c ↦ go ts (sym (c.1 ts) ∙ e)
  | inr c ↦ let is : syntax (suc (length ts)) ≡ f = failed_is _ _ (sym (c ts) ∙ e) in omega (arith, ap place is)
]
  where
    go : (rest : List Leaf) → whole (t.tree us h.spot, rest) ≡ Err f → place f ≤ suc (length rest)
    go [] k = absurd cc
    go (x ∷ xs) k = let is : syntax (suc (length xs)) ≡ f = failed_is _ _ k in omega (arith, ap place is)

-- a fault at the first of these tokens is one at the first of those
moved : (kind : Bool) (k : ℕ) (x : Leaf) (pre more other : List Leaf)
    → failed (syntax (length (pre ++ x ∷ more))) ≡ failed (fault kind (k + suc (length more)))
    → failed (syntax (length (pre ++ x ∷ other))) ≡ failed (fault kind (k + suc (length other)))
moved kind k x pre more other e =
    let at : length (pre ++ x ∷ more) ≡ k + suc (length more) = same_place true kind _ _ e in
    let of_kind : true ≡ kind = same_kind true kind _ _ e in
    let here : length (pre ++ x ∷ other) ≡ k + suc (length other) =
    omega (arith, at, length-append pre (x ∷ more), length-append pre (x ∷ other)) in
    ap (λ n. failed (syntax n)) here ∙ ap (λ b. failed (fault b (k + suc (length other)))) of_kind

ending_moved : (us : Units) (kind : Bool) (k : ℕ) (x : Leaf) (pre more other : List Leaf)
    → ending (us, pre ++ x ∷ more) ≡ Err (fault kind (k + suc (length more)))
    → ending (us, pre ++ x ∷ other) ≡ Err (fault kind (k + suc (length other)))
ending_moved us kind k x [] more other e = elim (ends_at us x.spot x.lexeme) [
  | inl c ↦ absurd (go more (sym (c.1 more) ∙ e))
  | inr c ↦ c other ∙ moved kind k x [] more other (sym (c more) ∙ e)
]
  where
    go : (rest : List Leaf) → whole (t.tree us x.spot, rest) ≡ failed (fault kind (k + suc (length rest))) → ⊥
    go [] f = cc
    go (y ∷ ys) f = let at : suc (length ys) ≡ k + suc (suc (length ys)) = same_place true kind _ _ f in omega (arith, at)
ending_moved us kind k x (h ∷ pre) more other e = elim (ends_at us h.spot h.lexeme) [
  | inl c ↦ c.1 (pre ++ x ∷ other) ∙ left (t.tree us h.spot) pre x other
      ∙ moved kind k x pre more other (sym (left (t.tree us h.spot) pre x more) ∙ sym (c.1 (pre ++ x ∷ more)) ∙ e)
  | inr c ↦ c (pre ++ x ∷ other) ∙ moved kind k x (h ∷ pre) more other (sym (c (pre ++ x ∷ more)) ∙ e)
]

-- a fault lies within what an answer leaves
bound_ending : (n : ℕ) (r : Read Units) (f : Fault) → Within 0 n r → (r >>= ending) ≡ Err f → place f ≤ n
bound_ending n (Ok y) f h e = omega (arith, h, ending_place y.0 y.1 f e)
bound_ending n (Err d) f h e = let is : d ≡ f = failed_is _ _ e in omega (arith, h, ap place is)

same_ending : (x : Leaf) (more other : List Leaf) (r q : Read Units) (kind : Bool) (k : ℕ) → Same x more other r q
    → (r >>= ending) ≡ Err (fault kind (k + suc (length more))) → (q >>= ending) ≡ Err (fault kind (k + suc (length other)))
same_ending x more other r q kind k (kept us pre) e = ending_moved us kind k x pre more other e
same_ending x more other r q kind k (faulted b j) e =
    let at : j + suc (length more) ≡ k + suc (length more) = same_place b kind _ _ e in
    let of_kind : b ≡ kind = same_kind b kind _ _ e in
    let count : j ≡ k = omega (arith, at) in
    ap (λ n. failed (fault b (n + suc (length other)))) count ∙ ap (λ c. failed (fault c (k + suc (length other)))) of_kind
same_ending x more other r q kind k (passed no_end le) e =
    absurd (omega (arith, bound_ending (length more) r (fault kind (k + suc (length more))) le e, place_fault kind (k + suc (length more))))

-- A fault at x or before it is the same whatever follows x.
pub read_elsewhere : (limit : ℕ) (kind : Bool) (k : ℕ) (x : Leaf) (pre more other : List Leaf)
    → read limit (pre ++ x ∷ more) ≡ Err (fault kind (k + suc (length more)))
    → read limit (pre ++ x ∷ other) ≡ Err (fault kind (k + suc (length other)))
read_elsewhere limit kind k x pre more other e =
    read_is limit (pre ++ x ∷ other)
    ∙ same_ending x more other _ _ kind k ((local_many _ (item_external (within limit limit) (local_within limit limit))).same x more other
    pre) (sym (read_is limit (pre ++ x ∷ more)) ∙ e)

-- A fault lies within the list.
pub read_within : (limit : ℕ) (ts : List Leaf) (f : Fault) → read limit ts ≡ Err f → place f ≤ length ts
read_within limit ts f e = bound_ending (length ts) _ f
    ((local_many _ (item_external (within limit limit) (local_within limit limit))).bounded ts) (sym (read_is limit ts) ∙ e)

-- ---- a list that ends with its end

left_some : (u : t.Tree) (pre : List Leaf) (x : Leaf) (f : Fault) → whole (u, pre ++ x ∷ []) ≡ Err f → 0 < place f
left_some u pre x f e =
    let is : syntax (length (pre ++ x ∷ [])) ≡ f = failed_is _ _ (sym (left u pre x []) ∙ e) in
    omega (arith, ap place is, length-append pre (x ∷ []))

ending_some : (us : Units) (x : Leaf) (pre : List Leaf) (f : Fault) → x.lexeme ≡ tokens.end
    → ending (us, pre ++ x ∷ []) ≡ Err f → 0 < place f
ending_some us x [] f is e = elim (ends_at us x.spot x.lexeme) [
  | inl c ↦ absurd (never (sym (c.1 []) ∙ e))
  | inr c ↦ let at : syntax 1 ≡ f = failed_is _ _ (sym (c []) ∙ e) in omega (arith, ap place at)
]
  where
    never : {u : t.Tree} → whole (u, []) ≡ failed f → ⊥
    never e = cc
ending_some us x (h ∷ pre) f is e = elim (ends_at us h.spot h.lexeme) [
  | inl c ↦ left_some (t.tree us h.spot) pre x f (sym (c.1 (pre ++ x ∷ [])) ∙ e)
  | inr c ↦ let at : syntax (suc (length (pre ++ x ∷ []))) ≡ f = failed_is _ _ (sym (c (pre ++ x ∷ [])) ∙ e) in omega (arith, ap place at)
]

same_some : (x : Leaf) (r q : Read Units) (f : Fault) → Same x [] [] r q → x.lexeme ≡ tokens.end → (r >>= ending) ≡ Err f → 0 < place f
same_some x r q f (kept us pre) is e = ending_some us x pre f is e
same_some x r q f (faulted b j) is e = let at : fault b (j + 1) ≡ f = failed_is _ _ e in omega (arith, place_fault b (j + 1), ap place at)
same_some x r q f (passed no_end le) is e = absurd (no_end is)

-- Where a list ends with its end, a fault is at one of its tokens.
pub read_some : (limit : ℕ) (x : Leaf) (pre : List Leaf) (f : Fault) → x.lexeme ≡ tokens.end
    → read limit (pre ++ x ∷ []) ≡ Err f → 0 < place f
read_some limit x pre f is e =
    same_some x _ _ f ((local_many _ (item_external (within limit limit) (local_within limit limit))).same x [] [] pre) is
    (sym (read_is limit (pre ++ x ∷ [])) ∙ e)
