-- The laws of parsing, from those of reading.
use Rattle.std.proofs.Common.{◌≡◌, ℕ, suc, ◌-◌, ◌+◌, List, [], ◌∷◌, length, Result, Ok, Err, refl, sym, ap, ◌∙◌, arith, inl, inr, ◌⊎◌}
use Rattle.std.proofs.Common.{subst}
use Rattle.std.specs.Prelude.{IfOk, IfErr}
use Rattle.ec_grammar.specs.declared.token.Token.{Token}
use Rattle.ec_grammar.specs.declared.Tree.{Tree}
use Rattle.ec_grammar.specs.Tokens.{Placed, view_tokens}
use Rattle.ec_grammar.specs.Trees as t
use Rattle.ec_grammar.specs.Trees.{Leaf}
use Rattle.ec_grammar.specs.Grammar.{leaves_from, Derives}
use Rattle.ec_grammar.specs.Nesting.{Nests}
use Rattle.ec_grammar.specs.Views.{view_tree}
use Rattle.ec_parse_laws.specs.Reading.{Fault, syntax, too_deep, read}
use Rattle.ec_parse_laws.specs.Laws.{tree_of}
use Rattle.ec_parse_laws.specs.Refusals.{place, EndsWithEnd}
use Rattle.ec_parse_laws.proofs.Whole.{reads_every_derivation, derives_one_tree}
use Rattle.ec_parse_laws.proofs.Refusals.{names_token, tree_exactly, syntax_exactly, too_deep_exactly}
use Rattle.ec_parse_tokens.specs.declared.stop.ReadError.{ReadError}
use Rattle.ec_parse_tokens.specs.declared.stop.ReadError.TheVariants as errors
use Rattle.ec_parse.specs.declared.stop.ParseStop.{ParseStop}
use Rattle.ec_parse.specs.declared.stop.ParseStop.TheVariants.{NoMemory, Syntax, TooDeep}
use Rattle.ec_parse_tokens.specs.Reads.{leaves_of, Fails}
use Rattle.ec_parse.specs.Parse.{IsTold, IsRead, IsOnly, IsRefused, IsBadAt}

-- the leaves with their indices from the front
leaves_at : (count n : ℕ) (ts : List Token) → n + length ts ≡ count → leaves_of count ts ≡ leaves_from n (view_tokens ts)
leaves_at count n [] e = refl
leaves_at count n (x ∷ xs) e =
    let index : count - suc (length xs) ≡ n = omega (arith, e) in
    let more = leaves_at count (suc n) xs (omega (arith, e)) in
    rw (index, more) refl

pub all_leaves : (ts : List Token) → leaves_of (length ts) ts ≡ leaves_from 0 (view_tokens ts)
all_leaves ts = leaves_at (length ts) 0 ts (omega arith)

length_view : (ts : List Token) → length (view_tokens ts) ≡ length ts
length_view [] = refl
length_view (x ∷ xs) = ap suc (length_view xs)

-- what reading the leaves gives, by the tokens
pub tree_read : (ts : List Token) → read 64 (leaves_of (length ts) ts) ≡ tree_of 64 (view_tokens ts)
tree_read ts = ap (read 64) (all_leaves ts)

pub is_read : (ts : List Token) (u : Tree) → read 64 (leaves_of (length ts) ts) ≡ Ok (view_tree u) → IsRead (view_tokens ts) (Ok u)
is_read ts u e = sym (tree_read ts) ∙ e

-- the index of a token that reading tells by how many there are from it on
index_of : (ts : List Token) (f : Fault) (n : ℕ) → EndsWithEnd (view_tokens ts) → tree_of 64 (view_tokens ts) ≡ Err f → place f ≡ n
    → (length ts - n) + n ≡ length (view_tokens ts)
index_of ts f n ends e same = omega (arith, (names_token 64 (view_tokens ts) f ends e).1, same, length_view ts)

pub is_refused : (ts : List Token) (stop : ReadError) (told : ParseStop) → EndsWithEnd (view_tokens ts)
    → Fails stop (read 64 (leaves_of (length ts) ts)) → IsTold (length ts) stop told → IsRead (view_tokens ts) (Err told)
is_refused ts errors.NoMemory told ends fails e = subst (λ s. IsRead (view_tokens ts) (Err s)) (sym e) tt
is_refused ts (errors.Syntax n) told ends fails e =
    let is = sym (tree_read ts) ∙ fails in
    subst (λ s. IsRead (view_tokens ts) (Err s)) (sym e) (n, is, index_of ts (syntax n) n ends is refl)
is_refused ts (errors.TooDeep n) told ends fails e =
    let is = sym (tree_read ts) ∙ fails in
    subst (λ s. IsRead (view_tokens ts) (Err s)) (sym e) (n, is, index_of ts (too_deep n) n ends is refl)

pub is_found : (tokens : List Placed) (result : Result Tree ParseStop) → IsRead tokens result
    → IfOk result (λ u. Derives tokens (view_tree u) × Nests (view_tree u))
is_found tokens (Ok u) e = (tree_exactly 64 tokens (view_tree u)).0 e
is_found tokens (Err e) h = tt

pub is_alone : (tokens : List Placed) (result : Result Tree ParseStop) → IsRead tokens result → (u : t.Tree) → Derives tokens u
    → IfOk result (λ v. view_tree v ≡ u)
is_alone tokens (Ok v) e u derives = derives_one_tree tokens (view_tree v) u ((tree_exactly 64 tokens (view_tree v)).0 e).0 derives
is_alone tokens (Err e) h u derives = tt

no_fault : {A : Type 0} {a : A} {f : Fault} (r : Result A Fault) → r ≡ Ok a → r ≡ Err f → ⊥
no_fault r ok err = cc

no_mix : {A : Type 0} {m n : ℕ} (r : Result A Fault) → r ≡ Err (syntax m) → r ≡ Err (too_deep n) → ⊥
no_mix r a b = cc

same_syntax : {A : Type 0} (r : Result A Fault) (m n : ℕ) → r ≡ Err (syntax m) → r ≡ Err (syntax n) → m ≡ n
same_syntax r m n a b = cc

same_depth : {A : Type 0} (r : Result A Fault) (m n : ℕ) → r ≡ Err (too_deep m) → r ≡ Err (too_deep n) → m ≡ n
same_depth r m n a b = cc

pub is_only : (tokens : List Placed) (result : Result Tree ParseStop) → IsRead tokens result → (u : t.Tree) → Derives tokens u → Nests u
    → IsOnly u result
is_only tokens (Ok v) e u derives nests = is_alone tokens (Ok v) e u derives
is_only tokens (Err NoMemory) h u derives nests = tt
is_only tokens (Err (Syntax k)) h u derives nests = no_fault _ ((tree_exactly 64 tokens u).1 (derives, nests)) h.1
is_only tokens (Err (TooDeep k)) h u derives nests = no_fault _ ((tree_exactly 64 tokens u).1 (derives, nests)) h.1

pub is_bad : (tokens : List Placed) (result : Result Tree ParseStop) → EndsWithEnd tokens → IsRead tokens result
    → IfErr result (IsRefused tokens)
is_bad tokens (Ok u) ends e = tt
is_bad tokens (Err NoMemory) ends h = tt
is_bad tokens (Err (Syntax k)) ends h = (
  (syntax_exactly 64 tokens k h.0 ends h.2).0 h.1,
  λ u derives. elim (reads_every_derivation 64 tokens u derives) [ inl e ↦ no_fault _ e h.1 | inr e ↦ no_mix _ h.1 e.1 ],
)
is_bad tokens (Err (TooDeep k)) ends h =
    ((too_deep_exactly 64 tokens k h.0 ends h.2).0 h.1, λ u derives nests. no_fault _ ((tree_exactly 64 tokens u).1 (derives, nests)) h.1)

-- where a token is bad, it is told, unless memory ran out

told_syntax : (tokens : List Placed) (result : Result Tree ParseStop) (k n : ℕ) → IsRead tokens result → tree_of 64 tokens ≡ Err (syntax n)
    → k + n ≡ length tokens → (result ≡ Err (Syntax k)) ⊎ (result ≡ Err NoMemory)
told_syntax tokens (Ok u) k n h e sum = absurd (no_fault _ h e)
told_syntax tokens (Err NoMemory) k n h e sum = inr refl
told_syntax tokens (Err (Syntax j)) k n h e sum =
    let same = same_syntax _ _ _ h.1 e in
    inl (ap (λ i. Err (Syntax i)) (omega (arith, same, h.2, sum)))
told_syntax tokens (Err (TooDeep j)) k n h e sum = absurd (no_mix _ e h.1)

told_depth : (tokens : List Placed) (result : Result Tree ParseStop) (k n : ℕ) → IsRead tokens result → tree_of 64 tokens ≡ Err (too_deep n)
    → k + n ≡ length tokens → (result ≡ Err (TooDeep k)) ⊎ (result ≡ Err NoMemory)
told_depth tokens (Ok u) k n h e sum = absurd (no_fault _ h e)
told_depth tokens (Err NoMemory) k n h e sum = inr refl
told_depth tokens (Err (TooDeep j)) k n h e sum =
    let same = same_depth _ _ _ h.1 e in
    inl (ap (λ i. Err (TooDeep i)) (omega (arith, same, h.2, sum)))
told_depth tokens (Err (Syntax j)) k n h e sum = absurd (no_mix _ h.1 e)

pub is_told : (tokens : List Placed) (result : Result Tree ParseStop) → EndsWithEnd tokens → IsRead tokens result → (stop : ParseStop)
    → IsBadAt tokens stop → (result ≡ Err stop) ⊎ (result ≡ Err NoMemory)
is_told tokens result ends h (Syntax k) bad =
    let sum : k + (length tokens - k) ≡ length tokens = omega (arith, bad.0) in
    told_syntax tokens result k _ h ((syntax_exactly 64 tokens k _ ends sum).1 bad) sum
is_told tokens result ends h (TooDeep k) bad =
    let sum : k + (length tokens - k) ≡ length tokens = omega (arith, bad.0) in
    told_depth tokens result k _ h ((too_deep_exactly 64 tokens k _ ends sum).1 bad) sum
is_told tokens result ends h NoMemory bad = absurd bad
