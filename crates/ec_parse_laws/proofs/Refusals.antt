-- Which token a refusal names.
use Rattle.std.proofs.Common.{◌≡◌, ℕ, zero, suc, ◌+◌, ◌-◌, ◌<◌, ◌≤◌, List, [], ◌∷◌, ◌++◌, length, take, drop, Bool, true, false, Result, Ok}
use Rattle.std.proofs.Common.{Err, refl, sym, ap, ◌∙◌, arith, inl, inr, subst}
use Rattle.std.proofs.lemmas.Bool.{cases_lt}
use Rattle.ec_grammar.specs.Tokens.{Placed}
use Rattle.ec_grammar.specs.Trees as t
use Rattle.ec_grammar.specs.Trees.{Leaf}
use Rattle.ec_grammar.specs.Grammar.{leaves_from, Derives}
use Rattle.ec_parse_laws.specs.Reading.{Fault, syntax, too_deep, read}
use Rattle.ec_parse_laws.specs.Laws.{tree_of}
use Rattle.ec_parse_laws.specs.Passing.{BeginsProgram, PassesAtLast}
use Rattle.ec_parse_laws.specs.Refusals.{place, EndsWithEnd, NoProgramGoesOn, NamesToken, EndsOnce, TreeExactly, NoneOfFirstPasses}
use Rattle.ec_parse_laws.specs.Refusals.{StopsBehind, PassesFirstBehind, SyntaxExactly, TooDeepExactly}
use Rattle.ec_parse_laws.proofs.Local.{fault}
use Rattle.ec_parse_laws.proofs.LocalRead.{same_place, same_kind, read_elsewhere, read_within, read_some}
use Rattle.ec_parse_laws.proofs.Ends.{nothing_after_end}
use Rattle.ec_parse_laws.proofs.Fits.{fits_tree}
use Rattle.ec_parse_laws.proofs.ToldUnits.{tells_in_time}
use Rattle.ec_parse_laws.proofs.Prefixes.{leaves_length, begins_before_syntax, passes_where_told}
use Rattle.ec_parse_laws.proofs.Whole.{reads_derivations_alone, reads_every_derivation}

-- ---- the leaves of a list

-- the index of what follows these tokens
abbrev index_after : ℕ → List Placed → ℕ
index_after n [] = n
index_after n (x ∷ xs) = index_after (suc n) xs

abbrev leaf_at : ℕ → Placed → Leaf
leaf_at n x = record { spot = record { index = n; at = x.at }; lexeme = x.lexeme }

leaves_split : (n : ℕ) (xs : List Placed) (x : Placed) (ys : List Placed)
    → leaves_from n (xs ++ x ∷ ys) ≡ leaves_from n xs ++ leaf_at (index_after n xs) x ∷ leaves_from (suc (index_after n xs)) ys
leaves_split n [] x ys = refl
leaves_split n (y ∷ xs) x ys = ap (λ z. leaf_at n y ∷ z) (leaves_split (suc n) xs x ys)

-- A fault at x or before it is the same whatever follows x.
tree_elsewhere : (limit : ℕ) (kind : Bool) (k : ℕ) (x : Placed) (pre more other : List Placed)
    → tree_of limit (pre ++ x ∷ more) ≡ Err (fault kind (k + suc (length more)))
    → tree_of limit (pre ++ x ∷ other) ≡ Err (fault kind (k + suc (length other)))
tree_elsewhere limit kind k x pre more other e =
    let i : ℕ = suc (index_after 0 pre) in
    let at : k + suc (length more) ≡ k + suc (length (leaves_from i more)) = omega (arith, leaves_length i more) in
    let there : k + suc (length (leaves_from i other)) ≡ k + suc (length other) = omega (arith, leaves_length i other) in
    let moved = read_elsewhere limit kind k (leaf_at (index_after 0 pre) x) (leaves_from 0 pre) (leaves_from i more) (leaves_from i other)
    (ap (read limit) (sym (leaves_split 0 pre x more)) ∙ e ∙ ap (λ n. Err (fault kind n)) at) in
    ap (read limit) (leaves_split 0 pre x other) ∙ moved ∙ ap (λ n. Err (fault kind n)) there

-- ---- a token of a list

-- the token behind the k first ones
abbrev SplitAt : ℕ → List Placed → Type 0
SplitAt k all = (x : Placed) × (all ≡ take k all ++ x ∷ drop (suc k) all)
    × ((more : List Placed) → take (suc k) all ++ more ≡ take k all ++ x ∷ more) × (suc k + length (drop (suc k) all) ≡ length all)

split_at : (k : ℕ) (all : List Placed) → k < length all → SplitAt k all
split_at k [] lt = absurd (omega (arith, lt))
split_at zero (x ∷ xs) lt = (x, refl, λ more. refl, omega arith)
split_at (suc k) (x ∷ xs) lt =
    let s = split_at k xs (omega (arith, lt)) in
    (s.0, ap (λ z. x ∷ z) s.1, λ more. ap (λ z. x ∷ z) (s.2 more), omega (arith, s.3))

-- A fault at this token or before it is the same whatever follows it.
moved_to : (limit : ℕ) (kind : Bool) (i j : ℕ) (all more : List Placed) → j < length all
    → tree_of limit (take (suc j) all ++ more) ≡ Err (fault kind (i + suc (length more)))
    → tree_of limit all ≡ Err (fault kind (i + suc (length (drop (suc j) all))))
moved_to limit kind i j all more lt e =
    let s = split_at j all lt in
    ap (tree_of limit) s.1 ∙ tree_elsewhere limit kind i s.0 (take j all) more (drop (suc j) all) (ap (tree_of limit) (sym (s.2 more)) ∙ e)

moved_from : (limit : ℕ) (kind : Bool) (i j : ℕ) (all more : List Placed) → j < length all
    → tree_of limit all ≡ Err (fault kind (i + suc (length (drop (suc j) all))))
    → tree_of limit (take (suc j) all ++ more) ≡ Err (fault kind (i + suc (length more)))
moved_from limit kind i j all more lt e =
    let s = split_at j all lt in
    ap (tree_of limit) (s.2 more) ∙ tree_elsewhere limit kind i s.0 (take j all) (drop (suc j) all) more (ap (tree_of limit) (sym s.1) ∙ e)

-- fewer tokens of what begins a program begin one
take_more : (j k : ℕ) (all : List Placed) → j ≤ k → (more : List Placed)
    → (after : List Placed) × (take k all ++ more ≡ take j all ++ after)
take_more zero k all le more = (take k all ++ more, refl)
take_more (suc j) zero all le more = absurd (omega (arith, le))
take_more (suc j) (suc k) [] le more = (more, refl)
take_more (suc j) (suc k) (x ∷ xs) le more = let r = take_more j k xs (omega (arith, le)) more in (r.0, ap (λ z. x ∷ z) r.1)

begins_less : (j k : ℕ) (all : List Placed) → j ≤ k → BeginsProgram (take k all) → BeginsProgram (take j all)
begins_less j k all le b = let r = take_more j k all le b.0 in (r.0, b.1, subst (λ z. Derives z b.1) r.1 b.2)

passes_begins : (limit : ℕ) (front : List Placed) → PassesAtLast limit front → BeginsProgram front
passes_begins limit front p = (p.0, p.1, p.2)

whole_begins : (k : ℕ) (all : List Placed) (u : t.Tree) → Derives all u → BeginsProgram (take k all)
whole_begins k all u derives = (drop k all, u, subst (λ z. Derives z u) (sym (take_drop k all)) derives)
  where
    take_drop : (k : ℕ) (all : List Placed) → take k all ++ drop k all ≡ all
    take_drop zero all = refl
    take_drop (suc k) [] = refl
    take_drop (suc k) (x ∷ xs) = ap (λ z. x ∷ z) (take_drop k xs)

-- ---- answers

abbrev Outcome : Type 0
Outcome = Result t.Tree Fault

abbrev failed : Fault → Outcome
failed f = Err f

abbrev made : t.Tree → Outcome
made u = Ok u

ok_no_fault : (u : t.Tree) (f : Fault) → made u ≡ failed f → ⊥
ok_no_fault u f e = cc

syntax_no_deep : (m n : ℕ) → failed (syntax m) ≡ failed (too_deep n) → ⊥
syntax_no_deep m n e = let b : true ≡ false = same_kind true false m n e in cc

-- ---- laws that stand alone

pub names_token : NamesToken
names_token limit all f ends e =
    let leaves : leaves_from 0 all ≡ leaves_from 0 ends.0 ++ leaf_at (index_after 0 ends.0) ends.1 ∷ [] =
    ap (leaves_from 0) ends.2 ∙ leaves_split 0 ends.0 ends.1 [] in (
      read_some limit (leaf_at (index_after 0 ends.0) ends.1) (leaves_from 0 ends.0) f ends.3 (ap (read limit) (sym leaves) ∙ e),
      omega (arith, read_within limit (leaves_from 0 all) f e, leaves_length 0 all),
    )

pub ends_once : EndsOnce
ends_once front more x u is derives = nothing_after_end front more x u is derives

-- no program begins with the tokens up to the one that cannot be gone on with
no_program : (limit k : ℕ) (all : List Placed) (n : ℕ) → k < length all → k + n ≡ length all → tree_of limit all ≡ Err (syntax n)
    → BeginsProgram (take (suc k) all) → ⊥
no_program limit k all n lt at e begins =
    let s = split_at k all lt in
    let count : n ≡ 0 + suc (length (drop (suc k) all)) = omega (arith, at, s.3) in
    let elsewhere = moved_from limit true 0 k all begins.0 lt (e ∙ ap (λ m. failed (syntax m)) count) in
    elim (reads_every_derivation limit (take (suc k) all ++ begins.0) begins.1 begins.2) [
      | inl r ↦ ok_no_fault _ _ (sym r ∙ elsewhere)
      | inr r ↦ syntax_no_deep _ _ (sym elsewhere ∙ r.1)
    ]

pub no_program_goes_on : NoProgramGoesOn
no_program_goes_on limit all n ends e =
    let named = names_token limit all (syntax n) ends e in (
      named.0,
      named.1,
      λ begins. no_program limit (length all - n) all n (omega (arith, named.0, named.1)) (omega (arith, named.1)) e begins,
    )

-- ---- each answer exactly

pub tree_exactly : TreeExactly
tree_exactly limit all u = (
  λ e. (reads_derivations_alone limit all u e, fits_tree limit all u e),
  λ both. elim (reads_every_derivation limit all u both.0) [ inl e ↦ e | inr e ↦ absurd (e.2 both.1) ],
)

-- where a token passes the limit in a program, that or one before it is told, in any list with these tokens before it
told_here : (limit j : ℕ) (all : List Placed) → j < length all → PassesAtLast limit (take (suc j) all)
    → (i : ℕ) × (tree_of limit all ≡ Err (too_deep (i + suc (length (drop (suc j) all)))))
told_here limit j all lt passes =
    let r = tells_in_time limit (take (suc j) all ++ passes.0) passes.1 (suc (length passes.0)) passes.2 passes.3 in
    let i : ℕ = r.0 - suc (length passes.0) in
    let count : r.0 ≡ i + suc (length passes.0) = omega (arith, r.2) in
    (i, moved_to limit false i j all passes.0 lt (r.1 ∙ ap (λ m. failed (too_deep m)) count))

-- no token before the one that is named passes the limit
none_passes : (limit k : ℕ) (all : List Placed) (f : Fault) → k + place f ≡ length all → tree_of limit all ≡ Err f
    → NoneOfFirstPasses limit k all
none_passes limit k all (syntax n) at e j lt passes =
    let r = told_here limit j all (omega (arith, lt, at)) passes in
    syntax_no_deep _ _ (sym e ∙ r.1)
none_passes limit k all (too_deep n) at e j lt passes =
    let in_list : j < length all = omega (arith, lt, at) in
    let r = told_here limit j all in_list passes in
    let same : n ≡ r.0 + suc (length (drop (suc j) all)) = same_place false false _ _ (sym e ∙ r.1) in
    omega (arith, same, at, lt, (split_at j all in_list).3)

stops_behind : (limit k : ℕ) (all : List Placed) (n : ℕ) → EndsWithEnd all → k + n ≡ length all → tree_of limit all ≡ Err (syntax n)
    → StopsBehind limit k all
stops_behind limit k all n ends at e =
    let named = names_token limit all (syntax n) ends e in
    let lt : k < length all = omega (arith, at, named.0) in
    let count : length all - n ≡ k = omega (arith, at) in (
      lt,
      subst (λ m. BeginsProgram (take m all)) count (begins_before_syntax limit all n e),
      no_program limit k all n lt at e,
      none_passes limit k all (syntax n) at e,
    )

passes_first : (limit k : ℕ) (all : List Placed) (n : ℕ) → EndsWithEnd all → k + n ≡ length all → tree_of limit all ≡ Err (too_deep n)
    → PassesFirstBehind limit k all
passes_first limit k all n ends at e =
    let named = names_token limit all (too_deep n) ends e in
    let count : length all - n ≡ k = omega (arith, at) in (
      omega (arith, at, named.0),
      subst (λ m. PassesAtLast limit (take (suc m) all)) count (passes_where_told limit all n e).2,
      none_passes limit k all (too_deep n) at e,
    )

-- the answer where the k first tokens begin a program and with the next one begin none
stops_only : (limit k : ℕ) (all : List Placed) (n : ℕ) → EndsWithEnd all → k + n ≡ length all → StopsBehind limit k all
    → tree_of limit all ≡ Err (syntax n)
stops_only limit k all n ends at stops = go (tree_of limit all) refl
  where
    go : (r : Outcome) → tree_of limit all ≡ r → r ≡ Err (syntax n)
    go (Ok u) e = absurd (stops.2 (whole_begins (suc k) all u (reads_derivations_alone limit all u e)))
    go (Err (syntax m)) e =
        let named = names_token limit all (syntax m) ends e in
        let i : ℕ = length all - m in
        let s = stops_behind limit i all m ends (omega (arith, named.1)) e in
        elim (cases_lt i k) [
          | inl lt ↦ absurd (s.2 (begins_less (suc i) k all lt stops.1))
          | inr ge ↦ elim (cases_lt k i) [
            | inl lt ↦ absurd (stops.2 (begins_less (suc k) i all lt s.1))
            | inr le ↦ let same : m ≡ n = omega (arith, ge, le, at, named.1) in ap (λ z. failed (syntax z)) same
          ]
        ]
    go (Err (too_deep m)) e =
        let named = names_token limit all (too_deep m) ends e in
        let i : ℕ = length all - m in
        let s = passes_first limit i all m ends (omega (arith, named.1)) e in
        elim (cases_lt i k) [
          | inl lt ↦ absurd (stops.3 i lt s.1)
          | inr ge ↦ absurd (stops.2 (begins_less (suc k) (suc i) all (omega (arith, ge)) (passes_begins limit _ s.1)))
        ]

passes_only : (limit k : ℕ) (all : List Placed) (n : ℕ) → EndsWithEnd all → k + n ≡ length all → PassesFirstBehind limit k all
    → tree_of limit all ≡ Err (too_deep n)
passes_only limit k all n ends at first =
    let r = told_here limit k all first.0 first.1 in
    let m : ℕ = r.0 + suc (length (drop (suc k) all)) in
    let named = names_token limit all (too_deep m) ends r.1 in
    let i : ℕ = length all - m in
    let s = passes_first limit i all m ends (omega (arith, named.1)) r.1 in
    elim (cases_lt i k) [
      | inl lt ↦ absurd (first.2 i lt s.1)
      | inr ge ↦ let same : m ≡ n = omega (arith, ge, at, named.1, (split_at k all first.0).3) in r.1 ∙ ap (λ z. failed (too_deep z)) same
    ]

pub syntax_exactly : SyntaxExactly
syntax_exactly limit all k n ends at = (λ e. stops_behind limit k all n ends at e, λ s. stops_only limit k all n ends at s)

pub too_deep_exactly : TooDeepExactly
too_deep_exactly limit all k n ends at = (λ e. passes_first limit k all n ends at e, λ s. passes_only limit k all n ends at s)
