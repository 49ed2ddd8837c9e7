-- The tokens before a fault, and those that complete them, are a program's.
use Rattle.std.proofs.Common.{◌≡◌, ℕ, suc, ◌-◌, ◌+◌, ◌≤◌, List, [], ◌∷◌, ◌++◌, length, take, Err, refl, sym, ap, ◌∙◌, arith, subst}
use Rattle.std.proofs.Common.{append_assoc, length-append}
use Rattle.std.proofs.lemmas.List.{length-take-le}
use Rattle.ec_grammar.specs.declared.Spot.{Spot}
use Rattle.ec_grammar.specs.Tokens.{Placed}
use Rattle.ec_grammar.specs.Trees as t
use Rattle.ec_grammar.specs.Trees.{Leaf}
use Rattle.ec_grammar.specs.Spelling.{leaf, of_tree}
use Rattle.ec_grammar.specs.Grammar.{leaves_from, Is_tree, Derives}
use Rattle.ec_parse_laws.specs.Reading.{syntax, too_deep}
use Rattle.ec_parse_laws.specs.Laws.{tree_of}
use Rattle.ec_parse_laws.specs.Passing.{PassesTree}
use Rattle.ec_parse_laws.specs.Prefixes.{BeginsBeforeSyntax, PassesWhereTold}
use Rattle.ec_parse_laws.proofs.Completing.{Spotted, added, settled}
use Rattle.ec_parse_laws.proofs.ViableUnits.{PassesAll, read_faults}

-- ---- leaves of tokens

pub leaves_length : (k : ℕ) (xs : List Placed) → length (leaves_from k xs) ≡ length xs
leaves_length k [] = refl
leaves_length k (x ∷ xs) = ap suc (leaves_length (suc k) xs)

leaves_then : (k j : ℕ) (xs ys : List Placed) → j ≡ k + length xs → leaves_from k (xs ++ ys) ≡ leaves_from k xs ++ leaves_from j ys
leaves_then k j [] ys e = ap (λ i. leaves_from i ys) (sym (omega (arith, e)))
leaves_then k j (x ∷ xs) ys e =
    ap (λ z. record { spot = record { index = k; at = x.at }; lexeme = x.lexeme } ∷ z) (leaves_then (suc k) j xs ys (omega (arith, e)))

leaves_front : (k : ℕ) (xs : List Placed) (front more : List Leaf) → leaves_from k xs ≡ front ++ more
    → leaves_from k (take (length front) xs) ≡ front
leaves_front k xs [] more e = refl
leaves_front k [] (y ∷ front) more e = absurd cc
leaves_front k (x ∷ xs) (y ∷ front) more e =
    let rest : leaves_from (suc k) xs ≡ front ++ more = cc in
    let here : record { spot = record { index = k; at = x.at }; lexeme = x.lexeme } ≡ y = cc in
    ap (λ z. record { spot = record { index = k; at = x.at }; lexeme = x.lexeme } ∷ z) (leaves_front (suc k) xs front more rest)
    ∙ ap (λ z. z ∷ front) here

-- the tokens of leaves
abbrev placed : List Leaf → List Placed
placed [] = []
placed (x ∷ xs) = record { at = x.spot.at; lexeme = x.lexeme } ∷ placed xs

placed_length : (xs : List Leaf) → length (placed xs) ≡ length xs
placed_length [] = refl
placed_length (x ∷ xs) = ap suc (placed_length xs)

-- tokens with their indices
placed_back : (k : ℕ) (xs : List Leaf) → Spotted k xs → leaves_from k (placed xs) ≡ xs
placed_back k [] s = refl
placed_back k (x ∷ xs) s =
    let one : leaf (record { index = k; at = x.spot.at }) x.lexeme ≡ x =
    ap (λ (z : Spot). leaf (record { index = k; at = z.at }) x.lexeme) s.0 ∙ ap (λ z. leaf z x.lexeme) (sym s.0) in
    ap (λ z. leaf (record { index = k; at = x.spot.at }) x.lexeme ∷ z) (placed_back (suc k) xs s.1) ∙ ap (λ z. z ∷ xs) one

-- a prefix of the tokens, and others with their indices after it
derived : (tokens : List Placed) (n : ℕ) (front more others : List Leaf) (u : t.Tree) → n ≡ length front
    → leaves_from 0 tokens ≡ front ++ more → of_tree u [] ≡ front ++ others → Spotted n others → Is_tree u
    → Derives (take n tokens ++ placed others) u
derived tokens n front more others u same left right spots is =
    let all : length tokens ≡ length front + length more = sym (leaves_length 0 tokens) ∙ ap length left ∙ length-append front more in
    let many : length (take n tokens) ≡ n = length-take-le n tokens (omega (arith, all, same)) in
    let first : leaves_from 0 (take n tokens) ≡ front =
    ap (λ k. leaves_from 0 (take k tokens)) same ∙ leaves_front 0 tokens front more left in (
      leaves_then 0 n (take n tokens) (placed others) (omega (arith, many)) ∙ ap (λ z. z ++ leaves_from n (placed others)) first
          ∙ ap (λ z. front ++ z) (placed_back n others spots) ∙ sym right,
      is,
    )

-- ---- the laws

pub begins_before_syntax : BeginsBeforeSyntax
begins_before_syntax limit tokens n e =
    let v = read_faults (length tokens - n) limit (leaves_from 0 tokens) (syntax n) e in
    let a = v.agree [] in
    let all : length tokens ≡ length a.front + length v.more =
    sym (leaves_length 0 tokens) ∙ ap length a.left ∙ length-append a.front v.more in (
      placed (v.close []),
      v.tree,
      derived tokens (length tokens - n) a.front v.more (v.close []) v.tree (omega (arith, all, v.told)) a.left a.right
          (v.spots [] tt) v.is,
    )

-- the place of the fault lies within the list
pub syntax_within : (limit : ℕ) (tokens : List Placed) (n : ℕ) → tree_of limit tokens ≡ Err (syntax n) → n ≤ length tokens
syntax_within limit tokens n e =
    let v = read_faults (length tokens - n) limit (leaves_from 0 tokens) (syntax n) e in
    let a = v.agree [] in
    let all : length tokens ≡ length a.front + length v.more =
    sym (leaves_length 0 tokens) ∙ ap length a.left ∙ length-append a.front v.more in
    omega (arith, all, v.told)

passes_tree : (limit : ℕ) (u : t.Tree) (place : ℕ) → PassesAll limit limit u [] place → PassesTree limit u place
passes_tree limit (t.tree all s) place p = p

pub passes_where_told : PassesWhereTold
passes_where_told limit tokens n e =
    let first = suc (length tokens - n) in
    let v = read_faults first limit (leaves_from 0 tokens) (too_deep n) e in
    let a = v.agree [] in
    let d = settled v in
    let front = a.front ++ (d.0 ∷ []) in
    let left : leaves_from 0 tokens ≡ front ++ d.1 = a.left ∙ ap (λ z. a.front ++ z) d.3 ∙ sym (append_assoc a.front (d.0 ∷ []) d.1) in
    let right : of_tree v.tree [] ≡ front ++ d.2 [] =
    a.right ∙ ap (λ z. a.front ++ z) (d.4 []) ∙ sym (append_assoc a.front (d.0 ∷ []) (d.2 [])) in
    let all : length tokens ≡ length a.front + length v.more =
    sym (leaves_length 0 tokens) ∙ ap length a.left ∙ length-append a.front v.more in
    let more : length v.more ≡ n = ap length d.3 ∙ sym d.5 in
    let size : length front ≡ length a.front + 1 = length-append a.front (d.0 ∷ []) in
    let spots : Spotted first (d.2 []) = subst (λ z. Spotted first (added (too_deep n) z)) (d.4 []) (v.spots [] tt) in (
      omega (arith, d.5),
      omega (arith, all, more),
      (
        placed (d.2 []),
        v.tree,
        derived tokens first front d.1 (d.2 []) v.tree (omega (arith, all, more, size)) left right spots v.is,
        passes_tree limit v.tree (suc (length (placed (d.2 []))))
            (subst (λ k. PassesAll limit limit v.tree [] (suc k)) (sym (placed_length (d.2 []))) (d.6 [])),
      ),
    )
