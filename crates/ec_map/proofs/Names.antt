-- Names that are distinct, and choices of which no group and no base stands twice.
use Rattle.std.proofs.Common.{◌≡◌, ℕ, ◌≤◌, ◌-◌, Bool, true, false, not, ◌&&◌, ◌||◌, List, [], ◌∷◌, ◌++◌, length, take, drop, map}
use Rattle.std.proofs.Common.{get_or, refl, ap, arith}
use Rattle.std.proofs.lemmas.List.Folds.{list_any-append}
use Rattle.std.specs.List.{list_all, list_any}
use Rattle.std.specs.Str.{bytes_eq}
use Rattle.toml.specs.declared.value.Value.{Value}
use Rattle.toml.specs.View.{view}
use Rattle.toml.specs.Data.{Data}
use Rattle.ec_map.specs.Rules.{name_of, are_distinct, meet, stand_once}
use Rattle.ec_map.proofs.Arrays.{list_any-viewed}

take_all : (vs : List Value) → take (length vs) vs ≡ vs
take_all [] = refl
take_all (v ∷ vs) = ap (λ ws. v ∷ ws) (take_all vs)

-- names are distinct where the first is not among the others, and the others are distinct
pub names_from : (vs : List Value) (x : Value) → 1 ≤ length vs → x ≡ get_or vs 0 x
    → are_distinct (map name_of (map view vs))
    ≡ (not (list_any (λ v. bytes_eq (name_of (view x)) (name_of (view v))) (take (length vs - 1) (drop 1 vs)))
    && are_distinct (map name_of (map view (take (length vs - 1) (drop 1 vs)))))
names_from [] x some is = absurd (omega arith)
names_from (v ∷ vs) x some is =
    let n : length (v ∷ vs) - 1 ≡ length vs = omega arith in
    rw (
      is,
      n,
      take_all vs,
      list_any-viewed (bytes_eq (name_of (view v))) name_of (map view vs),
      list_any-viewed (λ d. bytes_eq (name_of (view v)) (name_of d)) view vs,
    ) refl

-- no group and no base stands twice where the first choice meets none of the others, and none does among the others
pub once_from : (groups : List Data) (vs : List Value) (x : Value) → 1 ≤ length vs → x ≡ get_or vs 0 x
    → stand_once groups (map view vs)
    ≡ (not (list_any (λ v. meet groups (view x) (view v)) (take (length vs - 1) (drop 1 vs)))
    && stand_once groups (map view (take (length vs - 1) (drop 1 vs))))
once_from groups [] x some is = absurd (omega arith)
once_from groups (v ∷ vs) x some is =
    let n : length (v ∷ vs) - 1 ≡ length vs = omega arith in
    rw (is, n, take_all vs, list_any-viewed (meet groups (view v)) view vs) refl

-- ---- names of two lists

split : (a b c e f : Bool) → (not (a || b) && ((c && e) && f)) ≡ (((not a && c) && e) && (not b && f))
split true b c e f = refl
split false true true true f = refl
split false true true false f = refl
split false true false e f = refl
split false false c e f = refl

-- names of both lists are distinct where those of each are, and none of the one stands in the other
pub distinct-append : (names others : List (List ℕ))
    → are_distinct (names ++ others)
    ≡ ((are_distinct names && are_distinct others) && list_all (λ name. not (list_any (bytes_eq name) others)) names)
distinct-append [] others = and_true (are_distinct others) where
  and_true : (b : Bool) → b ≡ (b && true)
  and_true true = refl
  and_true false = refl
distinct-append (name ∷ names) others =
    let apart = list_all (λ x. not (list_any (bytes_eq x) others)) names in
    rw (list_any-append (bytes_eq name) names others, distinct-append names others)
    (split (list_any (bytes_eq name) names) (list_any (bytes_eq name) others) (are_distinct names) (are_distinct others) apart)

-- no name of some values stands among those of others
pub share_none-viewed : (vs others : List Value)
    → list_all (λ name. not (list_any (bytes_eq name) (map name_of (map view others)))) (map name_of (map view vs))
    ≡ list_all (λ v. not (list_any (λ o. bytes_eq (name_of (view v)) (name_of (view o))) others)) vs
share_none-viewed [] others = refl
share_none-viewed (v ∷ vs) others =
    let name = name_of (view v) in
    rw (
      share_none-viewed vs others,
      list_any-viewed (bytes_eq name) name_of (map view others),
      list_any-viewed (λ d. bytes_eq name (name_of d)) view others,
    ) refl
