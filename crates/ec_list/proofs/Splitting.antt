-- A text up to its first line feed.
use Rattle.std.proofs.Common.{◌≡◌, ◌<◌, ℕ, suc, ◌+◌, Bool, true, false, not, ◌&&◌, List, [], ◌∷◌, ◌++◌, length, take, drop, Some, None}
use Rattle.std.proofs.Common.{cond, refl, ap, subst, arith}
use Rattle.std.specs.Prelude.{◌==◌, position}
use Rattle.std.specs.List.{position_or_len}
use Rattle.std.proofs.lemmas.Bool.{ltb-true, ltb-false, eqb-true}
use Rattle.std.proofs.lemmas.Option.{cond_some}
use Rattle.ec_list.specs.Assembling.{has_no_end}

abbrev is_end : ℕ → Bool
is_end c = c == 10

-- where the first line feed stands the text falls in two
split_here : (text : List ℕ) → position_or_len is_end text < length text
    → (text ≡ take (position_or_len is_end text) text ++ 10 ∷ drop (position_or_len is_end text + 1) text)
    × (has_no_end (take (position_or_len is_end text) text) ≡ true)
split_here [] h = absurd (omega (arith, h))
split_here (c ∷ text) h = by_test (c == 10) refl (λ l. split_here text l) h
  where
    by_test : (b : Bool) → (c == 10) ≡ b
        → (position_or_len is_end text < length text
        → (text ≡ take (position_or_len is_end text) text ++ 10 ∷ drop (position_or_len is_end text + 1) text)
        × (has_no_end (take (position_or_len is_end text) text) ≡ true))
        → cond (not b) (1 + position_or_len is_end text) 0 < suc (length text)
        → (c ∷ text ≡ take (cond (not b) (1 + position_or_len is_end text) 0) (c ∷ text)
        ++ 10 ∷ drop (cond (not b) (1 + position_or_len is_end text) 0 + 1) (c ∷ text))
        × (has_no_end (take (cond (not b) (1 + position_or_len is_end text) 0) (c ∷ text)) ≡ true)
    by_test true e ih less = (ap (λ x. x ∷ text) (eqb-true c 10 e), refl)
    by_test false e ih less =
        let n : ℕ = position_or_len is_end text in
        let i = ih (omega (arith, less)) in
        let first : 1 + n ≡ suc n = omega arith in
        let next : 1 + n + 1 ≡ suc (n + 1) = omega arith in
        rw (next, first) (ap (λ t. c ∷ t) i.0, rw e i.1)

-- where none stands the text has none
none_here : (text : List ℕ) → (position_or_len is_end text < length text → ⊥) → has_no_end text ≡ true
none_here [] h = refl
none_here (c ∷ text) h = by_test (c == 10) refl (λ l. none_here text l) h
  where
    by_test : (b : Bool) → (c == 10) ≡ b → ((position_or_len is_end text < length text → ⊥) → has_no_end text ≡ true)
        → (cond (not b) (1 + position_or_len is_end text) 0 < suc (length text) → ⊥)
        → (not b && has_no_end text) ≡ true
    by_test true e ih less = absurd (less (omega arith))
    by_test false e ih less = ih (λ l. less (omega (arith, l)))

cond_none : (b : Bool) (n : ℕ) → cond b (Some n) None ≡ None → b ≡ false
cond_none true n h = cc
cond_none false n h = refl

pub split_at : (text : List ℕ) (end : ℕ) → position is_end text ≡ Some end
    → (text ≡ take end text ++ 10 ∷ drop (end + 1) text) × (has_no_end (take end text) ≡ true)
split_at text end here =
    let c = cond_some _ _ _ here in
    let s = split_here text (ltb-true (position_or_len is_end text) (length text) c.0) in
    subst (λ n. (text ≡ take n text ++ 10 ∷ drop (n + 1) text) × (has_no_end (take n text) ≡ true)) c.1 s

pub split_none : (text : List ℕ) → position is_end text ≡ None → has_no_end text ≡ true
split_none text none =
    let past = ltb-false (position_or_len is_end text) (length text) (cond_none _ _ none) in
    none_here text (λ l. omega (arith, past, l))
