-- The first line of a text.
use Rattle.std.specs.Prelude.{Bool, ◌==◌, position}
use Rattle.std.specs.List.{position_or_len, slice_split}
use Rattle.std.specs.Str.Lines.{lines, lines_of_parts, strip_carriage_return}
use Rattle.std.proofs.lemmas.Bool.{ltb-false}
use Rattle.std.proofs.lemmas.List.Quantifiers.{position-Some}
use Rattle.std.proofs.lemmas.List.Splits.{slice_split_first, slice_split_none, length-slice_split}
use Rattle.std.proofs.lemmas.List.Sums.{fails_before_first}
use Rattle.std.proofs.lemmas.Option.{cond_some}
use Rattle.std.proofs.Common.{◌≡◌, ◌<◌, ◌≤◌, ◌+◌, ℕ, suc, true, false, List, [], ◌∷◌, length, take, drop, Some, None, refl, ap, ◌∙◌, arith}
use Rattle.std.proofs.Common.{cond}
use Rattle.ec_hex.proofs.Lines.{parts-more}

pub lines-at : (text : List ℕ) (end : ℕ) → position (λ c. c == 10) text ≡ Some end
    → lines text ≡ strip_carriage_return (take end text) ∷ lines (drop (end + 1) text)
lines-at text end here =
    let at : position_or_len (λ (c : ℕ). c == 10) text ≡ end = (cond_some _ _ _ here).1 in
    let within : position_or_len (λ (c : ℕ). c == 10) text < length text = rw at (position-Some (λ c. c == 10) text end 0 here).0 in
    ap lines_of_parts (slice_split_first (λ b. b == 10) text 0 within)
    ∙ rw at (parts-more (take end text) (slice_split (λ b. b == 10) (drop (end + 1) text))
    (omega (arith, length-slice_split (λ (b : ℕ). b == 10) (drop (end + 1) text))))

cond_none : (b : Bool) (n : ℕ) → cond b (Some n) None ≡ None → b ≡ false
cond_none true n h = cc
cond_none false n h = refl

not_zero : (n : ℕ) → (suc n == 0) ≡ false
not_zero n = grind arith

pub lines-alone : (text : List ℕ) → position (λ c. c == 10) text ≡ None → 0 < length text → lines text ≡ text ∷ []
lines-alone [] none some = absurd (omega (arith, some))
lines-alone (c ∷ text) none some =
    let past : length (c ∷ text) ≤ position_or_len (λ (b : ℕ). b == 10) (c ∷ text) = ltb-false _ _ (cond_none _ _ none) in
    ap lines_of_parts (slice_split_none (λ b. b == 10) (c ∷ text)
    (λ k d below. fails_before_first (λ b. b == 10) (c ∷ text) k d (omega (arith, past, below))))
    ∙ rw (not_zero (length text)) refl
