-- The words of a text, one by one.
use Rattle.std.specs.Prelude.{Option, ◌==◌, position, option_map, option_and_then, not}
use Rattle.std.specs.List.{position_or_len, slice_split}
use Rattle.std.proofs.lemmas.Bool.{ltb-false}
use Rattle.std.proofs.lemmas.List.Quantifiers.{position-Some}
use Rattle.std.proofs.lemmas.List.Splits.{slice_split_first, slice_split_none}
use Rattle.std.proofs.lemmas.List.Sums.{fails_before_first}
use Rattle.std.proofs.lemmas.Option.{cond_some}
use Rattle.std.proofs.Common.{◌≡◌, ◌<◌, ◌≤◌, ◌+◌, ℕ, Bool, true, false, List, [], ◌∷◌, ◌++◌, length, take, drop, Some, None, refl, sym, ap}
use Rattle.std.proofs.Common.{◌∙◌, arith, cond, append_assoc}
use Rattle.ec_emu.specs.Forms.{byte_of, bytes_of, filled, words}

pub split_at : (text : List ℕ) (end : ℕ) → position (λ c. c == 32) text ≡ Some end
    → slice_split (λ c. c == 32) text ≡ take end text ∷ slice_split (λ c. c == 32) (drop (end + 1) text)
split_at text end here =
    let at : position_or_len (λ (c : ℕ). c == 32) text ≡ end = (cond_some _ _ _ here).1 in
    let within : position_or_len (λ (c : ℕ). c == 32) text < length text = rw at (position-Some (λ c. c == 32) text end 0 here).0 in
    rw at at (slice_split_first (λ c. c == 32) text 0 within)

cond_none : (b : Bool) (n : ℕ) → cond b (Some n) None ≡ None → b ≡ false
cond_none true n h = cc
cond_none false n h = refl

pub split_alone : (text : List ℕ) → position (λ c. c == 32) text ≡ None → slice_split (λ c. c == 32) text ≡ text ∷ []
split_alone text none =
    let past : length text ≤ position_or_len (λ (b : ℕ). b == 32) text = ltb-false _ _ (cond_none _ _ none) in
    slice_split_none (λ c. c == 32) text (λ k d below. fails_before_first (λ c. c == 32) text k d (omega (arith, past, below)))

abbrev joined : Option (List ℕ) → Option (List ℕ) → Option (List ℕ)
joined None more = None
joined (Some bytes) more = option_map (λ rest. bytes ++ rest) more

option_same : (o : Option (List ℕ)) → o ≡ option_map (λ rest. rest) o
option_same None = refl
option_same (Some x) = refl

-- the bytes of a word and of those after it
bytes_of-cons : (word : List ℕ) (parts : List (List ℕ))
    → bytes_of (filled (word ∷ parts)) ≡ joined (bytes_of (filled (word ∷ []))) (bytes_of (filled parts))
bytes_of-cons word parts = by_test (not (length word == 0))
  where
    by_byte : (byte : Option ℕ) → option_and_then (λ b. option_map (λ bytes. b ∷ bytes) (bytes_of (filled parts))) byte
        ≡ joined (option_and_then (λ b. option_map (λ bytes. b ∷ bytes) (Some [])) byte) (bytes_of (filled parts))
    by_byte None = refl
    by_byte (Some b) = refl

    by_test : (b : Bool)
        → bytes_of (cond b (word ∷ filled parts) (filled parts)) ≡ joined (bytes_of (cond b (word ∷ []) [])) (bytes_of (filled parts))
    by_test true = by_byte (byte_of word)
    by_test false = option_same (bytes_of (filled parts))

regroup : (items more : List ℕ) (o : Option (List ℕ))
    → option_map (λ rest. items ++ rest) (option_map (λ rest. more ++ rest) o) ≡ option_map (λ rest. (items ++ more) ++ rest) o
regroup items more None = refl
regroup items more (Some rest) = ap Some (sym (append_assoc items more rest))

pub word_put : (text items more : List ℕ) (end : ℕ) → position (λ c. c == 32) text ≡ Some end
    → bytes_of (filled (take end text ∷ [])) ≡ Some more
    → option_map (λ rest. items ++ rest) (bytes_of (words text))
    ≡ option_map (λ rest. (items ++ more) ++ rest) (bytes_of (words (drop (end + 1) text)))
word_put text items more end here is =
    ap (λ (parts : List (List ℕ)). option_map (λ rest. items ++ rest) (bytes_of (filled parts))) (split_at text end here)
    ∙ ap (λ (o : Option (List ℕ)). option_map (λ rest. items ++ rest) o)
    (bytes_of-cons (take end text) (slice_split (λ c. c == 32) (drop (end + 1) text)))
    ∙ ap (λ (o : Option (List ℕ)). option_map (λ rest. items ++ rest) (joined o (bytes_of (words (drop (end + 1) text))))) is
    ∙ regroup items more (bytes_of (words (drop (end + 1) text)))

pub word_misfit : (text items : List ℕ) (end : ℕ) → position (λ c. c == 32) text ≡ Some end → bytes_of (filled (take end text ∷ [])) ≡ None
    → option_map (λ rest. items ++ rest) (bytes_of (words text)) ≡ None
word_misfit text items end here is =
    ap (λ (parts : List (List ℕ)). option_map (λ rest. items ++ rest) (bytes_of (filled parts))) (split_at text end here)
    ∙ ap (λ (o : Option (List ℕ)). option_map (λ rest. items ++ rest) o)
    (bytes_of-cons (take end text) (slice_split (λ c. c == 32) (drop (end + 1) text)))
    ∙ ap (λ (o : Option (List ℕ)). option_map (λ rest. items ++ rest) (joined o (bytes_of (words (drop (end + 1) text))))) is

pub last_word : (text items : List ℕ) (o : Option (List ℕ)) → position (λ c. c == 32) text ≡ None → bytes_of (filled (text ∷ [])) ≡ o
    → option_map (λ rest. items ++ rest) (bytes_of (words text)) ≡ option_map (λ rest. items ++ rest) o
last_word text items o none is =
    ap (λ (parts : List (List ℕ)). option_map (λ rest. items ++ rest) (bytes_of (filled parts))) (split_alone text none)
    ∙ ap (λ (p : Option (List ℕ)). option_map (λ rest. items ++ rest) p) is
