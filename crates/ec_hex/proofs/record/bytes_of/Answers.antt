use Rattle.std.proofs.Common.{◌≡◌, ◌≤◌, ◌+◌, ◌-◌, ◌*◌, ◌∙◌, ◌++◌, ◌∷◌, [], ℕ, List, Bool, true, false, Some, None, length, take, drop}
use Rattle.std.proofs.Common.{get_or, arith, refl, sym, ap, append_assoc}
use Rattle.std.proofs.lemmas.List.{take_all}
use Rattle.std.specs.Prelude.{Option, option_map, if◌then◌else◌}
use Rattle.std.specs.Char.{digit_value, is_digit}
use Rattle.ec_hex.specs.Bytes.{bytes_of}
use Rattle.ec_hex.proofs.record.bytes_of.Goals as goal

-- what a digit gives, where it is one
digit_is : (b : Bool) (value n : ℕ) → (if b then Some value else None) ≡ Some n → (b ≡ true) × (value ≡ n)
digit_is true value n e = (refl, cc)
digit_is false value n e = cc

regroup : (items : List ℕ) (n : ℕ) (more : Option (List ℕ))
    → option_map (λ bytes. items ++ bytes) (option_map (λ bytes. n ∷ bytes) more) ≡ option_map (λ bytes. (items ++ n ∷ []) ++ bytes) more
regroup items n None = refl
regroup items n (Some bytes) = ap Some (sym (append_assoc items (n ∷ []) bytes))

pair_more : (rest items : List ℕ) (high low : ℕ) → 2 ≤ length rest
    → (if is_digit (get_or rest 0 0) 16 then Some (digit_value (get_or rest 0 0)) else None) ≡ Some high
    → (if is_digit (get_or rest 1 0) 16 then Some (digit_value (get_or rest 1 0)) else None) ≡ Some low
    → option_map (λ bytes. items ++ bytes) (bytes_of rest)
    ≡ option_map (λ bytes. (items ++ (16 * high + low) ∷ []) ++ bytes) (bytes_of (take (length rest - 2) (drop 2 rest)))
pair_more [] items high low long first second = absurd (omega (arith, long))
pair_more (c ∷ []) items high low long first second = absurd (omega (arith, long))
pair_more (c ∷ d ∷ more) items high low long first second =
    let c_is = digit_is _ _ _ first in
    let d_is = digit_is _ _ _ second in
    rw (c_is.0, d_is.0, c_is.1, d_is.1, take_all (length (c ∷ d ∷ more) - 2) more (omega arith))
    (regroup items (16 * high + low) (bytes_of more))

pub pairs-preserved : goal.pairs-preserved
pairs-preserved c =
    c.pairs.invariant ∙ pair_more c.pairs.rest.now c.pairs.bytes.items c.in-Some-Some.high c.in-Some-Some.low (omega arith)
    (sym c.digit_number.ensures ∙ c.in-Some-Some.is-0) (sym c.digit_number-in-len2-up.ensures ∙ c.in-Some-Some.is-1)
    ∙ ap
    (λ (items : List ℕ). option_map (λ bytes. items ++ bytes) (bytes_of (take (length c.pairs.rest.now - 2) (drop 2 c.pairs.rest.now))))
    (sym c.in_ok-push.ensures.ok)
