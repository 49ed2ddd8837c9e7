-- Taking a line apart.
use Rattle.std.proofs.Common.{◌≡◌, ◌≢◌, ℕ, zero, suc, ◌<◌, ◌≤◌, ◌+◌, ◌-◌, List, [], ◌∷◌}
use Rattle.std.proofs.Common.{◌++◌, length, get_or, take, drop, refl, sym, ◌∙◌, ap, subst, arith, Bor}
use Rattle.std.specs.Prelude.{Bool, true, false, cond, ◌&&◌, nat_lt, ◌^◌, Option, Some}
use Rattle.std.specs.Prelude.{None, Result, Ok, Err, OkIff, MatchOption, if◌then◌else◌, ◌==◌, option_map}
use Rattle.std.specs.Result.{result_ok}
use Rattle.std.specs.Char.{digit_value}
use Rattle.std.specs.Str.Parse.{AllDigits, IsNumeral, digits_value, without_leading_plus}
use Rattle.std.specs.Str.Pattern.{RFindsChar, FindsTextPrefix, FindsText, SplitsAroundMatch, StripsPrefix}
use Rattle.std.specs.Str.{NoCharPasses}
use Rattle.std.proofs.lemmas.Str.Pattern.{NoCharPasses-char, drop_at_char}
use Rattle.std.proofs.lemmas.List.{take-append-drop}
use Rattle.std.proofs.lemmas.Bool.{eqb-true, eqb-false, eq-eqb, ne_eqb, ltb-true, lt-ltb, and_parts, and_from}
use Rattle.std.proofs.lemmas.Option.{none-some}
use Rattle.ec_where_lines.specs.Parts.{are_digits, number_of, behind, around, around_from, longer, around_last, last_from}
use Rattle.ec_where_lines.specs.Fault.{IsNowhere}

-- ---- the last place of a byte

nowhere_tail : (c b : ℕ) (s : List ℕ) → IsNowhere c (b ∷ s) → IsNowhere c s
nowhere_tail c b s h k l = h (suc k) (omega arith)

nowhere_head : (c b : ℕ) (s : List ℕ) → IsNowhere c (b ∷ s) → (b == c) ≡ false
nowhere_head c b s h = ne_eqb b c (h 0 (omega arith))

last_none : (c : ℕ) (s : List ℕ) → IsNowhere c s → around_last c s ≡ None
last_none c [] h = refl
last_none c (b ∷ s) h = rw (last_none c s (nowhere_tail c b s h), nowhere_head c b s h) refl

pub last_at : (c : ℕ) (front back : List ℕ) → IsNowhere c back → around_last c (front ++ (c ∷ back)) ≡ Some (front, back)
last_at c [] back h = rw (last_none c back h, eq-eqb c c refl) refl
last_at c (b ∷ front) back h = rw (last_at c front back h) refl

last_step_is : (c b : ℕ) (s front back : List ℕ) (t : Bool) → (b == c) ≡ t
    → cond t (Some (let r : List ℕ × List ℕ = ([], s) in r)) None ≡ Some (front, back) → b ∷ s ≡ front ++ (c ∷ back)
last_step_is c b s front back true t e =
    let same : b ≡ c = eqb-true b c t in
    let f : [] ≡ front = ap (λ o. elim o as (λ _. List ℕ) [ None ↦ [] | Some x ↦ x.0 ]) e in
    let r : s ≡ back = ap (λ o. elim o as (λ _. List ℕ) [ None ↦ [] | Some x ↦ x.1 ]) e in
    cc
last_step_is c b s front back false t e = cc

pub last_is : (c : ℕ) (s front back : List ℕ) → around_last c s ≡ Some (front, back) → s ≡ front ++ (c ∷ back)
last_is c [] front back e = cc
last_is c (b ∷ s) front back e =
    elim (around_last c s) as (λ o. around_last c s ≡ o → last_from c b s o ≡ Some (front, back) → b ∷ s ≡ front ++ (c ∷ back)) [
      | None ↦ λ _ h. last_step_is c b s front back (b == c) refl h
      | Some x ↦ λ h k.
          let more : s ≡ x.0 ++ (c ∷ x.1) = last_is c s x.0 x.1 h in
          let f : b ∷ x.0 ≡ front = ap (λ o. elim o as (λ _. List ℕ) [ None ↦ [] | Some y ↦ y.0 ]) k in
          let r : x.1 ≡ back = ap (λ o. elim o as (λ _. List ℕ) [ None ↦ [] | Some y ↦ y.1 ]) k in
          ap (λ l. b ∷ l) more ∙ ap (λ l. l ++ (c ∷ x.1)) f ∙ ap (λ l. front ++ (c ∷ l)) r
    ] refl e

-- what a search for the last place of an ASCII character finds
pub last_found : (c : ℕ) (s : List ℕ) (i j : ℕ) → c < 128 → RFindsChar c s (Some (i, j)) → around_last c s ≡ Some (take i s, drop j s)
last_found c s i j small h =
    let whole : take i s ++ (c ∷ drop j s) ≡ s = ap (λ l. take i s ++ l) (sym (drop_at_char c s i j h.1 small)) ∙ take-append-drop i s in
    ap (around_last c) (sym whole) ∙ last_at c (take i s) (drop j s) (λ k l. NoCharPasses-char c (drop j s) k h.0 small l)

pub last_missed : (c : ℕ) (s : List ℕ) → c < 128 → NoCharPasses (λ d. d == c) s → around_last c s ≡ None
last_missed c s small h = last_none c s (λ k l. NoCharPasses-char c s k h small l)

pub around_last_is : (c : ℕ) (s : List ℕ) (r : Option (Bor (List ℕ) × Bor (List ℕ))) → c < 128
    → MatchOption r (NoCharPasses (λ d. d == c) s) (λ x. SplitsAroundMatch (RFindsChar c) s x.0.now x.1.now)
    → option_map (λ x. (x.0.now, x.1.now)) r ≡ around_last c s
around_last_is c s None small h = sym (last_missed c s small h)
around_last_is c s (Some x) small (i, j, at, front, back, _, _, _) = rw (last_found c s i j small at, front, back) refl

-- ---- a text at the front

test_same : (b : ℕ) → (b == b) ≡ true
test_same b = eq-eqb b b refl

pub behind_at : (head rest : List ℕ) → behind head (head ++ rest) ≡ Some rest
behind_at [] rest = refl
behind_at (b ∷ head) rest = rw (test_same b) (behind_at head rest)

behind_step : (b c : ℕ) (head line rest : List ℕ) (t : Bool) → (b == c) ≡ t → cond t (behind head line) None ≡ Some rest
    → (behind head line ≡ Some rest → line ≡ head ++ rest) → c ∷ line ≡ b ∷ (head ++ rest)
behind_step b c head line rest true t e more =
    let same : b ≡ c = eqb-true b c t in
    let l : line ≡ head ++ rest = more e in
    cc
behind_step b c head line rest false t e more = cc

pub behind_is : (head line rest : List ℕ) → behind head line ≡ Some rest → line ≡ head ++ rest
behind_is [] line rest e = ap (λ o. elim o as (λ _. List ℕ) [ None ↦ [] | Some y ↦ y ]) e
behind_is (b ∷ head) [] rest e = cc
behind_is (b ∷ head) (c ∷ line) rest e = behind_step b c head line rest (b == c) refl e (behind_is head line rest)

not_some : (o : Option (List ℕ)) → ((rest : List ℕ) → o ≡ Some rest → ⊥) → o ≡ None
not_some None h = refl
not_some (Some x) h = absurd (h x refl)

pub behind_none : (head line : List ℕ) → ((rest : List ℕ) → line ≢ head ++ rest) → behind head line ≡ None
behind_none head line h = not_some (behind head line) (λ rest e. h rest (behind_is head line rest e))

pub prefix_is : (head line : List ℕ) (r : Option (Bor (List ℕ)))
    → MatchOption r (FindsTextPrefix head line None) (λ x. StripsPrefix (FindsTextPrefix head) line x.now)
    → option_map (λ x. x.now) r ≡ behind head line
prefix_is head line None h = sym (behind_none head line h)
prefix_is head line (Some x) (n, (_, whole, _), rest, _) =
    let e : line ≡ head ++ x.now = whole ∙ ap (λ l. head ++ l) (sym rest) in
    sym (ap (behind head) e ∙ behind_at head x.now)

-- ---- the first place of a text

around_here : (mark s rest : List ℕ) → behind mark s ≡ Some rest → around mark s ≡ Some ([], rest)
around_here mark [] rest e = rw e refl
around_here mark (b ∷ s) rest e = rw e refl

around_at : (mark s rest : List ℕ) (i : ℕ) → i ≤ length s → drop i s ≡ mark ++ rest
    → ((k : ℕ) → k < i → (more : List ℕ) → drop k s ≢ mark ++ more) → around mark s ≡ Some (take i s, rest)
around_at mark s rest zero l at before = around_here mark s rest (ap (behind mark) at ∙ behind_at mark rest)
around_at mark [] rest (suc i) l at before = absurd (omega arith)
around_at mark (b ∷ s) rest (suc i) l at before =
    let here : behind mark (b ∷ s) ≡ None = behind_none mark (b ∷ s) (before 0 (omega arith)) in
    let later : around mark s ≡ Some (take i s, rest) =
    around_at mark s rest i (omega arith) at (λ k below. before (suc k) (omega arith)) in
    rw (here, later) refl

around_nowhere : (mark s : List ℕ) → ((k : ℕ) → k ≤ length s → (more : List ℕ) → drop k s ≢ mark ++ more) → around mark s ≡ None
around_nowhere mark [] h = rw (behind_none mark [] (h 0 (omega arith))) refl
around_nowhere mark (b ∷ s) h =
    let here : behind mark (b ∷ s) ≡ None = behind_none mark (b ∷ s) (h 0 (omega arith)) in
    let later : around mark s ≡ None = around_nowhere mark s (λ k l. h (suc k) (omega arith)) in
    rw (here, later) refl

pub around_is : (mark s : List ℕ) (r : Option (Bor (List ℕ) × Bor (List ℕ)))
    → MatchOption r (FindsText mark s None) (λ x. SplitsAroundMatch (FindsText mark) s x.0.now x.1.now)
    → option_map (λ x. (x.0.now, x.1.now)) r ≡ around mark s
around_is mark s None h = sym (around_nowhere mark s h)
around_is mark s (Some x) (i, j, at, front, back, le, is_i, is_j) =
    let fits : i ≤ length s = omega arith in
    rw (around_at mark s (drop j s) i fits at.1.split at.0, front, back) refl

-- ---- numbers

digits_are : (ds : List ℕ) → are_digits ds ≡ true → AllDigits 10 ds
digits_are [] h = tt
digits_are (c ∷ ds) h =
    let both : (nat_lt (digit_value c) 10 ≡ true) × (are_digits ds ≡ true) = and_parts (nat_lt (digit_value c) 10) (are_digits ds) h in
    (ltb-true (digit_value c) 10 both.0, digits_are ds both.1)

are_digits_from : (ds : List ℕ) → AllDigits 10 ds → are_digits ds ≡ true
are_digits_from [] h = refl
are_digits_from (c ∷ ds) h =
    and_from (nat_lt (digit_value c) 10) (are_digits ds) (lt-ltb (digit_value c) 10 h.0) (are_digits_from ds h.1)

is_number : List ℕ → Bool
is_number ds = nat_lt 0 (length ds) && are_digits ds && nat_lt (digits_value 10 ds) (2 ^ 32)

number_here : (ds : List ℕ) → IsNumeral 10 ds → digits_value 10 ds < 2 ^ 32 → number_of ds ≡ Some (digits_value 10 ds)
number_here ds (some, all) small =
    rw (lt-ltb 0 (length ds) some, are_digits_from ds all, lt-ltb (digits_value 10 ds) (2 ^ 32) small) refl

number_nowhere : (ds : List ℕ) (some digits small : Bool) → nat_lt 0 (length ds) ≡ some → are_digits ds ≡ digits
    → nat_lt (digits_value 10 ds) (2 ^ 32) ≡ small → (IsNumeral 10 ds × (digits_value 10 ds < 2 ^ 32) → ⊥)
    → cond (some && digits && small) (Some (digits_value 10 ds)) None ≡ None
number_nowhere ds true true true a b c h =
    absurd (h ((ltb-true 0 (length ds) a, digits_are ds b), ltb-true (digits_value 10 ds) (2 ^ 32) c))
number_nowhere ds true true false a b c h = refl
number_nowhere ds true false small a b c h = refl
number_nowhere ds false digits small a b c h = refl

pub number_is : {E : Type 0} (ds : List ℕ) (r : Result ℕ E)
    → OkIff r (IsNumeral 10 ds × (digits_value 10 ds < 2 ^ 32)) (digits_value 10 ds) → result_ok r ≡ number_of ds
number_is ds (Ok x) ((numeral, small), e) = ap Some e ∙ sym (number_here ds numeral small)
number_is ds (Err e) h =
    sym (number_nowhere ds (nat_lt 0 (length ds)) (are_digits ds) (nat_lt (digits_value 10 ds) (2 ^ 32)) refl refl refl h)

pub no_plus : (ds : List ℕ) → get_or ds 0 0 ≢ 43 → without_leading_plus ds ≡ ds
no_plus ds h = rw (ne_eqb (get_or ds 0 0) 43 h) refl

-- what stands behind the last place of a byte has it nowhere
free_step : (c b : ℕ) (s front back : List ℕ) (t : Bool) → (b == c) ≡ t → IsNowhere c s
    → cond t (Some (let r : List ℕ × List ℕ = ([], s) in r)) None ≡ Some (front, back) → IsNowhere c back
free_step c b s front back true t h e = subst (IsNowhere c) (ap (λ o. elim o as (λ _. List ℕ) [ None ↦ [] | Some x ↦ x.1 ]) e) h
free_step c b s front back false t h e = cc

missed_step : (c b : ℕ) (s : List ℕ) (t : Bool) → (b == c) ≡ t → IsNowhere c s
    → cond t (Some (let r : List ℕ × List ℕ = ([], s) in r)) None ≡ None → IsNowhere c (b ∷ s)
missed_step c b s true t h e k l = cc
missed_step c b s false t h e zero l = eqb-false b c t
missed_step c b s false t h e (suc k) l = h k (omega arith)

pub missed_free : (c : ℕ) (s : List ℕ) → around_last c s ≡ None → IsNowhere c s
missed_free c [] e k l = absurd (omega arith)
missed_free c (b ∷ s) e k l =
    (elim (around_last c s) as (λ o. around_last c s ≡ o → last_from c b s o ≡ None → IsNowhere c (b ∷ s)) [
      | None ↦ λ h k. missed_step c b s (b == c) refl (missed_free c s h) k
      | Some x ↦ λ h k. absurd (none-some (let p : List ℕ × List ℕ = (b ∷ x.0, x.1) in p) (sym k))
    ] refl e) k l

pub last_free : (c : ℕ) (s front back : List ℕ) → around_last c s ≡ Some (front, back) → IsNowhere c back
last_free c [] front back e = cc
last_free c (b ∷ s) front back e =
    elim (around_last c s) as (λ o. around_last c s ≡ o → last_from c b s o ≡ Some (front, back) → IsNowhere c back) [
      | None ↦ λ h k. free_step c b s front back (b == c) refl (missed_free c s h) k
      | Some x ↦ λ h k.
          last_free c s x.0 back (h ∙ ap Some (ap (λ (r : List ℕ). (let p : List ℕ × List ℕ = (x.0, r) in p))
          (ap (λ o. elim o as (λ _. List ℕ) [ None ↦ [] | Some y ↦ y.1 ]) k)))
    ] refl e
