-- The parts of a line that names a place of a source.
use Rattle.std.proofs.Common.{◌≡◌, ◌≢◌, ℕ, zero, suc, ◌<◌, ◌≤◌, List, [], ◌∷◌, ◌++◌}
use Rattle.std.proofs.Common.{length, get_or, refl, sym, ◌∙◌, ap, subst, arith, append_assoc, Bor}
use Rattle.std.specs.Prelude.{Bool, true, false, cond, ◌&&◌, nat_lt, ◌^◌, Option}
use Rattle.std.specs.Prelude.{Some, None, IfSome, IsSomeAnd, option_map, bytes_eq, ◌==◌}
use Rattle.std.specs.Option.{option_and_then}
use Rattle.std.specs.Char.{digit_value}
use Rattle.std.specs.Str.Parse.{digits_value}
use Rattle.std.proofs.lemmas.Bool.{eqb-true, ltb-true, and_parts}
use Rattle.std.proofs.lemmas.Option.{none-some}
use Rattle.std.proofs.lemmas.Slice.Eq.{bytes_eq-Decides}
use Rattle.ec_where_lines.specs.Parts.{are_digits, around_last, behind, last_from, number_of}
use Rattle.ec_where_lines.specs.Fault.{IsNowhere, Marks, marked_by, marked_of}
use Rattle.ec_where_lines.proofs.Cuts.{behind_is, last_at, last_is, last_free}

then_some : {A B : Type 0} (f : A → Option B) (o : Option A) (y : B) → option_and_then f o ≡ Some y
    → (x : A) × (o ≡ Some x) × (f x ≡ Some y)
then_some f None y e = cc
then_some f (Some x) y e = (x, refl, e)

map_some : {A B : Type 0} (f : A → B) (o : Option A) (y : B) → option_map f o ≡ Some y → (x : A) × (o ≡ Some x) × (f x ≡ y)
map_some f None y e = cc
map_some f (Some x) y e = (x, refl, cc)

-- ---- digits hold no space

digits_nowhere : (ds : List ℕ) → are_digits ds ≡ true → IsNowhere 32 ds
digits_nowhere [] h k l = absurd (omega arith)
digits_nowhere (c ∷ ds) h k l =
    let both : (nat_lt (digit_value c) 10 ≡ true) × (are_digits ds ≡ true) = and_parts (nat_lt (digit_value c) 10) (are_digits ds) h in
    let small : digit_value c < 10 = ltb-true (digit_value c) 10 both.0 in
    elim k as (λ k. k < length (c ∷ ds) → get_or (c ∷ ds) k 0 ≢ 32) [
      | zero ↦ λ _ e. (let big : digit_value 32 < 10 = subst (λ (x : ℕ). digit_value x < 10) e small in absurd (omega arith))
      | suc j ↦ λ l. digits_nowhere ds both.1 j (omega arith)
    ] l

tested_digits : (some digits small : Bool) (v n : ℕ) → cond (some && digits && small) (Some v) None ≡ Some n → digits ≡ true
tested_digits true true small v n e = refl
tested_digits true false small v n e = cc
tested_digits false digits small v n e = cc

number_nowhere : (ds : List ℕ) (n : ℕ) → number_of ds ≡ Some n → IsNowhere 32 ds
number_nowhere ds n e =
    digits_nowhere ds (tested_digits (nat_lt 0 (length ds)) (are_digits ds) (nat_lt (digits_value 10 ds) (2 ^ 32)) (digits_value 10 ds) n e)

-- ---- the parts, both ways

marked_here : (mark word name digits fault : List ℕ) (n : ℕ) → word ≡ mark → number_of digits ≡ Some n
    → marked_by mark word name digits fault ≡ Some (name, n, fault)
marked_here mark word name digits fault n w e = rw ((bytes_eq-Decides word mark).1 w, e) refl

space_nowhere : (fault : List ℕ) → IsNowhere 58 fault → IsNowhere 58 (32 ∷ fault)
space_nowhere fault h zero l = λ e. absurd (omega arith)
space_nowhere fault h (suc k) l = h k (omega arith)

pub marked_complete : (mark line name fault : List ℕ) (n : ℕ) → IsNowhere 32 mark → Marks mark line name n fault
    → marked_of mark line ≡ Some (name, n, fault)
marked_complete mark line name fault n free m =
    let front : List ℕ = name ++ (32 ∷ mark) in
    let head : List ℕ = front ++ (32 ∷ m.digits) in
    let whole : head ++ (58 ∷ (32 ∷ fault)) ≡ line =
    append_assoc front (32 ∷ m.digits) (58 ∷ (32 ∷ fault)) ∙ append_assoc name (32 ∷ mark) _ ∙ sym m.parts in
    let a : around_last 58 line ≡ Some (head, 32 ∷ fault) =
    ap (around_last 58) (sym whole) ∙ last_at 58 head (32 ∷ fault) (space_nowhere fault m.last) in
    let b : around_last 32 head ≡ Some (front, m.digits) = last_at 32 front m.digits (number_nowhere m.digits n m.number) in
    let d : around_last 32 front ≡ Some (name, mark) = last_at 32 name mark free in
    rw (a, b, d) (marked_here mark mark name m.digits fault n refl m.number)

marked_by_is : (mark word name digits fault name' fault' : List ℕ) (n : ℕ) (t : Bool) → bytes_eq word mark ≡ t
    → cond t (option_map (λ n. (let x : List ℕ × ℕ × List ℕ = (name, n, fault) in x)) (number_of digits)) None ≡ Some (name', n, fault')
    → (word ≡ mark) × (number_of digits ≡ Some n) × (name ≡ name') × (fault ≡ fault')
marked_by_is mark word name digits fault name' fault' n true t e =
    let s = map_some (λ n. (let x : List ℕ × ℕ × List ℕ = (name, n, fault) in x)) (number_of digits) (name', n, fault') e in
    let p : (List ℕ × ℕ × List ℕ) → List ℕ = λ x. x.0 in (
      (bytes_eq-Decides word mark).0 t,
      s.1 ∙ ap Some (ap (λ (x : List ℕ × ℕ × List ℕ). x.1) s.2),
      ap (λ (x : List ℕ × ℕ × List ℕ). x.0) s.2,
      ap (λ (x : List ℕ × ℕ × List ℕ). x.2) s.2,
    )
marked_by_is mark word name digits fault name' fault' n false t e = cc

joined : (line a b c d e f g name mark fault : List ℕ) → line ≡ a ++ (58 ∷ b) → b ≡ 32 ∷ f → a ≡ c ++ (32 ∷ d) → c ≡ e ++ (32 ∷ g)
    → g ≡ mark → e ≡ name → f ≡ fault → line ≡ name ++ (32 ∷ (mark ++ (32 ∷ (d ++ (58 ∷ (32 ∷ fault))))))
joined line a b c d e f g name mark fault l lb la lc lg le lf =
    let whole : line ≡ ((name ++ (32 ∷ mark)) ++ (32 ∷ d)) ++ (58 ∷ (32 ∷ fault)) = cc in
    whole ∙ append_assoc (name ++ (32 ∷ mark)) (32 ∷ d) (58 ∷ (32 ∷ fault))
    ∙ append_assoc name (32 ∷ mark) ((32 ∷ d) ++ (58 ∷ (32 ∷ fault)))

behind_space : (b : ℕ) (s : List ℕ) → IsNowhere 58 (b ∷ s) → IsNowhere 58 s
behind_space b s h k l = h (suc k) (omega arith)

pub marked_sound : (mark line name fault : List ℕ) (n : ℕ) → marked_of mark line ≡ Some (name, n, fault) → Marks mark line name n fault
marked_sound mark line name fault n e =
    let x = then_some _ (around_last 58 line) (name, n, fault) e in
    let f = then_some _ (behind (32 ∷ []) x.0.1) (name, n, fault) x.2 in
    let y = then_some _ (around_last 32 x.0.0) (name, n, fault) f.2 in
    let z = then_some _ (around_last 32 y.0.0) (name, n, fault) y.2 in
    let w = marked_by_is mark z.0.1 z.0.0 y.0.1 f.0 name fault n (bytes_eq z.0.1 mark) refl z.2 in
    let spaced : x.0.1 ≡ 32 ∷ f.0 = behind_is (32 ∷ []) x.0.1 f.0 f.1 in
    let free : IsNowhere 58 (32 ∷ f.0) = subst (IsNowhere 58) spaced (last_free 58 line x.0.0 x.0.1 x.1) in
    record {
      digits = y.0.1;
      number = w.1;
      last = subst (IsNowhere 58) w.3 (behind_space 32 f.0 free);
      parts = joined line x.0.0 x.0.1 y.0.0 y.0.1 z.0.0 f.0 z.0.1 name mark fault (last_is 58 line x.0.0 x.0.1 x.1) spaced
          (last_is 32 x.0.0 y.0.0 y.0.1 y.1) (last_is 32 y.0.0 z.0.0 z.0.1 z.1) w.0 w.2 w.3;
    }

pub marked_found : (mark line : List ℕ) (r : Option (Bor (List ℕ) × ℕ × Bor (List ℕ)))
    → option_map (λ x. (x.0.now, x.1, x.2.now)) r ≡ marked_of mark line → IfSome r (λ x. Marks mark line x.0.now x.1 x.2.now)
marked_found mark line None e = tt
marked_found mark line (Some x) e = marked_sound mark line x.0.now x.2.now x.1 (sym e)

pub marked_all : (mark line name fault : List ℕ) (n : ℕ) (r : Option (Bor (List ℕ) × ℕ × Bor (List ℕ)))
    → option_map (λ x. (x.0.now, x.1, x.2.now)) r ≡ marked_of mark line → IsNowhere 32 mark → Marks mark line name n fault
    → IsSomeAnd r (λ x. (x.0.now ≡ name) × (x.1 ≡ n) × (x.2.now ≡ fault))
marked_all mark line name fault n None e free m =
    absurd (none-some (let x : List ℕ × ℕ × List ℕ = (name, n, fault) in x) (e ∙ marked_complete mark line name fault n free m))
marked_all mark line name fault n (Some x) e free m =
    let wanted : List ℕ × ℕ × List ℕ = (name, n, fault) in
    let same : Some (let y : List ℕ × ℕ × List ℕ = (x.0.now, x.1, x.2.now) in y) ≡ Some wanted =
    e ∙ marked_complete mark line name fault n free m in (
      ap (λ o. elim o as (λ _. List ℕ) [ None ↦ [] | Some y ↦ y.0 ]) same,
      ap (λ o. elim o as (λ _. ℕ) [ None ↦ 0 | Some y ↦ y.1 ]) same,
      ap (λ o. elim o as (λ _. List ℕ) [ None ↦ [] | Some y ↦ y.2 ]) same,
    )

-- ---- a line has one mark

mark_in : List ℕ → Option (List ℕ)
mark_in line =
    option_and_then (λ x. option_and_then (λ y. option_map (λ z. z.1) (around_last 32 y.0)) (around_last 32 x.0)) (around_last 58 line)

mark_is : (mark line name fault : List ℕ) (n : ℕ) → IsNowhere 32 mark → Marks mark line name n fault → mark_in line ≡ Some mark
unfolding mark_in
mark_is mark line name fault n free m =
    let front : List ℕ = name ++ (32 ∷ mark) in
    let head : List ℕ = front ++ (32 ∷ m.digits) in
    let whole : head ++ (58 ∷ (32 ∷ fault)) ≡ line =
    append_assoc front (32 ∷ m.digits) (58 ∷ (32 ∷ fault)) ∙ append_assoc name (32 ∷ mark) _ ∙ sym m.parts in
    let a : around_last 58 line ≡ Some (head, 32 ∷ fault) =
    ap (around_last 58) (sym whole) ∙ last_at 58 head (32 ∷ fault) (space_nowhere fault m.last) in
    let b : around_last 32 head ≡ Some (front, m.digits) = last_at 32 front m.digits (number_nowhere m.digits n m.number) in
    let d : around_last 32 front ≡ Some (name, mark) = last_at 32 name mark free in
    rw (a, b, d) refl

pub one_mark : (mark other line name name' fault fault' : List ℕ) (n n' : ℕ) → IsNowhere 32 mark → IsNowhere 32 other
    → Marks mark line name n fault → Marks other line name' n' fault' → mark ≡ other
one_mark mark other line name name' fault fault' n n' f f' m m' =
    let same : Some mark ≡ Some other = sym (mark_is mark line name fault n f m) ∙ mark_is other line name' fault' n' f' m' in
    cc
