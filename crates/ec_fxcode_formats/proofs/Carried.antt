-- A number is brought from one number of bits behind the point to another.
use Rattle.std.proofs.Common.{◌≡◌, inl, inr, ⊎_elim, ℕ, ◌+◌, ◌-◌, ◌*◌, ◌/◌, ◌%◌, ◌^◌, ◌<◌, ◌≤◌, ◌==◌, Bool, true, false, refl, sym, ap}
use Rattle.std.proofs.Common.{◌∙◌, subst, arith, ℤ, pos, ◌*ℤ◌, pow-add, leb-true}
use Rattle.std.specs.Prelude.{nat_lt, nat_le, if◌then◌else◌}
use Rattle.std.proofs.lemmas.Bool.{and_parts, or_cases, ltb-true, ltb-false, eqb-true}
use Rattle.std.proofs.lemmas.Nat.{pow_pos}
use Rattle.ec_fx.specs.Rounding.{trunc}
use Rattle.ec_fx.proofs.Scaling.{trunc-common, scale_pow}
use Rattle.ec_asm.specs.View.{View}
use Rattle.ec_asm.specs.Change.{Env}
use Rattle.ec_asm.specs.Items.{HasAt, code_words}
use Rattle.ec_asm.specs.Pieces.{value}
use Rattle.ec_fxcode_shifts.specs.ShiftLaws.{number_in}
use Rattle.ec_fxcode_shifts.proofs.Shifted.{div_one}
use Rattle.ec_fxcode_formats.specs.Cuts.{bytes_below, cut_code}
use Rattle.ec_fxcode_formats.specs.Raises.{spare, raise_code}
use Rattle.ec_fxcode_formats.specs.Brought.{is_step, can_cut, can_raise}
use Rattle.ec_fxcode_formats.specs.FormatLaws.{Carries, HoldsExact, IsCut, NumbersAreBrought, BroughtHave}
use Rattle.ec_fxcode_formats.proofs.Dropped.{cuts_are_right}
use Rattle.ec_fxcode_formats.proofs.Raised.{raises_are_right}
use Rattle.ec_fxcode_formats.proofs.Words.{cuts_have, raise_short}

-- ---- what the tests tell

step_is : (d : ℕ) → is_step d ≡ true → IsCut d
step_is d q =
    ⊎_elim (λ (x : (d % 8 == 0) ≡ true). inl (eqb-true (d % 8) 0 x)) (λ (x : (d % 8 == 7) ≡ true). inr (eqb-true (d % 8) 7 x))
    (or_cases (d % 8 == 0) (d % 8 == 7) q)

pub record CanCut (m n d : ℕ) : Type 0 where
  pub step : IsCut d
  pub few : m ≤ 6
  pub room : bytes_below d + n ≤ 6

pub cut_told : (m n d : ℕ) → can_cut m n d ≡ true → CanCut m n d
cut_told m n d q =
    let a = and_parts (is_step d) _ q in
    let b = and_parts (nat_le m 6) (nat_le (bytes_below d + n) 6) a.1 in
    record { step = step_is d a.0; few = leb-true m 6 b.0; room = leb-true (bytes_below d + n) 6 b.1 }

pub record CanRaise (n u : ℕ) : Type 0 where
  pub step : IsCut u
  pub some : u / 8 < n
  pub room : spare u + (n - u / 8) ≤ 6

pub raise_told : (n u : ℕ) → can_raise n u ≡ true → CanRaise n u
raise_told n u q =
    let a = and_parts (is_step u) _ q in
    let b = and_parts (nat_lt (u / 8) n) (nat_le (spare u + (n - u / 8)) 6) a.1 in
    record { step = step_is u a.0; some = ltb-true (u / 8) n b.0; room = leb-true (spare u + (n - u / 8)) 6 b.1 }

-- ---- numbers

exact_up : (x : ℤ) (f r : ℕ) → f ≤ r → x *ℤ pos (2 ^ (r - f)) ≡ trunc (x *ℤ pos (2 ^ r)) (2 ^ f)
exact_up x f r l =
    let y = x *ℤ pos (2 ^ (r - f)) in
    let one : 1 * 2 ^ f ≡ 2 ^ f = omega arith in
    sym (div_one y) ∙ sym (trunc-common y 1 (2 ^ f) (pow_pos f)) ∙ ap (λ (z : ℤ). trunc z (1 * 2 ^ f)) (scale_pow x (r - f) f r (omega
    (arith, l)))
    ∙ ap (trunc (x *ℤ pos (2 ^ r))) one

exact_down : (x : ℤ) (f r : ℕ) → r ≤ f → trunc x (2 ^ (f - r)) ≡ trunc (x *ℤ pos (2 ^ r)) (2 ^ f)
exact_down x f r l =
    let all : 2 ^ (f - r) * 2 ^ r ≡ 2 ^ f = sym (pow-add 2 (f - r) r) ∙ ap (λ t. 2 ^ t) (omega (arith, l)) in
    sym (trunc-common x (2 ^ (f - r)) (2 ^ r) (pow_pos r)) ∙ ap (trunc (x *ℤ pos (2 ^ r))) all

-- ---- the run

weaker : (e : Env) (k l pc end b n : ℕ) (v : View) (F G : ℕ → Type 0) → k ≤ l → ((x : ℕ) → F x → G x) → Carries e k pc v end b n F
    → Carries e l pc v end b n G
weaker e k l pc end b n v F G less f x =
    let h = x.at_most in
    record {
      steps = x.steps;
      at_most = omega (arith, h, less);
      last = x.last;
      goes = x.goes;
      holds = f (value x.last.at b n) x.holds;
      numbers = x.numbers;
      same = x.same;
      inputs = x.inputs;
      safe = x.safe;
      seen = x.seen;
    }

pub numbers_are_brought : NumbersAreBrought
numbers_are_brought signed e p q m n f r a b pc end v can some_m some_n sp sq far_a far_b clear_a clear_b held stands =
    by_order (nat_lt f r) refl can stands
  where
    x : ℤ
    x = number_in signed m (value v.at a m)

    by_order : (t : Bool) → nat_lt f r ≡ t → (if t then can_raise n (r - f) else can_cut m n (f - r)) ≡ true
        → HasAt e (if t then raise_code signed p q m n (r - f) else cut_code signed p q m n (f - r)) pc end
        → Carries e (100 + 2 * n) pc v end b n (HoldsExact n (trunc (x *ℤ pos (2 ^ r)) (2 ^ f)))
    by_order true t g there =
        let c = raise_told n (r - f) g in
        let l = ltb-true f r t in
        weaker e (100 + 2 * n) (100 + 2 * n) pc end b n v (HoldsExact n (x *ℤ pos (2 ^ (r - f)))) _ (omega arith)
        (λ z h. subst (λ y. HoldsExact n y z) (exact_up x f r (omega (arith, l))) h)
        (raises_are_right signed e p q m n (r - f) a b pc end v c.step some_m c.some c.room sp sq far_a far_b clear_a held there)
    by_order false t g there =
        let c = cut_told m n (f - r) g in
        weaker e 100 (100 + 2 * n) pc end b n v (HoldsExact n (trunc x (2 ^ (f - r)))) _ (omega arith)
        (λ z h. subst (λ y. HoldsExact n y z) (exact_down x f r (ltb-false f r t)) h)
        (cuts_are_right signed e p q m n
        (f - r) a b pc end v c.step some_m c.few some_n c.room sp sq far_a far_b clear_a clear_b held there)

-- ---- words

pub brought_have : BroughtHave
brought_have signed p q m n f r can = by_order (nat_lt f r) can
  where
    by_order : (t : Bool) → (if t then can_raise n (r - f) else can_cut m n (f - r)) ≡ true
        → code_words (if t then raise_code signed p q m n (r - f) else cut_code signed p q m n (f - r)) ≤ 24 + 6 * m + 7 * n
    by_order true g =
        let c = raise_told n (r - f) g in
        let few = c.room in
        let some = c.some in
        let w = (raise_short signed p q m (r - f) ((r - f) / 8) (n - (r - f) / 8)).words_are in
        omega (arith, w, few, some)
    by_order false g =
        let c = cut_told m n (f - r) g in
        let w = cuts_have signed p q m n (f - r) c.room in
        omega (arith, w)
