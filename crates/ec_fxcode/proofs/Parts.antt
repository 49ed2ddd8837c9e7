-- The low bytes of a number and its high ones.
use Rattle.std.proofs.Common.{◌≡◌, ℕ, zero, suc, ◌+◌, ◌-◌, ◌*◌, ◌^◌, ◌<◌, ◌≤◌, min, ⊎_elim, Bool, true, false, refl, sym, ap, ◌∙◌, subst}
use Rattle.std.proofs.Common.{arith, pow-add}
use Rattle.std.proofs.lemmas.Bool.{cases_eq, cases_lt, false≢true}
use Rattle.std.proofs.lemmas.Nat.{mul-le}
use Rattle.ec_asm.specs.View.{View}
use Rattle.ec_asm.specs.Pieces.{value}
use Rattle.ec_asm.specs.PieceLaws.{AreHeld}
use Rattle.ec_asm.proofs.Numbers.{value_below}
use Rattle.ec_fxcode.proofs.Alike.{value_parts, zeros, ones, low_top, high_top, fill, fill_low, fill_high}
use Rattle.ec_fxcode.proofs.Moves.{Extends}
use Rattle.ec_fxcode.proofs.Fits.{IsSignedEnd, IsUnsignedEnd}

pub value_moved : (f g : ℕ → ℕ) (a b n : ℕ) → ((j : ℕ) → j < n → f (a + j) ≡ g (b + j)) → value f a n ≡ value g b n
value_moved f g a b zero h = refl
value_moved f g a b (suc n) h =
    let x = value_moved f g a b n (λ j l. h j (omega arith)) in
    let y = h n (omega arith) in
    rw (x, y) refl

-- ---- the sign

-- the byte of the sign tells whether the number is negative
pub record IsSign (A N byte : ℕ) : Type 0 where
  pub plus : 2 * A < N → byte ≡ 0
  pub minus : N ≤ 2 * A → byte ≡ 255

pub sign_is : (f : ℕ → ℕ) (a n : ℕ) → AreHeld f a (suc n) → IsSign (value f a (suc n)) (256 ^ suc n) (fill (f (a + n)))
sign_is f a n h =
    let l = h n (omega arith) in
    record {
      plus = λ less.
          ⊎_elim (λ low. fill_low (f (a + n)) low) (λ high. let m = high_top f a n high in absurd (omega arith)) (cases_lt (f (a + n)) 128);
      minus = λ more. ⊎_elim (λ low. let m = low_top f a n (λ j k. h j (omega arith)) low in absurd (omega arith))
          (λ high. fill_high (f (a + n)) high l) (cases_lt (f (a + n)) 128);
    }

-- ---- a number of no more bytes than the format

-- the low bytes are the number, with a sign
pub record IsNarrow (N P A L : ℕ) : Type 0 where
  pub plus : 2 * A < N → L ≡ A
  pub minus : N ≤ 2 * A → L + N ≡ A + P

filled_up : (A N V M L P : ℕ) → L ≡ A + N * V → V + 1 ≡ M → N * M ≡ P → L + N ≡ A + P
filled_up A N V M L P e f g =
    let q : N * (V + 1) ≡ N * M = ap (λ t. N * t) f in
    omega arith

pub narrow : (v v1 : View) (a b n k byte : ℕ) → suc n ≤ k → IsSign (value v.at a (suc n)) (256 ^ suc n) byte
    → Extends v a b k (min (suc n) k) byte v1 → IsNarrow (256 ^ suc n) (256 ^ k) (value v.at a (suc n)) (value v1.at b k)
narrow v v1 a b n k byte l s x =
    let m : min (suc n) k ≡ suc n = omega arith in
    let r = k - suc n in
    let same : k ≡ suc n + r = omega arith in
    let parts : value v1.at b k ≡ value v1.at b (suc n) + 256 ^ suc n * value v1.at (b + suc n) r =
    ap (value v1.at b) same ∙ value_parts v1.at b (suc n) r in
    let low : value v1.at b (suc n) ≡ value v.at a (suc n) = value_moved v1.at v.at b a (suc n) (λ j y. x.low j (omega arith)) in
    let whole : value v1.at b k ≡ value v.at a (suc n) + 256 ^ suc n * value v1.at (b + suc n) r = rw (← low) parts in
    let bytes = λ (j : ℕ) (y : j < r). (let at : b + (suc n + j) ≡ b + suc n + j = omega arith in
    subst (λ i. v1.at i ≡ byte) at (x.high (suc n + j) (omega arith) (omega arith))) in
    let power : 256 ^ suc n * 256 ^ r ≡ 256 ^ k = sym (ap (λ t. 256 ^ t) same ∙ pow-add 256 (suc n) r) in
    record {
      plus = λ less. let z = zeros v1.at (b + suc n) r (λ j y. bytes j y ∙ s.plus less) in rw z at whole ∙ (omega arith);
      minus = λ more. filled_up (value v.at a (suc n)) (256 ^ suc n) (value v1.at (b + suc n) r) (256 ^ r) (value v1.at b k) (256 ^ k) whole
          (ones v1.at (b + suc n) r (λ j y. bytes j y ∙ s.minus more)) power;
    }

-- ---- a number of more bytes than the format

pub record IsWide (N P A L H M : ℕ) : Type 0 where
  pub whole : A ≡ L + P * H
  pub power : N ≡ P * M
  pub below : L < P
  pub high : H < M

pub wide : (v v1 : View) (a b n k byte : ℕ) → k ≤ suc n → AreHeld v.at a (suc n) → Extends v a b k (min (suc n) k) byte v1
    → IsWide (256 ^ suc n) (256 ^ k) (value v.at a (suc n)) (value v1.at b k) (value v.at (a + k) (suc n - k)) (256 ^ (suc n - k))
wide v v1 a b n k byte l h x =
    let r = suc n - k in
    let same : suc n ≡ k + r = omega arith in
    let low : value v1.at b k ≡ value v.at a k = value_moved v1.at v.at b a k (λ j y. x.low j (omega arith)) in
    let parts : value v.at a (suc n) ≡ value v.at a k + 256 ^ k * value v.at (a + k) r = ap (value v.at a) same ∙ value_parts v.at a k r in
    record {
      whole = rw low parts;
      power = ap (λ t. 256 ^ t) same ∙ pow-add 256 k r;
      below = rw low (value_below v.at a k (λ j y. h j (omega arith)));
      high = value_below v.at (a + k) r
          (λ j y. (let at : a + (k + j) ≡ a + k + j = omega arith in subst (λ i. v.at i < 256) at (h (k + j) (omega arith))));
    }

pub no_part : (P H A L : ℕ) → A ≡ L + P * H → A < P → H ≡ 0
no_part P H A L e l =
    ⊎_elim (λ z. z) (λ n. let q : P * 1 ≤ P * H = mul-le P 1 P H (omega arith) (omega arith) in absurd (omega arith))
    (cases_eq H 0)

pub all_part : (P H M N A L h : ℕ) → A ≡ L + P * H → N ≡ P * M → L < P → H < M → h < P → N ≤ A + h → H + 1 ≡ M
all_part P H M N A L h e f l m o g =
    ⊎_elim
    (λ less. let q : P * (H + 2) ≤ P * M = mul-le P (H + 2) P M (omega arith) (omega arith) in absurd (omega arith))
    (λ more. omega arith) (cases_lt (H + 1) M)

-- ---- ends

pub narrow_signed : (saturates : Bool) (N P h A L : ℕ) → P ≡ 2 * h → N ≤ P → A < N → IsNarrow N P A L
    → IsSignedEnd saturates N h A L
narrow_signed saturates N P h A L p l m w = record {
  plain = λ less in_range. w.plus less;
  above = λ sat less past. absurd (omega arith);
  minus = λ more in_range. let e = w.minus more in omega arith;
  below = λ sat more past. absurd (omega arith);
}

-- without saturation the low bytes are right where the number fits
pub wide_signed : (N P h A L H M : ℕ) → IsWide N P A L H M → P ≡ 2 * h → 1 ≤ h → IsSignedEnd false N h A L
wide_signed N P h A L H M w p o =
    let whole = w.whole in
    let power = w.power in
    record {
      plain = λ less inside. let z = no_part P H A L whole (omega arith) in let e : A ≡ L + P * 0 = rw z at whole in omega arith;
      above = λ sat less past. absurd (false≢true sat);
      minus = λ more inside. let z = all_part P H M N A L h whole power w.below w.high (omega arith) inside in
          let e : P * (H + 1) ≡ P * M = ap (λ t. P * t) z in omega arith;
      below = λ sat more past. absurd (false≢true sat);
    }

-- the low bytes, where the bytes above them are those of the sign
pub kept_plus : (saturates : Bool) (N P h A L : ℕ) → P ≡ 2 * h → P ≤ N → A ≡ L → 2 * L < P → IsSignedEnd saturates N h A L
kept_plus saturates N P h A L p l e m = record {
  plain = λ less inside. sym e;
  above = λ sat less past. absurd (omega arith);
  minus = λ more inside. absurd (omega arith);
  below = λ sat more past. absurd (omega arith);
}

pub kept_minus : (saturates : Bool) (N P h A L : ℕ) → P ≡ 2 * h → P ≤ N → L < P → A + P ≡ L + N → P ≤ 2 * L
    → IsSignedEnd saturates N h A L
kept_minus saturates N P h A L p l b e m = record {
  plain = λ less inside. absurd (omega arith);
  above = λ sat less past. absurd (omega arith);
  minus = λ more inside. omega arith;
  below = λ sat more past. absurd (omega arith);
}

-- the ends, where they are not
pub out_signed : (N h A X : ℕ) → (2 * A < N → X + 1 ≡ h) → (N ≤ 2 * A → X ≡ h) → (2 * A < N → A < h → ⊥)
    → (N ≤ 2 * A → N ≤ A + h → ⊥) → IsSignedEnd true N h A X
out_signed N h A X plus minus p m = record {
  plain = λ less inside. absurd (p less inside);
  above = λ sat less past. plus less;
  minus = λ more inside. absurd (m more inside);
  below = λ sat more past. minus more;
}

-- ---- without a sign

pub plain_unsigned : (N P A L : ℕ) → (2 * A < N → A < P → L ≡ A) → IsUnsignedEnd false N P A L
plain_unsigned N P A L h = record {
  plain = h;
  above = λ sat less past. absurd (false≢true sat);
  below = λ sat more. absurd (false≢true sat);
}

pub kept_unsigned : (saturates : Bool) (N P A L : ℕ) → A ≡ L → L < P → 2 * A < N → IsUnsignedEnd saturates N P A L
kept_unsigned saturates N P A L e l m = record {
  plain = λ less inside. sym e;
  above = λ sat less past. absurd (omega arith);
  below = λ sat more. absurd (omega arith);
}

pub out_unsigned : (N P A X : ℕ) → (2 * A < N → X + 1 ≡ P) → (N ≤ 2 * A → X ≡ 0) → (2 * A < N → A < P → ⊥)
    → IsUnsignedEnd true N P A X
out_unsigned N P A X plus minus p = record {
  plain = λ less inside. absurd (p less inside);
  above = λ sat less past. plus less;
  below = λ sat more. minus more;
}
