-- The code brings a number into a format.
use Rattle.std.proofs.Common.{◌≡◌, ◌≢◌, ℕ, zero, suc, ◌+◌, ◌-◌, ◌*◌, ◌/◌, ◌^◌, ◌<◌, ◌≤◌, min, ◌⊎◌, inl, inr, ⊎_elim, Bool, true, false}
use Rattle.std.proofs.Common.{refl, sym, ap, ◌∙◌, subst, arith, pow-add}
use Rattle.std.proofs.lemmas.Bool.{cases_eq, cases_lt}
use Rattle.std.proofs.lemmas.Nat.{mul-le, mod_below}
use Rattle.std.proofs.Math.Nat.{pow-le-pow_right}
use native.Mathlib.Nat.{pow-suc}
use Rattle.ec_fx.specs.declared.numbers.Fx.{Fx}
use Rattle.ec_asm.specs.View.{View}
use Rattle.ec_asm.specs.Pieces.{value}
use Rattle.ec_asm.specs.PieceLaws.{AreHeld, HoldsNumbers}
use Rattle.ec_asm.proofs.Numbers.{pow_pos, value_below}
use Rattle.ec_asm.proofs.Sum.{value-same}
use Rattle.ec_fxcode.specs.ClampLaws.{IsClearOfEnds, AreApart, HoldsResult}
use Rattle.ec_fxcode.proofs.Alike.{zeros, ones, zeros_only, ones_only, fill}
use Rattle.ec_fxcode.proofs.Ends.{ended, topped}
use Rattle.ec_fxcode.proofs.Fits.{IsSignedEnd, IsUnsignedEnd}
use Rattle.ec_fxcode.proofs.Moves.{KeepsBut, clear_byte, Extends}
use Rattle.ec_fxcode.proofs.Outcomes.{Fits, Passes, Saturates, fits_signed, fits_unsigned, passes_above, passes_below, passes_over}
use Rattle.ec_fxcode.proofs.Outcomes.{passes_under}
use Rattle.ec_fxcode.proofs.Parts.{IsSign, sign_is, narrow, IsWide, wide, no_part, all_part, narrow_signed, wide_signed, kept_plus}
use Rattle.ec_fxcode.proofs.Parts.{kept_minus, out_signed, plain_unsigned, kept_unsigned, out_unsigned}

-- ---- widths

pub bits_power : (k : ℕ) → 2 ^ (8 * k) ≡ 256 ^ k
bits_power zero = refl
bits_power (suc k) =
    let e : 8 * suc k ≡ 8 * k + 8 = omega arith in
    let h = bits_power k in
    ap (λ t. 2 ^ t) e ∙ pow-add 2 (8 * k) 8 ∙ ap (λ t. t * 256) h ∙ sym (pow-suc 256 k)

pub half_power : (k : ℕ) → 2 ^ (8 * suc k - 1) ≡ 128 * 256 ^ k
half_power k =
    let e : 8 * suc k - 1 ≡ 7 + 8 * k = omega arith in
    ap (λ t. 2 ^ t) e ∙ pow-add 2 7 (8 * k) ∙ ap (λ t. 128 * t) (bits_power k)

pub two_halves : (k : ℕ) → 256 ^ suc k ≡ 2 * (128 * 256 ^ k)
two_halves k = let e = pow-suc 256 k in omega (arith, e)

pub some_half : (k : ℕ) → 1 ≤ 128 * 256 ^ k
some_half k = let e = pow_pos k in omega (arith, e)

part_below : (P N M H : ℕ) → N ≡ P * M → H < M → P ≤ N
part_below P N M H e l = let q : P * 1 ≤ P * M = mul-le P 1 P M (omega arith) (omega arith) in omega arith

-- ---- what is known of the low bytes

-- the bytes of the number at a are as they were
pub kept_number : (v v1 : View) (a n b k : ℕ) → 2 ≤ a → AreApart a n b k → IsClearOfEnds a n → KeepsBut v v1 b k → (j : ℕ)
    → j < n → v1.at (a + j) ≡ v.at (a + j)
kept_number v v1 a n b k two apart clear h j l =
    let f = clear_byte a n j clear two l in
    h.same (a + j) f.0 f.1 f.2 f.3 (λ x.
    ⊎_elim (λ less. let y = apart.first less in absurd (omega arith)) (λ more. let y = apart.second more in omega arith) (cases_lt a b))

held_low : (v v1 : View) (a b n k byte : ℕ) → AreHeld v.at a (suc n) → byte < 256 → Extends v a b k (min (suc n) k) byte v1
    → AreHeld v1.at b k
held_low v v1 a b n k byte h l x j m =
    ⊎_elim (λ less. rw (x.low j less) (h j (omega arith))) (λ more. rw (x.high j more m) l) (cases_lt j (min (suc n) k))

low_same : (v v1 : View) (a b n k byte : ℕ) → k ≤ suc n → Extends v a b k (min (suc n) k) byte v1 → (i : ℕ) → i < k
    → v1.at (b + i) ≡ v.at (a + i)
low_same v v1 a b n k byte l x i m = x.low i (omega arith)

-- ---- with a sign

signed_fits : (v v1 w : View) (a b n k r c t N P A L H M : ℕ) → AreHeld v1.at b (suc k) → IsWide N P A L H M
    → P ≡ 2 * (128 * 256 ^ k) → L ≡ value v1.at b (suc k) → IsSign L P t → H ≡ value v1.at (a + suc k) r → M ≡ 256 ^ r
    → Fits v1 w b k (a + suc k) r t c topped → IsSignedEnd true N (128 * 256 ^ k) A (value w.at b (suc k))
signed_fits v v1 w a b n k r c t N P A L H M held wd two low s high many f =
    let kept : value w.at b (suc k) ≡ L = fits_signed v1 w b k (a + suc k) r t c held f ∙ sym low in
    let whole = wd.whole in
    let power = wd.power in
    let more = part_below P N M H power wd.high in
    rw kept
    (⊎_elim
    (λ less.
    let z : H ≡ 0 = high ∙ zeros v1.at (a + suc k) r (λ j l. f.all j l ∙ s.plus less) in
    let e : A ≡ L + P * 0 = rw z at whole in
    kept_plus true N P (128 * 256 ^ k) A L two more (omega arith) less)
    (λ great.
    let o = ones v1.at (a + suc k) r (λ j l. f.all j l ∙ s.minus great) in
    let z : H + 1 ≡ M = omega arith in
    let q : P * (H + 1) ≡ P * M = ap (λ t. P * t) z in
    kept_minus true N P (128 * 256 ^ k) A L two more wd.below (omega arith) great)
    (cases_lt (2 * L) P))

signed_passes : (v v1 w : View) (a b n k r c t N P A L H M byte : ℕ) → IsWide N P A L H M
    → P ≡ 2 * (128 * 256 ^ k) → IsSign A N byte → IsSign L P t → c ≡ 0 → H ≡ value v1.at (a + suc k) r → M ≡ 256 ^ r
    → AreHeld v1.at (a + suc k) r → Passes v1 w b k (a + suc k) r t c byte topped
    → IsSignedEnd true N (128 * 256 ^ k) A (value w.at b (suc k))
signed_passes v v1 w a b n k r c t N P A L H M byte wd two sign s start high many held f =
    let whole = wd.whole in
    let power = wd.power in
    let some = some_half k in
    out_signed N (128 * 256 ^ k) A (value w.at b (suc k))
    (λ less. passes_above v1 w b k (a + suc k) r t c byte (sign.plus less) f)
    (λ more. passes_below v1 w b k (a + suc k) r t c byte (sign.minus more) f)
    (λ less inside.
    let z : H ≡ 0 = no_part P H A L whole (omega arith) in
    let e : A ≡ L + P * 0 = rw z at whole in
    let t0 : t ≡ 0 = s.plus (omega arith) in
    f.passes start (λ j l. zeros_only v1.at (a + suc k) r (sym high ∙ z) j l ∙ sym t0))
    (λ more inside.
    let z : H + 1 ≡ M = all_part P H M N A L (128 * 256 ^ k) whole power wd.below wd.high (omega arith) inside in
    let q : P * (H + 1) ≡ P * M = ap (λ t. P * t) z in
    let t1 : t ≡ 255 = s.minus (omega arith) in
    f.passes start (λ j l. ones_only v1.at (a + suc k) r held (omega arith) j l ∙ sym t1))

-- ---- without a sign

unsigned_fits : (v1 w : View) (a b k r N P A L H byte : ℕ) → AreHeld v1.at b (suc k) → L ≡ value v1.at b (suc k) → L < P
    → (2 * A < N → A ≡ L + P * H) → IsSign A N byte → H ≡ value v1.at (a + suc k) r
    → Fits v1 w b k (a + suc k) r 0 byte ended → IsUnsignedEnd true N P A (value w.at b (suc k))
unsigned_fits v1 w a b k r N P A L H byte held low below parts sign high f =
    let kept : value w.at b (suc k) ≡ L = fits_unsigned v1 w b k (a + suc k) r 0 byte held f ∙ sym low in
    let start = f.starts in
    let z : H ≡ 0 = high ∙ zeros v1.at (a + suc k) r f.all in
    let less : 2 * A < N = ⊎_elim (λ x. x) (λ x. let y = sign.minus x in absurd (omega arith)) (cases_lt (2 * A) N) in
    let e : A ≡ L + P * 0 = rw z at (parts less) in
    rw kept (kept_unsigned true N P A L (omega arith) below less)

unsigned_passes : (v1 w : View) (a b k r N P A L H byte : ℕ) → P ≡ 256 ^ suc k → (2 * A < N → A ≡ L + P * H)
    → IsSign A N byte → H ≡ value v1.at (a + suc k) r → Passes v1 w b k (a + suc k) r 0 byte byte ended
    → IsUnsignedEnd true N P A (value w.at b (suc k))
unsigned_passes v1 w a b k r N P A L H byte power parts sign high f =
    out_unsigned N P A (value w.at b (suc k))
    (λ less. passes_over v1 w b k (a + suc k) r 0 byte byte (sign.plus less) f ∙ sym power)
    (λ more. passes_under v1 w b k (a + suc k) r 0 byte byte (sign.minus more) f)
    (λ less inside.
    let z : H ≡ 0 = no_part P H A L (parts less) inside in
    f.passes (sign.plus less) (λ j l. zeros_only v1.at (a + suc k) r (sym high ∙ z) j l))

-- the number in two parts, where it has no sign
two_parts : (v v1 : View) (a b n k byte : ℕ) → AreHeld v.at a (suc n) → IsSign (value v.at a (suc n)) (256 ^ suc n) byte
    → Extends v a b k (min (suc n) k) byte v1 → 2 * value v.at a (suc n) < 256 ^ suc n
    → value v.at a (suc n) ≡ value v1.at b k + 256 ^ k * value v.at (a + k) (suc n - k)
two_parts v v1 a b n k byte h s x less =
    ⊎_elim
    (λ (short : suc n < k).
    let low = (narrow v v1 a b n k byte (omega arith) s x).plus less in
    let none : suc n - k ≡ 0 = omega arith in
    let z : value v.at (a + k) (suc n - k) ≡ 0 = ap (value v.at (a + k)) none in
    rw (low, z) (omega arith))
    (λ (long : k ≤ suc n). (wide v v1 a b n k byte long h x).whole)
    (cases_lt (suc n) k)

-- ---- all of it

-- k bytes hold a result, and all else is kept but the work registers, which hold bytes
pub record Done (v w : View) (b k : ℕ) (answer : Fx) : Type 0 where
  pub holds : HoldsResult k answer (value w.at b k)
  pub keeps : KeepsBut v w b k
  pub held : AreHeld w.at b k
  pub first : w.at 30 < 256
  pub second : w.at 31 < 256

keeps_both : (v v1 w : View) (b k : ℕ) → KeepsBut v v1 b k → KeepsBut v1 w b k → KeepsBut v w b k
keeps_both v v1 w b k g h = record {
  same = λ j x y z t o. h.same j x y z t o ∙ g.same j x y z t o;
  inputs = h.inputs ∙ g.inputs;
  safe = h.safe ∙ g.safe;
  seen = h.seen ∙ g.seen;
}

pub ended_is_byte : (x m s : ℕ) → ended x m s < 256
ended_is_byte x m s = mod_below _ 256 (omega arith)

held_by : (v w : View) (b k a r t c byte m s : ℕ) (top : ℕ → ℕ → ℕ → ℕ) → ((x m s : ℕ) → top x m s < 256)
    → ((j : ℕ) → j < k → w.at (b + j) ≡ ended (v.at (b + j)) m s) → w.at (b + k) ≡ top (v.at (b + k)) m s
    → AreHeld w.at b (suc k)
held_by v w b k a r t c byte m s top l low high j n =
    ⊎_elim (λ (same : j ≡ k). rw same (rw high (l (v.at (b + k)) m s)))
    (λ (other : j ≢ k). rw (low j (omega arith)) (ended_is_byte (v.at (b + j)) m s)) (cases_eq j k)

held_end : (v w : View) (b k a r t c byte : ℕ) (top : ℕ → ℕ → ℕ → ℕ) → ((x m s : ℕ) → top x m s < 256)
    → Fits v w b k a r t c top ⊎ Passes v w b k a r t c byte top → AreHeld w.at b (suc k)
held_end v w b k a r t c byte top l (inl f) = held_by v w b k a r t c byte 255 0 top l f.low f.top_is
held_end v w b k a r t c byte top l (inr f) = held_by v w b k a r t c byte 0 (255 - byte) top l f.low f.top_is

pub topped_is_byte : (x m s : ℕ) → topped x m s < 256
topped_is_byte x m s = mod_below _ 256 (omega arith)

-- the low bytes alone
pub low_done : (v v1 : View) (a b n k byte : ℕ) (answer : Fx) → HoldsResult k answer (value v1.at b k) → HoldsNumbers v
    → AreHeld v.at a (suc n) → byte < 256 → Extends v a b k (min (suc n) k) byte v1 → Done v v1 b k answer
low_done v v1 a b n k byte answer h bytes held l x = record {
  holds = h;
  keeps = x.keeps;
  held = held_low v v1 a b n k byte held l x;
  first = rw x.other (bytes 30 (omega arith));
  second = rw x.sign l;
}

-- and what follows them
pub end_done : (v v1 w : View) (b k a r t c byte : ℕ) (top : ℕ → ℕ → ℕ → ℕ) (answer : Fx) → ((x m s : ℕ) → top x m s < 256)
    → HoldsResult (suc k) answer (value w.at b (suc k)) → KeepsBut v v1 b (suc k) → Saturates v1 w b k a r t c byte top
    → Done v w b (suc k) answer
end_done v v1 w b k a r t c byte top answer l h keeps s = record {
  holds = h;
  keeps = keeps_both v v1 w b (suc k) keeps s.keeps;
  held = held_end v1 w b k a r t c byte top l s.outcome;
  first = s.first;
  second = s.second;
}

pub fill_is_byte : (x : ℕ) → x < 256 → fill x < 256
fill_is_byte x l =
    ⊎_elim (λ (m : x < 128). omega arith) (λ (m : 128 ≤ x). let q : x / 128 ≡ 1 = omega arith in rw q (omega arith))
    (cases_lt x 128)

moved_bytes : (v v1 : View) (a n i : ℕ) → ((j : ℕ) → j < n → v1.at (a + j) ≡ v.at (a + j)) → (j : ℕ) → j < n - i
    → v1.at (a + i + j) ≡ v.at (a + i + j)
moved_bytes v v1 a n i h j l = let e : a + (i + j) ≡ a + i + j = omega arith in subst (λ t. v1.at t ≡ v.at t) e (h (i + j) (omega arith))

moved_held : (v v1 : View) (a n i : ℕ) → ((j : ℕ) → j < n → v1.at (a + j) ≡ v.at (a + j)) → AreHeld v.at a n
    → AreHeld v1.at (a + i) (n - i)
moved_held v v1 a n i h held j l =
    let e : a + (i + j) ≡ a + i + j = omega arith in
    subst (λ t. v1.at t < 256) e (rw (h (i + j) (omega arith)) (held (i + j) (omega arith)))

pub signed_end : (v v1 w : View) (a b n k byte : ℕ) → suc k ≤ suc n → AreHeld v.at a (suc n) → byte < 256
    → IsSign (value v.at a (suc n)) (256 ^ suc n) byte → Extends v a b (suc k) (min (suc n) (suc k)) byte v1
    → ((j : ℕ) → j < suc n → v1.at (a + j) ≡ v.at (a + j))
    → Saturates v1 w b k (a + suc k) (suc n - suc k) (fill (v1.at (a + k))) 0 byte topped
    → IsSignedEnd true (256 ^ suc n) (128 * 256 ^ k) (value v.at a (suc n)) (value w.at b (suc k))
signed_end v v1 w a b n k byte long held l sign x kept s =
    let r = suc n - suc k in
    let wd = wide v v1 a b n (suc k) byte long held x in
    let high : value v.at (a + suc k) r ≡ value v1.at (a + suc k) r =
    sym (value-same v1.at v.at (a + suc k) r (moved_bytes v v1 a (suc n) (suc k) kept)) in
    let low_held = held_low v v1 a b n (suc k) byte held l x in
    let top : v1.at (a + k) ≡ v1.at (b + k) = kept k (omega arith) ∙ sym (low_same v v1 a b n (suc k) byte long x k (omega arith)) in
    let t : IsSign (value v1.at b (suc k)) (256 ^ suc k) (fill (v1.at (a + k))) = rw top (sign_is v1.at b k low_held) in
    by_outcome r wd high low_held t (moved_held v v1 a (suc n) (suc k) kept held) s.outcome
  where
    by_outcome : (r : ℕ)
        → IsWide (256 ^ suc n) (256 ^ suc k) (value v.at a (suc n)) (value v1.at b (suc k)) (value v.at (a + suc k) r) (256 ^ r)
        → value v.at (a + suc k) r ≡ value v1.at (a + suc k) r → AreHeld v1.at b (suc k)
        → IsSign (value v1.at b (suc k)) (256 ^ suc k) (fill (v1.at (a + k))) → AreHeld v1.at (a + suc k) r
        → Fits v1 w b k (a + suc k) r (fill (v1.at (a + k))) 0 topped ⊎ Passes v1 w b k (a + suc k) r (fill (v1.at (a + k))) 0 byte topped
        → IsSignedEnd true (256 ^ suc n) (128 * 256 ^ k) (value v.at a (suc n)) (value w.at b (suc k))
    by_outcome r wd high low_held t high_held (inl f) =
        signed_fits v v1 w a b n k r 0 (fill (v1.at (a + k))) (256 ^ suc n) (256 ^ suc k) (value v.at a (suc n)) (value v1.at b (suc k))
        (value v.at (a + suc k) r) (256 ^ r) low_held wd (two_halves k) refl t high refl f
    by_outcome r wd high low_held t high_held (inr f) =
        signed_passes v v1 w a b n k r 0 (fill (v1.at (a + k))) (256 ^ suc n) (256 ^ suc k) (value v.at a (suc n)) (value v1.at b (suc k))
        (value v.at (a + suc k) r) (256 ^ r) byte wd (two_halves k) sign t refl high refl high_held f

pub unsigned_end : (v v1 w : View) (a b n k byte : ℕ) → AreHeld v.at a (suc n) → byte < 256
    → IsSign (value v.at a (suc n)) (256 ^ suc n) byte → Extends v a b (suc k) (min (suc n) (suc k)) byte v1
    → ((j : ℕ) → j < suc n → v1.at (a + j) ≡ v.at (a + j))
    → Saturates v1 w b k (a + suc k) (suc n - suc k) 0 byte byte ended
    → IsUnsignedEnd true (256 ^ suc n) (256 ^ suc k) (value v.at a (suc n)) (value w.at b (suc k))
unsigned_end v v1 w a b n k byte held l sign x kept s =
    let r = suc n - suc k in
    let high : value v.at (a + suc k) r ≡ value v1.at (a + suc k) r =
    sym (value-same v1.at v.at (a + suc k) r (moved_bytes v v1 a (suc n) (suc k) kept)) in
    by_outcome r (two_parts v v1 a b n (suc k) byte held sign x) high (held_low v v1 a b n (suc k) byte held l x) s.outcome
  where
    by_outcome : (r : ℕ)
        → (2 * value v.at a (suc n) < 256 ^ suc n → value v.at a (suc n) ≡ value v1.at b (suc k) + 256 ^ suc k * value v.at (a + suc k) r)
        → value v.at (a + suc k) r ≡ value v1.at (a + suc k) r → AreHeld v1.at b (suc k)
        → Fits v1 w b k (a + suc k) r 0 byte ended ⊎ Passes v1 w b k (a + suc k) r 0 byte byte ended
        → IsUnsignedEnd true (256 ^ suc n) (256 ^ suc k) (value v.at a (suc n)) (value w.at b (suc k))
    by_outcome r parts high low_held (inl f) =
        unsigned_fits v1 w a b k r (256 ^ suc n) (256 ^ suc k) (value v.at a (suc n)) (value v1.at b (suc k))
        (value v.at (a + suc k) r) byte low_held refl (value_below v1.at b (suc k) low_held) parts sign high f
    by_outcome r parts high low_held (inr f) =
        unsigned_passes v1 w a b k r (256 ^ suc n) (256 ^ suc k) (value v.at a (suc n)) (value v1.at b (suc k))
        (value v.at (a + suc k) r) byte refl parts sign high f

-- without saturation the low bytes stand where the number fits
pub signed_low : (saturates : Bool) (v v1 : View) (a b n k byte : ℕ) → saturates ≡ false ⊎ (suc n ≤ suc k) → AreHeld v.at a (suc n)
    → IsSign (value v.at a (suc n)) (256 ^ suc n) byte → Extends v a b (suc k) (min (suc n) (suc k)) byte v1
    → IsSignedEnd saturates (256 ^ suc n) (128 * 256 ^ k) (value v.at a (suc n)) (value v1.at b (suc k))
signed_low saturates v v1 a b n k byte h held sign x =
    ⊎_elim
    (λ (short : suc n < suc k). few saturates (omega arith))
    (λ (long : suc k ≤ suc n).
    elim h [
      | inl never ↦ subst (λ s. IsSignedEnd s (256 ^ suc n) (128 * 256 ^ k) (value v.at a (suc n)) (value v1.at b (suc k))) (sym never)
          (wide_signed (256 ^ suc n) (256 ^ suc k) (128 * 256 ^ k) (value v.at a (suc n)) (value v1.at b (suc k)) (value v.at (a + suc k)
          (suc n - suc k)) (256 ^ (suc n - suc k)) (wide v v1 a b n (suc k) byte long held x) (two_halves k) (some_half k))
      | inr short ↦ few saturates short
    ])
    (cases_lt (suc n) (suc k))
  where
    few : (saturates : Bool) → suc n ≤ suc k
        → IsSignedEnd saturates (256 ^ suc n) (128 * 256 ^ k) (value v.at a (suc n)) (value v1.at b (suc k))
    few saturates short =
        let powers : 256 ^ suc n ≤ 256 ^ suc k = pow-le-pow_right {n = 256} (omega arith) {i = suc n} {j = suc k} short in
        narrow_signed saturates (256 ^ suc n) (256 ^ suc k) (128 * 256 ^ k) (value v.at a (suc n)) (value v1.at b (suc k))
        (two_halves k) powers (value_below v.at a (suc n) held) (narrow v v1 a b n (suc k) byte short sign x)

pub unsigned_low : (v v1 : View) (a b n k byte : ℕ) → AreHeld v.at a (suc n)
    → IsSign (value v.at a (suc n)) (256 ^ suc n) byte → Extends v a b (suc k) (min (suc n) (suc k)) byte v1
    → IsUnsignedEnd false (256 ^ suc n) (256 ^ suc k) (value v.at a (suc n)) (value v1.at b (suc k))
unsigned_low v v1 a b n k byte held sign x =
    plain_unsigned (256 ^ suc n) (256 ^ suc k) (value v.at a (suc n)) (value v1.at b (suc k))
    (λ less inside.
    let parts = two_parts v v1 a b n (suc k) byte held sign x less in
    let z = no_part (256 ^ suc k) (value v.at (a + suc k) (suc n - suc k)) (value v.at a (suc n)) (value v1.at b (suc k)) parts inside in
    let e : value v.at a (suc n) ≡ value v1.at b (suc k) + 256 ^ suc k * 0 = rw z at parts in
    omega arith)
