-- The answer of a format to a number, from what its bytes are where it fits and where it does not.
use Rattle.std.proofs.Common.{◌≡◌, ℕ, ◌+◌, ◌-◌, ◌*◌, ◌^◌, ◌<◌, ◌≤◌, ⊎_elim, Bool, true, false, if◌then◌else◌, refl, arith, ℤ, pos, negsuc}
use Rattle.std.proofs.Common.{neg_ℤ, ◌-ℤ◌}
use Rattle.std.proofs.lemmas.Bool.{cases_lt, lt-ltb, le-ltb}
use Rattle.std.proofs.lemmas.Int.{ints}
use Rattle.ec_fx.specs.declared.formats.Format.{Format}
use Rattle.ec_fx.specs.declared.numbers.Mode.{Mode}
use Rattle.ec_fx.specs.declared.numbers.Fx.TheVariants.{Got, Overflow}
use Rattle.ec_fx.specs.Results.{clamped, fit}
use Rattle.ec_fxcode.specs.ClampLaws.{signed_number, in_bytes, HoldsResult}

-- what k bytes are, where a number A of n bytes was brought into a format with a sign: N is 256 ^ n, and h half of
-- 256 ^ k
pub record IsSignedEnd (saturates : Bool) (N h A X : ℕ) : Type 0 where
  pub plain : 2 * A < N → A < h → X ≡ A
  pub above : saturates ≡ true → 2 * A < N → h ≤ A → X + 1 ≡ h
  pub minus : N ≤ 2 * A → N ≤ A + h → X + N ≡ 2 * h + A
  pub below : saturates ≡ true → N ≤ 2 * A → A + h < N → X ≡ h

-- and where it was brought into one without a sign: P is 256 ^ k
pub record IsUnsignedEnd (saturates : Bool) (N P A X : ℕ) : Type 0 where
  pub plain : 2 * A < N → A < P → X ≡ A
  pub above : saturates ≡ true → 2 * A < N → P ≤ A → X + 1 ≡ P
  pub below : saturates ≡ true → N ≤ 2 * A → X ≡ 0

holds_by : (to : Format) (mode : Mode) (k X : ℕ) (end : ℤ) (b : Bool) → (b ≡ true → X ≡ in_bytes k end)
    → HoldsResult k (if b then Got (record { format = to; n = end }) else Overflow) X
holds_by to mode k X end true h = h refl
holds_by to mode k X end false h = tt

holds_end : (to : Format) (mode : Mode) (k X : ℕ) (end : ℤ) → (mode.saturate ≡ true → X ≡ in_bytes k end)
    → HoldsResult k (clamped to mode end) X
holds_end to mode k X end h = holds_by to mode k X end mode.saturate h

-- ---- numbers with and without a sign

pub plus : (n A : ℕ) → 2 * A < 256 ^ n → signed_number n A ≡ pos A
plus n A l = rw (lt-ltb (2 * A) (256 ^ n) l) refl

pub minus : (n A : ℕ) → 256 ^ n ≤ 2 * A → A < 256 ^ n → signed_number n A ≡ negsuc (256 ^ n - A - 1)
minus n A l m =
    let e : pos A -ℤ pos (256 ^ n) ≡ negsuc (256 ^ n - A - 1) = omega (arith, ints) in
    rw (le-ltb (2 * A) (256 ^ n) l) e

-- ---- the range with a sign

pub signed_inside : (to : Format) (mode : Mode) (x h : ℕ) → to.signed ≡ true → 2 ^ (to.bits - 1) ≡ h → x < h
    → fit to mode (pos x) ≡ Got (record { format = to; n = pos x })
signed_inside to mode x h s p l = rw (s, p) (grind (arith, ints))

signed_above : (to : Format) (mode : Mode) (x h : ℕ) → to.signed ≡ true → 2 ^ (to.bits - 1) ≡ h → 1 ≤ h → h ≤ x
    → fit to mode (pos x) ≡ clamped to mode (pos (h - 1))
signed_above to mode x h s p o l = rw (s, p) (grind (arith, ints))

pub negative_inside : (to : Format) (mode : Mode) (x h : ℕ) → to.signed ≡ true → 2 ^ (to.bits - 1) ≡ h → x < h
    → fit to mode (negsuc x) ≡ Got (record { format = to; n = negsuc x })
negative_inside to mode x h s p l = rw (s, p) (grind (arith, ints))

negative_below : (to : Format) (mode : Mode) (x h : ℕ) → to.signed ≡ true → 2 ^ (to.bits - 1) ≡ h → 1 ≤ h → h ≤ x
    → fit to mode (negsuc x) ≡ clamped to mode (negsuc (h - 1))
negative_below to mode x h s p o l =
    let e : neg_ℤ (pos h) ≡ negsuc (h - 1) = omega (arith, ints) in
    rw (s, p, e) (grind (arith, ints))

pub signed_holds : (to : Format) (mode : Mode) (n k A X h : ℕ) → to.signed ≡ true → 2 ^ (to.bits - 1) ≡ h → 1 ≤ h
    → 256 ^ k ≡ 2 * h → A < 256 ^ n → IsSignedEnd mode.saturate (256 ^ n) h A X
    → HoldsResult k (fit to mode (signed_number n A)) X
signed_holds to mode n k A X h s p o w l c =
    ⊎_elim
    (λ (less : 2 * A < 256 ^ n).
    ⊎_elim
    (λ (inside : A < h). rw (plus n A less, signed_inside to mode A h s p inside) (c.plain less inside))
    (λ (past : h ≤ A).
    rw (plus n A less, signed_above to mode A h s p o past)
    (holds_end to mode k X (pos (h - 1)) (λ sat. let e = c.above sat less past in omega (arith, e))))
    (cases_lt A h))
    (λ (more : 256 ^ n ≤ 2 * A).
    ⊎_elim
    (λ (past : A + h < 256 ^ n).
    rw (minus n A more l, negative_below to mode (256 ^ n - A - 1) h s p o (omega arith))
    (holds_end to mode k X (negsuc (h - 1)) (λ sat. let e = c.below sat more past in rw w (omega (arith, e)))))
    (λ (inside : 256 ^ n ≤ A + h).
    let e = c.minus more inside in
    let q : X ≡ 256 ^ k - (256 ^ n - A - 1 + 1) = rw w (omega (arith, e)) in
    rw (minus n A more l, negative_inside to mode (256 ^ n - A - 1) h s p (omega arith)) q)
    (cases_lt (A + h) (256 ^ n)))
    (cases_lt (2 * A) (256 ^ n))

-- ---- the range without a sign

pub unsigned_inside : (to : Format) (mode : Mode) (x P : ℕ) → to.signed ≡ false → 2 ^ to.bits ≡ P → x < P
    → fit to mode (pos x) ≡ Got (record { format = to; n = pos x })
unsigned_inside to mode x P s p l = rw (s, p) (grind (arith, ints))

unsigned_above : (to : Format) (mode : Mode) (x P : ℕ) → to.signed ≡ false → 2 ^ to.bits ≡ P → 1 ≤ P → P ≤ x
    → fit to mode (pos x) ≡ clamped to mode (pos (P - 1))
unsigned_above to mode x P s p o l = rw (s, p) (grind (arith, ints))

unsigned_below : (to : Format) (mode : Mode) (x : ℕ) → to.signed ≡ false → fit to mode (negsuc x) ≡ clamped to mode (pos 0)
unsigned_below to mode x s = rw s refl

pub unsigned_holds : (to : Format) (mode : Mode) (n k A X P : ℕ) → to.signed ≡ false → 2 ^ to.bits ≡ P → 1 ≤ P
    → A < 256 ^ n → IsUnsignedEnd mode.saturate (256 ^ n) P A X → HoldsResult k (fit to mode (signed_number n A)) X
unsigned_holds to mode n k A X P s p o l c =
    ⊎_elim
    (λ (less : 2 * A < 256 ^ n).
    ⊎_elim
    (λ (inside : A < P). rw (plus n A less, unsigned_inside to mode A P s p inside) (c.plain less inside))
    (λ (past : P ≤ A).
    rw (plus n A less, unsigned_above to mode A P s p o past)
    (holds_end to mode k X (pos (P - 1)) (λ sat. let e = c.above sat less past in omega (arith, e))))
    (cases_lt A P))
    (λ (more : 256 ^ n ≤ 2 * A).
    rw (minus n A more l, unsigned_below to mode (256 ^ n - A - 1) s)
    (holds_end to mode k X (pos 0) (λ sat. c.below sat more)))
    (cases_lt (2 * A) (256 ^ n))
