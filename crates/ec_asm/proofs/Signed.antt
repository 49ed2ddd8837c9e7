-- The flag S after a comparison tells which signed number is less.
use Rattle.std.proofs.Common.{◌≡◌, ◌≢◌, ℕ, suc, ◌+◌, ◌-◌, ◌*◌, ◌/◌, ◌%◌, ◌^◌, ◌<◌, ◌≤◌, ⊎_elim, false, refl, sym, ap, ◌∙◌, subst, arith}
use Rattle.std.specs.Prelude.{nat_lt, if◌then◌else◌}
use Rattle.std.specs.Int.{from_bool}
use Rattle.std.proofs.lemmas.Bool.{cases_lt, cases_eq, lt-ltb}
use Rattle.std.proofs.lemmas.Bool.Decides.{nat_tests}
use Rattle.std.proofs.lemmas.Nat.{mul-le, mod-mul-add}
use native.Mathlib.Nat.{pow-suc}
use Rattle.ec_asm.specs.declared.pieces.Location.{Location}
use Rattle.ec_asm.specs.View.{Flags, View}
use Rattle.ec_asm.specs.Change.{Env, Kind, Own, difference_flags}
use Rattle.ec_asm.specs.Items.{block}
use Rattle.ec_asm.specs.Pieces.{StandsFrom, value, carry_at, zero_at, compare_byte, compare_code}
use Rattle.ec_asm.specs.PieceLaws.{HoldsNumbers, moved_up, ComparisonsTellSigned}
use Rattle.ec_asm.proofs.Hoare.{block-append}
use Rattle.ec_asm.proofs.Numbers.{value_below}
use Rattle.ec_asm.proofs.Compared.{compare_holds, compare_operates, borrow_is}

-- a signed byte, moved up by 128
abbrev up : ℕ → ℕ
up x = if nat_lt x 128 then x + 128 else x - 128

signed_byte : (f : Flags) (x y c z : ℕ) → x < 256 → y < 256 → c ≤ 1
    → (difference_flags f x y c z).s ≡ from_bool (nat_lt (up x) (up y + c))
signed_byte f x y c z p q r = grind (arith, nat_tests)

-- with the borrow of the bytes below
less_above : (x y lx ly p : ℕ) → x < y → (x + 1) * p ≤ y * p → lx < p → ly < p
    → from_bool (nat_lt x (y + from_bool (nat_lt lx ly))) ≡ from_bool (nat_lt (x * p + lx) (y * p + ly))
less_above x y lx ly p h m a b =
    let u = lt-ltb x (y + from_bool (nat_lt lx ly)) (omega arith) in
    let w = lt-ltb (x * p + lx) (y * p + ly) (omega arith) in
    rw (u, w) refl

less_beside : (y lx ly p : ℕ)
    → from_bool (nat_lt y (y + from_bool (nat_lt lx ly))) ≡ from_bool (nat_lt (y * p + lx) (y * p + ly))
less_beside y lx ly p = grind (arith, nat_tests)

not_less : (x y lx ly p : ℕ) → y < x → (y + 1) * p ≤ x * p → lx < p → ly < p
    → from_bool (nat_lt x (y + from_bool (nat_lt lx ly))) ≡ from_bool (nat_lt (x * p + lx) (y * p + ly))
not_less x y lx ly p h m a b = grind (arith, nat_tests)

less_with_borrow : (x y lx ly p : ℕ) → lx < p → ly < p
    → from_bool (nat_lt x (y + from_bool (nat_lt lx ly))) ≡ from_bool (nat_lt (x * p + lx) (y * p + ly))
less_with_borrow x y lx ly p a b =
    ⊎_elim
    (λ h. let m : (x + 1) * p ≤ y * p = mul-le (x + 1) p y p (omega arith) (omega arith) in less_above x y lx ly p h m a b)
    (λ h. ⊎_elim
    (λ (i : x ≡ y). rw i (less_beside y lx ly p))
    (λ (i : x ≢ y). let m : (y + 1) * p ≤ x * p = mul-le (y + 1) p x p (omega arith) (omega arith) in
    not_less x y lx ly p (omega arith) m a b)
    (cases_eq x y))
    (cases_lt x y)

-- a number whose top byte is moved up
moved_low : (low top p : ℕ) → low < p → top < 128 → (low + top * p + p * 256 / 2) % (p * 256) ≡ (top + 128) * p + low
moved_low low top p l h =
    let m : (top + 129) * p ≤ 256 * p = mul-le (top + 129) p 256 p (omega arith) (omega arith) in
    let e : low + top * p + p * 256 / 2 ≡ 0 * (p * 256) + ((top + 128) * p + low) = omega arith in
    ap (λ t. t % (p * 256)) e ∙ mod-mul-add 0 (p * 256) ((top + 128) * p + low) (omega arith)

moved_high : (low top p : ℕ) → low < p → top < 128
    → (low + (top + 128) * p + p * 256 / 2) % (p * 256) ≡ top * p + low
moved_high low top p l h =
    let m : (top + 1) * p ≤ 128 * p = mul-le (top + 1) p 128 p (omega arith) (omega arith) in
    let e : low + (top + 128) * p + p * 256 / 2 ≡ 1 * (p * 256) + (top * p + low) = omega arith in
    ap (λ t. t % (p * 256)) e ∙ mod-mul-add 1 (p * 256) (top * p + low) (omega arith)

moved : (low top p : ℕ) → low < p → top < 256 → (low + top * p + p * 256 / 2) % (p * 256) ≡ up top * p + low
moved low top p l h =
    ⊎_elim
    (λ k. let y = lt-ltb top 128 k in rw y (moved_low low top p l k))
    (λ k.
    let no : nat_lt top 128 ≡ false = grind (arith, nat_tests) in
    let e : top ≡ top - 128 + 128 = omega arith in
    rw no
    (subst (λ t. (low + t * p + p * 256 / 2) % (p * 256) ≡ (top - 128) * p + low) (sym e) (moved_high low (top - 128) p l (omega arith))))
    (cases_lt top 128)

fewer_stand : (e : Env) (p : Location) (n a : ℕ) (k : Kind) → StandsFrom e p (suc n) a k → StandsFrom e p n a k
fewer_stand e p n a k s =
    record { at = λ i l. s.at i (omega arith); kind = λ i l. s.kind i (omega arith); clear = s.clear }

sign_is : (e : Env) (p q : Location) (n a b : ℕ) (v : View) → StandsFrom e p (suc n) a Own → StandsFrom e q (suc n) b Own
    → HoldsNumbers v
    → (block e (compare_byte p q n) (block e (compare_code p q n) v)).flags.s
    ≡ from_bool (nat_lt (up (v.at (b + n)) * 256 ^ n + value v.at b n) (up (v.at (a + n)) * 256 ^ n + value v.at a n))
sign_is e p q n a b v sa sb bytes =
    let ua = sa.clear in
    let ub = sb.clear in
    let w = block e (compare_code p q n) v in
    let h = compare_holds e p q n a b v (fewer_stand e p n a Own sa) (fewer_stand e q n b Own sb) bytes in
    let c = carry_at n w.flags in
    let la = value_below v.at a n (λ j m. bytes (a + j) (omega arith)) in
    let lb = value_below v.at b n (λ j m. bytes (b + j) (omega arith)) in
    let k = borrow_is h.rest (value v.at a n) (value v.at b n) c (256 ^ n) h.difference h.below h.borrow la lb in
    let o = compare_operates e p q n (a + n) (b + n) w (sa.at n (omega arith)) (sb.at n (omega arith)) (sa.kind n (omega arith))
    (sb.kind n (omega arith)) (omega arith) (omega arith) in
    let ex = h.keeps.same (a + n) (omega arith) (omega arith) in
    let ey = h.keeps.same (b + n) (omega arith) (omega arith) in
    o.sign
    ∙ rw (ex, ey) (signed_byte w.flags (v.at (b + n)) (v.at (a + n)) c (zero_at n w.flags) (bytes (b + n) (omega arith))
    (bytes (a + n) (omega arith)) h.borrow)
    ∙ ap (λ t. from_bool (nat_lt (up (v.at (b + n))) (up (v.at (a + n)) + t))) k
    ∙ less_with_borrow (up (v.at (b + n))) (up (v.at (a + n))) (value v.at b n) (value v.at a n) (256 ^ n) lb la

moved_is : (v : View) (a n : ℕ) → 2 ≤ a → HoldsNumbers v
    → moved_up (suc n) (value v.at a (suc n)) ≡ up (v.at (a + n)) * 256 ^ n + value v.at a n
moved_is v a n l bytes =
    rw (pow-suc 256 n) (moved (value v.at a n) (v.at (a + n)) (256 ^ n) (value_below v.at a n (λ j m. bytes (a + j) (omega arith)))
    (bytes (a + n) (omega arith)))

pub comparisons_tell_signed : ComparisonsTellSigned
comparisons_tell_signed e p q n a b v sa sb bytes =
    rw (block-append e (compare_code p q n) (compare_byte p q n) v, moved_is v a n sa.clear bytes, moved_is v b n sb.clear bytes)
    (sign_is e p q n a b v sa sb bytes)
