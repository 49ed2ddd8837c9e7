-- Truth values that a flag tells.
use Rattle.std.proofs.Common.{◌≡◌, ℕ, zero, suc, ◌^◌, ◌<◌, ◌≤◌, Bool, true, false, not, pos, Some, refl, arith, ap, ◌∙◌}
use Rattle.std.specs.Prelude.{◌==◌}
use Rattle.std.specs.Int.{from_bool}
use Rattle.std.proofs.lemmas.Bool.{eq-eqb}
use native.Mathlib.Nat.{pow-suc}
use Rattle.ec_asm.proofs.Numbers.{pow_pos}
use Rattle.ec_asm.specs.Takes.{if_bit}
use Rattle.ec_ir.specs.declared.operations.Temp.{Temp}
use Rattle.ec_ir.specs.Temporaries.{Content, Held, Temps, with_content, low_bytes}
use Rattle.ec_select_functions.proofs.Wrapped.{low_of_number}

pub bit_is : (b : Bool) → from_bool b ≡ if_bit b
bit_is true = refl
bit_is false = refl

pub not_not : (b : Bool) → not (not b) ≡ b
not_not true = refl
not_not false = refl

pub not_zero_bit : (b : Bool) → not b ≡ (from_bool b == 0)
not_zero_bit true = refl
not_zero_bit false = refl

-- a truth value has one byte
truth_fits : (n : ℕ) (b : Bool) → from_bool b < 256 ^ suc n
truth_fits n true = let some = pow_pos n in rw (pow-suc 256 n) (omega (arith, some))
truth_fits n false = let some = pow_pos n in rw (pow-suc 256 n) (omega (arith, some))

pub truth_low : (bytes : ℕ) → 1 ≤ bytes → (b : Bool) → low_bytes bytes (pos (from_bool b)) ≡ from_bool b
truth_low zero some b = absurd (omega arith)
truth_low (suc n) some b = low_of_number false (suc n) (from_bool b) (truth_fits n b)

-- what a temporary has got
pub held_at : (t : Temp) (c : Content) (temps : Temps)
    → with_content t c temps t.at ≡ Some (record { bytes = t.bytes; content = c })
held_at t c temps = let q = eq-eqb t.at t.at refl in rw q refl

pub content_of_held : (h k : Held) → Some h ≡ Some k → h.content ≡ k.content
content_of_held h k q = let e : h ≡ k = cc in ap (λ x. x.content) e

pub bytes_of_held : (h k : Held) → Some h ≡ Some k → h.bytes ≡ k.bytes
bytes_of_held h k q = let e : h ≡ k = cc in ap (λ x. x.bytes) e

-- ---- temporaries that are the same

pub same_temp : (t u : Temp) → u.at ≡ t.at → u.bytes ≡ t.bytes → u ≡ t
same_temp t u p q = ap (λ x. record { at = x; bytes = u.bytes }) p ∙ ap (λ x. record { at = t.at; bytes = x }) q
