-- A flag of SREG that is set alone.
use Rattle.std.proofs.Common.{◌≡◌, ℕ, zero, suc, ◌<◌, ◌≤◌, true, refl, arith}
use Rattle.std.specs.Prelude.{if◌then◌else◌, ◌==◌}
use Rattle.std.proofs.lemmas.Bool.{false≢true}
use Rattle.std.specs.Int.{bit_at}
use Rattle.ec_avr.specs.Flags.{with_bit}
use Rattle.ec_avr.specs.Laws.{SetsOneBit}
use Rattle.ec_asm.specs.View.{flags_of}
use Rattle.ec_asm.specs.Change.{flag_put, flag_at}
use Rattle.ec_asm.specs.Run.{is_flag}

flags_are : (u c z n v s t : ℕ) → bit_at u 0 ≡ c → bit_at u 1 ≡ z → bit_at u 2 ≡ n → bit_at u 3 ≡ v → bit_at u 4 ≡ s
    → bit_at u 6 ≡ t → flags_of u ≡ record { c = c; z = z; n = n; v = v; s = s; t = t }
flags_are u c z n v s t a b d e f g = rw (a, b, d, e, f, g) refl

parts : SetsOneBit → (w b x : ℕ) → b < 8 → x ≤ 1 → flags_of (with_bit w b x) ≡ record {
  c = if 0 == b then x else bit_at w 0;
  z = if 1 == b then x else bit_at w 1;
  n = if 2 == b then x else bit_at w 2;
  v = if 3 == b then x else bit_at w 3;
  s = if 4 == b then x else bit_at w 4;
  t = if 6 == b then x else bit_at w 6;
}
parts one w b x m k =
    let is = λ (j : ℕ) (l : j < 8). one w b x j m k l in
    flags_are (with_bit w b x) _ _ _ _ _ _ (is 0 (omega arith)) (is 1 (omega arith)) (is 2 (omega arith)) (is 3 (omega arith))
    (is 4 (omega arith)) (is 6 (omega arith))

pub flags-with_bit : SetsOneBit → (w b x : ℕ) → b < 8 → x ≤ 1 → flags_of (with_bit w b x) ≡ flag_put (flags_of w) b x
flags-with_bit one w zero x m k = parts one w 0 x m k
flags-with_bit one w (suc zero) x m k = parts one w 1 x m k
flags-with_bit one w (suc (suc zero)) x m k = parts one w 2 x m k
flags-with_bit one w (suc (suc (suc zero))) x m k = parts one w 3 x m k
flags-with_bit one w (suc (suc (suc (suc zero)))) x m k = parts one w 4 x m k
flags-with_bit one w (suc (suc (suc (suc (suc zero))))) x m k = parts one w 5 x m k
flags-with_bit one w (suc (suc (suc (suc (suc (suc zero)))))) x m k = parts one w 6 x m k
flags-with_bit one w (suc (suc (suc (suc (suc (suc (suc zero))))))) x m k = parts one w 7 x m k
flags-with_bit one w (suc (suc (suc (suc (suc (suc (suc (suc b)))))))) x m k = absurd (omega arith)

pub flag_seen : (w b : ℕ) → is_flag b ≡ true → flag_at (flags_of w) b ≡ bit_at w b
flag_seen w zero h = refl
flag_seen w (suc zero) h = refl
flag_seen w (suc (suc zero)) h = refl
flag_seen w (suc (suc (suc zero))) h = refl
flag_seen w (suc (suc (suc (suc zero)))) h = refl
flag_seen w (suc (suc (suc (suc (suc zero))))) h = absurd (false≢true h)
flag_seen w (suc (suc (suc (suc (suc (suc zero)))))) h = refl
flag_seen w (suc (suc (suc (suc (suc (suc (suc b))))))) h = absurd (false≢true h)
