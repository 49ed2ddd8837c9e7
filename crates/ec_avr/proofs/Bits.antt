-- The bits of a byte, one of which is set to a value.
use Rattle.std.proofs.Common.{◌≡◌, ℕ, zero, suc, ◌*◌, ◌<◌, ◌≤◌, Bool, true, false, ◌==◌, arith}
use Rattle.std.specs.Prelude.{if◌then◌else◌}
use Rattle.std.specs.Int.{bit_at, from_bool}
use Rattle.ec_avr.specs.Flags.{with_bit}

pub bit_below : (x n : ℕ) → bit_at x n ≤ 1
bit_below x n = omega arith

pub bool_below : (b : Bool) → from_bool b ≤ 1
bool_below true = omega arith
bool_below false = omega arith

pub product_of_bits : (a b : ℕ) → a ≤ 1 → b ≤ 1 → a * b ≤ 1
product_of_bits zero b p q = omega arith
product_of_bits (suc zero) b p q = omega arith
product_of_bits (suc (suc a)) b p q = absurd (omega arith)

pub with_bit_below : (byte n value : ℕ) → byte < 256 → n < 8 → value ≤ 1 → with_bit byte n value < 256
with_bit_below byte zero value b l v = omega arith
with_bit_below byte (suc zero) value b l v = omega arith
with_bit_below byte (suc (suc zero)) value b l v = omega arith
with_bit_below byte (suc (suc (suc zero))) value b l v = omega arith
with_bit_below byte (suc (suc (suc (suc zero)))) value b l v = omega arith
with_bit_below byte (suc (suc (suc (suc (suc zero))))) value b l v = omega arith
with_bit_below byte (suc (suc (suc (suc (suc (suc zero)))))) value b l v = omega arith
with_bit_below byte (suc (suc (suc (suc (suc (suc (suc zero))))))) value b l v = omega arith
with_bit_below byte (suc (suc (suc (suc (suc (suc (suc (suc n)))))))) value b l v = absurd (omega arith)

bit_of_0 : (byte value k : ℕ) → value ≤ 1 → k < 8 → bit_at (with_bit byte 0 value) k ≡ (if k == 0 then value else bit_at byte k)
bit_of_0 byte value zero v l = omega arith
bit_of_0 byte value (suc zero) v l = omega arith
bit_of_0 byte value (suc (suc zero)) v l = omega arith
bit_of_0 byte value (suc (suc (suc zero))) v l = omega arith
bit_of_0 byte value (suc (suc (suc (suc zero)))) v l = omega arith
bit_of_0 byte value (suc (suc (suc (suc (suc zero))))) v l = omega arith
bit_of_0 byte value (suc (suc (suc (suc (suc (suc zero)))))) v l = omega arith
bit_of_0 byte value (suc (suc (suc (suc (suc (suc (suc zero))))))) v l = omega arith
bit_of_0 byte value (suc (suc (suc (suc (suc (suc (suc (suc k)))))))) v l = absurd (omega arith)

bit_of_1 : (byte value k : ℕ) → value ≤ 1 → k < 8 → bit_at (with_bit byte 1 value) k ≡ (if k == 1 then value else bit_at byte k)
bit_of_1 byte value zero v l = omega arith
bit_of_1 byte value (suc zero) v l = omega arith
bit_of_1 byte value (suc (suc zero)) v l = omega arith
bit_of_1 byte value (suc (suc (suc zero))) v l = omega arith
bit_of_1 byte value (suc (suc (suc (suc zero)))) v l = omega arith
bit_of_1 byte value (suc (suc (suc (suc (suc zero))))) v l = omega arith
bit_of_1 byte value (suc (suc (suc (suc (suc (suc zero)))))) v l = omega arith
bit_of_1 byte value (suc (suc (suc (suc (suc (suc (suc zero))))))) v l = omega arith
bit_of_1 byte value (suc (suc (suc (suc (suc (suc (suc (suc k)))))))) v l = absurd (omega arith)

bit_of_2 : (byte value k : ℕ) → value ≤ 1 → k < 8 → bit_at (with_bit byte 2 value) k ≡ (if k == 2 then value else bit_at byte k)
bit_of_2 byte value zero v l = omega arith
bit_of_2 byte value (suc zero) v l = omega arith
bit_of_2 byte value (suc (suc zero)) v l = omega arith
bit_of_2 byte value (suc (suc (suc zero))) v l = omega arith
bit_of_2 byte value (suc (suc (suc (suc zero)))) v l = omega arith
bit_of_2 byte value (suc (suc (suc (suc (suc zero))))) v l = omega arith
bit_of_2 byte value (suc (suc (suc (suc (suc (suc zero)))))) v l = omega arith
bit_of_2 byte value (suc (suc (suc (suc (suc (suc (suc zero))))))) v l = omega arith
bit_of_2 byte value (suc (suc (suc (suc (suc (suc (suc (suc k)))))))) v l = absurd (omega arith)

bit_of_3 : (byte value k : ℕ) → value ≤ 1 → k < 8 → bit_at (with_bit byte 3 value) k ≡ (if k == 3 then value else bit_at byte k)
bit_of_3 byte value zero v l = omega arith
bit_of_3 byte value (suc zero) v l = omega arith
bit_of_3 byte value (suc (suc zero)) v l = omega arith
bit_of_3 byte value (suc (suc (suc zero))) v l = omega arith
bit_of_3 byte value (suc (suc (suc (suc zero)))) v l = omega arith
bit_of_3 byte value (suc (suc (suc (suc (suc zero))))) v l = omega arith
bit_of_3 byte value (suc (suc (suc (suc (suc (suc zero)))))) v l = omega arith
bit_of_3 byte value (suc (suc (suc (suc (suc (suc (suc zero))))))) v l = omega arith
bit_of_3 byte value (suc (suc (suc (suc (suc (suc (suc (suc k)))))))) v l = absurd (omega arith)

bit_of_4 : (byte value k : ℕ) → value ≤ 1 → k < 8 → bit_at (with_bit byte 4 value) k ≡ (if k == 4 then value else bit_at byte k)
bit_of_4 byte value zero v l = omega arith
bit_of_4 byte value (suc zero) v l = omega arith
bit_of_4 byte value (suc (suc zero)) v l = omega arith
bit_of_4 byte value (suc (suc (suc zero))) v l = omega arith
bit_of_4 byte value (suc (suc (suc (suc zero)))) v l = omega arith
bit_of_4 byte value (suc (suc (suc (suc (suc zero))))) v l = omega arith
bit_of_4 byte value (suc (suc (suc (suc (suc (suc zero)))))) v l = omega arith
bit_of_4 byte value (suc (suc (suc (suc (suc (suc (suc zero))))))) v l = omega arith
bit_of_4 byte value (suc (suc (suc (suc (suc (suc (suc (suc k)))))))) v l = absurd (omega arith)

bit_of_5 : (byte value k : ℕ) → value ≤ 1 → k < 8 → bit_at (with_bit byte 5 value) k ≡ (if k == 5 then value else bit_at byte k)
bit_of_5 byte value zero v l = omega arith
bit_of_5 byte value (suc zero) v l = omega arith
bit_of_5 byte value (suc (suc zero)) v l = omega arith
bit_of_5 byte value (suc (suc (suc zero))) v l = omega arith
bit_of_5 byte value (suc (suc (suc (suc zero)))) v l = omega arith
bit_of_5 byte value (suc (suc (suc (suc (suc zero))))) v l = omega arith
bit_of_5 byte value (suc (suc (suc (suc (suc (suc zero)))))) v l = omega arith
bit_of_5 byte value (suc (suc (suc (suc (suc (suc (suc zero))))))) v l = omega arith
bit_of_5 byte value (suc (suc (suc (suc (suc (suc (suc (suc k)))))))) v l = absurd (omega arith)

bit_of_6 : (byte value k : ℕ) → value ≤ 1 → k < 8 → bit_at (with_bit byte 6 value) k ≡ (if k == 6 then value else bit_at byte k)
bit_of_6 byte value zero v l = omega arith
bit_of_6 byte value (suc zero) v l = omega arith
bit_of_6 byte value (suc (suc zero)) v l = omega arith
bit_of_6 byte value (suc (suc (suc zero))) v l = omega arith
bit_of_6 byte value (suc (suc (suc (suc zero)))) v l = omega arith
bit_of_6 byte value (suc (suc (suc (suc (suc zero))))) v l = omega arith
bit_of_6 byte value (suc (suc (suc (suc (suc (suc zero)))))) v l = omega arith
bit_of_6 byte value (suc (suc (suc (suc (suc (suc (suc zero))))))) v l = omega arith
bit_of_6 byte value (suc (suc (suc (suc (suc (suc (suc (suc k)))))))) v l = absurd (omega arith)

bit_of_7 : (byte value k : ℕ) → value ≤ 1 → k < 8 → bit_at (with_bit byte 7 value) k ≡ (if k == 7 then value else bit_at byte k)
bit_of_7 byte value zero v l = omega arith
bit_of_7 byte value (suc zero) v l = omega arith
bit_of_7 byte value (suc (suc zero)) v l = omega arith
bit_of_7 byte value (suc (suc (suc zero))) v l = omega arith
bit_of_7 byte value (suc (suc (suc (suc zero)))) v l = omega arith
bit_of_7 byte value (suc (suc (suc (suc (suc zero))))) v l = omega arith
bit_of_7 byte value (suc (suc (suc (suc (suc (suc zero)))))) v l = omega arith
bit_of_7 byte value (suc (suc (suc (suc (suc (suc (suc zero))))))) v l = omega arith
bit_of_7 byte value (suc (suc (suc (suc (suc (suc (suc (suc k)))))))) v l = absurd (omega arith)

-- the bit that was set has the value, and every other bit stays
pub bit_at-with_bit : (byte n value k : ℕ) → n < 8 → value ≤ 1 → k < 8
    → bit_at (with_bit byte n value) k ≡ (if k == n then value else bit_at byte k)
bit_at-with_bit byte zero value k l v m = bit_of_0 byte value k v m
bit_at-with_bit byte (suc zero) value k l v m = bit_of_1 byte value k v m
bit_at-with_bit byte (suc (suc zero)) value k l v m = bit_of_2 byte value k v m
bit_at-with_bit byte (suc (suc (suc zero))) value k l v m = bit_of_3 byte value k v m
bit_at-with_bit byte (suc (suc (suc (suc zero)))) value k l v m = bit_of_4 byte value k v m
bit_at-with_bit byte (suc (suc (suc (suc (suc zero))))) value k l v m = bit_of_5 byte value k v m
bit_at-with_bit byte (suc (suc (suc (suc (suc (suc zero)))))) value k l v m = bit_of_6 byte value k v m
bit_at-with_bit byte (suc (suc (suc (suc (suc (suc (suc zero))))))) value k l v m = bit_of_7 byte value k v m
bit_at-with_bit byte (suc (suc (suc (suc (suc (suc (suc (suc n)))))))) value k l v m = absurd (omega arith)
