use Rattle.std.proofs.Common.{ℕ, zero, suc, ◌+◌, ◌-◌, ◌*◌, ◌%◌, ◌^◌, ◌<◌, ◌≤◌, arith}
use Rattle.std.specs.Int.{bit_at}
use Rattle.ec_avr.proofs.machine.flags.with_bit.Goals as goal

-- a byte with one bit changed is a byte
stays_a_byte : (byte n value : ℕ) → byte < 256 → n < 8 → value ≤ 1
    → byte - bit_at byte n * (1 * 2 ^ n % 256) + value * (1 * 2 ^ n % 256) < 256
stays_a_byte byte zero value b n v = omega arith
stays_a_byte byte (suc zero) value b n v = omega arith
stays_a_byte byte (suc (suc zero)) value b n v = omega arith
stays_a_byte byte (suc (suc (suc zero))) value b n v = omega arith
stays_a_byte byte (suc (suc (suc (suc zero)))) value b n v = omega arith
stays_a_byte byte (suc (suc (suc (suc (suc zero))))) value b n v = omega arith
stays_a_byte byte (suc (suc (suc (suc (suc (suc zero)))))) value b n v = omega arith
stays_a_byte byte (suc (suc (suc (suc (suc (suc (suc zero))))))) value b n v = omega arith
stays_a_byte byte (suc (suc (suc (suc (suc (suc (suc (suc n)))))))) value b h v = absurd (omega arith)

pub overflow_add-result : goal.overflow_add-result
overflow_add-result c =
    let small = stays_a_byte c.args.byte c.args.n c.args.value c.ranges.byte.fits c.requires.eighth c.requires.bit in
    rw c.bit.ensures (record { fits = small })
