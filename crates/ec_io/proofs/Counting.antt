-- Counts that rise in several calls.
use Rattle.std.proofs.Common.{◌≡◌, ◌+◌, ℕ, arith}
use Rattle.ec_io.specs.Causes.{Counted}

pub counted_none : (before now : ℕ) → now ≡ before → Counted before now 0
counted_none before now same = record { least = omega arith; most = omega arith; later = omega arith }

pub counted_more : (a b c n m k : ℕ) → Counted a b n → Counted b c m → n + m ≡ k → Counted a c k
counted_more a b c n m k first then sum = record { least = omega arith; most = omega arith; later = omega arith }
