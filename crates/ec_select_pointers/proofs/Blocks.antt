-- Addresses outside a row of bytes.
use Rattle.std.proofs.Common.{◌≢◌, ℕ, suc, ◌+◌, ◌<◌, arith}
use Rattle.ec_asm.specs.Pieces.{Outside}

pub outside_ne : (a n k j : ℕ) → Outside a n k → j < n → k ≢ a + j
outside_ne a n k j o l q = let b = o (omega arith) in omega arith

pub fewer : (a i k : ℕ) → Outside a (suc i) k → Outside a i k
fewer a i k o l = let b = o l in omega arith
