-- Bytes of a place.
use Rattle.std.proofs.Common.{ℕ, ◌+◌, ◌<◌, ◌≤◌, arith}
use Rattle.ec_asm.specs.declared.pieces.Location.{Location}
use Rattle.ec_asm.specs.declared.pieces.Location.TheVariants.{InRegisters, InMemory}
use Rattle.ec_asm.specs.Pieces.{HasBytes, HasByte}
use Rattle.ec_fxcode_quotients.specs.Quotients.{further}

-- each of n bytes has a number
pub byte_of : (w : Location) (n i : ℕ) → HasBytes w n → i < n → HasByte w i
byte_of (InRegisters r) n i h l = omega (arith, h, l)
byte_of (InMemory o k) n i h l = omega (arith, h, l)

-- and so have the lowest ones
pub lowest_bytes : (w : Location) (n m : ℕ) → HasBytes w n → m ≤ n → HasBytes w m
lowest_bytes (InRegisters r) n m h l = omega (arith, h, l)
lowest_bytes (InMemory o k) n m h l = omega (arith, h, l)

pub further_bytes : (w : Location) (n i m : ℕ) → HasBytes w n → i + m ≤ n → HasBytes (further w i) m
further_bytes (InRegisters r) n i m h l = omega (arith, h, l)
further_bytes (InMemory o k) n i m h l = omega (arith, h, l)
