-- Bytes of a number have registers or offsets.
use Rattle.std.proofs.Common.{ℕ, ◌<◌, arith}
use Rattle.ec_asm.specs.declared.pieces.Location.{Location}
use Rattle.ec_asm.specs.declared.pieces.Location.TheVariants.{InRegisters, InMemory}
use Rattle.ec_asm.specs.Pieces.{HasBytes, HasByte}

pub byte_there : (p : Location) (n i : ℕ) → HasBytes p n → i < n → HasByte p i
byte_there (InRegisters r) n i h l = omega arith
byte_there (InMemory o k) n i h l = omega arith
