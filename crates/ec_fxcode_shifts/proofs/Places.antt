-- Bytes of places.
use Rattle.std.proofs.Common.{ℕ, ◌+◌, ◌<◌, ◌≤◌, arith}
use Rattle.ec_asm.specs.declared.pieces.Location.{Location}
use Rattle.ec_asm.specs.declared.pieces.Location.TheVariants.{InRegisters, InMemory}
use Rattle.ec_asm.specs.Pieces.{HasBytes, HasByte}

pub fewer_bytes : (p : Location) (n m : ℕ) → HasBytes p n → m ≤ n → HasBytes p m
fewer_bytes (InRegisters r) n m h l = omega arith
fewer_bytes (InMemory o k) n m h l = omega arith

pub byte_there : (p : Location) (n i : ℕ) → HasBytes p n → i < n → HasByte p i
byte_there (InRegisters r) n i h l = omega arith
byte_there (InMemory o k) n i h l = omega arith
