-- Code that is appended byte by byte.
use Rattle.std.proofs.Common.{◌≡◌, ℕ, ◌<◌, List, ◌++◌, arith}
use Rattle.ec_runs.specs.Behaviours.{BeginWith}
use Rattle.ec_asm.specs.declared.pieces.Location.{Location}
use Rattle.ec_asm.specs.declared.pieces.Location.TheVariants.{InRegisters, InMemory}
use Rattle.ec_asm.specs.Pieces.{HasByte, HasBytes}

pub has_byte : (l : Location) (n i : ℕ) → HasBytes l n → i < n → HasByte l i
has_byte (InRegisters r) n i h m = omega arith
has_byte (InMemory o k) n i h m = omega arith

-- a front stays one where more is appended
pub begins : {A : Type 0} (old new added : List A) → new ≡ old ++ added → BeginWith old new
begins old new added h = record { added = added; is = h }
