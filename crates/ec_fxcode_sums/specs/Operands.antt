-- Operands and results as the functions of this crate take them.
use Rattle.std.specs.Prelude.{◌≡◌, ◌*◌}
use Rattle.ec_asm.specs.Pieces.{HasBytes}
use Rattle.ec_fxcode_sums.specs.declared.aligned.Operand.{Operand}

-- it has the bytes of its format, and their registers or offsets have numbers
pub record IsOperand (x : Operand) : Type 0 where
  pub bits : x.bytes * 8 ≡ x.format.bits
  pub places : HasBytes x.at x.bytes
