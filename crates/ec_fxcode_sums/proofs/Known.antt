-- The laws of the parts that the code is made of.
use Rattle.ec_asm.specs.Laws.{PartsStand, StraightCodeGoes, RunsJoin}
use Rattle.ec_asm.specs.PieceLaws.{NumbersAreBelow, NumbersAreOfBytes, PiecesAreStraight, PiecesTake}
use Rattle.ec_asm.specs.PieceLaws.{SumsAreRight as PieceSumsAreRight, DifferencesAreRight}
use Rattle.ec_select_bytes.specs.ComplementLaws.{NegationsAreRight as BytesAreNegated, ComplementsAreStraight, ComplementsTake}
use Rattle.ec_fxcode.specs.ClampLaws.{ClampsAreRight}
use Rattle.ec_fxcode_scales.specs.ScaleLaws.{ScalesAreRight, CutsAreRight}

-- of runs and of numbers
pub record Base : Type 0 where
  pub parts : PartsStand
  pub goes : StraightCodeGoes
  pub joins : RunsJoin
  pub below : NumbersAreBelow
  pub same : NumbersAreOfBytes

-- of a sum
pub record SumParts : Type 0 where
  pub scales : ScalesAreRight
  pub cuts : CutsAreRight
  pub clamps : ClampsAreRight
  pub sums : PieceSumsAreRight
  pub differences : DifferencesAreRight
  pub straight : PiecesAreStraight
  pub steps : PiecesTake

-- of a negation
pub record NegationParts : Type 0 where
  pub scales : ScalesAreRight
  pub clamps : ClampsAreRight
  pub negations : BytesAreNegated
  pub straight : ComplementsAreStraight
  pub steps : ComplementsTake
