-- The laws of the machine that the proofs here take as premises. They are the contracts of functions of the crate below,
-- and the functions in `laws` here call those.
use Rattle.ec_avr.specs.Laws.{SetsOneBit, StepsByInstruction, NeedsByInstruction, IsWhatStands, StandsWhole}

-- what a step does, where its instruction is known, and what a bit of SREG is after another one was set
pub record StepLaws : Type 0 where
  pub one_bit : SetsOneBit
  pub steps : StepsByInstruction
  pub needs : NeedsByInstruction

-- an instruction that stands in the flash is read there
pub record FlashLaws : Type 0 where
  pub is : IsWhatStands
  pub whole : StandsWhole
