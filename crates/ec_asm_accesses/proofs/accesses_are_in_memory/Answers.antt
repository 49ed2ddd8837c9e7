use Rattle.ec_asm_accesses.proofs.InMemory.{accesses_are_in_memory}
use Rattle.ec_asm_accesses.proofs.accesses_are_in_memory.Goals as goal

pub returns : goal.returns
returns c = accesses_are_in_memory c.steps_are_of_instructions.ensures.keeps
