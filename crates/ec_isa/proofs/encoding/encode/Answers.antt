use Rattle.std.proofs.Common.{rules}
use Rattle.ec_isa.proofs.InstructionAt.{instruction_of}
use Rattle.ec_isa.proofs.encoding.encode.Goals as goal

pub returns-clause-decodes : goal.returns-clause-decodes
returns-clause-decodes c = search (rules, instruction_of)
