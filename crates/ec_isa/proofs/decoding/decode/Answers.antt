use Rattle.ec_isa.proofs.InstructionAt.{instruction_is, no_instruction_is, found_is}
use Rattle.ec_isa.proofs.decoding.decode.Goals as goal

pub returns-clause-found : goal.returns-clause-found
returns-clause-found c = λ i. rw c.look_up.ensures (instruction_is i c.args.w0 c.args.w1)

pub returns-clause-outside : goal.returns-clause-outside
returns-clause-outside c = rw c.look_up.ensures (no_instruction_is c.args.w0 c.args.w1)

pub returns-clause-words : goal.returns-clause-words
returns-clause-words c =
    found_is c.look_up.result c.args.w0 c.args.w1
    (λ i. rw c.look_up.ensures (instruction_is i c.args.w0 c.args.w1))
