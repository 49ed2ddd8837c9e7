use Rattle.ec_commands_bound.proofs.line.tell_bound.Goals as goal

pub returns-in-BoundTooLarge-clause-told : goal.returns-in-BoundTooLarge-clause-told
returns-in-BoundTooLarge-clause-told g c = rw c.in-BoundTooLarge.is c.write_line.ensures.told
