use Rattle.ec_where.proofs.messages.syntax_message.Goals as goal

-- the flag is true here
pub expected_message-requires-clause-stops : goal.expected_message-requires-clause-stops
expected_message-requires-clause-stops c = c.in_ok-is_first_bad.ensures.0 c.if-branch.true
