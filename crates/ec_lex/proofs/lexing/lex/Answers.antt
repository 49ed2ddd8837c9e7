use Rattle.ec_lex.proofs.TextLaws.{only_tokens, only_refused}
use Rattle.ec_lex.proofs.lexing.lex.Goals as goal

pub returns-clause-only_tokens : goal.returns-clause-only_tokens
returns-clause-only_tokens c = only_tokens c.args.bytes.now.items c.tokens_of.result (rw c.as_slice.ensures at c.tokens_of.ensures)

pub returns-clause-only_refused : goal.returns-clause-only_refused
returns-clause-only_refused c = only_refused c.args.bytes.now.items c.tokens_of.result (rw c.as_slice.ensures at c.tokens_of.ensures)
