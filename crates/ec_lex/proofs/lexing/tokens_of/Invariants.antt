use Rattle.std.proofs.Common.{length, ◌≤◌}
use Rattle.ec_grammar.specs.Tokens.{view_tokens}
use Rattle.ec_lex.specs.Text.{nothing_known, Reads}
use Rattle.ec_lex.specs.Views.{view_scope}
use Rattle.ec_lex.proofs.lexing.tokens_of.Given as goal

abbrev pub invariant-loop-rest : goal.invariant-loop-rest
invariant-loop-rest l = (length l.tokens.items ≤ 65_535) × (length l.rest ≤ length l.text)
    × Reads (length l.text) nothing_known l.text (view_tokens l.tokens.items) (view_scope l.scope) l.rest

abbrev pub decreases-loop-rest : goal.decreases-loop-rest
decreases-loop-rest l = length l.rest
