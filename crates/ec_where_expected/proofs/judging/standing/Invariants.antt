use Rattle.ec_grammar.specs.Tokens.{view_tokens}
use Rattle.ec_where_expected.proofs.Trials.{IsTried}
use Rattle.ec_where_expected.proofs.judging.standing.Given as goal

abbrev pub invariant-kinds : goal.invariant-kinds
invariant-kinds l = IsTried l.k l.i (view_tokens l.fn.tokens.items) (view_tokens l.tried.items) l.flags.items
