use Rattle.std.proofs.Common.{sym, ◌∙◌}
use Rattle.ec_parse_laws.proofs.Basics.{same_puncts}
use Rattle.ec_parse_tokens.proofs.Codes.{puncts_compared}
use Rattle.ec_parse_tokens.proofs.tokens.is_punct.Goals as goal

pub returns-clause-same : goal.returns-clause-same
returns-clause-same c = c.eq.ensures ∙ puncts_compared c.args.found c.args.wanted

pub returns-clause-kind : goal.returns-clause-kind
returns-clause-kind c is = same_puncts c.args.found c.args.wanted (sym (c.eq.ensures ∙ puncts_compared c.args.found c.args.wanted) ∙ is)
