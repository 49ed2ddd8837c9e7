use Rattle.std.proofs.Common.{arith}
use Rattle.std.proofs.lemmas.Result.{err_from_is_err_and}
use Rattle.ec_grammar.specs.Tokens.{view_tokens}
use Rattle.ec_parse_sources.specs.Units.{HasTokens}
use Rattle.ec_parse_sources.proofs.Zips.{zipped_next}
use Rattle.ec_parse_sources.proofs.Lexed.{first_fault}
use Rattle.ec_parse_sources.proofs.units.lex_units.Goals as goal

pub returns-in_err-tokens-clause-stopped : goal.returns-in_err-tokens-clause-stopped
returns-in_err-tokens-clause-stopped c =
    let p = err_from_is_err_and c.from_residual.result c.from_residual.ensures.1 in
    let stop = c.in_err-tokens.ensures.stopped in
    rw (p.1, p.2)
    (first_fault c.args.sources.now c.loop-i.lists.items c.loop-i.i c.index-sources-i.result c.in_err-tokens.field-0.0
    (omega arith) c.index-sources-i.is c.loop-i.invariant stop)

pub loop-i-preserved : goal.loop-i-preserved
loop-i-preserved c =
    let next =
    zipped_next
    (λ s l. HasTokens s.items
    (view_tokens l.items)) c.args.sources.now c.loop-i.lists.items c.loop-i.i c.index-sources-i.result c.in_ok-tokens.tokens
    (omega arith) c.index-sources-i.is c.loop-i.invariant c.in_ok-tokens.ensures.lexed in
    rw c.in_ok-push.ensures.ok next
