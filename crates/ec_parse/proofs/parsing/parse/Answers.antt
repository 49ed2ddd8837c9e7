use Rattle.std.proofs.Common.{subst}
use Rattle.ec_grammar.specs.Tokens.{view_tokens}
use Rattle.ec_parse.proofs.Parses.{is_found, is_only, is_alone, is_bad, is_told}
use Rattle.ec_parse.specs.Parse.{IsRead}
use Rattle.ec_parse.proofs.parsing.parse.Goals as goal

pub returns-clause-found : goal.returns-clause-found
returns-clause-found c =
    is_found _ c.answer.result (subst (λ ts. IsRead (view_tokens ts) c.answer.result) c.as_slice.ensures c.answer.ensures)

pub returns-clause-only : goal.returns-clause-only
returns-clause-only c =
    is_only _ c.answer.result (subst (λ ts. IsRead (view_tokens ts) c.answer.result) c.as_slice.ensures c.answer.ensures)

pub returns-clause-alone : goal.returns-clause-alone
returns-clause-alone c =
    is_alone _ c.answer.result (subst (λ ts. IsRead (view_tokens ts) c.answer.result) c.as_slice.ensures c.answer.ensures)

pub returns-clause-refused : goal.returns-clause-refused
returns-clause-refused c =
    is_bad _ c.answer.result c.requires.ended (subst (λ ts. IsRead (view_tokens ts) c.answer.result) c.as_slice.ensures c.answer.ensures)

pub returns-clause-told : goal.returns-clause-told
returns-clause-told c =
    is_told _ c.answer.result c.requires.ended (subst (λ ts. IsRead (view_tokens ts) c.answer.result) c.as_slice.ensures c.answer.ensures)
