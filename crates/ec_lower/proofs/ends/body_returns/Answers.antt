use Rattle.std.proofs.Common.{◌∙◌, ap, sym}
use Rattle.ec_core.specs.Plain.{plain_kind, plain_stmts}
use Rattle.ec_lower_code.specs.Code.{has_return, have_return}
use Rattle.ec_lower.proofs.Lists.{plain_block}
use Rattle.ec_lower.proofs.ends.body_returns.Goals as goal

pub returns-in-Block : goal.returns-in-Block
returns-in-Block c =
    c.have_return.ensures ∙ (ap (λ ss. have_return (plain_stmts ss)) c.as_slice.ensures
    ∙ sym (ap (λ kind. has_return (plain_kind kind)) c.in-Block.is ∙ ap has_return (plain_block c.in-Block.ss)))
