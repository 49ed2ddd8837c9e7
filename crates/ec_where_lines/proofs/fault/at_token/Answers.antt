use Rattle.std.proofs.Common.{◌≡◌}
use Rattle.std.proofs.lemmas.Option.{none-some}
use Rattle.std.proofs.Common.{subst, sym}
use Rattle.ec_where_lines.specs.Fault.{AreTokenWords}
use Rattle.ec_where_lines.proofs.fault.at_token.Goals as goal

pub returns-in_err-name-clause-all : goal.returns-in_err-name-clause-all
returns-in_err-name-clause-all c name n fault m = absurd (c.in_err-name.ensures.all name n m.0 m.2)

pub returns-in_err-token_fault-clause-all : goal.returns-in_err-token_fault-clause-all
returns-in_err-token_fault-clause-all c name n fault m =
    let parts = c.in_ok-name.ensures.all name n m.0 m.2 in
    let words = subst (λ w. AreTokenWords w fault) (sym parts.2) m.1 in
    absurd (none-some fault (c.in_err-token_fault.ensures.all fault words))

pub returns-clause-all : goal.returns-clause-all
returns-clause-all c name n fault m =
    let parts = c.in_ok-name.ensures.all name n m.0 m.2 in
    let words = subst (λ w. AreTokenWords w fault) (sym parts.2) m.1 in
    let known = c.in_ok-token_fault.ensures.all fault words in
    (parts.0, parts.1, cc)
