use Rattle.std.proofs.Common.{◌≡◌}
use Rattle.std.proofs.lemmas.Option.{none-some}
use Rattle.ec_where_lines.specs.Fault.{byte_words}
use Rattle.ec_where_lines.proofs.fault.at_byte.Goals as goal

pub returns-in_err-name-clause-all : goal.returns-in_err-name-clause-all
returns-in_err-name-clause-all c name n fault m = absurd (c.in_err-name.ensures.all name n (byte_words fault) m)

pub returns-in_err-byte_fault-clause-all : goal.returns-in_err-byte_fault-clause-all
returns-in_err-byte_fault-clause-all c name n fault m =
    let parts = c.in_ok-name.ensures.all name n (byte_words fault) m in
    absurd (none-some fault (c.in_err-byte_fault.ensures.all fault parts.2))

pub returns-clause-all : goal.returns-clause-all
returns-clause-all c name n fault m =
    let parts = c.in_ok-name.ensures.all name n (byte_words fault) m in
    let known = c.in_ok-byte_fault.ensures.all fault parts.2 in
    (parts.0, parts.1, cc)
