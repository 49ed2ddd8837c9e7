use Rattle.std.proofs.Common.{subst, length}
use Rattle.ec_ir.specs.declared.operations.Ir.{Ir}
use Rattle.ec_ir.specs.Operations.{plain_ir}
use Rattle.ec_select_live.specs.Tables.{need_of, IsJoined}
use Rattle.ec_select_live.proofs.labels.join_label.Goals as goal

pub returns-in-Label-clause-least : goal.returns-in-Label-clause-least
returns-in-Label-clause-least c =
    λ labels other q j. c.join.ensures.least labels (length c.args.need.now) other q
    (subst (λ (x : Ir). IsJoined (length c.args.need.now) other (plain_ir x) (need_of c.args.need.now)) c.in-Label.is j)
