use Rattle.ec_core.specs.PortTable.{plain_port}
use Rattle.ec_lower.proofs.Steps.{seen_at}
use Rattle.ec_lower.proofs.ports.put_access.Goals as goal

pub returns-in_ok-v-in-Some : goal.returns-in_ok-v-in-Some
returns-in_ok-v-in-Some c =
    let e = seen_at plain_port c.args.io.now.ports.items c.args.port _ c.in-Some.ensures in
    rw (e) (rw (
      c.action_of.ensures,
      c.operator_of.ensures,
      c.value_type-ty.ensures,
      c.in_ok-v-in-Some.ensures,
      c.operand_temp-at.ensures,
    ) at c.put_port.ensures)
