use Rattle.ec_core.specs.PortTable.{plain_group}
use Rattle.ec_lower.proofs.Steps.{seen_at}
use Rattle.ec_lower.proofs.ports.put_group.Goals as goal

pub returns-in-Some : goal.returns-in-Some
returns-in-Some c =
    let e = seen_at plain_group c.args.io.now.groups.items c.args.group _ c.in-Some.ensures in
    rw (e) (rw (c.pairs.ensures) at c.put_pairs.ensures)
