use Rattle.std.proofs.Common.{sym}
use Rattle.ec_lower.proofs.Returns.{no_return}
use Rattle.ec_lower.proofs.ends.is_return.Goals as goal

pub returns-in_default : goal.returns-in_default
returns-in_default c = sym (no_return c.args.kind.now c.in_default.not-Return)
