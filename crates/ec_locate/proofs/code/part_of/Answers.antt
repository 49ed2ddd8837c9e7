use Rattle.std.proofs.Common.{◌≡◌, arith}
use Rattle.ec_locate.proofs.code.part_of.Goals as goal

pub returns-in_default : goal.returns-in_default
returns-in_default c = let two : c.args.part ≡ 2 = omega (arith, c.requires) in rw two (omega arith)
