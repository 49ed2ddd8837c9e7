use Rattle.std.proofs.Common.{arith}
use Rattle.ec_asm.proofs.Numbers.{pow_pos}
use Rattle.ec_select_bytes.proofs.Bounds.{power_fits}
use Rattle.ec_select_bytes.proofs.values.byte_of.Goals as goal

pub pow-requires : goal.pow-requires
pow-requires c = grind (arith, power_fits, c.from.ensures, c.requires)

pub nonzero_div-result : goal.nonzero_div-result
nonzero_div-result c = grind (arith, pow_pos, c.pow.ensures)
