use Rattle.std.proofs.Common.{◌<◌, arith}
use Rattle.std.specs.Int.{w128}
use Rattle.std.proofs.lemmas.Int.{to_z_pos}
use Rattle.ec_lower.proofs.Steps.{so}
use Rattle.ec_lower.proofs.dynamics.put_base.Goals as goal

pub returns : goal.returns
returns c =
    let small : c.args.base < 256 = c.ranges.base.fits in
    let e = to_z_pos w128 c.args.base (omega (arith, small)) in
    so c.put.result c.put.ensures (λ h rest. rw (e) at (h rest))
