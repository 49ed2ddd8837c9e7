use Rattle.std.proofs.Common.{◌+◌, ◌-◌, ◌/◌}
use Rattle.ec_space.specs.Bytes.{little_endian}
use Rattle.ec_locate.proofs.Sums.{made_step, little_step}
use Rattle.ec_locate.proofs.image.put_number.Goals as goal

pub loop-i-preserved : goal.loop-i-preserved
loop-i-preserved c =
    let rest = c.loop-i.rest in
    let size = c.args.size in
    let i = c.loop-i._i in
    made_step c.loop-i.out.items c.push.new.self.items (little_endian (size - (i + 1)) (rest / 256)) _ _
    (rw (little_step size i rest c.loop-i-test.true) at c.loop-i.invariant) c.in_ok-push.ensures.ok
