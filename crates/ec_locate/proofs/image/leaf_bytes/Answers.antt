use Rattle.std.specs.Option.{option_copied}
use Rattle.ec_locate.proofs.LeafValues.{leaves_step}
use Rattle.ec_locate.proofs.image.leaf_bytes.Goals as goal

pub loop-i-preserved : goal.loop-i-preserved
loop-i-preserved c =
    leaves_step c.args.places.now c.args.leaves.now c.args.inits.now c.loop-i.i
    c.index-leaves-i.result c.loop-i.out.items c.put_value.new.out.items
    (option_copied c.init_at.result) _ c.loop-i-test.true c.index-leaves-i.is c.init_at.ensures c.in_ok-put_value.ensures c.loop-i.invariant
