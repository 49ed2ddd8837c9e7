use Rattle.std.proofs.Common.{arith, map, length, ◌<◌, ◌^◌}
use Rattle.ec_core.specs.Plain.{plain_type, plain_struct}
use Rattle.ec_core.specs.Layout.{size_of_type}
use Rattle.ec_core.proofs.Layouts.{object_bound}
use Rattle.ec_core.proofs.layout.leaves.Goals as goal

pub push_leaves-requires-clause-fits : goal.push_leaves-requires-clause-fits
push_leaves-requires-clause-fits c =
    let b : size_of_type (map plain_struct c.as_slice.result.now) (plain_type c.args.ty.now) < 2 ^ 32 =
    rw c.as_slice.ensures (object_bound (map plain_struct c.args.structs.now.items) (length c.args.structs.now.items)
    (plain_type c.args.ty.now) c.requires.structs c.requires.object) in
    omega (arith, b)
