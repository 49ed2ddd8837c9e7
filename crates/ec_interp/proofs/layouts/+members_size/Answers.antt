use Rattle.std.proofs.Common.{◌<◌, map, arith, refl}
use Rattle.ec_core.specs.Layout.{struct_layouts}
use Rattle.ec_core.specs.Plain.{plain_struct}
use Rattle.ec_interp.proofs.Members.{members_step}
use Rattle.ec_interp.proofs.layouts.+members_size.Goals as goal

pub returns-in_ok-more-in-len1-up-clause-size : goal.returns-in_ok-more-in-len1-up-clause-size
returns-in_ok-more-in-len1-up-clause-size t c =
    let some : 0 < c.args.count = omega (arith, c.if-count-eq0.false) in
    rw (
      members_step (struct_layouts (map plain_struct c.args.f.now.program.now.structs.items)) c.args.members.now c.args.count
          c.first-item.result some c.in-len1-up.len_at_least c.first-item.is,
      ← c.in_ok-more-in-len1-up.ensures.size,
      ← c.in_ok-bytes-in-len1-up.ensures.size,
    ) refl
