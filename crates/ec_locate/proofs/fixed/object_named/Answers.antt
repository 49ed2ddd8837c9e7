use Rattle.std.proofs.Common.{◌∙◌, sym}
use Rattle.ec_core.specs.Plain.{plain_object}
use Rattle.ec_map.proofs.Arrays.{position-viewed}
use Rattle.ec_locate.specs.Fixed.{can_place}
use Rattle.ec_locate.proofs.fixed.object_named.Goals as goal

pub returns : goal.returns
returns c = c.object_at.ensures ∙ sym (position-viewed (can_place c.args.name.now) plain_object c.args.objs.now)
