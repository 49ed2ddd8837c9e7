use Rattle.ec_locate.proofs.DataStand.{data-stands-apart}
use Rattle.ec_locate.proofs.laws.data_stands_apart.Goals as goal

pub returns : goal.returns
returns c =
    data-stands-apart (record { frames = c.frames_are_overlaid.ensures; objects = c.overlaid_objects_stand_apart.ensures })
