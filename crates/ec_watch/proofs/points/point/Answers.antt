use Rattle.ec_core.specs.Plain.{plain_program}
use Rattle.ec_watch.proofs.points.point.Goals as goal

pub point_at-requires-clause-valid : goal.point_at-requires-clause-valid
point_at-requires-clause-valid c = (c.args.built.now.map.io, c.requires.1.translated.valid)

pub point_at-requires-clause-places : goal.point_at-requires-clause-places
point_at-requires-clause-places c =
    c.placed_have_places.ensures (plain_program c.args.built.now.program) c.args.built.now.map c.requires.0 c.args.built.now.located
    c.requires.1.translated
