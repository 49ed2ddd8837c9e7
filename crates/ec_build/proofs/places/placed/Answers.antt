use Rattle.ec_build.proofs.places.placed.Goals as goal

pub returns-in-Ok-clause-located : goal.returns-in-Ok-clause-located
returns-in-Ok-clause-located c = (c.in-Ok.ensures.located, c.image_holds_bytes.ensures)
