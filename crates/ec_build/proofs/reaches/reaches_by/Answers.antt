use Rattle.std.proofs.Common.{[], ap, ◌∙◌}
use Rattle.ec_asm.specs.Items.{code_words}
use Rattle.ec_core.specs.Plain.{plain_program}
use Rattle.ec_build_laws.specs.Shortened.{reaches_of}
use Rattle.ec_build.proofs.Coded.{outline_is_valid}
use Rattle.ec_build.proofs.Imaged.{reaches_are}
use Rattle.ec_build.proofs.Unplaced.{outline_refused}
use Rattle.ec_build.proofs.reaches.reaches_by.Goals as goal

pub placed-requires-clause-frames : goal.placed-requires-clause-frames
placed-requires-clause-frames c =
    (outline_is_valid c.args.map.now.core (plain_program c.args.program.now) c.args.map.now.io c.args.long.now c.in_ok-outline.outline c.requires.code
    c.in_ok-outline.ensures).1

pub placed-requires-clause-code : goal.placed-requires-clause-code
placed-requires-clause-code c =
    (outline_is_valid c.args.map.now.core (plain_program c.args.program.now) c.args.map.now.io c.args.long.now c.in_ok-outline.outline c.requires.code
    c.in_ok-outline.ensures).0

pub placed-requires-clause-few : goal.placed-requires-clause-few
placed-requires-clause-few c =
    (outline_is_valid c.args.map.now.core (plain_program c.args.program.now) c.args.map.now.io c.args.long.now c.in_ok-outline.outline c.requires.code
    c.in_ok-outline.ensures).2

pub reaches_of-requires-clause-structs : goal.reaches_of-requires-clause-structs
reaches_of-requires-clause-structs c = c.requires.valid.structs

pub reaches_of-requires-clause-objects : goal.reaches_of-requires-clause-objects
reaches_of-requires-clause-objects c = c.requires.valid.objects

pub returns-in-Ok-clause-reaches : goal.returns-in-Ok-clause-reaches
returns-in-Ok-clause-reaches c =
    let p = plain_program c.args.program.now in
    reaches_are p c.args.map.now c.in_ok-reaches-in-Ok.reaches.items c.in_ok-outline.outline c.in-Ok.located
    (c.in_ok-reaches-in-Ok.ensures ∙ ap (reaches_of p) c.as_slice.ensures) c.in-Ok.ensures.located.0
