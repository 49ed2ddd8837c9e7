use Rattle.std.proofs.Common.{map, length}
use Rattle.std.proofs.lemmas.List.{length-map}
use Rattle.ec_core.specs.Plain.{plain_program, plain_struct}
use Rattle.ec_locate.proofs.Objects.{objects_typed}
use Rattle.ec_build.proofs.reaches.reaches_of.Goals as goal

pub reaches_from-requires-clause-objects : goal.reaches_from-requires-clause-objects
reaches_from-requires-clause-objects c =
    let program = c.args.program.now in
    rw c.as_slice.ensures
    (objects_typed (plain_program program) (length program.structs.items) program.objs.items c.requires.objects
    (length-map program.structs.items plain_struct))
