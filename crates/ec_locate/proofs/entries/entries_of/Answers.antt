use Rattle.std.proofs.Common.{map, length}
use Rattle.std.proofs.lemmas.List.{length-map}
use Rattle.ec_core.specs.Plain.{plain_program, plain_struct, plain_object}
use Rattle.ec_map.proofs.Made.{map_map}
use Rattle.ec_locate.specs.Entries.{entry_of}
use Rattle.ec_locate.proofs.Objects.{objects_typed}
use Rattle.ec_locate.proofs.entries.entries_of.Goals as goal

pub entries_from-requires-clause-objects : goal.entries_from-requires-clause-objects
entries_from-requires-clause-objects c =
    let program = c.args.program.now in
    rw c.as_slice.ensures
    (objects_typed (plain_program program) (length program.structs.items) program.objs.items c.requires.objects
    (length-map program.structs.items plain_struct))

pub returns : goal.returns
returns c =
    let program = c.args.program.now in
    rw (map_map (entry_of (map plain_struct program.structs.items) c.args.places.now) plain_object program.objs.items)
    (rw c.as_slice.ensures at c.in_ok-made.ensures)
