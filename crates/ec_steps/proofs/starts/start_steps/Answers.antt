use Rattle.std.proofs.Common.{◌+◌, ◌∙◌, ap, ℕ, map, length, arith}
use Rattle.std.proofs.lemmas.List.{length-map}
use Rattle.ec_core.specs.Plain.{plain_program, plain_struct, plain_object}
use Rattle.ec_select.specs.LaidOut.{object_steps}
use Rattle.ec_steps.proofs.Numbers.{objects_typed, all_steps, fewer_objects}
use Rattle.ec_steps.proofs.starts.start_steps.Goals as goal

pub objects_steps-requires-clause-objects : goal.objects_steps-requires-clause-objects
objects_steps-requires-clause-objects c =
    let program = c.args.program.now in
    rw c.as_slice.ensures
    (objects_typed (plain_program program) (length program.structs.items) program.objs.items c.requires.objects
    (length-map program.structs.items plain_struct))

pub objects_steps-requires-clause-few : goal.objects_steps-requires-clause-few
objects_steps-requires-clause-few c = rw c.as_slice.ensures (fewer_objects c.args.program.now.objs.items 1024 c.requires.few)

pub returns : goal.returns
returns c =
    let program = c.args.program.now in
    ap (λ (n : ℕ). 400 + n)
    (rw c.as_slice.ensures at c.objects_steps.ensures.value
    ∙ all_steps (object_steps (map plain_struct program.structs.items)) program.objs.items)
