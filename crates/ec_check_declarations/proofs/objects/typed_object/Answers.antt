use Rattle.std.proofs.Common.{map, length}
use Rattle.std.specs.Prelude.{option_map}
use Rattle.ec_core.specs.Plain.{plain_type, plain_struct}
use Rattle.ec_grammar.specs.Views.{view_star, view_shape, view_identifier}
use Rattle.ec_check_names.specs.Stars.{plain_declared}
use Rattle.ec_check_declarations.proofs.Typed.{typed}
use Rattle.ec_check_declarations.proofs.objects.typed_object.Goals as goal

pub returns-clause-walked : goal.returns-clause-walked
returns-clause-walked c =
    let d = c.args.d.now in
    typed (length (map plain_struct c.args.structs.now.items)) c.args.may_have_space c.args.said
    (map view_star d.stars.items) (view_identifier d.name) (view_shape d.shape) c.args.size
    c.args.faults.now.least c.head_of_object.new.faults.least
    (plain_declared c.in_ok-head.head) (option_map plain_type c.in_ok-ty.ty) c.space_id-space.result
    c.in_ok-head.ensures.value c.in_ok-head.ensures.judged c.in_ok-ty.ensures.value c.space_id-space.ensures
