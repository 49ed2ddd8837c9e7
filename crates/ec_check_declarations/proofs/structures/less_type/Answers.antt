use Rattle.std.proofs.Common.{◌∙◌, ap, sym, length}
use Rattle.std.proofs.Math.ListN.{length-map}
use Rattle.ec_core.specs.Plain.{plain_type, plain_struct}
use Rattle.ec_check_declarations.specs.ObjectTypes.{is_object_type}
use Rattle.ec_check_declarations.proofs.Types.{object_type_is}
use Rattle.ec_check_declarations.proofs.structures.less_type.Goals as goal

pub size_of-requires-clause-object : goal.size_of-requires-clause-object
size_of-requires-clause-object c =
    let items = c.args.structs.now.items in
    let ty = plain_type c.args.ty.now in
    object_type_is (length items) ty
    (sym (ap (λ n. is_object_type n ty) (length-map items plain_struct)) ∙ c.requires.object)
