use Rattle.std.proofs.Common.{◌≡◌, ◌∙◌, ap, sym, true, length, arith}
use Rattle.std.proofs.lemmas.Grind.{common_steps}
use Rattle.ec_core.specs.Plain.{plain_type}
use Rattle.ec_check_declarations.specs.ObjectTypes.{is_object_type}
use Rattle.ec_check_declarations.proofs.Types.{object_type_is}
use Rattle.ec_check_declarations.proofs.object_types.object_type.Goals as goal

pub returns-then-is_object_type-clause-object : goal.returns-then-is_object_type-clause-object
returns-then-is_object_type-clause-object c =
    let ty = plain_type c.in_ok-ty.ty in
    let told : c.is_object_type.result ≡ true = first_of (cc, grind (arith, common_steps)) in
    object_type_is (length c.args.structs.now.items) ty
    (sym (c.is_object_type.ensures ∙ ap (λ n. is_object_type n ty) c.len.ensures) ∙ told)
