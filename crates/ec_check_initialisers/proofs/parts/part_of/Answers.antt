use Rattle.std.proofs.Common.{◌∙◌, sym, ap, subst, Option, length, map}
use Rattle.std.proofs.Math.ListN.{length-map}
use Rattle.std.specs.Prelude.{IfSome, option_map}
use Rattle.ec_core.specs.Layout.{IsObjectType}
use Rattle.ec_core.specs.Plain.{PlainType, plain_type, plain_struct}
use Rattle.ec_check_initialisers.proofs.PartTypes.{part_known_at}
use Rattle.ec_check_initialisers.proofs.parts.part_of.Goals as goal

pub returns-clause-object : goal.returns-clause-object
returns-clause-object c =
    let items = c.args.structs.now.items in
    subst (λ (z : Option PlainType). IfSome z (IsObjectType (length items)))
    (sym (ap (option_map plain_type) c.in_ok-part.ensures ∙ c.in_ok-found.ensures))
    (part_known_at c.structs_are_laid_out.ensures (map plain_struct items) c.requires.structs (length items) (length-map items plain_struct)
    (option_map plain_type c.args.ty.now) c.args.i c.requires.object)
