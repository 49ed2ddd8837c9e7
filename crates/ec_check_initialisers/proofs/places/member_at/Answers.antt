use Rattle.std.proofs.Common.{◌∙◌, ap, length, map, take}
use Rattle.ec_core.specs.Layout.{IsObjectType}
use Rattle.ec_core.specs.Plain.{plain_struct}
use Rattle.ec_check_initialisers.specs.Places.{plain_place}
use Rattle.ec_check_initialisers.proofs.Members.{first_known, member_known, member_is}
use Rattle.ec_check_initialisers.proofs.places.member_at.Goals as goal

pub behind-requires-clause-known : goal.behind-requires-clause-known
behind-requires-clause-known c =
    first_known (λ m. IsObjectType (length c.args.structs.now.items) m.ty) c.args.i c.args.def.now.members.items
    c.first_of-earlier.result.now (c.first_of-earlier.ensures ∙ ap (take c.args.i) c.as_slice.ensures) c.requires.known

pub returns-clause-value : goal.returns-clause-value
returns-clause-value c =
    member_is (map plain_struct c.args.structs.now.items) (plain_place c.args.s.now) c.args.def.now c.args.i
    c.in-Some.member.now c.first_of-earlier.result.now c.behind.result c.in-Some.ensures
    (c.first_of-earlier.ensures ∙ ap (take c.args.i) c.as_slice.ensures) c.behind.ensures

pub returns-clause-object : goal.returns-clause-object
returns-clause-object c =
    member_known (length c.args.structs.now.items) c.args.def.now.members.items c.args.i c.in-Some.member.now
    c.in-Some.ensures c.requires.known
