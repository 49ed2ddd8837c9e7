use Rattle.std.proofs.Common.{◌∙◌, Some, None}
use Rattle.ec_check_initialisers.specs.Places.{plain_place}
use Rattle.ec_check_initialisers.proofs.Members.{member_by, members_known}
use Rattle.ec_check_initialisers.proofs.places.member_of.Goals as goal

pub member_in-requires-clause-known : goal.member_in-requires-clause-known
member_in-requires-clause-known c =
    members_known c.structs_are_laid_out.ensures c.args.structs.now.items c.in-Some.index c.in-Some-get.def.now c.requires
    c.in-Some-get.ensures

pub returns-in-None-clause-value : goal.returns-in-None-clause-value
returns-in-None-clause-value c =
    member_by c.args.structs.now.items c.args.name.now.items (plain_place c.args.s.now) c.in-Some.index None c.in-Some.ensures
    c.in-None.ensures

pub returns-in-Some-get-clause-value : goal.returns-in-Some-get-clause-value
returns-in-Some-get-clause-value c =
    c.member_in.ensures.value
    ∙ member_by c.args.structs.now.items c.args.name.now.items (plain_place c.args.s.now) c.in-Some.index
    (Some c.in-Some-get.def.now) c.in-Some.ensures c.in-Some-get.ensures
