use Rattle.std.proofs.Common.{◌∙◌, ap, [], map}
use Rattle.ec_core.specs.Plain.{plain_struct}
use Rattle.ec_check_names.specs.Structs.{struct_place}
use Rattle.ec_check_names.specs.StructTables.{found_in}
use Rattle.ec_check_names.proofs.FoundStructs.{place_by}
use Rattle.ec_check_names.proofs.struct_table.StructTable.place.Goals as goal

pub returns-in-Some : goal.returns-in-Some
returns-in-Some c =
    let s = plain_struct c.args.new.now in
    let all = map plain_struct c.self.inside.list.items in
    c.found_in.ensures
    ∙ (ap (λ ps. found_in all ps s) c.as_slice.ensures
    ∙ (place_by s c.in-Some.places.now.items all c.self.inside.places.entries c.args.key.now.items c.in-Some.ensures c.requires
    c.self.invariant
    ∙ ap (λ v. struct_place s (map plain_struct v.items)) c.self.view_is))

pub returns-in-None : goal.returns-in-None
returns-in-None c =
    let s = plain_struct c.args.new.now in
    let all = map plain_struct c.self.inside.list.items in
    place_by s [] all c.self.inside.places.entries c.args.key.now.items c.in-None.ensures c.requires c.self.invariant
    ∙ ap (λ v. struct_place s (map plain_struct v.items)) c.self.view_is
