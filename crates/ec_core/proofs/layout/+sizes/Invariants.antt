use Rattle.std.proofs.Common.{◌≡◌, ◌+◌, ◌*◌, drop, map, List}
use Rattle.std.specs.List.{AllByRecursion}
use Rattle.ec_core.specs.Plain.{plain_type, plain_member, plain_struct, PlainMember}
use Rattle.ec_core.specs.Layout.{members_layout, struct_layouts, IsObjectType}
use Rattle.ec_core.proofs.Layouts.{type_weight}
use Rattle.ec_core.proofs.layout.+sizes.Given as goal

abbrev pub decreases-element_size : goal.decreases-element_size
decreases-element_size l = type_weight (plain_type l.ty.now)

abbrev pub decreases-members_size : goal.decreases-members_size
decreases-members_size l = 4 * l.index + 2

abbrev pub decreases-type_size : goal.decreases-type_size
decreases-type_size l = type_weight (plain_type l.ty.now) + 1

abbrev pub invariant-members_size-loop-member : goal.invariant-members_size-loop-member
invariant-members_size-loop-member l =
    let rest : List PlainMember = map plain_member (drop l.member-index l.members) in
    let all = struct_layouts (map plain_struct l.structs) in
    record {
      earlier : AllByRecursion (λ m. IsObjectType l.index m.ty) rest;
      sum : l.size + (members_layout all rest).size ≡ (members_layout all (map plain_member l.members)).size;
    }
