use Rattle.std.proofs.Common.{◌≡◌, ◌+◌, ◌*◌, ◌++◌, drop, map, List}
use Rattle.std.specs.List.{AllByRecursion}
use Rattle.ec_core.specs.Plain.{plain_type, plain_member, plain_struct, PlainMember}
use Rattle.ec_core.specs.Layout.{plain_leaf, repeated, type_layout, members_layout, struct_layouts, IsObjectType}
use Rattle.ec_core.proofs.Layouts.{type_weight}
use Rattle.ec_core.proofs.layout.+pushes.Given as goal

abbrev pub decreases-push_leaves : goal.decreases-push_leaves
decreases-push_leaves l = type_weight (plain_type l.ty.now) + 2

abbrev pub decreases-push_elements : goal.decreases-push_elements
decreases-push_elements l = type_weight (plain_type l.of.now) + 1

abbrev pub decreases-push_element : goal.decreases-push_element
decreases-push_element l = type_weight (plain_type l.ty.now)

abbrev pub decreases-push_members : goal.decreases-push_members
decreases-push_members l = 4 * l.index + 3

abbrev pub invariant-push_elements-loop-done : goal.invariant-push_elements-loop-done
invariant-push_elements-loop-done l =
    let element = type_layout (struct_layouts (map plain_struct l.structs)) (plain_type l.of) in
    record {
      offset : l.offset ≡ l.at + l.done * element.size;
      leaves : map plain_leaf l.out.items ≡ map plain_leaf l.fn.out.items ++ (repeated l.done element).leaves_at l.at;
    }

abbrev pub invariant-push_members-loop-member : goal.invariant-push_members-loop-member
invariant-push_members-loop-member l =
    let rest : List PlainMember = map plain_member (drop l.member-index l.members) in
    let all = struct_layouts (map plain_struct l.structs) in
    let whole = members_layout all (map plain_member l.members) in
    record {
      earlier : AllByRecursion (λ m. IsObjectType l.index m.ty) rest;
      offset : l.offset + (members_layout all rest).size ≡ l.at + whole.size;
      leaves : map plain_leaf l.out.items ++ (members_layout all rest).leaves_at l.offset
          ≡ map plain_leaf l.fn.out.items ++ whole.leaves_at l.at;
    }
