use Rattle.std.proofs.Common.{◌≡◌, ◌+◌, drop, take, map, length}
use Rattle.std.specs.List.{AllByRecursion}
use Rattle.ec_core.specs.Layout.{members_layout, struct_layouts, IsObjectType}
use Rattle.ec_core.specs.Plain.{plain_member, plain_struct}
use Rattle.ec_lower.proofs.offsets.members_size.Given as goal

abbrev pub invariant-loop-member : goal.invariant-loop-member
invariant-loop-member l =
    let rest = map plain_member (drop l.member-index l.first) in
    let layouts = struct_layouts (map plain_struct l.program.structs.items) in
    record {
      known : AllByRecursion (λ m. IsObjectType (length l.program.structs.items) m.ty) rest;
      sum : l.bytes + (members_layout layouts rest).size
          ≡ (members_layout layouts (take l.count (map plain_member l.members))).size;
    }
