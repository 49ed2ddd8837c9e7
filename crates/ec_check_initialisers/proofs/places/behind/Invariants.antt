use Rattle.std.proofs.Common.{◌≡◌, drop, map, length, List}
use Rattle.std.specs.List.{AllByRecursion}
use Rattle.ec_core.specs.Plain.{plain_member, plain_struct, PlainMember}
use Rattle.ec_core.specs.Layout.{members_layout, struct_layouts, IsObjectType}
use Rattle.ec_check_initialisers.specs.Places.{moved}
use Rattle.ec_check_initialisers.proofs.places.behind.Given as goal

abbrev pub invariant-loop-member : goal.invariant-loop-member
invariant-loop-member l =
    let rest : List PlainMember = map plain_member (drop l.member-index l.members) in
    let all = struct_layouts (map plain_struct l.structs.items) in
    record {
      known : AllByRecursion (λ m. IsObjectType (length l.structs.items) m.ty) rest;
      sum : moved l.size l.address (members_layout all rest).size
          ≡ moved l.size l.fn.from (members_layout all (map plain_member l.members)).size;
      settled : moved l.size l.address 0 ≡ l.address;
    }
