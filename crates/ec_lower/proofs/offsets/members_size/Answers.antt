use Rattle.std.proofs.Common.{◌∙◌, ap, sym, subst, List, length, map, arith}
use Rattle.std.proofs.lemmas.List.{take-map}
use Rattle.std.specs.List.{AllByRecursion}
use Rattle.ec_core.specs.Layout.{members_layout, struct_layouts, IsObjectType}
use Rattle.ec_core.specs.Plain.{PlainMember, plain_member, plain_struct}
use Rattle.ec_core.specs.declared.types.Member.{Member}
use Rattle.ec_lower.proofs.Members.{of_first}
use Rattle.ec_lower.proofs.offsets.members_size.Goals as goal

pub loop-member-init : goal.loop-member-init
loop-member-init c =
    let n = length c.args.program.now.structs.items in
    let layouts = struct_layouts (map plain_struct c.args.program.now.structs.items) in
    let members = c.args.members.now in
    let size =
    ap (λ (ms : List Member). (members_layout layouts (map plain_member ms)).size) c.first_of-first.ensures
    ∙ sym (ap (λ (ms : List PlainMember). (members_layout layouts ms).size) (take-map plain_member c.args.count members)) in
    record {
      known = subst (λ (ms : List Member). AllByRecursion (λ m. IsObjectType n m.ty) (map plain_member ms)) (sym c.first_of-first.ensures)
          (of_first (λ m. IsObjectType n m.ty) plain_member c.args.count members c.requires.known);
      sum = omega (arith, size);
    }
