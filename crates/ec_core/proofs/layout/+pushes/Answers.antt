use Rattle.std.proofs.Common.{arith, ap, ◌≡◌, ◌+◌, ◌<◌, ◌≤◌, ◌^◌, ◌++◌, length, map}
use Rattle.ec_core.specs.Generated.{CType}
use Rattle.ec_core.specs.Plain.{plain_type, plain_member, plain_struct}
use Rattle.ec_core.specs.Layout.{Layout, plain_leaf, type_layout, size_of_type, members_layout, struct_layouts, NamesBelow, IsElement}
use Rattle.ec_core.specs.Layout.{IsObjectType}
use Rattle.ec_core.proofs.Layouts.{type_weight, weight_below, size-repeated, object_more, IsStructAt, struct_read, member_read}
use Rattle.ec_core.proofs.Layouts.{member_layout, repeated_step}
use Rattle.ec_core.proofs.layout.+pushes.Goals as goal

pub push_element-push_members-requires : goal.push_element-push_members-requires
push_element-push_members-requires t c =
    let d = c.decreases in
    let below : c.in-Struct.index < length c.args.structs.now = rw c.in-Struct.is at c.requires.names in
    let s : IsStructAt (map plain_struct c.args.structs.now) c.in-Struct.index
    (map plain_member c.index-structs-index.result.members.items) =
    struct_read c.args.structs.now c.in-Struct.index c.index-structs-index.result c.requires.structs below c.index-structs-index.is in
    let w = ap (λ (ty : CType). type_weight (plain_type ty)) c.in-Struct.is in
    let fits : c.args.at + (struct_layouts (map plain_struct c.args.structs.now) c.in-Struct.index).size < 2 ^ 32 =
    rw c.in-Struct.is at c.requires.fits in
    let size = ap (λ (x : Layout). x.size) s.layout in (
      omega (arith, d, w),
      (c.requires.structs, (omega arith, (rw c.as_slice.ensures s.earlier, rw c.as_slice.ensures (omega (arith, fits, size))))),
    )

pub push_element-returns-in_ok-push_members-in-Struct : goal.push_element-returns-in_ok-push_members-in-Struct
push_element-returns-in_ok-push_members-in-Struct t c =
    let below : c.in-Struct.index < length c.args.structs.now = rw c.in-Struct.is at c.requires.names in
    let s : IsStructAt (map plain_struct c.args.structs.now) c.in-Struct.index
    (map plain_member c.index-structs-index.result.members.items) =
    struct_read c.args.structs.now c.in-Struct.index c.index-structs-index.result c.requires.structs below c.index-structs-index.is in
    let all = struct_layouts (map plain_struct c.args.structs.now) in
    let pushed : map plain_leaf c.push_members.new.out.items ≡ map plain_leaf c.args.out.now.items
    ++ (members_layout all (map plain_member c.as_slice.result.now)).leaves_at c.args.at = c.in_ok-push_members-in-Struct.ensures in
    rw c.in-Struct.is (rw (s.layout, ← c.as_slice.ensures) pushed)

pub push_elements-loop-done-preserved : goal.push_elements-loop-done-preserved
push_elements-loop-done-preserved t c =
    let element : Layout = type_layout (struct_layouts (map plain_struct c.args.structs.now)) (plain_type c.args.of.now) in
    let size : c.element_size-size.result ≡ element.size = c.element_size-size.ensures.value in
    let pushed : map plain_leaf c.push_element.new.out.items
    ≡ map plain_leaf c.loop-done.out.items ++ element.leaves_at c.loop-done.offset = c.in_ok-push_element.ensures in
    let i = c.loop-done.invariant in
    record {
      offset = omega (arith, size, i.offset);
      leaves = repeated_step c.loop-done.done c.args.at c.loop-done.offset element (map plain_leaf c.args.out.now.items)
          (map plain_leaf c.loop-done.out.items) (map plain_leaf c.push_element.new.out.items) i.offset i.leaves pushed;
    }

pub push_leaves-push_elements-requires : goal.push_leaves-push_elements-requires
push_leaves-push_elements-requires t c =
    let d = c.decreases in
    let w = ap (λ (ty : CType). type_weight (plain_type ty)) c.in-Array.is in
    let v = ap (λ (ty : CType). type_weight (plain_type ty)) c.deref.ensures in
    let names : NamesBelow (length c.args.structs.now) (plain_type c.in-Array.of.value) = rw c.in-Array.is at c.requires.object.names in
    let form : IsElement (plain_type c.in-Array.of.value) × (c.in-Array.len ≤ 32_767) = rw c.in-Array.is at c.requires.object.form in
    let structs = map plain_struct c.args.structs.now in
    let fits : c.args.at + size_of_type structs (plain_type c.args.ty.now) < 2 ^ 32 = c.requires.fits in
    let whole = ap (λ (ty : CType). size_of_type structs (plain_type ty)) c.in-Array.is in
    let product = size-repeated c.in-Array.len (type_layout (struct_layouts structs) (plain_type c.in-Array.of.value)) in (
      omega (arith, d, w, v),
      (
        c.requires.structs,
        (rw c.deref.ensures names, (rw c.deref.ensures form.0, rw c.deref.ensures (omega (arith, fits, whole, product)))),
      ),
    )

pub push_members-push_leaves-requires : goal.push_members-push_leaves-requires
push_members-push_leaves-requires t c =
    let d = c.decreases in
    let here : IsObjectType c.args.index (plain_type c.member-item.result.ty) =
    (member_read (λ m. IsObjectType c.args.index m.ty) c.args.members.now c.loop-member.member-index c.member-item.result
    c.loop-member-test.true c.member-item.is c.loop-member.invariant.earlier).0 in
    let w = weight_below c.args.index (plain_type c.member-item.result.ty) here.names in
    let rest = ap (λ (x : Layout). x.size) (member_layout (struct_layouts (map plain_struct c.args.structs.now)) c.args.members.now
    c.loop-member.member-index c.member-item.result c.loop-member-test.true c.member-item.is) in (
      omega (arith, d, w),
      (
        c.requires.structs,
        (
          object_more c.args.index (length c.args.structs.now) (plain_type c.member-item.result.ty) c.requires.index here,
          omega (arith, rest, c.loop-member.invariant.offset, c.requires.fits),
        ),
      ),
    )

pub push_members-type_size-offset-requires-clause-object : goal.push_members-type_size-offset-requires-clause-object
push_members-type_size-offset-requires-clause-object t c =
    let here : IsObjectType c.args.index (plain_type c.member-item.result.ty) =
    (member_read (λ m. IsObjectType c.args.index m.ty) c.args.members.now c.loop-member.member-index c.member-item.result
    c.loop-member-test.true c.member-item.is c.loop-member.invariant.earlier).0 in
    object_more c.args.index (length c.args.structs.now) (plain_type c.member-item.result.ty) c.requires.index here
