use Rattle.std.proofs.Common.{arith, ap, sym, ◌∙◌, ◌≡◌, ◌<◌, length, map}
use Rattle.ec_core.specs.Generated.{CType}
use Rattle.ec_core.specs.Plain.{plain_type, plain_member, plain_struct, PlainType}
use Rattle.ec_core.specs.Layout.{Layout, type_layout, size_of_type, struct_layouts, IsObjectType}
use Rattle.ec_core.proofs.Layouts.{type_weight, weight_below, size-repeated, object_more, IsStructAt, struct_read, member_read}
use Rattle.ec_core.proofs.layout.+sizes.Goals as goal

pub element_size-members_size-requires : goal.element_size-members_size-requires
element_size-members_size-requires t c =
    let d = c.decreases in
    let below : c.in-Struct.index < length c.args.structs.now = rw c.in-Struct.is at c.requires.names in
    let s : IsStructAt (map plain_struct c.args.structs.now) c.in-Struct.index
    (map plain_member c.index-structs-index.result.members.items) =
    struct_read c.args.structs.now c.in-Struct.index c.index-structs-index.result c.requires.structs below c.index-structs-index.is in
    let w = ap (λ (ty : CType). type_weight (plain_type ty)) c.in-Struct.is in
    (omega (arith, d, w), (c.requires.structs, (omega arith, (rw c.as_slice.ensures s.earlier, rw c.as_slice.ensures s.small))))

pub element_size-returns-in-Struct-clause-value : goal.element_size-returns-in-Struct-clause-value
element_size-returns-in-Struct-clause-value t c =
    let below : c.in-Struct.index < length c.args.structs.now = rw c.in-Struct.is at c.requires.names in
    let s : IsStructAt (map plain_struct c.args.structs.now) c.in-Struct.index
    (map plain_member c.index-structs-index.result.members.items) =
    struct_read c.args.structs.now c.in-Struct.index c.index-structs-index.result c.requires.structs below c.index-structs-index.is in
    rw (c.in-Struct.is, c.members_size.ensures, c.as_slice.ensures) (sym (ap (λ (x : Layout). x.size) s.layout))

pub element_size-returns-in-Struct-clause-bound : goal.element_size-returns-in-Struct-clause-bound
element_size-returns-in-Struct-clause-bound t c =
    let below : c.in-Struct.index < length c.args.structs.now = rw c.in-Struct.is at c.requires.names in
    let s : IsStructAt (map plain_struct c.args.structs.now) c.in-Struct.index
    (map plain_member c.index-structs-index.result.members.items) =
    struct_read c.args.structs.now c.in-Struct.index c.index-structs-index.result c.requires.structs below c.index-structs-index.is in
    rw (c.members_size.ensures, c.as_slice.ensures) s.small

pub members_size-type_size-size-requires : goal.members_size-type_size-size-requires
members_size-type_size-size-requires t c =
    let d = c.decreases in
    let here : IsObjectType c.args.index (plain_type c.member-item.result.ty) =
    (member_read (λ m. IsObjectType c.args.index m.ty) c.args.members.now c.loop-member.member-index c.member-item.result
    c.loop-member-test.true c.member-item.is c.loop-member.invariant.earlier).0 in
    let w = weight_below c.args.index (plain_type c.member-item.result.ty) here.names in (
      omega (arith, d, w),
      (c.requires.structs, object_more c.args.index (length c.args.structs.now) (plain_type c.member-item.result.ty) c.requires.index here),
    )

pub type_size-returns-in-Array : goal.type_size-returns-in-Array
type_size-returns-in-Array t c =
    let of : PlainType = plain_type c.in-Array.of.value in
    let all = map plain_struct c.args.structs.now in
    let size : c.element_size.result ≡ size_of_type all of =
    c.element_size.ensures.value ∙ ap (λ (ty : CType). size_of_type all (plain_type ty)) c.deref.ensures in
    rw (c.in-Array.is, size) (sym (size-repeated c.in-Array.len (type_layout (struct_layouts all) of)))
