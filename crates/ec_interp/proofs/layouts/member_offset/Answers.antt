use Rattle.std.proofs.Common.{map, sym}
use Rattle.std.proofs.lemmas.List.{length-map}
use Rattle.ec_core.specs.Plain.{plain_struct}
use Rattle.ec_interp.proofs.Operands.{small_struct}
use Rattle.ec_interp.proofs.layouts.member_offset.Goals as goal

pub members_size-requires-clause-small : goal.members_size-requires-clause-small
members_size-requires-clause-small c =
    let structs = map plain_struct c.args.f.now.program.now.structs.items in
    let s = small_struct structs c.in-Some-Struct.index (plain_struct c.in-Some.def.now) c.requires (sym c.in-Some.ensures) in
    rw (c.as_slice.ensures) s.small

pub returns-in-Some-clause-answered : goal.returns-in-Some-clause-answered
returns-in-Some-clause-answered c =
    let structs = map plain_struct c.args.f.now.program.now.structs.items in
    let s = small_struct structs c.in-Some-Struct.index (plain_struct c.in-Some.def.now) c.requires (sym c.in-Some.ensures) in
    let m = rw (length-map c.args.f.now.program.now.structs.items plain_struct, ← c.as_slice.ensures) at s.members in
    c.members_size.ensures.answered m
