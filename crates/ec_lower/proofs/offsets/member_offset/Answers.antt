use Rattle.std.proofs.Common.{map, sym}
use Rattle.std.proofs.lemmas.List.{length-map}
use Rattle.ec_core.specs.Plain.{plain_struct}
use Rattle.ec_lower.proofs.offsets.member_offset.Goals as goal

pub members_size-requires-clause-known : goal.members_size-requires-clause-known
members_size-requires-clause-known c =
    let structs = map plain_struct c.args.program.now.structs.items in
    let laid = c.structs_are_laid_out.ensures.each structs c.in-Some-Struct.index (plain_struct c.in-Some.def.now) c.requires.structs
    (sym c.in-Some.ensures) in
    rw (length-map c.args.program.now.structs.items plain_struct, ← c.as_slice.ensures) at laid.known
