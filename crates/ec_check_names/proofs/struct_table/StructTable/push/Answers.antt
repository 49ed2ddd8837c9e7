use Rattle.std.proofs.Common.{arith}
use Rattle.ec_check_names.proofs.FoundStructs.{either, pushed}
use Rattle.ec_check_names.proofs.struct_table.StructTable.push.Goals as goal

pub invariant_of-self-2 : goal.invariant_of-self-2
invariant_of-self-2 c =
    either c.push.result c.push.ensures.ok c.push.ensures.refused
    (λ more. pushed c.self.inside.list.items c.reserve.new.self.items c.push.new.self.items c.args.def c.args.key.items
    c.len.result c.self.inside.places.entries c.add.new.places.entries c.in_ok-reserve.ensures.items more c.requires c.len.ensures c.in_ok-add.ensures.ok
    c.self.invariant)
    (λ none. absurd (omega (arith, none, c.in_ok-reserve.ensures.spare)))
