use Rattle.std.proofs.Common.{arith}
use Rattle.ec_check_declarations.proofs.Named.{either, pushed}
use Rattle.ec_check_declarations.proofs.name_sets.Members.push.Goals as goal

pub invariant_of-self-2 : goal.invariant_of-self-2
invariant_of-self-2 c =
    either c.push.result c.push.ensures.ok c.push.ensures.refused
    (λ more. pushed c.self.inside.list.items c.reserve.new.self.items c.push.new.self.items c.args.m c.self.inside.names.keys
    c.note_name.new.names.keys c.in_ok-reserve.ensures.items more c.in_ok-note_name.ensures.ok c.self.invariant)
    (λ none. absurd (omega (arith, none, c.in_ok-reserve.ensures.spare)))
