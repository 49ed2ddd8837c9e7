use Rattle.std.proofs.Common.{arith}
use Rattle.ec_check_file_scope.proofs.Grouped.{either, pushed}
use Rattle.ec_check_file_scope.proofs.file_table.FileNames.push.Goals as goal

pub invariant_of-self-2 : goal.invariant_of-self-2
invariant_of-self-2 c =
    either c.push.result c.push.ensures.ok c.push.ensures.refused
    (λ more. pushed c.self.inside.list.items c.reserve.new.self.items c.push.new.self.items c.args.d c.self.inside.groups.entries
    c.note.new.groups.entries c.in_ok-reserve.ensures.items more c.in_ok-note.ensures.ok c.self.invariant)
    (λ none. absurd (omega (arith, none, c.in_ok-reserve.ensures.spare)))
