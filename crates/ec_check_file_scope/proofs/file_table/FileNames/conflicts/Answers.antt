use Rattle.std.proofs.Common.{◌∙◌, ap, [], map}
use Rattle.ec_check_file_scope.specs.FileNames.{plain_file_name, conflicts}
use Rattle.ec_check_file_scope.proofs.Grouped.{conflicts_by}
use Rattle.ec_check_file_scope.proofs.file_table.FileNames.conflicts.Goals as goal

pub returns-in-Some : goal.returns-in-Some
returns-in-Some c =
    let d = plain_file_name c.args.d.now in
    let all = map plain_file_name c.self.inside.list.items in
    c.conflicts.ensures
    ∙ (ap (λ ds. conflicts d (map plain_file_name ds)) c.as_slice.ensures
    ∙ (conflicts_by d (map plain_file_name c.in-Some.group.now.items) all c.self.inside.groups.entries c.in-Some.ensures c.self.invariant
    ∙ ap (λ v. conflicts d (map plain_file_name v.items)) c.self.view_is))

pub returns-in-None : goal.returns-in-None
returns-in-None c =
    let d = plain_file_name c.args.d.now in
    let all = map plain_file_name c.self.inside.list.items in
    conflicts_by d [] all c.self.inside.groups.entries c.in-None.ensures c.self.invariant
    ∙ ap (λ v. conflicts d (map plain_file_name v.items)) c.self.view_is
