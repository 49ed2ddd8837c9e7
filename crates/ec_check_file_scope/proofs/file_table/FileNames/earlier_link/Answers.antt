use Rattle.std.proofs.Common.{◌∙◌, ap, [], map}
use Rattle.ec_check_file_scope.specs.FileNames.{plain_file_name, earlier_link}
use Rattle.ec_check_file_scope.proofs.Grouped.{link_by}
use Rattle.ec_check_file_scope.proofs.file_table.FileNames.earlier_link.Goals as goal

pub returns-in-Some : goal.returns-in-Some
returns-in-Some c =
    let n = c.args.name.now.items in
    let u = c.args.unit in
    let all = map plain_file_name c.self.inside.list.items in
    c.earlier_link.ensures
    ∙ (ap (λ ds. earlier_link n u (map plain_file_name ds)) c.as_slice.ensures
    ∙ (link_by n u (map plain_file_name c.in-Some.group.now.items) all c.self.inside.groups.entries c.in-Some.ensures c.self.invariant
    ∙ ap (λ v. earlier_link n u (map plain_file_name v.items)) c.self.view_is))

pub returns-in-None : goal.returns-in-None
returns-in-None c =
    let n = c.args.name.now.items in
    let u = c.args.unit in
    let all = map plain_file_name c.self.inside.list.items in
    link_by n u [] all c.self.inside.groups.entries c.in-None.ensures c.self.invariant
    ∙ ap (λ v. earlier_link n u (map plain_file_name v.items)) c.self.view_is
