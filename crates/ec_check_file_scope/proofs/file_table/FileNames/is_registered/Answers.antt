use Rattle.std.proofs.Common.{◌∙◌, ap, [], map}
use Rattle.ec_check_file_scope.specs.FileNames.{plain_file_name, is_registered}
use Rattle.ec_check_file_scope.proofs.Grouped.{registered_by}
use Rattle.ec_check_file_scope.proofs.file_table.FileNames.is_registered.Goals as goal

pub returns-in-Some : goal.returns-in-Some
returns-in-Some c =
    let n = c.args.name.now.items in
    let all = map plain_file_name c.self.inside.list.items in
    c.is_registered.ensures
    ∙ (ap (λ ds. is_registered n (map plain_file_name ds)) c.as_slice.ensures
    ∙ (registered_by n (map plain_file_name c.in-Some.group.now.items) all c.self.inside.groups.entries c.in-Some.ensures c.self.invariant
    ∙ ap (λ v. is_registered n (map plain_file_name v.items)) c.self.view_is))

pub returns-in-None : goal.returns-in-None
returns-in-None c =
    let n = c.args.name.now.items in
    let all = map plain_file_name c.self.inside.list.items in
    registered_by n [] all c.self.inside.groups.entries c.in-None.ensures c.self.invariant
    ∙ ap (λ v. is_registered n (map plain_file_name v.items)) c.self.view_is
