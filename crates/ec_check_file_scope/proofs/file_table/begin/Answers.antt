use Rattle.std.proofs.Common.{ap, map}
use Rattle.std.proofs.lemmas.Result.{on_ok_weaker}
use Rattle.ec_check_file_scope.specs.FileNames.{plain_file_name}
use Rattle.ec_check_file_scope.proofs.Grouped.{begun}
use Rattle.ec_check_file_scope.proofs.file_table.begin.Goals as goal

pub returns-clause-ok : goal.returns-clause-ok
returns-clause-ok c =
    on_ok_weaker c.put.result
    (λ puts. begun (plain_file_name c.args.d) c.in_ok-name.name.items (map plain_file_name c.in_ok-group.group.items)
    c.args.groups.now.entries c.put.new.groups.entries c.in_ok-name.ensures (ap (map plain_file_name) c.in_ok-group.ensures)
    c.requires puts) c.put.ensures.ok
