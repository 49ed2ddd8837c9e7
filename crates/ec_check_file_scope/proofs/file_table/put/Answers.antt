use Rattle.ec_check_file_scope.proofs.Grouped.{puts_by}
use Rattle.ec_check_file_scope.proofs.file_table.put.Goals as goal

pub returns-in-Ok-clause-ok : goal.returns-in-Ok-clause-ok
returns-in-Ok-clause-ok c =
    puts_by c.args.name c.args.group c.args.groups.now.entries c.insert.new.self.entries c.in-Ok.ensures.updates.0
