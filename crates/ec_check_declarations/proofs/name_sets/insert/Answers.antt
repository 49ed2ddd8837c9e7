use Rattle.std.proofs.Common.{arith}
use Rattle.std.proofs.lemmas.Grind.{common_steps}
use Rattle.ec_check_declarations.proofs.Named.{added}
use Rattle.ec_check_declarations.proofs.name_sets.insert.Goals.{in-Ok, in-Err}
use Rattle.ec_check_declarations.proofs.name_sets.insert.Goals as goal

pub returns-clause-ok : goal.returns-clause-ok
returns-clause-ok c =
    elim c.match-insert.branch [
      | in-Ok w ↦ rw w.result-is (added c.args.name c.args.names.now.keys c.insert.new.self.keys w.in-Ok.ensures.updates.0)
      | in-Err w ↦ rw w.result-is (grind (arith, common_steps))
    ]
