use Rattle.std.proofs.Common.{◌≡◌, drop}
use Rattle.ec_core.specs.Accesses.{all_ended}
use Rattle.ec_core.specs.Plain.{plain_stmts}
use Rattle.ec_core.specs.Statements.{declared}
use Rattle.ec_interp.specs.Views.{seen}
use Rattle.ec_interp.proofs.objects.end_declared.Given as goal

abbrev pub invariant-loop-a : goal.invariant-loop-a
invariant-loop-a l = all_ended (declared (plain_stmts (drop l.a-index l.all))) (seen l.s)
    ≡ all_ended (declared (plain_stmts l.all)) (seen l.fn.s)
