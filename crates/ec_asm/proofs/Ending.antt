-- A run that comes to a BREAK.
use Rattle.std.proofs.Common.{suc, ap, ◌∙◌}
use Rattle.ec_asm.specs.Run.{Running, act, run}
use Rattle.ec_asm.specs.Laws.{RunsEnd}
use Rattle.ec_asm.proofs.Hoare.{run-add}
use Rattle.ec_asm.proofs.Machine.{run-ended}

pub runs_end : RunsEnd
runs_end e k j pc pc1 v v1 g is =
    run-add e k (suc j) (Running pc v) ∙ ap (run e (suc j)) g.by ∙ ap (λ o. run e j (act e o pc1 v1)) is ∙ run-ended e j v1
