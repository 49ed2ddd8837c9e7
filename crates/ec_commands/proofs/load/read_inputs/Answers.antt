use Rattle.std.proofs.Common.{◌∙◌, refl, arith}
use Rattle.ec_commands.proofs.load.read_inputs.Goals as goal

pub returns-in-Ok-read-clause-calm : goal.returns-in-Ok-read-clause-calm
returns-in-Ok-read-clause-calm g c = λ made room calm.
    let hex = c.in-Ok.ensures.calm _ _ room calm (0, omega arith, refl) in
    (c.in-Ok-read.ensures.calm _ _ room hex.1 (1, omega arith, refl)).0 ∙ hex.0

pub returns-in-Err-read-clause-calm : goal.returns-in-Err-read-clause-calm
returns-in-Err-read-clause-calm g c = λ made room calm.
    let hex = c.in-Ok.ensures.calm _ _ room calm (0, omega arith, refl) in
    (c.in-Err-read.ensures.calm _ _ room hex.1 (1, omega arith, refl)).0 ∙ hex.0
