use Rattle.std.proofs.Common.{sym, subst}
use Rattle.ec_core.specs.Valid.{Valid}
use Rattle.ec_tests.proofs.Samples.{sample_is_valid}
use Rattle.ec_tests.proofs.placing.is_placed.Goals as goal

pub place-requires-clause-program : goal.place-requires-clause-program
place-requires-clause-program c =
    subst (λ p. Valid p c.args.map.now.io) (sym c.in_ok-program.ensures) (sample_is_valid c.args.some c.args.map.now.io c.requires.io)
