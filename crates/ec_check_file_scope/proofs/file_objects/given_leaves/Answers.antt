use Rattle.std.proofs.lemmas.Result.{IfOk-weaker}
use Rattle.ec_check_declarations.proofs.Lifted.{initialiser_walked}
use Rattle.ec_check_file_scope.proofs.file_objects.given_leaves.Goals as goal

pub returns : goal.returns
returns c = IfOk-weaker c.static_values.result _ _ (λ all walked. initialiser_walked walked) c.static_values.ensures
