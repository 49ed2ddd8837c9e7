use Rattle.ec_check_declarations.proofs.Lifted.{initialiser_walked}
use Rattle.ec_check_declarations.proofs.objects.written_size.Goals as goal

pub returns : goal.returns
returns c = initialiser_walked c.in_ok-n.ensures
