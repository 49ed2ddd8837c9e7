use Rattle.ec_interp.proofs.Parts.{first_block}
use Rattle.ec_interp.proofs.objects.end_first.Goals as goal

pub returns-in-Block : goal.returns-in-Block
returns-in-Block c =
    rw (c.in-Block.is, first_block c.args.first.now.unit c.args.first.now.at c.in-Block.all, ← c.as_slice.ensures) c.end_declared.ensures
