use Rattle.std.proofs.Common.{refl}
use Rattle.ec_interp.proofs.Blocks.{block_found}
use Rattle.ec_interp.proofs.run.block_of.Goals as goal

pub returns-in-Block : goal.returns-in-Block
returns-in-Block c = rw (c.in-Block.is, block_found c.args.a.now.unit c.args.a.now.at c.in-Block.all, ← c.as_slice.ensures) refl
