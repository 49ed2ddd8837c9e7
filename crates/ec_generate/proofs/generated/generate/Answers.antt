use Rattle.ec_generate.proofs.Lengths.{text_fits}
use Rattle.ec_generate.proofs.generated.generate.Goals as goal

pub returns-clause-short : goal.returns-clause-short
returns-clause-short c = rw (c.in_ok-text.ensures) (text_fits c.args.n c.requires.most)
