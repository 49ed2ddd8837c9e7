use Rattle.std.proofs.Common.{ap, ◌+◌}
use Rattle.ec_asm.specs.Change.{load_by, store_by}
use Rattle.ec_asm.proofs.laws.ports_are_noted.Goals as goal

pub returns : goal.returns
returns c = record {
  give = λ e d a v k. ap (λ x. load_by x d (a + 0x20) v) k;
  take = λ e a r v k. ap (λ x. store_by x (a + 0x20) (v.at r) v) k;
}
