use Rattle.std.proofs.Common.{◌≡◌, length}
use Rattle.ec_list.specs.Assembling.{TakenTo}
use Rattle.ec_list.proofs.assembling.assemble.Given as goal

abbrev pub invariant-lines : goal.invariant-lines
invariant-lines l = record {
  core : l.assembler.image.core ≡ l.fn.core;
  taken : TakenTo l.bytes.items l.rest l.assembler;
}

abbrev pub decreases-lines : goal.decreases-lines
decreases-lines l = length l.rest
