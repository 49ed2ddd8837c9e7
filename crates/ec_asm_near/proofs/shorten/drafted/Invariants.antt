use Rattle.std.proofs.Common.{◌≡◌, ◌++◌, ◌*◌, ◌≤◌, drop}
use Rattle.ec_asm_near.specs.Labels.{words_of}
use Rattle.ec_asm_near.specs.Near.{drafted}
use Rattle.ec_asm_near.proofs.shorten.drafted.Given as goal

abbrev pub invariant-loop-item : goal.invariant-loop-item
invariant-loop-item l = record {
  out : l.out.items ++ drafted (words_of l.labels) l.pc (drop l.item-index l.items) ≡ drafted (words_of l.labels) 0 l.items;
  below : l.pc ≤ 3 * l.item-index;
}
