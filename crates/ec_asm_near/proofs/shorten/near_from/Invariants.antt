use Rattle.std.proofs.Common.{◌≡◌, ◌++◌, ◌*◌, ◌≤◌, drop}
use Rattle.ec_asm_near.specs.Labels.{words_of}
use Rattle.ec_asm_near.specs.Near.{near_from}
use Rattle.ec_asm_near.proofs.shorten.near_from.Given as goal

abbrev pub invariant-loop-item : goal.invariant-loop-item
invariant-loop-item l = record {
  out : l.out.items ++ near_from (words_of l.long) (words_of l.short) l.pc l.at (drop l.item-index l.items)
      ≡ near_from (words_of l.long) (words_of l.short) 0 0 l.items;
  below : l.pc ≤ 3 * l.item-index;
  shorter : l.at ≤ 3 * l.item-index;
}
