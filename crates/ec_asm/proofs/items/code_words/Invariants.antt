use Rattle.std.proofs.Common.{◌≡◌, ◌*◌, ◌≤◌, take}
use Rattle.ec_asm.specs.Items.{code_words}
use Rattle.ec_asm.proofs.items.code_words.Given as goal

abbrev pub invariant-loop-item : goal.invariant-loop-item
invariant-loop-item l = record {
  total : l.sum ≡ code_words (take l.item-index l.items);
  below : l.sum ≤ 3 * l.item-index;
}
