use Rattle.std.proofs.Common.{◌≡◌, ◌++◌, drop, map}
use Rattle.ec_asm_based.specs.Based.{based_item, with_base}
use Rattle.ec_asm_based.proofs.shorten.with_base.Given as goal

abbrev pub invariant-loop-item : goal.invariant-loop-item
invariant-loop-item l = record {
  out : l.out.items ++ map (based_item l.reaches l.base) (drop l.item-index l.items) ≡ with_base l.reaches l.base l.items;
}
