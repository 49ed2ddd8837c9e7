use Rattle.std.proofs.Common.{◌≡◌, ◌≤◌, drop}
use Rattle.ec_asm_based.specs.Based.{uses, most_used, chosen_base}
use Rattle.ec_asm_based.proofs.shorten.chosen_base.Given as goal

abbrev pub invariant-loop-reach : goal.invariant-loop-reach
invariant-loop-reach l = record {
  rest : most_used (uses l.reaches l.items) l.base (drop l.reach-index l.reaches) ≡ chosen_base l.reaches l.items;
  below : l.base ≤ 65536;
}
