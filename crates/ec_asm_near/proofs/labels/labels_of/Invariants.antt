use Rattle.std.proofs.Common.{◌≡◌, ℕ, ◌*◌, ◌≤◌, None, drop}
use Rattle.ec_asm_near.specs.Labels.{noted}
use Rattle.ec_asm_near.proofs.Noted.{noted_after}
use Rattle.ec_asm_near.proofs.labels.labels_of.Given as goal

-- what is noted, with the items that are left, gives what all items give
abbrev pub invariant-loop-item : goal.invariant-loop-item
invariant-loop-item l = record {
  all : (k : ℕ) → noted_after (noted l.labels k) l.word (drop l.item-index l.items) k ≡ noted_after None 0 l.items k;
  below : l.word ≤ 3 * l.item-index;
}
