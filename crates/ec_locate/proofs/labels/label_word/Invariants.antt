use Rattle.std.proofs.Common.{◌≡◌, ◌+◌, ◌≤◌, drop}
use Rattle.ec_asm.specs.Items.{code_words}
use Rattle.ec_locate.specs.Labels.{label_word}
use Rattle.ec_locate.proofs.labels.label_word.Given as goal

-- the words so far, with those before the label among the items that are left
abbrev pub invariant-loop-item : goal.invariant-loop-item
invariant-loop-item l = record {
  place : l.word + label_word (drop l.item-index l.items) l.label ≡ label_word l.items l.label;
  room : l.word + code_words (drop l.item-index l.items) ≤ code_words l.items;
}
