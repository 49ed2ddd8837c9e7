use Rattle.std.proofs.Common.{◌≡◌, ◌-◌, drop}
use Rattle.ec_grammar.specs.Views.{views_items}
use Rattle.ec_check_trees.specs.Counts.{objects_in_items}
use Rattle.ec_check_trees.proofs.counts.+counts.Given as goal

abbrev pub invariant-less_items-loop-item : goal.invariant-less_items-loop-item
invariant-less_items-loop-item l =
    l.rest - objects_in_items (views_items (drop l.item-index l.items)) ≡ l.left - objects_in_items (views_items l.items)
