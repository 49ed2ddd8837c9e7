use Rattle.std.proofs.Common.{◌≡◌, ◌-◌, drop, map}
use Rattle.ec_grammar.specs.Views.{view_next_init_declarator}
use Rattle.ec_check_trees.specs.Counts.{objects_in_more}
use Rattle.ec_check_trees.proofs.counts.less_more.Given as goal

abbrev pub invariant-loop-d : goal.invariant-loop-d
invariant-loop-d l = l.rest - objects_in_more (map view_next_init_declarator (drop l.d-index l.more))
    ≡ l.left - objects_in_more (map view_next_init_declarator l.more)
