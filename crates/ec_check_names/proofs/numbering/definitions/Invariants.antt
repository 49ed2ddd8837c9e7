use Rattle.std.proofs.Common.{◌≡◌, ◌+◌, ◌≤◌, drop, map}
use Rattle.ec_grammar.specs.Views.{view_tree}
use Rattle.ec_check_names.specs.Counts.{objects_declared, functions_defined}
use Rattle.ec_check_names.specs.Definitions.{plain_numbering, numbered_from, nothing_numbered}
use Rattle.ec_check_names.proofs.numbering.definitions.Given as goal

abbrev pub invariant-loop-tree : goal.invariant-loop-tree
invariant-loop-tree l =
    let left = map view_tree (drop l.tree-index l.units) in
    record {
      numbered : numbered_from l.unit left (plain_numbering l.numbering) ≡ numbered_from 0 (map view_tree l.units) nothing_numbered;
      unit : l.unit ≡ l.tree-index;
      objects : l.numbering.counts.objects + objects_declared left ≤ objects_declared (map view_tree l.units);
      functions : l.numbering.counts.functions + functions_defined left ≡ functions_defined (map view_tree l.units);
    }
