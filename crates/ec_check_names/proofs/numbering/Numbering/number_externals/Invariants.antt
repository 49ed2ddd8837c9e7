use Rattle.std.proofs.Common.{◌≡◌, ◌+◌, ◌≤◌, drop, map}
use Rattle.ec_grammar.specs.Views.{view_external}
use Rattle.ec_check_names.specs.Counts.{objects_in_externals, functions_in_externals}
use Rattle.ec_check_names.specs.Definitions.{plain_numbering, numbered_externals}
use Rattle.ec_check_names.proofs.numbering.Numbering.number_externals.Given as goal

abbrev pub invariant-loop-external : goal.invariant-loop-external
invariant-loop-external l =
    let left = map view_external (drop l.external-index l.externals) in
    record {
      numbered : numbered_externals l.unit left (plain_numbering l.self)
          ≡ numbered_externals l.unit (map view_external l.externals) (plain_numbering l.fn.self);
      objects : l.self.counts.objects + objects_in_externals left
          ≤ l.fn.self.counts.objects + objects_in_externals (map view_external l.externals);
      functions : l.self.counts.functions + functions_in_externals left
          ≡ l.fn.self.counts.functions + functions_in_externals (map view_external l.externals);
    }
