use Rattle.std.proofs.Common.{◌≡◌, ◌+◌, ◌≤◌, drop, map}
use Rattle.ec_grammar.specs.Views.{view_next_init_declarator}
use Rattle.ec_check_names.specs.Counts.{objects_in_more}
use Rattle.ec_check_names.specs.Definitions.{plain_numbering, numbered_more}
use Rattle.ec_check_names.proofs.numbering.Numbering.number_more.Given as goal

abbrev pub invariant-loop-d : goal.invariant-loop-d
invariant-loop-d l =
    let left = map view_next_init_declarator (drop l.d-index l.more) in
    record {
      numbered : numbered_more l.unit l.storage left (plain_numbering l.self)
          ≡ numbered_more l.unit l.storage (map view_next_init_declarator l.more) (plain_numbering l.fn.self);
      objects : l.self.counts.objects + objects_in_more left
          ≤ l.fn.self.counts.objects + objects_in_more (map view_next_init_declarator l.more);
      functions : l.self.counts.functions ≡ l.fn.self.counts.functions;
    }
