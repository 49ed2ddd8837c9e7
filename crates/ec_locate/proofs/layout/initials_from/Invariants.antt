use Rattle.std.proofs.Common.{◌≡◌, ◌+◌, ◌++◌, drop}
use Rattle.std.specs.Prelude.{sum_by}
use Rattle.ec_locate.specs.Entries.{initial_size}
use Rattle.ec_locate.specs.Layout.{initials_from}
use Rattle.ec_locate.proofs.layout.initials_from.Given as goal

abbrev pub invariant-loop-entry : goal.invariant-loop-entry
invariant-loop-entry l = record {
  made : l.initials.items ++ initials_from l.fn.first l.next (drop l.entry-index l.entries) ≡ initials_from l.fn.first l.fn.at l.entries;
  at : l.next + sum_by initial_size (drop l.entry-index l.entries) ≡ l.fn.at + sum_by initial_size l.entries;
}
