use Rattle.ec_select_live.proofs.Entries.{Joining}
use Rattle.ec_select_live.proofs.table.LabelNeeds.join.Given as goal

abbrev pub invariant-loop-place : goal.invariant-loop-place
invariant-loop-place l = Joining l.l l.fn.self l.self l.need l.place l.grown
