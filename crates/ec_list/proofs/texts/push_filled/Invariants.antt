use Rattle.std.proofs.Common.{◌≡◌, ◌++◌, drop}
use Rattle.ec_list.specs.Texts.{filled}
use Rattle.ec_list.proofs.texts.push_filled.Given as goal

abbrev pub invariant-loop-c : goal.invariant-loop-c
invariant-loop-c l =
    l.out.items ++ filled (drop l.c-index l.pattern) l.next l.later ≡ l.fn.out.items ++ filled l.pattern l.first l.second
