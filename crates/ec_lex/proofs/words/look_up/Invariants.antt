use Rattle.std.proofs.Common.{◌≡◌, map, drop}
use Rattle.ec_lex.specs.Words.{look_up}
use Rattle.ec_lex.proofs.words.look_up.Given as goal

abbrev pub invariant-loop-spelling : goal.invariant-loop-spelling
invariant-loop-spelling g l =
    look_up l.name (map (λ x. (x.0.now, x.1)) (drop l.spelling-index l.table)) ≡ look_up l.name (map (λ x. (x.0.now, x.1)) l.table)
