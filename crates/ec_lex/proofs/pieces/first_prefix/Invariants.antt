use Rattle.std.proofs.Common.{◌≡◌, map, drop}
use Rattle.ec_lex.specs.Reading.{first_prefix}
use Rattle.ec_lex.proofs.pieces.first_prefix.Given as goal

abbrev pub invariant-loop-spelling : goal.invariant-loop-spelling
invariant-loop-spelling g l = first_prefix l.bytes (map (λ x. (x.0.now, x.1)) (drop l.spelling-index l.table))
    ≡ first_prefix l.bytes (map (λ x. (x.0.now, x.1)) l.table)
