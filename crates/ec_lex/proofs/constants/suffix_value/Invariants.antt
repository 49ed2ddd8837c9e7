use Rattle.std.proofs.Common.{◌≡◌, map, drop}
use Rattle.ec_lex.specs.Constants.{suffix_value}
use Rattle.ec_lex.proofs.constants.suffix_value.Given as goal

abbrev pub invariant-loop-letters : goal.invariant-loop-letters
invariant-loop-letters g l = suffix_value l.bytes (map (λ x. (x.0.now, x.1)) (drop l.letters-index l.table))
    ≡ suffix_value l.bytes (map (λ x. (x.0.now, x.1)) l.table)
