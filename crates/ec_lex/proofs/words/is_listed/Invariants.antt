use Rattle.std.proofs.Common.{◌≡◌, map, drop}
use Rattle.std.specs.List.{list_any}
use Rattle.ec_lex.specs.Words.{same}
use Rattle.ec_lex.proofs.words.is_listed.Given as goal

abbrev pub invariant-loop-word : goal.invariant-loop-word
invariant-loop-word l = list_any (λ other. same l.name other) (map (λ x. x.now) (drop l.word-index l.words))
    ≡ list_any (λ other. same l.name other) (map (λ x. x.now) l.words)
