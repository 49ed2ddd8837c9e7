use Rattle.std.proofs.Common.{◌≡◌, ◌==◌, length, drop}
use Rattle.std.specs.Cmp.Lexicographic.{pointwise}
use Rattle.std.specs.Char.{to_ascii_lowercase}
use Rattle.ec_lex.proofs.constants.is_in_either_case.Given as goal

abbrev pub invariant-loop-i : goal.invariant-loop-i
invariant-loop-i l = (length l.bytes ≡ length l.letters) × (pointwise (λ a b. to_ascii_lowercase a == b) (drop l.i l.bytes)
    (drop l.i l.letters) ≡ pointwise (λ a b. to_ascii_lowercase a == b) l.bytes l.letters)
