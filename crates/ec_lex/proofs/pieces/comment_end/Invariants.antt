use Rattle.std.proofs.Common.{◌≡◌, length, ◌-◌, ◌+◌, ◌≤◌, option_map}
use Rattle.ec_lex.specs.Comments.{comment_end}
use Rattle.ec_lex.proofs.pieces.comment_end.Given as goal

abbrev pub invariant-loop-rest : goal.invariant-loop-rest
invariant-loop-rest l = (length l.rest ≤ length l.bytes)
    × (option_map (λ n. n + (length l.bytes - length l.rest)) (comment_end l.rest) ≡ comment_end l.bytes)

abbrev pub decreases-loop-rest : goal.decreases-loop-rest
decreases-loop-rest l = length l.rest
