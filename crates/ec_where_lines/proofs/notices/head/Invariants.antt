use Rattle.std.proofs.Common.{◌≡◌, map, drop}
use Rattle.ec_where_lines.specs.Notices.{head_of}
use Rattle.ec_where_lines.proofs.notices.head.Given as goal

abbrev pub invariant-loop-head : goal.invariant-loop-head
invariant-loop-head l = head_of l.line (map (λ x. (x.0.now, x.1)) (drop l.head-index l.heads))
    ≡ head_of l.line (map (λ x. (x.0.now, x.1)) l.heads)
