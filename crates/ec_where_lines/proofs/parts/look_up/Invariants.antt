use Rattle.std.proofs.Common.{◌≡◌, map, drop}
use Rattle.ec_where_lines.specs.Parts.{look_up}
use Rattle.ec_where_lines.proofs.parts.look_up.Given as goal

abbrev pub invariant-loop-known : goal.invariant-loop-known
invariant-loop-known l = look_up l.text (map (λ x. (x.0.now, x.1.now)) (drop l.known-index l.table))
    ≡ look_up l.text (map (λ x. (x.0.now, x.1.now)) l.table)
