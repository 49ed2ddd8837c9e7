use Rattle.std.proofs.Common.{◌≡◌, ◌-◌, ◌++◌}
use Rattle.ec_space.specs.Bytes.{little_endian}
use Rattle.ec_locate.proofs.image.put_number.Given as goal

abbrev pub invariant-loop-i : goal.invariant-loop-i
invariant-loop-i l = l.out.items ++ little_endian (l.size - l._i) l.rest ≡ l.initial.out.items ++ little_endian l.size l.fn.number
