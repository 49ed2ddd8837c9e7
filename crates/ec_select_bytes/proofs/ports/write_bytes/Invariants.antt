use Rattle.std.proofs.Common.{◌≡◌, ◌++◌, ◌-◌}
use Rattle.ec_select_bytes.specs.Ports.{write_code}
use Rattle.ec_select_bytes.proofs.ports.write_bytes.Given as goal

abbrev pub invariant-loop-k : goal.invariant-loop-k
invariant-loop-k l =
    l.out.items ≡ l.fn.out.items ++ write_code l.fn.of.index l.fn.of.port l.fn.from (l.fn.of.width - l.k) l.k
