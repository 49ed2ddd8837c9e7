use Rattle.std.proofs.Common.{◌≡◌, ◌++◌}
use Rattle.ec_asm.specs.Items.{chain}
use Rattle.ec_select_bytes.specs.Ports.{read_byte}
use Rattle.ec_select_bytes.proofs.ports.read_bytes.Given as goal

abbrev pub invariant-loop-i : goal.invariant-loop-i
invariant-loop-i l = l.out.items ≡ l.fn.out.items ++ chain (read_byte l.fn.of.index l.fn.of.port l.fn.to) l.i
