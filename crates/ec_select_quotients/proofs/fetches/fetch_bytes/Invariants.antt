use Rattle.std.proofs.Common.{◌≡◌, ◌++◌}
use Rattle.ec_asm.specs.Items.{chain}
use Rattle.ec_select_quotients.specs.Signs.{fetch_byte}
use Rattle.ec_select_quotients.proofs.fetches.fetch_bytes.Given as goal

abbrev pub invariant-loop-i : goal.invariant-loop-i
invariant-loop-i l = l.out.items ≡ l.fn.out.items ++ chain (fetch_byte l.fn.from) l.i
