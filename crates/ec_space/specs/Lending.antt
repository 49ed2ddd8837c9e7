use Rattle.std.specs.Prelude.{ℕ, List}
use Rattle.std.specs.Borrow.{Lends, MutBor, Fml, u8, Array}
use Rattle.ec_space.specs.Memory.{Memory}
use Rattle.ec_space.specs.Memory.{with_bytes}
use Rattle.ec_space.specs.declared.space.Bank.{Bank}
use Rattle.ec_space.specs.contracts.memory.Mem.{the_row}

abbrev pub LendsWindow : MutBor Memory → Bank → ℕ → MutBor (List ℕ) → Fml
LendsWindow m bank from r = Lends the_row (Array u8 0) m r (with_bytes m.now bank from)
