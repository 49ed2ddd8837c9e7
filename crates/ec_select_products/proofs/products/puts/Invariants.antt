use Rattle.std.proofs.Common.{◌≡◌, ◌++◌}
use Rattle.ec_select_products.specs.Products.{puts_code}
use Rattle.ec_select_products.proofs.products.puts.Given as goal

abbrev pub invariant-loop-i : goal.invariant-loop-i
invariant-loop-i l = l.out.items ≡ l.fn.out.items ++ puts_code l.fn.to l.i
