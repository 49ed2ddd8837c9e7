use Rattle.std.proofs.Common.{◌≡◌, ◌++◌}
use Rattle.ec_asm.specs.Items.{chain}
use Rattle.ec_select_operations.specs.Code.{save_place}
use Rattle.ec_select_operations.specs.Written.{need_in}
use Rattle.ec_select_operations.proofs.calls.save.Given as goal

abbrev pub invariant-loop-place : goal.invariant-loop-place
invariant-loop-place l =
    l.out.items ≡ l.fn.out.items ++ chain (λ place. save_place l.fn.of.homes place (need_in l.fn.kept place)) l.place
