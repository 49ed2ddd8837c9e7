use Rattle.std.proofs.Common.{◌≡◌, suc, ◌+◌, ◌++◌, ap, ◌∙◌, append_assoc, arith}
use Rattle.ec_asm.specs.Items.{chain}
use Rattle.ec_fxcode_placed.specs.Shifts.{raise_byte}
use Rattle.ec_fxcode_placed.proofs.shifts.raise.Goals as goal

pub loop-i-preserved : goal.loop-i-preserved
loop-i-preserved c =
    let i = c.loop-i.i in
    let next : i + 1 ≡ suc i = omega arith in
    let byte = raise_byte c.args.at in
    rw next
    (c.in_ok-raise_byte.ensures.ok ∙ ap (λ l. l ++ byte i) c.loop-i.invariant
    ∙ append_assoc c.args.out.now.items (chain byte i) (byte i))
