use Rattle.std.proofs.Common.{◌≡◌, ◌+◌, suc, ◌++◌, ap, ◌∙◌, arith, append_assoc}
use Rattle.ec_asm.specs.Items.{chain}
use Rattle.ec_select_quotients.specs.Signs.{turn_divisor_byte}
use Rattle.ec_select_quotients.proofs.signs.turn_divisor.Goals as goal

pub loop-i-preserved : goal.loop-i-preserved
loop-i-preserved c =
    let i = c.loop-i.i in
    let next : i + 1 ≡ suc i = omega arith in
    rw next
    (c.in_ok-turn_divisor_byte.ensures.ok ∙ ap (λ l. l ++ turn_divisor_byte i) c.loop-i.invariant
    ∙ append_assoc c.args.out.now.items (chain turn_divisor_byte i) (turn_divisor_byte i))
