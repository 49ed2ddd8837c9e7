use Rattle.std.proofs.Common.{◌≡◌, ◌+◌, suc, ◌++◌, ap, ◌∙◌, arith, append_assoc}
use Rattle.ec_asm.specs.Items.{chain}
use Rattle.ec_select_quotients.specs.Quotients.{less_byte}
use Rattle.ec_select_quotients.proofs.quotients.less.Goals as goal

pub loop-i-preserved : goal.loop-i-preserved
loop-i-preserved c =
    let i = c.loop-i.i in
    let next : i + 1 ≡ suc i = omega arith in
    rw next
    (c.in_ok-less_byte.ensures.ok ∙ ap (λ l. l ++ less_byte i) c.loop-i.invariant
    ∙ append_assoc c.args.out.now.items (chain less_byte i) (less_byte i))
