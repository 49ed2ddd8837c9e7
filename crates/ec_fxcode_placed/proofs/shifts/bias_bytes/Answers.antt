use Rattle.std.proofs.Common.{◌≡◌, ◌+◌, ◌++◌, suc, ap, ◌∙◌, arith, append_assoc}
use Rattle.ec_asm.specs.Items.{chain}
use Rattle.ec_fxcode_placed.specs.Counts.{biased_byte}
use Rattle.ec_fxcode_placed.proofs.shifts.bias_bytes.Goals as goal

pub loop-i-preserved : goal.loop-i-preserved
loop-i-preserved c =
    let old = c.args.out.now.items in
    let byte = biased_byte c.args.r in
    let i = c.loop-i.i in
    let e : suc i ≡ i + 1 = omega arith in
    c.in_ok-bias_byte.ensures.ok ∙ ap (λ l. l ++ byte i) c.loop-i.invariant ∙ append_assoc old (chain byte i) (byte i)
    ∙ ap (λ n. old ++ chain byte n) e
