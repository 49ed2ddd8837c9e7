use Rattle.std.proofs.Common.{◌≡◌, suc, ◌+◌, ◌++◌, [], ◌∷◌, ap, ◌∙◌, append_assoc, arith}
use Rattle.ec_asm.specs.declared.items.AsmItem.TheVariants.{Plain}
use Rattle.ec_asm.specs.Items.{chain}
use Rattle.ec_fxcode_placed.specs.Counts.{known_bias_byte}
use Rattle.ec_fxcode_placed.proofs.shifts.known_bias_bytes.Goals as goal

pub loop-i-preserved : goal.loop-i-preserved
loop-i-preserved c =
    let i = c.loop-i.i in
    let next : i + 1 ≡ suc i = omega arith in
    let byte = known_bias_byte c.args.r c.args.count in
    rw next
    (c.in_ok-extend_from_slice.ensures.ok ∙ ap (λ x. c.loop-i.out.items ++ (Plain x ∷ [])) c.known_bias_by.ensures
    ∙ ap (λ l. l ++ byte i) c.loop-i.invariant ∙ append_assoc c.args.out.now.items (chain byte i) (byte i))
