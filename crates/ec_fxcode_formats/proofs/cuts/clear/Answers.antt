use Rattle.std.proofs.Common.{◌≡◌, ℕ, suc, ◌+◌, ◌++◌, ap, ◌∙◌, append_assoc, arith}
use Rattle.ec_asm.specs.Items.{chain}
use Rattle.ec_fxcode_formats.specs.Cuts.{clear_byte}
use Rattle.ec_fxcode_formats.proofs.cuts.clear.Goals as goal

pub loop-i-preserved : goal.loop-i-preserved
loop-i-preserved c =
    let i = c.loop-i.i in
    let next : i + 1 ≡ suc i = omega arith in
    let byte = λ (j : ℕ). clear_byte (c.args.from + j) in
    rw next
    (c.in_ok-extend_from_slice.ensures.ok ∙ ap (λ l. l ++ byte i) c.loop-i.invariant
    ∙ append_assoc c.args.out.now.items (chain byte i) (byte i))
