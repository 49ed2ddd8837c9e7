use Rattle.std.proofs.Common.{◌≡◌, ◌+◌, ◌∷◌, ◌++◌}
use Rattle.ec_isa.specs.declared.instructions.Instr.TheVariants.{Eor}
use Rattle.ec_asm.specs.declared.items.AsmItem.TheVariants.{Plain}
use Rattle.ec_asm.specs.Items.{chain}
use Rattle.ec_fxcode.specs.Clamps.{put_byte}
use Rattle.ec_fxcode_scales.proofs.scales.clear.Given as goal

abbrev pub invariant-loop-i : goal.invariant-loop-i
invariant-loop-i l =
    l.out.items ≡ l.fn.out.items ++ (Plain (Eor 1 1) ∷ chain (λ i. put_byte 1 l.fn.at (l.fn.first + i)) l.i)
