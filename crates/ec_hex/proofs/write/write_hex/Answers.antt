use Rattle.std.proofs.Common.{ℕ, List, ◌<◌, Fits, w8, get_or, subst, rules, arith}
use Rattle.ec_hex.proofs.Reading.{denotes-hex_text}
use Rattle.ec_hex.proofs.write.write_hex.Goals as goal

pub returns-clause-denotes : goal.returns-clause-denotes
returns-clause-denotes g c =
    let fits : (k : ℕ) → Fits w8 (get_or c.as_slice-bytes.result.now k 0) = λ k. search rules in
    denotes-hex_text _ _ _ c.args.image.now.sized c.args.image.now.flagged
    (subst (λ (bytes : List ℕ). (k : ℕ) → get_or bytes k 0 < 256) c.as_slice-bytes.ensures (λ k. omega (arith, fits k)))
    c.args.image.now.blank
