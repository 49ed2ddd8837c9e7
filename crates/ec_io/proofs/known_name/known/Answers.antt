use Rattle.std.proofs.Common.{◌≡◌, ◌-◌, ◌∙◌, ℕ, List, length, take, min, ap, arith}
use Rattle.std.proofs.lemmas.List.{take_min}
use Rattle.ec_io.proofs.known_name.known.Goals as goal

-- as many bytes as both have room for are the first of the name
front : (name : List ℕ) (n : ℕ) → n ≡ min 4096 (length name) → take n name ≡ take 4096 name
front name n e = ap (λ k. take k name) e ∙ take_min 4096 name

pub returns : goal.returns
returns c =
    c.put_next-len.ensures.bytes
    ∙ front c.args.name.now c.put_next-len.result (omega (arith, c.put_next-len.ensures.most, c.put_next-len.auto.buf))
