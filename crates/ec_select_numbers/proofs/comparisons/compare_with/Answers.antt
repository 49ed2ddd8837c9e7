use Rattle.std.proofs.Common.{◌≡◌, suc, ◌+◌, ◌++◌, ap, ◌∙◌, arith}
use Rattle.std.proofs.lemmas.List.{append_assoc}
use Rattle.ec_select_bytes.specs.Values.{byte_of}
use Rattle.ec_select_numbers.specs.ByNumber.{compared_byte, compared_code}
use Rattle.ec_select_numbers.proofs.comparisons.compare_with.Goals as goal

pub loop-i-preserved : goal.loop-i-preserved
loop-i-preserved c =
    let i = c.loop-i.i in
    let before = c.args.out.now.items in
    let done = compared_code c.args.at c.args.number i in
    let next : suc i ≡ i + 1 = omega arith in
    c.in_ok-compared_byte.ensures.ok
    ∙ ap (λ xs. xs ++ compared_byte c.args.at c.byte_of.result i) c.loop-i.invariant
    ∙ ap (λ k. (before ++ done) ++ compared_byte c.args.at k i) c.byte_of.ensures
    ∙ append_assoc before done (compared_byte c.args.at (byte_of c.args.number i) i)
    ∙ ap (λ n. before ++ compared_code c.args.at c.args.number n) next
