use Rattle.std.proofs.Common.{◌≡◌, suc, ◌+◌, ◌++◌, ap, ◌∙◌, arith}
use Rattle.std.proofs.lemmas.List.{append_assoc}
use Rattle.ec_select_bytes.specs.Values.{byte_of}
use Rattle.ec_select_numbers.specs.ByNumber.{changed_byte, each_changed}
use Rattle.ec_select_numbers.proofs.operators.change_each.Goals as goal

pub loop-i-preserved : goal.loop-i-preserved
loop-i-preserved c =
    let i = c.loop-i.i in
    let before = c.args.out.now.items in
    let done = each_changed c.args.op c.args.to c.args.number i in
    let next : suc i ≡ i + 1 = omega arith in
    c.in_ok-changed_byte.ensures.ok
    ∙ ap (λ xs. xs ++ changed_byte c.args.op c.args.to c.byte_of.result i) c.loop-i.invariant
    ∙ ap (λ k. (before ++ done) ++ changed_byte c.args.op c.args.to k i) c.byte_of.ensures
    ∙ append_assoc before done (changed_byte c.args.op c.args.to (byte_of c.args.number i) i)
    ∙ ap (λ n. before ++ each_changed c.args.op c.args.to c.args.number n) next
