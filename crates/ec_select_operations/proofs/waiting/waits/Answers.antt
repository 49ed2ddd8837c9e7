use Rattle.std.proofs.Common.{◌≡◌, ℕ, ◌+◌, ◌-◌, ◌∙◌, ap, arith, map}
use Rattle.ec_ir.specs.Operations.{plain_ir}
use Rattle.ec_select_operations.specs.Code.{look, waits}
use Rattle.ec_select_operations.specs.Emitted.{declarations}
use Rattle.ec_select_operations.specs.Homes.{home}
use Rattle.ec_select_operations.proofs.Written.{waits_more}
use Rattle.ec_select_operations.proofs.waiting.waits.Goals as goal

pub loop-n-preserved : goal.loop-n-preserved
loop-n-preserved c =
    waits_more (declarations c.args.program.now) (home c.args.homes) c.args.place c.args.offset c.loop-n.n c.args.k
    (map plain_ir c.args.code.now) c.args.wanted.now c.args.known.now c.loop-n.later c.stores_or_leaves-later.result _ c.wanted_at.result
    c.number_at.result c.loop-n-test.true c.operation_at.ensures c.wanted_at.ensures c.number_at.ensures c.loop-n.invariant
    c.stores_or_leaves-later.ensures

pub returns : goal.returns
returns c =
    let code = map plain_ir c.args.code.now in
    let soon = λ (n j : ℕ). waits (declarations c.args.program.now) (home c.args.homes) c.args.place c.args.offset
    (look n code c.args.wanted.now c.args.known.now j) in
    let most = c.loop-n.auto.n-end in
    let least = c.loop-n-test.false in
    let all : c.loop-n.n ≡ 8 = omega (arith, most, least) in
    let here : c.args.k + (8 - c.loop-n.n) ≡ c.args.k = omega (arith, all) in
    c.loop-n.invariant ∙ ap (soon c.loop-n.n) here ∙ ap (λ n. soon n c.args.k) all
