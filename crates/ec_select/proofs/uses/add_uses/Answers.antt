use Rattle.std.proofs.Common.{ℕ, ◌<◌, ◌∙◌, length, ap, subst, refl}
use Rattle.std.specs.Prelude.{option_map, None}
use Rattle.std.proofs.lemmas.List.{drop_more}
use Rattle.std.proofs.lemmas.Option.{slice_get-map, slice_get_read}
use Rattle.ec_ir.specs.Operations.{plain_ir}
use Rattle.ec_select_operations.specs.Emitted.{declarations}
use Rattle.ec_select.proofs.Lists.{drop_front}
use Rattle.ec_select.proofs.Rows.{one_use_more}
use Rattle.ec_select.proofs.uses.add_uses.Goals as goal

pub add_use-requires : goal.add_use-requires
add_use-requires c =
    let code = c.args.code.now in
    c.requires.each c.loop-k.k (plain_ir c.index-code-k.result)
    (slice_get-map plain_ir code c.loop-k.k
    ∙ ap (option_map plain_ir)
    (slice_get_read code (length code) c.loop-k.k c.index-code-k.result refl c.loop-k-test.true c.index-code-k.is))

pub loop-k-preserved : goal.loop-k-preserved
loop-k-preserved c =
    let within : c.loop-k.k < length c.args.wanted.now =
    subst (λ (n : ℕ). c.loop-k.k < n) c.requires.numbers c.loop-k-test.true in
    let also : c.loop-k.k < length c.args.known.now =
    subst (λ (n : ℕ). c.loop-k.k < n) c.requires.known c.loop-k-test.true in
    one_use_more c.args.core (declarations c.args.ir.now) c.args.homes _ _ (plain_ir c.index-code-k.result) _ _ _ _ _ _ _ _ _
    (drop_more c.args.wanted.now c.loop-k.k 0 within) (drop_more c.args.known.now c.loop-k.k None also)
    (drop_front plain_ir c.args.code.now c.loop-k.k c.index-code-k.result c.loop-k-test.true c.index-code-k.is)
    c.in_ok-add_use.ensures c.loop-k.invariant
