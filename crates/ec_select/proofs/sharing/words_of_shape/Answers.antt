use Rattle.std.proofs.Common.{◌≡◌, ◌+◌, ◌∙◌, sym, true, false}
use Rattle.ec_core_shapes.specs.Shapes.{same_shape}
use Rattle.ec_ir.specs.Operations.{plain_ir}
use Rattle.ec_select.specs.Seen.{plain_use, HasRoutine}
use Rattle.ec_select.specs.Sharing.{sizes, shape_of}
use Rattle.ec_select.proofs.Lists.{drop_last}
use Rattle.ec_select.proofs.Rows.{all_last, with_use, without_use}
use Rattle.ec_select.proofs.sharing.words_of_shape.Goals as goal

pub same_shape-requires-clause-one : goal.same_shape-requires-clause-one
same_shape-requires-clause-one c =
    (all_last plain_use (λ u. HasRoutine u.operation) c.args.uses.now c.loop-k.k c.index-uses-k.result c.requires.each
    c.loop-k-test.true c.loop-k.auto.k c.index-uses-k.is).0

pub loop-k-preserved-then-same_shape : goal.loop-k-preserved-then-same_shape
loop-k-preserved-then-same_shape c =
    let s = shape_of (plain_ir c.args.i.now) in
    let d = drop_last plain_use c.args.uses.now c.loop-k.k c.index-uses-k.result c.loop-k-test.true c.loop-k.auto.k c.index-uses-k.is in
    let t : same_shape (shape_of (plain_ir c.index-uses-k.result.operation.now)) s ≡ true =
    sym c.same_shape.ensures ∙ c.if-same_shape.true in
    let own : c.in_ok-sum.field-0 ≡ c.index-uses-k.result.own + c.loop-k.words.own = c.in_ok-sum.ensures in
    let call : c.in_ok-sum-2.field-0 ≡ c.index-uses-k.result.call + c.loop-k.words.call = c.in_ok-sum-2.ensures in
    record {
      own = own ∙ with_use sizes.own (plain_use c.index-uses-k.result) s _ _ _ d t c.loop-k.invariant.own;
      call = call ∙ with_use sizes.call (plain_use c.index-uses-k.result) s _ _ _ d t c.loop-k.invariant.call;
    }

pub loop-k-preserved : goal.loop-k-preserved
loop-k-preserved c =
    let s = shape_of (plain_ir c.args.i.now) in
    let d = drop_last plain_use c.args.uses.now c.loop-k.k c.index-uses-k.result c.loop-k-test.true c.loop-k.auto.k c.index-uses-k.is in
    let t : same_shape (shape_of (plain_ir c.index-uses-k.result.operation.now)) s ≡ false =
    sym c.same_shape.ensures ∙ c.if-same_shape.false in
    record {
      own = without_use sizes.own (plain_use c.index-uses-k.result) s _ _ _ d t c.loop-k.invariant.own;
      call = without_use sizes.call (plain_use c.index-uses-k.result) s _ _ _ d t c.loop-k.invariant.call;
    }
